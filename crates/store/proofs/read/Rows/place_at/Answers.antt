-- `store::read::Rows::place_at` meets its contract.
-- Assumes nothing.
use Rattle.store.proofs.Reading.{read_place}
use Rattle.store.proofs.read.Rows.place_at.Goals as goal

pub returns : goal.returns
returns g c =
    record { place = read_place _ _ _ _ _ c.requires.there _ c.args.self.valid _ c.cell_at.ensures.word _ c.place_of.ensures.place }
