-- `store::read::Rows::spot_at` meets its contract.
-- Assumes nothing.
use Rattle.store.proofs.Reading.{read_spot}
use Rattle.store.proofs.read.Rows.spot_at.Goals as goal

pub returns : goal.returns
returns g c =
    record { spot = read_spot _ _ _ _ _ c.requires.there _ c.args.self.valid _ c.cell_at.ensures.word _ c.pair.ensures.spot }
