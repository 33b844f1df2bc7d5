-- `store::read::Rows::number_at` meets its contract.
-- Assumes nothing.
use Rattle.store.proofs.Reading.{read_number}
use Rattle.store.proofs.read.Rows.number_at.Goals as goal

pub returns : goal.returns
returns g c =
    let r = read_number _ _ _ _ _ c.requires.there _ c.args.self.valid _ c.cell_at.ensures.word in
    record { content = r.0; word = r.1.0; used = r.1.1.0; inside = r.1.1.1 }
