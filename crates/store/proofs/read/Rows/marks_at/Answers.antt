-- `store::read::Rows::marks_at` meets its contract.
-- Assumes nothing.
use Rattle.store.proofs.Reading.{read_marks}
use Rattle.store.proofs.read.Rows.marks_at.Goals as goal

pub returns : goal.returns
returns g c =
    record { marks = read_marks _ _ _ _ _ c.requires.there _ c.args.self.valid _ c.cell_at.ensures.word }
