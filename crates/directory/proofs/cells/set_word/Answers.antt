-- `directory::cells::set_word` meets its contract.
-- Assumes nothing.
use Rattle.directory.proofs.CellsLeft.{left_word}
use Rattle.directory.proofs.cells.set_word.Goals as goal

pub returns : goal.returns
returns c =
    let r = left_word _ _ _ _ _ _ c.requires.directory c.requires.there c.requires.part in
    record { left = r.0; rest = r.1 }
