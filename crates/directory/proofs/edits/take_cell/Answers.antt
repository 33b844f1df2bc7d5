-- `directory::edits::take_cell` meets its contract.
-- Assumes nothing.
use native.Mathlib.Omega.{arith}
use Rattle.directory.proofs.CellEdits.{close_ready, take_kept, take_only, out_ready, take_out}
use Rattle.directory.proofs.edits.take_cell.Goals as goal

pub close_cell-requires : goal.close_cell-requires
close_cell-requires c =
    let r = close_ready _ _ _ _ _ _ c.requires.directory c.requires.there c.room.ensures.room in
    record { laid = r.0; page = r.1.0; fits = r.1.1.0; few = r.1.1.1 }

pub returns-then-word-gt0 : goal.returns-then-word-gt0
returns-then-word-gt0 c =
    record { taken = take_kept _ _ _ _ _ _ c.requires.directory c.requires.there c.room.ensures.room _ c.close_cell.ensures.closed (omega arith) }

pub returns-then-word-eq0 : goal.returns-then-word-eq0
returns-then-word-eq0 c =
    record { taken = take_only _ _ _ _ _ _ c.requires.directory c.requires.there c.room.ensures.room _ c.close_cell.ensures.closed (omega arith) }

pub close_page-requires : goal.close_page-requires
close_page-requires c =
    let r = out_ready _ _ _ _ _ _ c.requires.directory c.requires.there c.room.ensures.room _ c.close_cell.ensures.closed (omega arith) (omega arith) in
    record { wide = r.0; inside = r.1.0; more = r.1.1 }

pub returns : goal.returns
returns c =
    record { taken = take_out _ _ _ _ _ _ c.requires.directory c.requires.there c.room.ensures.room _ c.close_cell.ensures.closed (omega arith) (omega arith) _ c.close_page.ensures.out }
