-- `directory::edits::put_cell` meets its contract.
-- Assumes nothing.
use native.Mathlib.Omega.{arith}
use Rattle.directory.proofs.CellEdits.{full_ready, put_ready, put_done}
use Rattle.directory.proofs.edits.put_cell.Goals as goal

pub put_full-requires : goal.put_full-requires
put_full-requires c =
    let r = full_ready _ _ _ _ _ _ _ c.requires.directory c.requires.stands c.requires.free c.requires.order c.requires.few c.room-r.ensures.room (omega arith) in
    record { directory = r.0; many = r.1.0; few = r.1.1.0; stands = r.1.1.1.0; full = r.1.1.1.1.0; free = r.1.1.1.1.1.0; order = r.1.1.1.1.1.1 }

pub open_cell-requires : goal.open_cell-requires
open_cell-requires c =
    let r = put_ready _ _ _ _ _ _ _ c.requires.directory c.requires.stands c.requires.free c.requires.order c.requires.few c.room-r.ensures.room (omega arith) in
    record { laid = r.0; page = r.1.0; fits = r.1.1.0; free = r.1.1.1 }

pub returns : goal.returns
returns c =
    record { put = put_done _ _ _ _ _ _ _ c.requires.directory c.requires.stands c.requires.free c.requires.order c.requires.few c.room-r.ensures.room _ c.open_cell.ensures.opened }
