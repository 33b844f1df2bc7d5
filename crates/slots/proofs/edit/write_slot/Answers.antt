-- `slots::edit::write_slot` meets its contract: after j turns, j words are copied.
-- Assumes nothing.
use native.Mathlib.Omega.{arith}
use lib.ListN.{length-set}
use Rattle.types.specs.Units.{units_in}
use Rattle.slots.proofs.SlotMoves.{copied_more, copied_written}
use Rattle.slots.proofs.edit.write_slot.Goals as goal

pub loop-j-preserved : goal.loop-j-preserved
unfolding units_in
loop-j-preserved c = (rw c.loop-j.invariant.0 (copied_more c.args.s.now _ c.args.u.now _ (omega arith) (omega arith)), simp length-set c.loop-j.invariant.1)

pub returns : goal.returns
returns c =
    record { written = copied_written _ _ _ _ _ c.loop-j.invariant.0 (omega arith) (omega arith) }
