-- The slots before slot i pass.
-- Assumes nothing.
use Rattle.std.proofs.Common.{◌≡◌, true}
use Rattle.slots.proofs.SlotScans.{passed}
use Rattle.group_slots.specs.Tests.{slot_test, follows}
use Rattle.group_slots.proofs.scan.slots_ok.Given as goal

abbrev pub invariant-loop-i : goal.invariant-loop-i
invariant-loop-i l = passed slot_test follows l.i l.s ≡ true
