-- `slots::edit::write_slot` meets its contract: after j turns, j words are copied.
-- Assumes nothing.
use mathlib.Core.Path.{◌≡◌}
use Prim.Native.Nat.{◌*◌}
use lib.ListN.{length}
use Rattle.slots.specs.Slots.{slot_width}
use Rattle.slots.proofs.SlotMoves.{copied}
use Rattle.slots.proofs.edit.write_slot.Given as goal

abbrev pub invariant-loop-j : goal.invariant-loop-j
invariant-loop-j l = (l.s ≡ copied l.initial.s (slot_width * l.i) l.u l.j) × (length l.s ≡ length l.initial.s)
