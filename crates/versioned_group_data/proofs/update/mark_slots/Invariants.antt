-- `versioned_group_data::update::mark_slots` meets its contract: after j turns, j slots are marked.
-- Assumes nothing.
use mathlib.Core.Path.{◌≡◌}
use lib.ListN.{length}
use Rattle.versioned_group_data.proofs.UpdateMarking.{marked_to}
use Rattle.versioned_group_data.proofs.update.mark_slots.Given as goal

abbrev pub invariant-loop-j : goal.invariant-loop-j
invariant-loop-j l = (l.s ≡ marked_to l.i l.j l.initial.s) × (length l.s ≡ length l.initial.s)
