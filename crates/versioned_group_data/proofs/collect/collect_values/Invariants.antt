-- `versioned_group_data::collect::collect_values` meets its contract: after k turns, the values of k slots are in place.
-- Assumes nothing.
use mathlib.Core.Path.{◌≡◌}
use lib.ListN.{length}
use Rattle.versioned_group_data.proofs.CollectedTurns.{values_in}
use Rattle.versioned_group_data.proofs.collect.collect_values.Given as goal

abbrev pub invariant-loop-k : goal.invariant-loop-k
invariant-loop-k l = (l.out ≡ values_in l.s l.i l.initial.out l.at l.k) × (length l.out ≡ length l.initial.out)
