-- What is below low passes at its end, and high fails.
-- Assumes nothing.
use Rattle.std.proofs.Common.{◌-◌, ◌≤◌, ◌<◌, true, false}
use Rattle.slots.proofs.search.partition_point.Given as goal

abbrev pub invariant-loop-low : goal.invariant-loop-low
invariant-loop-low g l =
    (l.high ≤ l.n)
    × (l.low ≤ l.high)
    × (0 < l.low → goal.F-post g l.passes (l.low - 1) true)
    × (l.high < l.n → goal.F-post g l.passes l.high false)

abbrev pub decreases-loop-low : goal.decreases-loop-low
decreases-loop-low g l = l.high - l.low
