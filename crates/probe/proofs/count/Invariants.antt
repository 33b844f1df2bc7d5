-- `probe::count` meets its contract: the count lies in what is left; then one by one.
-- Assumes nothing.
use mathlib.Core.Path.{◌≡◌}
use Prim.Native.Nat.{◌-◌, ◌≤◌, min}
use Rattle.probe.specs.Cells.{spaced, count_above}
use Rattle.probe.proofs.Probe.{Left}
use Rattle.probe.proofs.count.Given as goal

abbrev pub invariant-loop-len : goal.invariant-loop-len
invariant-loop-len g l = Left (count_above l.y (spaced g.row.STRIDE l.m l.a l.s)) l.m l.b l.len

abbrev pub decreases-loop-len : goal.decreases-loop-len
decreases-loop-len g l = l.len

abbrev pub invariant-loop-j : goal.invariant-loop-j
invariant-loop-j g l = Left (count_above l.y (spaced g.row.STRIDE l.m l.a l.s)) l.m l.b l.len × (l.j ≤ l.len) × (l.c ≡ min (count_above l.y (spaced g.row.STRIDE l.m l.a l.s) - l.b) l.j)
