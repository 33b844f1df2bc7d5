-- `probe::count` meets its contract: the count lies in what is left; then one by one.
-- Assumes nothing.
use native.Mathlib.Omega.{arith}
use mathlib.Core.Path.{refl}
use Rattle.probe.specs.Cells.{spaced}
use Rattle.probe.proofs.Probe.{left_start, left_quarter, left_one}
use Rattle.probe.proofs.count.Goals as goal

pub loop-len-init : goal.loop-len-init
unfolding spaced
loop-len-init g c = left_start _ _ _ c.requires.order

pub loop-len-preserved : goal.loop-len-preserved
unfolding spaced
loop-len-preserved g c =
    left_quarter _ _ _ c.requires.order _ _ _ _ _ _ _ _ c.loop-len.invariant c.loop-len-test.true refl refl refl
    (c.above.ensures.bit, c.above.ensures.small) (c.above-in-loop-len.ensures.bit, c.above-in-loop-len.ensures.small)
    (c.above-in-loop-len-2.ensures.bit, c.above-in-loop-len-2.ensures.small)

pub loop-j-preserved : goal.loop-j-preserved
unfolding spaced
loop-j-preserved g c = (
  c.loop-j.invariant.0,
  omega arith,
  left_one _ _ _ c.requires.order _ _ _ _ _ _ c.loop-j.invariant.0 c.loop-j.invariant.2 c.loop-j-test.true refl (c.above-c.ensures.bit, c.above-c.ensures.small),
)
