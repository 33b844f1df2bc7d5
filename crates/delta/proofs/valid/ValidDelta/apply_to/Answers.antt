-- `delta::valid::ValidDelta::apply_to` meets its contract.
-- Assumes nothing.
use Rattle.std.proofs.Common.{sym, ap₂, ◌+ℤ◌, rules}
use Rattle.number.proofs.Halves.{less, not_less}
use Rattle.delta.proofs.DeltaOps.{applied_low, applied_over, applied_high, applied_value, applied_never}
use Rattle.delta.proofs.valid.ValidDelta.apply_to.Goals as goal

pub returns-then-lt : goal.returns-then-lt
returns-then-lt c =
    record { applies = rw (← c.self.view_is) (sym (applied_low _ _ (less _ _ c.if-lt.ensures))) }

pub returns-in_err-top : goal.returns-in_err-top
returns-in_err-top c =
    record { applies = rw (c.from_residual.ensures, ← c.self.view_is) (sym (applied_over _ _ (search rules) c.in_err-top.ensures.exact)) }

pub returns-then-lt-2 : goal.returns-then-lt-2
returns-then-lt-2 c =
    record { applies = rw (← c.self.view_is) (sym (applied_high _ _ _ c.in_ok-top.ensures.exact (less _ _ c.if-lt-2.ensures))) }

pub returns-in_err-sum : goal.returns-in_err-sum
returns-in_err-sum c =
    let z = ap₂ ◌+ℤ◌ c.plus.ensures.plus c.signed_update.ensures.update in
    record { applies = applied_never c.self.inside.op _ _ c.in_ok-top.ensures.exact (not_less _ _ c.if-lt.ensures) (not_less _ _ c.if-lt-2.ensures) _ z c.self.invariant.valid (search rules) c.in_err-sum.ensures.exact }

pub returns : goal.returns
returns c =
    let z = ap₂ ◌+ℤ◌ c.plus.ensures.plus c.signed_update.ensures.update in
    record { applies = rw (← c.self.view_is) (sym (applied_value _ _ _ c.in_ok-top.ensures.exact (not_less _ _ c.if-lt.ensures) (not_less _ _ c.if-lt-2.ensures) _ z _ c.in_ok-sum.ensures.exact)) }
