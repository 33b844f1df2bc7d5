-- `delta::valid::ValidDelta::merge_with_previous_delta` meets its contract.
-- Assumes nothing.
use Rattle.std.proofs.Common.{sym, ap, ap₂, ◌∙◌, ◌+ℤ◌, neg_ℤ, rules}
use Rattle.number.proofs.Halves.{equal, not_equal}
use Rattle.delta.proofs.RecordLaws.{op_of_is}
use Rattle.delta.proofs.DeltaOps.{merged_limits, merged_high, merged_low, merged_never, merged_record, merges_valid, merged_joined}
use Rattle.delta.proofs.valid.ValidDelta.merge_with_previous_delta.Goals as goal

pub returns-then-ne : goal.returns-then-ne
returns-then-ne c =
    record { merges = rw (← c.self.view_is, ← c.previous.view_is) (sym (merged_limits _ _ (not_equal _ _ c.if-ne.ensures))) }

pub returns-in_err-high : goal.returns-in_err-high
returns-in_err-high c =
    record { merges = rw (c.from_residual.ensures, ← c.self.view_is, ← c.previous.view_is) (sym (merged_high _ _ _ c.signed_update-moved.ensures.update c.in_err-high.ensures.exact)) }

pub returns-in_err-low : goal.returns-in_err-low
returns-in_err-low c =
    let y = c.negated.ensures.turned ∙ ap neg_ℤ c.signed_update-moved.ensures.update in
    record { merges = rw (c.from_residual-in_err-low.ensures, ← c.self.view_is, ← c.previous.view_is) (sym (merged_low _ _ _ y c.in_err-low.ensures.exact)) }

pub returns-in_err-sum : goal.returns-in_err-sum
returns-in_err-sum c =
    let x = c.signed_update-moved.ensures.update in
    let y = c.negated.ensures.turned ∙ ap neg_ℤ x in
    let z = ap₂ ◌+ℤ◌ x c.signed_update.ensures.update in
    record { merges = merged_never c.self.inside.op c.previous.inside.op (equal _ _ c.if-ne.ensures) _ _ _ x y z _ _ c.in_ok-high.ensures.exact c.in_ok-low.ensures.exact c.self.invariant.valid (search rules) c.in_err-sum.ensures.exact }

pub invariant_of-result : goal.invariant_of-result
invariant_of-result c =
    let x = c.signed_update-moved.ensures.update in
    let y = c.negated.ensures.turned ∙ ap neg_ℤ x in
    let z = ap₂ ◌+ℤ◌ x c.signed_update.ensures.update in
    let same = equal _ _ c.if-ne.ensures in
    rw (merged_record _ _ same _ _ _ x y z _ _ c.in_ok-high.ensures.exact c.in_ok-low.ensures.exact c.in_ok-sum.sum (search rules) c.in_ok-sum.ensures.exact)
    (op_of_is _ (merges_valid _ _ same _ _ _ x y z _ _ c.in_ok-high.ensures.exact c.in_ok-low.ensures.exact c.self.invariant.valid))

pub returns : goal.returns
returns c =
    let x = c.signed_update-moved.ensures.update in
    let y = c.negated.ensures.turned ∙ ap neg_ℤ x in
    let z = ap₂ ◌+ℤ◌ x c.signed_update.ensures.update in
    record { merges = rw (← c.self.view_is, ← c.previous.view_is) (merged_joined _ _ (equal _ _ c.if-ne.ensures) _ _ _ x y z _ _ c.in_ok-high.ensures.exact c.in_ok-low.ensures.exact c.in_ok-sum.sum (search rules) c.in_ok-sum.ensures.exact) }
