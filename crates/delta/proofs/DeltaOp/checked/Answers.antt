-- `delta::DeltaOp::checked` meets its contract.
-- Assumes nothing.
use Rattle.std.proofs.Common.{sym, ◌∙◌, rules}
use Rattle.delta.proofs.RecordLaws.{checked_is}
use Rattle.delta.proofs.DeltaOp.checked.Goals as goal

pub invariant_of-result : goal.invariant_of-result
invariant_of-result c = checked_is _ (search rules) (sym c.is_valid.ensures.valid ∙ c.if-is_valid.true)
