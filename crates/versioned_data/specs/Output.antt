-- What the code answers for what a read finds.
use Rattle.std.specs.Prelude.{cond, ℕ, eqb, Result, Ok, Err}
use Rattle.number.specs.Number.{number_of}
use Rattle.delta.specs.Op.{op_of}
use Rattle.types.specs.Index.{shifted_of}
use Rattle.types.specs.Refusal.{layout_under_delta}
use Rattle.types.specs.ValueWithLayout.{value_from}
use Rattle.types.specs.declared.output.MVDataOutput.{MVDataOutput}
use Rattle.types.specs.declared.output.MVDataOutput.TheVariants.{Versioned, Resolved, Unresolved, Uninitialized, Dependency, DeltaApplicationFailure}
use Rattle.types.specs.declared.refusal.Refusal.{Refusal}
use Rattle.types.specs.declared.refusal.Refusal.TheVariants.{LayoutUnderDelta, NoNumberUnderDelta}
use Rattle.model.specs.Data.{Read, versioned, resolved, unresolved, uninitialized, dependency, application_failure, refusal}

-- A read refuses a layout under a delta, or a missing number there.
unfoldable pub refusal_output : ℕ → Refusal
refusal_output n = cond (eqb n layout_under_delta) LayoutUnderDelta NoNumberUnderDelta

unfoldable pub output_of : Read → Result MVDataOutput Refusal
output_of (versioned place incarnation v) = Ok (Versioned (shifted_of place) incarnation (value_from v))
output_of (resolved n) = Ok (Resolved (number_of n))
output_of (unresolved d) = Ok (Unresolved (op_of d))
output_of uninitialized = Ok Uninitialized
output_of (dependency index) = Ok (Dependency index)
output_of application_failure = Ok DeltaApplicationFailure
output_of (refusal n) = Err (refusal_output n)
