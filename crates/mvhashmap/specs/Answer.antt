-- The number or the words that 01 gives to each case of the code's answers, and what becomes of the answer slice.
use Rattle.std.specs.Prelude.{◌≡◌, cond, List, [], ◌∷◌, ℕ, eqb, Result, Ok, Err}
use Rattle.number.specs.declared.Number.{Number}
use Rattle.number.specs.Number.{value_of}
use Rattle.number.specs.Words.{digits}
use Rattle.delta.specs.declared.DeltaOp.{DeltaOp}
use Rattle.delta.specs.Delta.{delta_words}
use Rattle.delta.specs.Op.{exact}
use Rattle.types.specs.Index.{word_of}
use Rattle.types.specs.ValueWithLayout.{words_of}
use Rattle.types.specs.Refusal.{refusal_number}
use Rattle.types.specs.declared.refusal.Refusal.{Refusal}
use Rattle.types.specs.Response.{response, resolved_kind, unresolved_kind, uninitialized_kind, tag_not_found_kind, dependency_kind, application_failure_kind, size_kind}
use Rattle.types.specs.declared.output.MVDataOutput.{MVDataOutput}
use Rattle.types.specs.declared.output.MVDataOutput.TheVariants as Data
use Rattle.types.specs.declared.output.MVGroupOutput.{MVGroupOutput}
use Rattle.types.specs.declared.output.MVGroupOutput.TheVariants as Group
use Rattle.model.specs.Data.{Ruling, refuse, accept, done_answer, versioned_answer}
use Rattle.versioned_data.specs.Materialize.{Materialized, Refused, Resolved, Unresolved}
use Rattle.versioned_group_data.specs.Ruled.{answer_in}

-- A response, which leaves the stores as they are.
unfoldable pub respond : ℕ → List ℕ → Ruling Unit
respond kind words = accept (response kind words) tt

-- What a read of a value answers, and how it rules.
unfoldable pub output_answer : MVDataOutput → List ℕ
output_answer (Data.Versioned at incarnation v) = versioned_answer (word_of at) incarnation (words_of v)
output_answer (Data.Resolved n) = response resolved_kind (digits 4 (value_of n))
output_answer (Data.Unresolved op) = response unresolved_kind (delta_words (exact op))
output_answer Data.Uninitialized = response uninitialized_kind []
output_answer (Data.Dependency index) = response dependency_kind (index ∷ [])
output_answer Data.DeltaApplicationFailure = response application_failure_kind []

unfoldable pub output_ruling : Result MVDataOutput Refusal → Ruling Unit
output_ruling (Ok o) = accept (output_answer o) tt
output_ruling (Err refusal) = refuse (refusal_number refusal)

-- What a delta that was materialised answers, and how that rules.
unfoldable pub materialized_answer : Result Number DeltaOp → List ℕ
materialized_answer (Ok n) = response resolved_kind (digits 4 (value_of n))
materialized_answer (Err op) = response unresolved_kind (delta_words (exact op))

unfoldable pub materialized_ruling : Materialized → Ruling Unit
materialized_ruling (Refused n) = refuse n
materialized_ruling (Resolved n) = respond resolved_kind (digits 4 (value_of n))
materialized_ruling (Unresolved op) = respond unresolved_kind (delta_words (exact op))

-- What a read of a group answers: none is refused.
unfoldable pub group_output_answer : MVGroupOutput → List ℕ
group_output_answer (Group.Versioned at incarnation v) = versioned_answer (word_of at) incarnation (words_of v)
group_output_answer (Group.Size members sum) = response size_kind (members ∷ sum ∷ [])
group_output_answer Group.Uninitialized = response uninitialized_kind []
group_output_answer Group.TagNotFound = response tag_not_found_kind []
group_output_answer (Group.Dependency index) = response dependency_kind (index ∷ [])

unfoldable pub group_output_ruling : MVGroupOutput → Ruling Unit
group_output_ruling o = accept (group_output_answer o) tt

-- The number that an operation gives: "0 done", or a refusal.
unfoldable pub done_ruling : ℕ → Ruling Unit
done_ruling n = cond (eqb n 0) (accept done_answer tt) (refuse n)

-- A call's result and the answer slice after it.
unfoldable pub result_by : Ruling Unit → ℕ
result_by (refuse n) = n
result_by (accept answer same) = 0

unfoldable pub out_by : Ruling Unit → List ℕ → List ℕ
out_by (refuse n) out = out
out_by (accept answer same) out = answer_in answer out

pub record Put (ruling : Ruling Unit) (out : List ℕ) (r : ℕ) (after : List ℕ) : Type 0 where
  pub result : r ≡ result_by ruling
  pub words : after ≡ out_by ruling out
