-- The code's answers, tied to those on the exact deltas of `Delta`.
-- Assumes nothing.
use Rattle.std.specs.Prelude.{Bool, true, cond, ◌&&◌, List, [], ◌∷◌, map, ℕ, leb, ltb, ℤ, nat_abs, Some, None}
use Rattle.std.specs.Prelude as rust
use Rattle.std.proofs.Math.Option.{Option, none, some}
use Rattle.number.specs.declared.Number.{Number}
use Rattle.number.specs.Number.{range, value_of, number_of}
use Rattle.delta.specs.Delta.{Delta, merge, Accumulated, nothing, merged, failed, accumulate, accumulate_all, is_minus, signed}
pub use Rattle.delta.specs.Record.{AllHalves, exact, op_of, valid_op, op_at}
use Rattle.delta.specs.declared.signed.Signed.{Signed}
use Rattle.delta.specs.declared.DeltaOp.{DeltaOp}
use Rattle.delta.specs.declared.Accumulator.{Accumulator}
use Rattle.delta.specs.declared.Accumulator.TheVariants.{Empty, Gathered, Failed}

-- ---- the code's answers, in Rust's `Option`

unfoldable pub applied_of : Option ℕ → rust.Option Number
applied_of (some v) = Some (number_of v)
applied_of none = None

unfoldable pub merged_of : Option Delta → rust.Option Delta
merged_of (some d) = Some d
merged_of none = None

-- what the code's walk has gathered, and back
unfoldable pub exactly : Accumulator → Accumulated
exactly Empty = nothing
exactly (Gathered d) = merged d
exactly Failed = failed

unfoldable pub accumulator_of : Accumulated → Accumulator
accumulator_of nothing = Empty
accumulator_of (merged d) = Gathered d
accumulator_of failed = Failed

-- the integer that a size and a sign stand for
unfoldable pub integer_of : Signed → ℤ
integer_of s = signed s.minus (value_of s.size)

-- a signed number as the code gives it: its size, and whether it is below zero
unfoldable pub change_of : ℤ → rust.Option Signed
change_of z = cond (ltb (nat_abs z) range) (Some (record { size = number_of (nat_abs z); minus = is_minus z })) None

-- a number within a limit, or none where it is beyond
unfoldable pub reach_of : ℕ → ℕ → rust.Option Number
reach_of limit v = cond (leb v limit) (Some (number_of v)) None

-- ---- a record that is lent to a merge

-- what stands in it afterwards: a failure leaves it unchanged
unfoldable pub kept_or : DeltaOp → rust.Option Delta → DeltaOp
kept_or newer (Some d) = op_of d
kept_or newer None = newer

-- ---- records that anybody may have written

-- a bad record is not merged
unfoldable pub merge_ops : (newer previous : DeltaOp) → Option Delta
merge_ops newer previous = cond (valid_op newer && valid_op previous) (merge (exact newer) (exact previous)) none

-- "a bad record a failed merge"
unfoldable pub accumulate_op : Accumulated → DeltaOp → Accumulated
accumulate_op a o = cond (valid_op o) (accumulate a (exact o)) failed

unfoldable pub valid_ops : List DeltaOp → Bool
valid_ops [] = true
valid_ops (o ∷ os) = valid_op o && valid_ops os

-- "A run of deltas, newest first, is then also folded from a lent slice of delta records. An empty run gives none, a bad record a failed merge."
unfoldable pub fold_records : List DeltaOp → Accumulated
fold_records os = cond (valid_ops os) (accumulate_all nothing (map exact os)) failed
