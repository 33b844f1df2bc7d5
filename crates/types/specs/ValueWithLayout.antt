-- A value as a struct and as its words (01, "Value, 7 words"): the struct's answers are those of `Value` on its words.
use Rattle.std.specs.Prelude.{cond, List, ◌∷◌, ℕ, ◌^◌, ◌<◌, get_or, Option, Some, None, Result, Ok, Err}
use Rattle.std.proofs.Math.Option.{none, some}
use Rattle.std.proofs.Math.Option.{Option as Maybe}
use Rattle.number.specs.declared.Number.{Number}
use Rattle.number.specs.Number.{Halves, number_of}
use Rattle.number.specs.Number.{value_of as numberValue}
use Rattle.number.specs.Words.{digits}
use Rattle.types.specs.Value.{number_in, bytes_len, is_deletion, has_number}
use Rattle.types.specs.declared.value.ValueWithLayout.{ValueWithLayout}
use Rattle.types.specs.declared.value.NotANumber.{NotANumber}

unfoldable pub value_from : List ℕ → ValueWithLayout
value_from ws =
    record { head = get_or ws 0 0; layout = get_or ws 1 0; handle = get_or ws 2 0; number = number_of (number_in ws) }

unfoldable pub words_of : ValueWithLayout → List ℕ
words_of v = v.head ∷ v.layout ∷ v.handle ∷ digits 4 (numberValue v.number)

unfoldable pub length_answer : Maybe ℕ → Option ℕ
length_answer none = None
length_answer (some n) = Some n

unfoldable pub bytes_len_of : List ℕ → Option ℕ
bytes_len_of ws = length_answer (bytes_len ws)

-- What deltas above a value find: a deletion, a number, or neither.
unfoldable pub as_u128_of : List ℕ → Result (Option Number) NotANumber
as_u128_of ws = cond (is_deletion ws) (Ok None) (cond (has_number ws) (Ok (Some (number_of (number_in ws)))) (Err (record {})))

-- What the fields of a struct that code holds keep to.
pub record Fits (v : ValueWithLayout) : Type 0 where
  pub head : v.head < 2 ^ 32
  pub layout : v.layout < 2 ^ 32
  pub handle : v.handle < 2 ^ 32
  pub number : Halves v.number
