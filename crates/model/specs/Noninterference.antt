-- 01, "The words of demand 3": what a request names, which requests are kept at t, and what the two lists of the theorem must be.
use Rattle.std.specs.Prelude.{◌≡◌, Bool, true, false, cond, not, ◌&&◌, ◌||◌, List, ℕ, leb, ltb, eqb, get_or}
use Rattle.std.proofs.Math.Option.{Option, none, some}
use Rattle.lists.specs.Lists.{every, keep}
use Rattle.types.specs.Refusal.{of_units, is_in}
use Rattle.request.specs.Table.{Purpose, Edits, Reads, Materializes, Finalizes, IndexField}
use Rattle.request.specs.Request.{row_at, shape_ok, fields_ok}
use Rattle.model.specs.Model.{Fixed, Outcome, refused, answered, Turn, turns, empty}

-- An index that a request names, and to what end.
pub record Named : Type 0 where
  pub index : ℕ
  pub purpose : Purpose

unfoldable pub named_in : Option IndexField → List ℕ → Option Named
named_in none t = none
named_in (some f) t = some (record { index = get_or t f.place 0; purpose = f.purpose })

-- "A ticket names what its index field holds; it names no index if its kind has no such field or if 2 or 3 applies to it."
unfoldable pub names : List ℕ → Option Named
names request = cond (shape_ok request && fields_ok (row_at request).kind request) (named_in (row_at request).index request) none

-- "reads are kinds 6, 13 and 14"
unfoldable pub is_read : Purpose → Bool
is_read Edits = false
is_read Reads = true
is_read Materializes = false
is_read Finalizes = false

unfoldable pub is_finalize : Purpose → Bool
is_finalize Edits = false
is_finalize Reads = false
is_finalize Materializes = false
is_finalize Finalizes = true

-- Kept at t: what names no index, what names one below t, and reads at t. All else names t or above and is free.
unfoldable pub kept_as : ℕ → Option Named → Bool
kept_as t none = true
kept_as t (some n) = ltb n.index t || is_read n.purpose && eqb n.index t

unfoldable pub is_kept : ℕ → List ℕ → Bool
is_kept t request = kept_as t (names request)

unfoldable pub kept : ℕ → List (List ℕ) → List (List ℕ)
kept t requests = keep (is_kept t) requests

unfoldable pub kept_turns : ℕ → List Turn → List Turn
kept_turns t ts = keep (λ turn. is_kept t turn.request) ts

-- "Lack of units is 14"
unfoldable pub lacks : Outcome → Bool
lacks (refused n) = is_in n of_units
lacks (answered words) = false

unfoldable pub is_answered : Outcome → Bool
is_answered (refused n) = false
is_answered (answered words) = true

-- "to finalise is an accepted kind 15"
unfoldable pub finalizes_from : ℕ → Option Named → Outcome → Bool
finalizes_from t none o = false
finalizes_from t (some n) o = is_finalize n.purpose && leb t n.index && is_answered o

-- The hypotheses on one list, by its turns: no request, kept or not, is refused for lack of units, and none finalises at t or above.
unfoldable pub is_quiet : ℕ → Turn → Bool
is_quiet t turn = not (lacks turn.outcome) && not (finalizes_from t (names turn.request) turn.outcome)

unfoldable pub quiet : ℕ → List Turn → Bool
quiet t ts = every (is_quiet t) ts

-- Demand 3: for every t and every two lists of requests of any words and length, run from empty stores of the same slots, which are the same
-- but for requests that t does not keep, and of which neither lacks slots or finalises at t or above, the kept requests, paired in order,
-- have the same outcome.
abbrev pub Noninterference : Type 0
Noninterference =
    (slots : Fixed) (t : ℕ) (xs ys : List (List ℕ)) →
    kept t xs ≡ kept t ys →
    quiet t (turns slots empty xs) ≡ true →
    quiet t (turns slots empty ys) ≡ true →
    kept_turns t (turns slots empty xs) ≡ kept_turns t (turns slots empty ys)
