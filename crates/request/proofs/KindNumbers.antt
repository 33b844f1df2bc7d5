-- The number of a kind, which four bits of the head hold, and the row that it names.
use mathlib.Core.Path.{◌≡◌, refl, sym, ap, ◌∙◌}
use mathlib.Core.Bool.{Bool, true, false, ◌&&◌}
use mathlib.Core.List.{List, [], ◌∷◌}
use Prim.Native.Nat.{ℕ, zero, suc, ◌+◌, ◌<◌, ◌≤◌}
use native.Mathlib.Nat.{zero-add, add-zero, add-suc, suc-add}
use native.Mathlib.Omega.{arith}
use lib.Dec.{eqb, ltb}
use lib.ListN.{length, get_or, get_or-eq_default}
use borrow.Author.Tests.{eqb-true, ltb-true, ltb-false}
use Rattle.lists.proofs.Bools.{and_left, and_right, true_not_false}
use Rattle.request.specs.Table.{Kind, LastCommitted, Base, Write, AddDelta, Estimate, Remove, Fetch, Materialize, GroupBase, Exchange, GroupWrite, GroupEstimate, GroupRemove, GroupFetch, GroupSize, Finalize, number_of, Row, row, table, no_row, row_of, kind_of}
use Rattle.request.specs.Request.{tail_ok, row_at}
use Rattle.request.specs.Fields.{kind_at}

-- The rows stand in the order of their kinds' numbers.
in_order_lem : ℕ → List Row → Bool
in_order_lem i [] = true
in_order_lem i (r ∷ rs) = eqb (number_of r.kind) i && in_order_lem (suc i) rs

order_get_d : (rs : List Row) (d : Row) (i k : ℕ) → in_order_lem i rs ≡ true → k < length rs → number_of (get_or rs k d).kind ≡ i + k
unfolding in_order_lem
order_get_d [] d i k e h = absurd (omega arith)
order_get_d (r ∷ rs) d i zero e h = rw add-zero (eqb-true _ _ (and_left _ _ e))
order_get_d (r ∷ rs) d i (suc k) e h =
    rw (add-suc, ← suc-add) (order_get_d rs d (suc i) k (and_right (eqb (number_of r.kind) i) _ e) (omega arith))

pub row_number : (k : ℕ) → k < 16 → number_of (row_of k).kind ≡ k
unfolding in_order_lem row_of table row
row_number k h = rw zero-add at (order_get_d table no_row 0 k refl h)

pub number_back : (n : ℕ) → n < 16 → number_of (kind_of n) ≡ n
unfolding kind_of
number_back n h = row_number n h

-- No request is of a kind whose number four bits do not hold.
past_is : (k : ℕ) → 16 ≤ k → row_of k ≡ no_row
unfolding row_of table
past_is k h = get_or-eq_default table no_row h

pub row_past : (t : List ℕ) → 16 ≤ kind_at t → row_at t ≡ no_row
unfolding row_at kind_at
row_past t h = past_is (kind_at t) h

absent_past : (k : ℕ) (t : List ℕ) → 16 ≤ k → tail_ok (row_of k).tail t ≡ false
unfolding no_row row tail_ok
absent_past k t h = rw (past_is k h) refl

pub there_small : (k : ℕ) (t : List ℕ) → tail_ok (row_of k).tail t ≡ true → k < 16
there_small k t e = go (ltb k 16) refl
  where
    go : (b : Bool) → ltb k 16 ≡ b → k < 16
    go true f = ltb-true k 16 f
    go false f = true_not_false (tail_ok (row_of k).tail t) e (absent_past k t (ltb-false k 16 f))

module _ (t : List ℕ) (kind : ℕ) (e : kind ≡ kind_at t) where
  pub row_named : (n : ℕ) → kind ≡ n → row_at t ≡ row_of n
  unfolding row_at kind_at
  row_named n f = ap row_of (sym e ∙ f)

pub number_small : (k : Kind) → number_of k < 16
number_small LastCommitted = omega arith
number_small Base = omega arith
number_small Write = omega arith
number_small AddDelta = omega arith
number_small Estimate = omega arith
number_small Remove = omega arith
number_small Fetch = omega arith
number_small Materialize = omega arith
number_small GroupBase = omega arith
number_small Exchange = omega arith
number_small GroupWrite = omega arith
number_small GroupEstimate = omega arith
number_small GroupRemove = omega arith
number_small GroupFetch = omega arith
number_small GroupSize = omega arith
number_small Finalize = omega arith

-- The row of a request, by its kind.
pub row_by_kind : (t : List ℕ) → kind_at t < 16 → row_at t ≡ row_of (number_of (row_at t).kind)
unfolding row_at kind_at
row_by_kind t h = sym (ap row_of (row_number (kind_at t) h))
