-- Comparing a slot's first four words, word by word as they are read.
-- Assumes nothing.
use mathlib.Core.Path.{◌≡◌, refl, ◌∙◌, ap}
use Rattle.std.proofs.Common.{Ordering, Option, Some}
use Rattle.std.proofs.lemmas.Bool.Decides.{nat_tests}
use Rattle.std.specs.Ordering.{is_lt, is_some_and, partial_ordering_then, nat_cmp}
use mathlib.Core.Bool.{Bool, true, ◌&&◌}
use mathlib.Core.List.{List, [], ◌∷◌}
use Prim.Native.Nat.{ℕ, ◌≤◌}
use native.Mathlib.Omega.{arith}
use lib.Dec.{eqb}
use lib.ListN.{length, get_or, take}
use Rattle.lists.proofs.Bools.{and_swap}
use Rattle.slots.specs.Slots.{Slot, before, same_words, is_at}

-- the order that is derived of places, word by word
before_more : (x a : ℕ) (o : Option Ordering) (xs ys : List ℕ) → is_some_and is_lt o ≡ before xs ys →
    is_some_and is_lt (partial_ordering_then (Some (nat_cmp x a)) o) ≡ before (x ∷ xs) (a ∷ ys)
unfolding before
before_more x a o xs ys e = grind (arith, nat_tests)

before_last : (x a : ℕ) → is_some_and is_lt (Some (nat_cmp x a)) ≡ before (x ∷ []) (a ∷ [])
unfolding before
before_last x a = grind (arith, nat_tests)

pub before_four : (x y z t a b c d : ℕ) →
    is_some_and is_lt (partial_ordering_then (Some (nat_cmp x a)) (partial_ordering_then (Some (nat_cmp y b)) (partial_ordering_then (Some (nat_cmp z c)) (Some (nat_cmp t d)))))
    ≡ before (x ∷ y ∷ z ∷ t ∷ []) (a ∷ b ∷ c ∷ d ∷ [])
before_four x y z t a b c d =
    before_more x a _ (y ∷ z ∷ t ∷ []) (b ∷ c ∷ d ∷ []) (before_more y b _ (z ∷ t ∷ []) (c ∷ d ∷ []) (before_more z c _ (t ∷ []) (d ∷ []) (before_last t d)))

pub first_four : (u : Slot) → 4 ≤ length u → take 4 u ≡ get_or u 0 0 ∷ get_or u 1 0 ∷ get_or u 2 0 ∷ get_or u 3 0 ∷ []
first_four [] h = absurd (omega arith)
first_four (x ∷ []) h = absurd (omega arith)
first_four (x ∷ y ∷ []) h = absurd (omega arith)
first_four (x ∷ y ∷ z ∷ []) h = absurd (omega arith)
first_four (x ∷ y ∷ z ∷ t ∷ u) h = refl

-- a slot at a place, as the places are compared
pub at_place : (x y z t a b c d : ℕ) (u : Slot) (r : Bool) → x ∷ y ∷ z ∷ t ∷ [] ≡ take 4 u → r ≡ (eqb x a && (eqb y b && (eqb z c && eqb t d))) →
    r ≡ is_at (a ∷ b ∷ c ∷ d ∷ []) u
unfolding is_at same_words
at_place x y z t a b c d u r f e =
    rw (← f) (e ∙ ap (λ (q : Bool). eqb x a && (eqb y b && (eqb z c && q))) (and_swap true (eqb t d)))
