-- The order of slots: `before` is a strict order, a place splits slots in order, and edits at a place keep the order.
-- Assumes nothing.
use mathlib.Core.Path.{◌≡◌, refl, sym, ◌∙◌}
use mathlib.Core.Bool.{Bool, true, false, ◌&&◌}
use mathlib.Core.Logic.{◌⊎◌, inl, inr}
use mathlib.Core.List.{List, [], ◌∷◌, ◌++◌}
use Prim.Native.Nat.{ℕ, zero, suc, ◌+◌, ◌<◌}
use native.Mathlib.Omega.{arith}
use native.Mathlib.Decide.{dec_lt}
use lib.Dec.{ltb, eqb}
use lib.ListN.{length, get_or, take}
use borrow.Author.Tests.{ltb-true, eqb-true, lt-ltb, le-ltb, eq-eqb}
use Rattle.lists.specs.Lists.{every}
use Rattle.lists.proofs.Bools.{and_assoc, and_both, and_left, and_right, and_swap, same_test, true_not_false}
use Rattle.lists.proofs.Lists.{every_append, every_at, every_imp}
use Rattle.slots.specs.Slots.{Slot, before, is_before, ordered, neighbours}

-- the order of two lists, as facts on their heads
unfoldable pub Earlier : ℕ → ℕ → List ℕ → List ℕ → Type 0
Earlier x y xs ys = (x < y) ⊎ ((x ≡ y) × (before xs ys ≡ true))

pub before_told : (x y : ℕ) (xs ys : List ℕ) → before (x ∷ xs) (y ∷ ys) ≡ true → Earlier x y xs ys
unfolding before Earlier
before_told x y xs ys e = go (ltb x y) refl
  where
    go : (b : Bool) → ltb x y ≡ b → Earlier x y xs ys
    go true f = inl (ltb-true x y f)
    go false f =
        let g : (eqb x y && before xs ys) ≡ true = rw f at e in
        inr (eqb-true x y (and_left (eqb x y) (before xs ys) g), and_right (eqb x y) (before xs ys) g)

before_tell : (x y : ℕ) (xs ys : List ℕ) → Earlier x y xs ys → before (x ∷ xs) (y ∷ ys) ≡ true
unfolding before Earlier
before_tell x y xs ys (inl h) = rw (lt-ltb x y h)
before_tell x y xs ys (inr h) = rw (le-ltb x y (omega (arith, h.0)), eq-eqb x y h.0, h.1)

pub before_irrefl : (xs : List ℕ) → before xs xs ≡ false
unfolding before
before_irrefl [] = refl
before_irrefl (x ∷ xs) = rw (le-ltb x x (omega arith), eq-eqb x x refl, before_irrefl xs)

earlier_trans : (x y z : ℕ) (xs ys zs : List ℕ) → (before xs ys ≡ true → before ys zs ≡ true → before xs zs ≡ true) →
    Earlier x y xs ys → Earlier y z ys zs → Earlier x z xs zs
unfolding Earlier
earlier_trans x y z xs ys zs ih (inl h) (inl g) = inl (omega arith)
earlier_trans x y z xs ys zs ih (inl h) (inr g) = inl (omega (arith, g.0))
earlier_trans x y z xs ys zs ih (inr h) (inl g) = inl (omega (arith, h.0))
earlier_trans x y z xs ys zs ih (inr h) (inr g) = inr (h.0 ∙ g.0, ih h.1 g.1)

pub before_trans : (xs ys zs : List ℕ) → before xs ys ≡ true → before ys zs ≡ true → before xs zs ≡ true
unfolding before
before_trans [] ys zs e f = e
before_trans (x ∷ xs) [] zs e f = true_not_false true refl (sym e)
before_trans (x ∷ xs) (y ∷ ys) [] e f = f
before_trans (x ∷ xs) (y ∷ ys) (z ∷ zs) e f =
    before_tell x z xs zs (earlier_trans x y z xs ys zs (before_trans xs ys zs) (before_told x y xs ys e) (before_told y z ys zs f))

pub before_asym : (xs ys : List ℕ) → before xs ys ≡ true → before ys xs ≡ false
before_asym xs ys e = go (before ys xs) refl
  where
    go : (b : Bool) → before ys xs ≡ b → before ys xs ≡ false
    go true f = true_not_false (before xs xs) (before_trans xs ys xs e f) (before_irrefl xs)
    go false f = f

pub data Side (xs ys : List ℕ) : Type 0 where
  lower : before xs ys ≡ true → Side xs ys
  level : xs ≡ ys → Side xs ys
  upper : before ys xs ≡ true → Side xs ys

-- of two lists of one length, one is before the other or they are equal
pub side : (xs ys : List ℕ) → length xs ≡ length ys → Side xs ys
unfolding Earlier
side [] [] e = level refl
side [] (y ∷ ys) e = absurd (omega arith)
side (x ∷ xs) [] e = absurd (omega arith)
side (x ∷ xs) (y ∷ ys) e = by_head (dec_lt x y) (dec_lt y x) (side xs ys (omega arith))
  where
    by_tail : x ≡ y → Side xs ys → Side (x ∷ xs) (y ∷ ys)
    by_tail f (lower g) = lower (before_tell x y xs ys (inr (f, g)))
    by_tail f (level g) = level (cc)
    by_tail f (upper g) = upper (before_tell y x ys xs (inr (sym f, g)))

    by_head : Dec (x < y) → Dec (y < x) → Side xs ys → Side (x ∷ xs) (y ∷ ys)
    by_head (yes h) d r = lower (before_tell x y xs ys (inl h))
    by_head (no h) (yes g) r = upper (before_tell y x ys xs (inl g))
    by_head (no h) (no g) r = by_tail (omega arith) r

pub is_before_trans : (u v w : Slot) → is_before u v ≡ true → is_before v w ≡ true → is_before u w ≡ true
unfolding is_before
is_before_trans u v w e f = before_trans (take 4 u) (take 4 v) (take 4 w) e f

pub ordered_right : (us vs : List Slot) → ordered (us ++ vs) ≡ true → ordered vs ≡ true
unfolding ordered
ordered_right [] vs e = e
ordered_right (u ∷ us) vs e = ordered_right us vs (and_right (every (is_before u) (us ++ vs)) (ordered (us ++ vs)) e)

pub ordered_across : (us vs : List Slot) → ordered (us ++ vs) ≡ true → every (λ u. every (is_before u) vs) us ≡ true
unfolding ordered every
ordered_across [] vs e = refl
ordered_across (u ∷ us) vs e =
    and_both (every (is_before u) vs) (every (λ w. every (is_before w) vs) us)
    (and_right (every (is_before u) us) (every (is_before u) vs) (sym (every_append (is_before u) us vs) ∙ and_left (every (is_before u) (us ++ vs)) (ordered (us ++ vs)) e))
    (ordered_across us vs (and_right (every (is_before u) (us ++ vs)) (ordered (us ++ vs)) e))

pub ordered_append : (us vs : List Slot) → ordered us ≡ true → ordered vs ≡ true → every (λ u. every (is_before u) vs) us ≡ true → ordered (us ++ vs) ≡ true
unfolding ordered every
ordered_append [] vs e f g = f
ordered_append (u ∷ us) vs e f g =
    and_both (every (is_before u) (us ++ vs)) (ordered (us ++ vs))
    (every_append (is_before u) us vs
    ∙ and_both (every (is_before u) us) (every (is_before u) vs) (and_left (every (is_before u) us) (ordered us) e)
    (and_left (every (is_before u) vs) (every (λ w. every (is_before w) vs) us) g))
    (ordered_append us vs (and_right (every (is_before u) us) (ordered us) e) f (and_right (every (is_before u) vs) (every (λ w. every (is_before w) vs) us) g))

pub ordered_at : (us : List Slot) (i j : ℕ) → ordered us ≡ true → i < j → j < length us → is_before (get_or us i []) (get_or us j []) ≡ true
unfolding ordered
ordered_at [] i j e h g = absurd (omega arith)
ordered_at (u ∷ us) i zero e h g = absurd (omega arith)
ordered_at (u ∷ us) zero (suc j) e h g = every_at (is_before u) us j [] (omega arith) (and_left (every (is_before u) us) (ordered us) e)
ordered_at (u ∷ us) (suc i) (suc j) e h g = ordered_at us i j (and_right (every (is_before u) us) (ordered us) e) (omega arith) (omega arith)

pub neighbours_at : (q : Slot → Slot → Bool) (us : List Slot) (i : ℕ) → neighbours q us ≡ true → i + 1 < length us → q (get_or us i []) (get_or us (i + 1) []) ≡ true
unfolding neighbours
neighbours_at q [] i e h = absurd (omega arith)
neighbours_at q (u ∷ []) i e h = absurd (omega arith)
neighbours_at q (u ∷ v ∷ us) zero e h = and_left (q u v) (neighbours q (v ∷ us)) e
neighbours_at q (u ∷ v ∷ us) (suc i) e h =
    let f : suc i + 1 ≡ suc (i + 1) = omega arith in
    rw f (neighbours_at q (v ∷ us) i (and_right (q u v) (neighbours q (v ∷ us)) e) (omega arith))

pub neighbours_snoc : (q : Slot → Slot → Bool) (us : List Slot) (u v : Slot) → neighbours q (us ++ (u ∷ v ∷ [])) ≡ (neighbours q (us ++ (u ∷ [])) && q u v)
unfolding neighbours
neighbours_snoc q [] u v = and_swap (q u v) true
neighbours_snoc q (w ∷ []) u v = rw (and_swap (q u v) true) (sym (and_assoc (q w u) true (q u v)))
neighbours_snoc q (w ∷ x ∷ us) u v = rw (neighbours_snoc q (x ∷ us) u v) (sym (and_assoc (q w x) (neighbours q ((x ∷ us) ++ (u ∷ []))) (q u v)))

neighbours_tail : (us : List Slot) (u : Slot) → neighbours is_before (u ∷ us) ≡ true → neighbours is_before us ≡ true
unfolding neighbours
neighbours_tail [] u e = refl
neighbours_tail (v ∷ us) u e = and_right (is_before u v) (neighbours is_before (v ∷ us)) e

all_after : (us : List Slot) (u : Slot) → neighbours is_before (u ∷ us) ≡ true → every (is_before u) us ≡ true
unfolding neighbours every
all_after [] u e = refl
all_after (v ∷ us) u e =
    let f : is_before u v ≡ true = and_left (is_before u v) (neighbours is_before (v ∷ us)) e in
    and_both (is_before u v) (every (is_before u) us) f
    (every_imp (is_before v) (is_before u) (λ w g. is_before_trans u v w f g) us (all_after us v (and_right (is_before u v) (neighbours is_before (v ∷ us)) e)))

neighbours_ordered : (us : List Slot) → neighbours is_before us ≡ true → ordered us ≡ true
unfolding ordered
neighbours_ordered [] e = refl
neighbours_ordered (u ∷ us) e = and_both (every (is_before u) us) (ordered us) (all_after us u e) (neighbours_ordered us (neighbours_tail us u e))

ordered_neighbours : (us : List Slot) → ordered us ≡ true → neighbours is_before us ≡ true
unfolding ordered neighbours every
ordered_neighbours [] e = refl
ordered_neighbours (u ∷ []) e = refl
ordered_neighbours (u ∷ v ∷ us) e =
    and_both (is_before u v) (neighbours is_before (v ∷ us))
    (and_left (is_before u v) (every (is_before u) us) (and_left (every (is_before u) (v ∷ us)) (ordered (v ∷ us)) e))
    (ordered_neighbours (v ∷ us) (and_right (every (is_before u) (v ∷ us)) (ordered (v ∷ us)) e))

pub ordered_is_neighbours : (us : List Slot) → ordered us ≡ neighbours is_before us
ordered_is_neighbours us = same_test (ordered us) (neighbours is_before us) (ordered_neighbours us) (neighbours_ordered us)
