-- Laws of `all_zero` and `same_words`.
-- Assumes nothing.
use mathlib.Core.Path.{◌≡◌, refl, sym, ap, ◌∙◌}
use mathlib.Core.Bool.{true, ◌&&◌}
use mathlib.Core.List.{List, [], ◌∷◌, ◌++◌}
use Prim.Native.Nat.{ℕ, zero, suc, ◌+◌}
use lib.Dec.{eqb}
use lib.ListN.{length, replicate, take, drop, take-append-drop, length-drop}
use borrow.Author.Tests.{eqb-true, eq-eqb}
use native.Mathlib.Omega.{arith}
use Rattle.lists.proofs.Bools.{and_left, and_right, and_assoc, true_not_false}
use Rattle.moves.specs.Moves.{all_zero}
use Rattle.slots.specs.Slots.{same_words}

pub all_zero_replicate : (n : ℕ) → all_zero (replicate n 0) ≡ true
unfolding all_zero
all_zero_replicate zero = refl
all_zero_replicate (suc n) = all_zero_replicate n

pub all_zero_told : (xs : List ℕ) → all_zero xs ≡ true → xs ≡ replicate (length xs) 0
unfolding all_zero
all_zero_told [] e = refl
all_zero_told (x ∷ xs) e =
    let h : x ≡ 0 = eqb-true x 0 (and_left (eqb x 0) (all_zero xs) e) in
    rw h (ap (λ (l : List ℕ). 0 ∷ l) (all_zero_told xs (and_right (eqb x 0) (all_zero xs) e)))

pub all_zero_append : (xs ys : List ℕ) → all_zero (xs ++ ys) ≡ (all_zero xs && all_zero ys)
unfolding all_zero
all_zero_append [] ys = refl
all_zero_append (x ∷ xs) ys = rw (all_zero_append xs ys) (sym (and_assoc (eqb x 0) (all_zero xs) (all_zero ys)))

-- zeros after a part are all that follows it
pub zeros_after : (n m : ℕ) (ws : List ℕ) → length ws ≡ n + m → all_zero (drop n ws) ≡ true → take n ws ++ replicate m 0 ≡ ws
zeros_after n m ws h z =
    let l : length (drop n ws) ≡ m = omega (arith, length-drop n ws) in
    ap (λ (x : List ℕ). take n ws ++ x) (ap (λ (k : ℕ). replicate k 0) (sym l) ∙ sym (all_zero_told (drop n ws) z)) ∙ take-append-drop n ws

pub same_words_lem : (xs ys : List ℕ) → same_words xs ys ≡ true → xs ≡ ys
unfolding same_words
same_words_lem [] [] e = refl
same_words_lem [] (y ∷ ys) e = true_not_false true refl (sym e)
same_words_lem (x ∷ xs) [] e = true_not_false true refl (sym e)
same_words_lem (x ∷ xs) (y ∷ ys) e =
    let f : x ≡ y = eqb-true x y (and_left (eqb x y) (same_words xs ys) e) in
    let g : xs ≡ ys = same_words_lem xs ys (and_right (eqb x y) (same_words xs ys) e) in
    cc

pub words_same : (xs : List ℕ) → same_words xs xs ≡ true
unfolding same_words
words_same [] = refl
words_same (x ∷ xs) = rw (eq-eqb x x refl) (words_same xs)
