-- Words that are to be zero: the turns of the loop that reads them, and what the test tells.
-- Assumes nothing.
use mathlib.Core.Path.{◌≡◌, refl, sym, ◌∙◌}
use mathlib.Core.Bool.{Bool, true, false, ◌&&◌}
use mathlib.Core.List.{List, [], ◌∷◌}
use Prim.Native.Nat.{ℕ, zero, suc, ◌+◌, ◌≤◌, ◌<◌}
use native.Mathlib.Omega.{arith}
use native.Mathlib.Numerals.{add-one}
use lib.Dec.{eqb}
use lib.ListN.{length, get_or, take, drop}
use lib.Seq.{drop-cons}
use Rattle.std.proofs.lemmas.List.{drop_all}
use borrow.Author.Tests.{eqb-true, eq-eqb}
use Rattle.moves.specs.Moves.{all_zero}

and_told : (a b : Bool) → (a && b) ≡ true → (a ≡ true) × (b ≡ true)
and_told true b e = (refl, e)
and_told false b e = absurd (let z : ◌≡◌ {A = ℕ} 0 1 = cc in omega arith)

and_assoc : (a b c : Bool) → ((a && b) && c) ≡ (a && (b && c))
and_assoc true b c = refl
and_assoc false b c = refl

and_all : (a : Bool) → (a && true) ≡ a
and_all true = refl
and_all false = refl

-- what is read so far and the rest decide
pub zero_begin : (s : List ℕ) → (true && all_zero (drop 0 s)) ≡ all_zero s
zero_begin s = refl

pub zero_turn : (s : List ℕ) (i : ℕ) (ok now all : Bool) → i < length s → (ok && all_zero (drop i s)) ≡ all → now ≡ (ok && eqb (get_or s i 0) 0) →
    (now && all_zero (drop (i + 1) s)) ≡ all
unfolding all_zero
zero_turn s i ok now all h e f =
    let g : drop i s ≡ get_or s i 0 ∷ drop (i + 1) s = rw (add-one i) (drop-cons s i 0 h) in
    rw f (and_assoc ok (eqb (get_or s i 0) 0) (all_zero (drop (i + 1) s)) ∙ (rw g at e))

pub zero_end : (s : List ℕ) (i : ℕ) (ok all : Bool) → length s ≤ i → (ok && all_zero (drop i s)) ≡ all → ok ≡ all
unfolding all_zero
zero_end s i ok all h e =
    let g : drop i s ≡ [] = drop_all i s h in
    sym (and_all ok) ∙ (rw g at e)

-- what the test tells of each word, and back
pub zero_told : (n from : ℕ) (s : List ℕ) → all_zero (take n (drop from s)) ≡ true → (k : ℕ) → from ≤ k → k < from + n → get_or s k 0 ≡ 0
unfolding all_zero
zero_told n zero [] e k h l = refl
zero_told n (suc from) [] e k h l = refl
zero_told zero zero (x ∷ s) e k h l = absurd (omega arith)
zero_told (suc n) zero (x ∷ s) e zero h l = eqb-true x 0 (and_told (eqb x 0) (all_zero (take n s)) e).0
zero_told (suc n) zero (x ∷ s) e (suc k) h l = zero_told n zero s (and_told (eqb x 0) (all_zero (take n s)) e).1 k (omega arith) (omega arith)
zero_told n (suc from) (x ∷ s) e zero h l = absurd (omega arith)
zero_told n (suc from) (x ∷ s) e (suc k) h l = zero_told n from s e k (omega arith) (omega arith)

pub zero_tell : (n from : ℕ) (s : List ℕ) → ((k : ℕ) → from ≤ k → k < from + n → get_or s k 0 ≡ 0) → all_zero (take n (drop from s)) ≡ true
unfolding all_zero
zero_tell zero zero s f = refl
zero_tell (suc n) zero [] f = refl
zero_tell (suc n) zero (x ∷ s) f =
    rw (eq-eqb x 0 (f 0 (omega arith) (omega arith))) (zero_tell n zero s (λ k h l. f (suc k) (omega arith) (omega arith)))
zero_tell zero (suc from) s f = refl
zero_tell (suc n) (suc from) [] f = refl
zero_tell (suc n) (suc from) (x ∷ s) f = zero_tell (suc n) from s (λ k h l. f (suc k) (omega arith) (omega arith))
