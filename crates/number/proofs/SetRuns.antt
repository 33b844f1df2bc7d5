-- Runs of stores, `sets` of `lib.Seq`: one after another, and what stands where afterwards. The length stays by `length-sets` there.
-- Assumes nothing.
use Rattle.std.proofs.Common.{◌≡◌, ℕ, suc, ◌+◌, ◌^◌, ◌<◌, ◌≤◌, List, [], ◌∷◌, ◌++◌, length, get_or, take, drop, set, refl, ap, ◌∙◌, append_assoc, add-zero, add-suc, suc-add, arith, length-take-le, get_or-set_other, get_or-set_same, take_at, drop_at}
use native.Mathlib.Decide.{ℕ_discrete, dec_lt}
use lib.Seq.{sets, sets-eq, set_out}
use Rattle.number.specs.Words.{AreWords}

pub sets_append : (xs ys l : List ℕ) (i : ℕ) → sets (sets l i xs) (i + length xs) ys ≡ sets l i (xs ++ ys)
sets_append [] ys l i = rw add-zero
sets_append (x ∷ xs) ys l i = rw (add-suc, ← suc-add) (sets_append xs ys (set l i x) (suc i))

-- a run of stores, and another where it ended, are one
pub sets_then : (l l₁ xs ys : List ℕ) (i n : ℕ) → length xs ≡ n → l₁ ≡ sets l i xs → sets l₁ (i + n) ys ≡ sets l i (xs ++ ys)
sets_then l l₁ xs ys i n e e₁ = rw (e₁, ← e) (sets_append xs ys l i)

-- a run is read back
pub sets_part : (vs l : List ℕ) (i : ℕ) → i + length vs ≤ length l → take (length vs) (drop i (sets l i vs)) ≡ vs
sets_part vs l i h =
    ap (λ (x : List ℕ). take (length vs) (drop i x)) (sets-eq vs l i h ∙ append_assoc (take i l) vs (drop (i + length vs) l))
    ∙ ap (take (length vs)) (drop_at (take i l) (vs ++ drop (i + length vs) l) i (length-take-le i l (omega arith)))
    ∙ take_at vs (drop (i + length vs) l) (length vs) refl

word_set : (l : List ℕ) (i v : ℕ) → AreWords l → v < 2 ^ 32 → AreWords (set l i v)
word_set l i v g h j = go (ℕ_discrete j i) (dec_lt i (length l))
  where
    go : Dec (j ≡ i) → Dec (i < length l) → get_or (set l i v) j 0 < 2 ^ 32
    go (yes e) (yes k) = rw (e, get_or-set_same l i v 0 k) h
    go (yes e) (no k) = rw (set_out l i v (omega arith)) (g j)
    go (no n) k = rw (get_or-set_other l i j v 0 n) (g j)

pub words_sets : (vs l : List ℕ) (i : ℕ) → AreWords l → AreWords vs → AreWords (sets l i vs)
words_sets [] l i g h = g
words_sets (v ∷ vs) l i g h = words_sets vs (set l i v) (suc i) (word_set l i v g (h 0)) (λ k. h (suc k))
