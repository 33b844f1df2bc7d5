-- Laws of numbers in words of 32 bits, low word first, at any width.
-- Assumes nothing.
use Rattle.std.proofs.Common.{◌≡◌, ℕ, zero, suc, ◌+◌, ◌*◌, ◌/◌, ◌%◌, ◌^◌, ◌<◌, ◌≤◌, List, [], ◌∷◌, ◌++◌, length, take, drop, sym, refl, ap, ◌∙◌, ap₂, mod-lt, mod-eq_of_lt, mul_assoc, mul_comm, div-lt_iff_lt-mul, suc-add, mul-le-mul_left, zero-add, mul-add, arith, lit<, length-drop, length-take-le, get_or-drop, drop-drop, take-add}
use native.Mathlib.Nat.{pow-succ', pow-zero, div-eq_of_lt, mod-add-div, add-mul-mod_self_left, add-mul-div_left}
use lib.Seq.{sets}
use Rattle.number.specs.declared.Number.{Number}
use Rattle.number.specs.Number.{Halves, range, value_of, number_of}
use Rattle.number.specs.Words.{digits, value_of_words, AreWords}
use Rattle.number.proofs.SetRuns.{sets_then}
use Rattle.number.proofs.Halves.{number_of_halves}

-- ---- digits and their value

pub length_digits : (n v : ℕ) → length (digits n v) ≡ n
unfolding digits
length_digits zero v = refl
length_digits (suc n) v = ap suc (length_digits n (v / 2 ^ 32))

pub words_digits : (n v : ℕ) → AreWords (digits n v)
unfolding digits
words_digits zero v i = lit< tt
words_digits (suc n) v zero = mod-lt v (lit< tt)
words_digits (suc n) v (suc i) = words_digits n (v / 2 ^ 32) i

-- v fits n words
fits_rest : (n v : ℕ) → v < (2 ^ 32) ^ suc n → v / 2 ^ 32 < (2 ^ 32) ^ n
fits_rest n v h =
    (div-lt_iff_lt-mul {k = 2 ^ 32} {x = v} {y = (2 ^ 32) ^ n} (lit< tt)).1
    (rw (pow-succ' (2 ^ 32) n, mul_comm (2 ^ 32) ((2 ^ 32) ^ n)) at h)

pub value_digits : (n v : ℕ) → v < (2 ^ 32) ^ n → value_of_words (digits n v) ≡ v
unfolding digits value_of_words
value_digits zero v h = omega (arith, pow-zero (2 ^ 32))
value_digits (suc n) v h = rw (value_digits n (v / 2 ^ 32) (fits_rest n v h)) (mod-add-div v (2 ^ 32))

-- the lowest word comes off
low_word : (w v : ℕ) → w < 2 ^ 32 → (w + 2 ^ 32 * v) % 2 ^ 32 ≡ w
low_word w v h = add-mul-mod_self_left w (2 ^ 32) v ∙ mod-eq_of_lt h

high_words : (w v : ℕ) → w < 2 ^ 32 → (w + 2 ^ 32 * v) / 2 ^ 32 ≡ v
high_words w v h = add-mul-div_left w v (lit< tt) ∙ ap (λ (q : ℕ). q + v) (div-eq_of_lt h) ∙ zero-add v

pub digits_value : (ws : List ℕ) → AreWords ws → digits (length ws) (value_of_words ws) ≡ ws
unfolding digits value_of_words
digits_value [] h = refl
digits_value (w ∷ ws) h =
    ap₂ (λ (x : ℕ) (v : ℕ). x ∷ digits (length ws) v) (low_word w (value_of_words ws) (h 0)) (high_words w (value_of_words ws) (h 0))
    ∙ ap (λ (l : List ℕ). w ∷ l) (digits_value ws (λ i. h (suc i)))

one_more : (W p w v : ℕ) → w < W → v < p → w + W * v < W * p
one_more W p w v h k = omega (arith, mul-le-mul_left W k, mul-add W 1 v)

pub value_words_below : (ws : List ℕ) → AreWords ws → value_of_words ws < (2 ^ 32) ^ length ws
unfolding value_of_words
value_words_below [] h = rw pow-zero (lit< tt)
value_words_below (w ∷ ws) h =
    rw (pow-succ' (2 ^ 32) (length ws))
    (one_more (2 ^ 32) ((2 ^ 32) ^ length ws) w (value_of_words ws) (h 0) (value_words_below ws (λ i. h (suc i))))

-- ---- one run of words after another

regroup : (W p x v w : ℕ) → w + W * (x + p * v) ≡ (w + W * x) + W * p * v
regroup W p x v w = omega (arith, mul-add W x (p * v), mul_assoc W p v)

pub value_append : (xs ys : List ℕ) → value_of_words (xs ++ ys) ≡ value_of_words xs + (2 ^ 32) ^ length xs * value_of_words ys
unfolding value_of_words
value_append [] ys = rw pow-zero (omega arith)
value_append (x ∷ xs) ys =
    rw (value_append xs ys, pow-succ' (2 ^ 32) (length xs)) (regroup (2 ^ 32) ((2 ^ 32) ^ length xs) (value_of_words xs) (value_of_words ys) x)

pub words_append : (xs ys : List ℕ) → AreWords xs → AreWords ys → AreWords (xs ++ ys)
words_append [] ys g h i = h i
words_append (x ∷ xs) ys g h zero = g 0
words_append (x ∷ xs) ys g h (suc i) = words_append xs ys (λ k. g (suc k)) h i

pub words_take : (n : ℕ) (ws : List ℕ) → AreWords ws → AreWords (take n ws)
words_take zero ws h i = lit< tt
words_take (suc n) [] h i = lit< tt
words_take (suc n) (w ∷ ws) h zero = h 0
words_take (suc n) (w ∷ ws) h (suc i) = words_take n ws (λ k. h (suc k)) i

pub words_drop : (n : ℕ) (ws : List ℕ) → AreWords ws → AreWords (drop n ws)
words_drop n ws h i = rw get_or-drop (h (n + i))

digits_step : (W p lo hi : ℕ) → 0 < W → (lo + W * p * hi) / W ≡ lo / W + p * hi
digits_step W p lo hi h = ap (λ (x : ℕ). (lo + x) / W) (mul_assoc W p hi) ∙ add-mul-div_left lo (p * hi) h

digits_low : (W p lo hi : ℕ) → (lo + W * p * hi) % W ≡ lo % W
digits_low W p lo hi = ap (λ (x : ℕ). (lo + x) % W) (mul_assoc W p hi) ∙ add-mul-mod_self_left lo W (p * hi)

pub digits_append : (m n lo hi : ℕ) → lo < (2 ^ 32) ^ m → digits (m + n) (lo + (2 ^ 32) ^ m * hi) ≡ digits m lo ++ digits n hi
unfolding digits
digits_append zero n lo hi h =
    let e : lo + (2 ^ 32) ^ zero * hi ≡ hi = rw pow-zero (omega (arith, pow-zero (2 ^ 32))) in
    rw (zero-add n, e)
digits_append (suc m) n lo hi h =
    rw (suc-add m n, pow-succ' (2 ^ 32) m, digits_low (2 ^ 32) ((2 ^ 32) ^ m) lo hi, digits_step (2 ^ 32) ((2 ^ 32) ^ m) lo hi (lit< tt), digits_append m n (lo / 2 ^ 32) hi (fits_rest m lo h))

-- ---- the halves of a number in four words

pub range_words : range ≡ (2 ^ 32) ^ 4
unfolding range
range_words = refl

pub value_four : (v : ℕ) → v < range → value_of_words (digits 4 v) ≡ v
value_four v h = value_digits 4 v (rw range_words at h)

pub four_below : (ws : List ℕ) → AreWords ws → length ws ≡ 4 → value_of_words ws < range
four_below ws g e = rw range_words (rw e at (value_words_below ws g))

pub number_is : (s : List ℕ) (at lo hi : ℕ) → AreWords s → at + 4 ≤ length s → lo ≡ value_of_words (take 2 (drop at s)) → hi ≡ value_of_words (take 2 (drop (at + 2) s)) → ◌≡◌ {A = Number} (record { lo = lo; hi = hi }) (number_of (value_of_words (take 4 (drop at s))))
number_is s at lo hi g h e₁ e₂ = sym (ap number_of whole ∙ number_of_halves lo hi below)
  where
    two : length (take 2 (drop at s)) ≡ 2
    two = length-take-le 2 (drop at s) (rw length-drop (omega arith))

    below : lo < 2 ^ 64
    below =
        rw e₁
        (rw two at (value_words_below (take 2 (drop at s)) (words_take 2 (drop at s) (words_drop at s g))))

    whole : value_of_words (take 4 (drop at s)) ≡ lo + hi * 2 ^ 64
    whole =
        ap value_of_words (take-add 2 2 (drop at s)) ∙ value_append (take 2 (drop at s)) (take 2 (drop 2 (drop at s)))
        ∙ rw (two, drop-drop 2 at s, e₁, e₂, mul_comm (2 ^ 64))

pub number_put : (s s₁ s₂ : List ℕ) (at : ℕ) (n : Number) → Halves n → s₁ ≡ sets s at (digits 2 n.lo) → s₂ ≡ sets s₁ (at + 2) (digits 2 n.hi) → s₂ ≡ sets s at (digits 4 (value_of n))
unfolding value_of
number_put s s₁ s₂ at n g e₁ e₂ =
    e₂ ∙ sets_then s s₁ (digits 2 n.lo) (digits 2 n.hi) at 2 (length_digits 2 n.lo) e₁ ∙ ap (sets s at) (sym (digits_append 2 2 n.lo n.hi g.low) ∙ ap (λ (x : ℕ). digits 4 (n.lo + x)) (mul_comm (2 ^ 64) n.hi))
