-- A value as a struct and as its words.
use mathlib.Core.Path.{◌≡◌, refl, sym, ap, ◌∙◌}
use mathlib.Core.Bool.{Bool, true, false, ◌||◌}
use mathlib.Core.List.{List, [], ◌∷◌}
use mathlib.Core.Option.{Option as Maybe}
use mathlib.Core.Option.{none, some}
use Rattle.std.specs.Prelude.{Option, Some, Ok}
use Rattle.std.specs.Option.{option_eq}
use Prim.Native.Nat.{ℕ, zero, suc, ◌+◌, ◌≤◌, ◌<◌}
use native.Mathlib.Nat.{add-zero, zero-add, suc-add}
use native.Mathlib.Omega.{arith}
use lib.Dec.{eqb}
use lib.ListN.{length, get_or, set, take, drop, length-drop}
use lib.Seq.{sets, get_or-take, get_or-drop, drop-drop, length-take-le, take_all, take-take}
use Rattle.number.specs.declared.Number.{Number}
use Rattle.number.specs.Number.{Halves, number_of}
use Rattle.number.specs.Number.{value_of as numberValue}
use Rattle.number.specs.Words.{AreWords, digits, value_of_words}
use Rattle.number.proofs.Digits.{length_digits, digits_value, value_four, words_take, words_drop}
use Rattle.number.proofs.SetRuns.{sets_part}
use Rattle.number.proofs.Halves.{value_of_number_of, number_of_value_of, value_below}
use Rattle.types.specs.Value.{value_width, value_at, is_deletion, number_words, has_number, number_in, bytes_len, same_length, same_bytes}
use Rattle.types.specs.ValueWithLayout.{value_from, words_of, length_answer, bytes_len_of, as_u128_of}
use Rattle.types.specs.declared.value.ValueWithLayout.{ValueWithLayout}

-- ---- struct and words

pub words_length : (v : ValueWithLayout) → length (words_of v) ≡ value_width
unfolding words_of
words_length v = rw (length_digits 4 (numberValue v.number)) refl

pub words_number : (v : ValueWithLayout) → Halves v.number → number_in (words_of v) ≡ numberValue v.number
unfolding words_of number_in number_words
words_number v h =
    ap value_of_words (take_all 4 (digits 4 (numberValue v.number)) (omega (arith, length_digits 4 (numberValue v.number))))
    ∙ value_four (numberValue v.number) (value_below v.number h)

pub value_words_lem : (v : ValueWithLayout) → Halves v.number → value_from (words_of v) ≡ v
unfolding value_from words_of
value_words_lem v h = λ i. record { head = v.head; layout = v.layout; handle = v.handle; number = number i }
  where
    number : number_of (number_in (words_of v)) ≡ v.number
    number = ap number_of (words_number v h) ∙ number_of_value_of v.number h

drop_take : (m n : ℕ) (l : List ℕ) → drop m (take (m + n) l) ≡ take n (drop m l)
drop_take zero n l = rw zero-add refl
drop_take (suc m) n [] = rw suc-add (sym (take_all n [] (omega arith)))
drop_take (suc m) n (x ∷ l) = rw suc-add (drop_take m n l)

-- The number of the value at a place stands three words on.
pub number_at : (s : List ℕ) (at : ℕ) → number_words (value_at at s) ≡ take 4 (drop (at + 3) s)
unfolding number_words value_at
number_at s at = rw (drop_take 3 4 (drop at s), drop-drop 3 at s) (take-take 4 4 (drop (at + 3) s) (omega arith))

pub length_value_at : (s : List ℕ) (at : ℕ) → at + value_width ≤ length s → length (value_at at s) ≡ value_width
unfolding value_at
length_value_at s at h = length-take-le value_width (drop at s) (omega (arith, length-drop at s))

pub words_value_at : (s : List ℕ) (at : ℕ) → AreWords s → AreWords (value_at at s)
unfolding value_at
words_value_at s at g = words_take value_width (drop at s) (words_drop at s g)

pub get_d_value_at : (s : List ℕ) (at i : ℕ) → i < value_width → get_or (value_at at s) i 0 ≡ get_or s (at + i) 0
unfolding value_at
get_d_value_at s at i h = get_or-take value_width (drop at s) i 0 h ∙ get_or-drop at s i 0

-- Words of a value, and the struct that is read from them.
pub words_value : (ws : List ℕ) → AreWords ws → length ws ≡ value_width → words_of (value_from ws) ≡ ws
unfolding words_of value_from number_in number_words
words_value (a ∷ b ∷ c ∷ ws) g e =
    ap (λ (r : List ℕ). a ∷ b ∷ c ∷ r)
    (ap (digits 4) (value_of_number_of (value_of_words (take 4 ws)) ∙ ap value_of_words (take_all 4 ws (omega arith)))
    ∙ ap (λ (n : ℕ). digits n (value_of_words ws)) four
    ∙ digits_value ws (λ i. g (suc (suc (suc i)))))
  where
    four : 4 ≡ length ws
    four = omega arith
words_value [] g e = absurd (omega arith)
words_value (a ∷ []) g e = absurd (omega arith)
words_value (a ∷ b ∷ []) g e = absurd (omega arith)

pub words_read : (s : List ℕ) (at : ℕ) → AreWords s → at + value_width ≤ length s → words_of (value_from (value_at at s)) ≡ value_at at s
words_read s at g h = words_value (value_at at s) (words_value_at s at g) (length_value_at s at h)

-- What a caller that has read a value knows of its words.
pub read_words : (s : List ℕ) (at : ℕ) (v : ValueWithLayout) → AreWords s → at + value_width ≤ length s → v ≡ value_from (value_at at s)
    → words_of v ≡ value_at at s
read_words s at v g h e = ap words_of e ∙ words_read s at g h

pub value_read : (s : List ℕ) (at : ℕ) (number : Number) → number ≡ number_of (value_of_words (take 4 (drop (at + 3) s)))
    → ◌≡◌ {A = ValueWithLayout} (record { head = get_or s at 0; layout = get_or s (at + 1) 0; handle = get_or s (at + 2) 0; number = number })
    (value_from (value_at at s))
unfolding value_from number_in
value_read s at number e =
    λ i. record { head = head i; layout = layout i; handle = handle i; number = num i }
  where
    head : get_or s at 0 ≡ get_or (value_at at s) 0 0
    head = sym (rw add-zero at (get_d_value_at s at 0 (omega arith)))

    layout : get_or s (at + 1) 0 ≡ get_or (value_at at s) 1 0
    layout = sym (get_d_value_at s at 1 (omega arith))

    handle : get_or s (at + 2) 0 ≡ get_or (value_at at s) 2 0
    handle = sym (get_d_value_at s at 2 (omega arith))

    num : number ≡ number_of (value_of_words (number_words (value_at at s)))
    num = e ∙ ap (λ (ws : List ℕ). number_of (value_of_words ws)) (sym (number_at s at))

pub value_write : (s r : List ℕ) (at : ℕ) (v : ValueWithLayout)
    → r ≡ sets (set (set (set s at v.head) (at + 1) v.layout) (at + 2) v.handle) (at + 3) (digits 4 (numberValue v.number))
    → r ≡ sets s at (words_of v)
unfolding words_of
value_write s r at v e =
    let one : at + 1 ≡ suc at = omega arith in
    let two : at + 2 ≡ suc (suc at) = omega arith in
    let three : at + 3 ≡ suc (suc (suc at)) = omega arith in
    e ∙ rw (one, two, three) refl

-- A value that was written is read back.
pub value_written : (s : List ℕ) (at : ℕ) (v : ValueWithLayout) → at + value_width ≤ length s → value_at at (sets s at (words_of v)) ≡ words_of v
unfolding value_at
value_written s at v h =
    let e : length (words_of v) ≡ value_width = words_length v in
    ap (λ (n : ℕ). take n (drop at (sets s at (words_of v)))) (sym e) ∙ sets_part (words_of v) s at (omega arith)

-- ---- what a value answers

pub u128_value : (ws : List ℕ) → is_deletion ws ≡ false → has_number ws ≡ true → (n : Number) → n ≡ number_of (number_in ws)
    → Ok (Some n) ≡ as_u128_of ws
unfolding as_u128_of
u128_value ws d h n e = rw (d, h, e)

-- two lengths as the code compares them
same_lengths : (o q : Maybe ℕ) → option_eq eqb (length_answer o) (length_answer q) ≡ same_length o q
unfolding length_answer same_length
same_lengths none none = refl
same_lengths none (some n) = refl
same_lengths (some m) none = refl
same_lengths (some m) (some n) = refl

pub bytes_same : (v w : List ℕ) (n m : Option ℕ) → n ≡ bytes_len_of v → m ≡ bytes_len_of w → option_eq eqb n m ≡ same_bytes v w
unfolding bytes_len_of same_bytes
bytes_same v w n m e f = rw (e, f) (same_lengths (bytes_len v) (bytes_len w))

pub number_field : (v : ValueWithLayout) → Halves v.number → v.number ≡ number_of (number_in (words_of v))
number_field v h = sym (ap number_of (words_number v h) ∙ number_of_value_of v.number h)

-- ---- the rule of a value's fields

pub number_zero : (ws : List ℕ) → has_number ws ≡ false → (b : Bool) (n : ℕ) → b ≡ eqb n 0 → number_in ws ≡ n → b ≡ (has_number ws || eqb (number_in ws) 0)
number_zero ws h b n e f = rw (h, f) e
