-- The tags of a set and the counts of its words' bits: the ones are as many as the tags, and the trailing zeros give the first.
use mathlib.Core.Path.{◌≡◌, refl, sym}
use mathlib.Core.List.{List, [], ◌∷◌, ◌++◌}
use Prim.Native.Nat.{ℕ, zero, suc, ◌+◌, ◌-◌, ◌*◌, ◌/◌, ◌%◌, ◌^◌, ◌≤◌, ◌<◌}
use native.Mathlib.Nat.{le_refl, zero-add, mod-eq_of_lt, one-mul, pow-suc, add-zero, add-suc, suc-add}
use native.Mathlib.Decide.{ℕ_discrete}
use native.Mathlib.Omega.{arith}
use lib.Arith.{lt-one}
use lib.Count.{ones, ones_step, count_trailing_zeros}
use lib.ListN.{length, length-append}
use Rattle.types.specs.Response.{most_tags}
use Rattle.request.specs.Set.{tags_from, tags_of}

half_lt : (n w : ℕ) → w < 2 ^ suc n → w / 2 < 2 ^ n
half_lt n w h = let g : w < 2 ^ n * 2 = rw pow-suc at h in omega arith

odd : (w : ℕ) → (w % 2 ≡ 0 → ⊥) → w % 2 ≡ 1
odd w h = omega arith

-- The tags above a bit that is not set, and above one that is.
tags_even : (n t w : ℕ) → w % 2 ≡ 0 → tags_from (suc n) t w ≡ tags_from n (suc t) (w / 2)
unfolding tags_from
tags_even n t w e = rw e

tags_odd : (n t w : ℕ) → w % 2 ≡ 1 → tags_from (suc n) t w ≡ t ∷ tags_from n (suc t) (w / 2)
unfolding tags_from
tags_odd n t w e = rw e

trailing_even : (n w : ℕ) → w % 2 ≡ 0 → count_trailing_zeros (suc n) w ≡ suc (count_trailing_zeros n (w / 2))
unfolding count_trailing_zeros
trailing_even n w e = rw e

trailing_odd : (n w : ℕ) → w % 2 ≡ 1 → count_trailing_zeros (suc n) w ≡ 0
unfolding count_trailing_zeros
trailing_odd n w e = rw e

ones_zero : ones 0 ≡ 0
unfolding ones
ones_zero = refl

pub tags_ones : (n t w : ℕ) → w < 2 ^ n → length (tags_from n t w) ≡ ones w
unfolding tags_from
tags_ones zero t w h = rw (lt-one h) (sym ones_zero)
tags_ones (suc n) t w h = go (tags_ones n (suc t) (w / 2) (half_lt n w h)) (ℕ_discrete (w % 2) 0)
  where
    go : length (tags_from n (suc t) (w / 2)) ≡ ones (w / 2) → Dec (w % 2 ≡ 0) → length (tags_from (suc n) t w) ≡ ones w
    go ih (yes e) = rw (tags_even n t w e) (omega (arith, ones_step w))
    go ih (no f) = rw (tags_odd n t w (odd w f)) (omega (arith, ones_step w, odd w f))

pub lowest_le : (n w : ℕ) → 0 < w → w < 2 ^ n → 2 ^ count_trailing_zeros n w ≤ w
lowest_le zero w p h = absurd (omega (arith, lt-one h))
lowest_le (suc n) w p h = go (lowest_le n (w / 2)) (ℕ_discrete (w % 2) 0)
  where
    go : (0 < w / 2 → w / 2 < 2 ^ n → 2 ^ count_trailing_zeros n (w / 2) ≤ w / 2) → Dec (w % 2 ≡ 0) → 2 ^ count_trailing_zeros (suc n) w ≤ w
    go ih (yes e) =
        let l : 2 ^ count_trailing_zeros n (w / 2) ≤ w / 2 = ih (omega arith) (half_lt n w h) in
        rw (trailing_even n w e, pow-suc) (omega arith)
    go ih (no f) = rw (trailing_odd n w (odd w f)) (omega arith)

even_rest : (w a : ℕ) → w % 2 ≡ 0 → a ≤ w / 2 → (w - a * 2) % 2 ≡ 0
even_rest w a e h = omega arith

half_rest : (w a : ℕ) → w % 2 ≡ 0 → a ≤ w / 2 → (w - a * 2) / 2 ≡ w / 2 - a
half_rest w a e h = omega arith

-- The first tag is at the lowest one, and the others are those of the word without it.
pub tags_split : (n t w : ℕ) → 0 < w → w < 2 ^ n
    → tags_from n t w ≡ (t + count_trailing_zeros n w) ∷ tags_from n t (w - 2 ^ count_trailing_zeros n w)
tags_split zero t w p h = absurd (omega (arith, lt-one h))
tags_split (suc n) t w p h = go (tags_split n (suc t) (w / 2)) (ℕ_discrete (w % 2) 0)
  where
    go : (0 < w / 2
        → w / 2 < 2 ^ n
        → tags_from n (suc t) (w / 2) ≡ (suc t + count_trailing_zeros n (w / 2)) ∷ tags_from n (suc t) (w / 2 - 2 ^ count_trailing_zeros n (w / 2)))
        → Dec (w % 2 ≡ 0)
        → tags_from (suc n) t w ≡ (t + count_trailing_zeros (suc n) w) ∷ tags_from (suc n) t (w - 2 ^ count_trailing_zeros (suc n) w)
    go ih (yes e) =
        let q : 0 < w / 2 = omega arith in
        let l : 2 ^ count_trailing_zeros n (w / 2) ≤ w / 2 = lowest_le n (w / 2) q (half_lt n w h) in
        rw (
          tags_even n t w e,
          trailing_even n w e,
          pow-suc,
          tags_even n t (w - 2 ^ count_trailing_zeros n (w / 2) * 2) (even_rest w _ e l),
          half_rest w (2 ^ count_trailing_zeros n (w / 2)) e l,
          add-suc,
          ← suc-add,
        )
        (ih q (half_lt n w h))
    go ih (no f) =
        let e : (w - 1) % 2 ≡ 0 = omega (arith, odd w f) in
        let d : (w - 1) / 2 ≡ w / 2 = omega (arith, odd w f) in
        rw (tags_odd n t w (odd w f), trailing_odd n w (odd w f), tags_even n t (w - 1) e, d, add-zero) refl

-- What `1 << trailing_zeros` is: nothing is shifted out.
pub lowest_one : (n w : ℕ) → 0 < w → w < 2 ^ n → (1 * 2 ^ count_trailing_zeros n w) % 2 ^ n ≡ 2 ^ count_trailing_zeros n w
lowest_one n w p h = rw one-mul (mod-eq_of_lt (omega (arith, lowest_le n w p h)))

pub tags_none : (n t : ℕ) → tags_from n t 0 ≡ []
unfolding tags_from
tags_none zero t = refl
tags_none (suc n) t = tags_none n (suc t)

-- A set of two words.
module _ (low high : ℕ) (l : low < 2 ^ 32) (h : high < 2 ^ 32) where
  pub tags_count : ones low + ones high ≡ length (tags_of low high)
  unfolding tags_of
  tags_count = rw (length-append, tags_ones 32 0 low l, tags_ones 32 32 high h) refl

  pub tags_low : 0 < low → tags_of low high ≡ count_trailing_zeros 32 low ∷ tags_of (low - 2 ^ count_trailing_zeros 32 low) high
  unfolding tags_of
  tags_low p = rw (tags_split 32 0 low p l, zero-add) refl

  pub tags_high : low ≤ 0 → 0 < high → tags_of low high ≡ (32 + count_trailing_zeros 32 high) ∷ tags_of low (high - 2 ^ count_trailing_zeros 32 high)
  unfolding tags_of
  tags_high z p = let e : low ≡ 0 = omega arith in rw (e, tags_none 32 0, tags_split 32 32 high p h) refl

  pub tags_empty : low ≤ 0 → high ≤ 0 → tags_of low high ≡ []
  unfolding tags_of
  tags_empty z y = let e : low ≡ 0 = omega arith in let f : high ≡ 0 = omega arith in rw (e, f, tags_none 32 0, tags_none 32 32) refl

  pub split_low : 0 < low → (r : ℕ) → r ≡ low - 2 ^ count_trailing_zeros 32 low → tags_of low high ≡ count_trailing_zeros 32 low ∷ tags_of r high
  split_low p r e = rw e (tags_low p)

  pub split_high : low ≤ 0 → 0 < high → (r : ℕ) → r ≡ high - 2 ^ count_trailing_zeros 32 high → tags_of low high ≡ (32 + count_trailing_zeros 32 high) ∷ tags_of low r
  split_high z p r e = rw e (tags_high z p)

-- Every tag of a list is at least t, or below t; each is above those before it.
unfoldable pub AtLeast : ℕ → List ℕ → Type 0
AtLeast t [] = Unit
AtLeast t (x ∷ xs) = (t ≤ x) × AtLeast t xs

unfoldable pub Below : ℕ → List ℕ → Type 0
Below t [] = Unit
Below t (x ∷ xs) = (x < t) × Below t xs

unfoldable pub Rising : List ℕ → Type 0
Rising [] = Unit
Rising (x ∷ xs) = AtLeast (suc x) xs × Rising xs

at_least_less : (s t : ℕ) (xs : List ℕ) → s ≤ t → AtLeast t xs → AtLeast s xs
unfolding AtLeast
at_least_less s t [] h a = tt
at_least_less s t (x ∷ xs) h a = (omega (arith, a.0), at_least_less s t xs h a.1)

below_more : (s t : ℕ) (xs : List ℕ) → s ≤ t → Below s xs → Below t xs
unfolding Below
below_more s t [] h a = tt
below_more s t (x ∷ xs) h a = (omega (arith, a.0), below_more s t xs h a.1)

from_at_least : (n t w : ℕ) → AtLeast t (tags_from n t w)
unfolding AtLeast tags_from
from_at_least zero t w = tt
from_at_least (suc n) t w =
    go (at_least_less t (suc t) (tags_from n (suc t) (w / 2)) (omega arith) (from_at_least n (suc t) (w / 2))) (ℕ_discrete (w % 2) 0)
  where
    go : AtLeast t (tags_from n (suc t) (w / 2)) → Dec (w % 2 ≡ 0) → AtLeast t (tags_from (suc n) t w)
    go ih (yes e) = rw (tags_even n t w e) ih
    go ih (no f) = rw (tags_odd n t w (odd w f)) (le_refl t, ih)

from_below : (n t w : ℕ) → Below (t + n) (tags_from n t w)
unfolding Below tags_from
from_below zero t w = tt
from_below (suc n) t w = go (rw (suc-add, ← add-suc) at (from_below n (suc t) (w / 2))) (ℕ_discrete (w % 2) 0)
  where
    go : Below (t + suc n) (tags_from n (suc t) (w / 2)) → Dec (w % 2 ≡ 0) → Below (t + suc n) (tags_from (suc n) t w)
    go ih (yes e) = rw (tags_even n t w e) ih
    go ih (no f) = rw (tags_odd n t w (odd w f)) (omega arith, ih)

from_rising : (n t w : ℕ) → Rising (tags_from n t w)
unfolding Rising tags_from
from_rising zero t w = tt
from_rising (suc n) t w = go (from_rising n (suc t) (w / 2)) (ℕ_discrete (w % 2) 0)
  where
    go : Rising (tags_from n (suc t) (w / 2)) → Dec (w % 2 ≡ 0) → Rising (tags_from (suc n) t w)
    go ih (yes e) = rw (tags_even n t w e) ih
    go ih (no f) = rw (tags_odd n t w (odd w f)) (from_at_least n (suc t) (w / 2), ih)

at_least_append : (t : ℕ) (a b : List ℕ) → AtLeast t a → AtLeast t b → AtLeast t (a ++ b)
unfolding AtLeast
at_least_append t [] b p q = q
at_least_append t (x ∷ a) b p q = (p.0, at_least_append t a b p.1 q)

below_append : (t : ℕ) (a b : List ℕ) → Below t a → Below t b → Below t (a ++ b)
unfolding Below
below_append t [] b p q = q
below_append t (x ∷ a) b p q = (p.0, below_append t a b p.1 q)

rising_append : (t : ℕ) (a b : List ℕ) → Below t a → AtLeast t b → Rising a → Rising b → Rising (a ++ b)
unfolding Below Rising
rising_append t [] b l g p q = q
rising_append t (x ∷ a) b l g p q =
    (at_least_append (suc x) a b p.0 (at_least_less (suc x) t b l.0 g), rising_append t a b l.1 g p.1 q)

pub tags_below : (low high : ℕ) → Below most_tags (tags_of low high)
unfolding tags_of
tags_below low high = below_append most_tags _ _ (below_more 32 most_tags _ (omega arith) (from_below 32 0 low)) (from_below 32 32 high)

pub tags_rising : (low high : ℕ) → Rising (tags_of low high)
unfolding tags_of
tags_rising low high = rising_append 32 _ _ (from_below 32 0 low) (from_at_least 32 32 high) (from_rising 32 0 low) (from_rising 32 32 high)

from_length : (n t w : ℕ) → length (tags_from n t w) ≤ n
unfolding tags_from
from_length zero t w = le_refl 0
from_length (suc n) t w = go (from_length n (suc t) (w / 2)) (ℕ_discrete (w % 2) 0)
  where
    go : length (tags_from n (suc t) (w / 2)) ≤ n → Dec (w % 2 ≡ 0) → length (tags_from (suc n) t w) ≤ suc n
    go ih (yes e) = rw (tags_even n t w e) (omega arith)
    go ih (no f) = rw (tags_odd n t w (odd w f)) (omega arith)

pub tags_length_le : (low high : ℕ) → length (tags_of low high) ≤ most_tags
unfolding tags_of
tags_length_le low high =
    omega (arith, length-append (tags_from 32 0 low) (tags_from 32 32 high), from_length 32 0 low, from_length 32 32 high)
