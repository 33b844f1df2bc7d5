-- An answer's set and values, read as a request's are, give back the committed group: both are written in one format.
-- Assumes nothing.
use mathlib.Core.Path.{◌≡◌, refl, sym, ◌∙◌, ap, ap₂, subst}
use mathlib.Core.Bool.{Bool, true, false, cond, not, ◌&&◌}
use mathlib.Core.Logic.{inl, inr}
use mathlib.Core.List.{List, [], ◌∷◌, ◌++◌, map}
use Prim.Native.Nat.{ℕ, zero, suc, ◌+◌, ◌*◌, ◌-◌, ◌/◌, ◌%◌, ◌^◌, ◌≤◌, ◌<◌, zero-le}
use native.Mathlib.Nat.{div-add-mod, mod-lt, mod-eq_of_lt, add-mul-mod_self_left, pow-succ', div-div-eq-div-mul, div-one, zero-add, suc-add, sub-zero}
use native.Mathlib.Omega.{arith}
use native.Mathlib.Decide.{ℕ_discrete}
use lib.Dec.{leb, eqb, lit<}
use lib.ListN.{length, get_or, drop}
use lib.Seq.{take_at, drop_at}
use borrow.Author.Tests.{leb-true, eqb-true}
use Rattle.lists.specs.Lists.{every}
use Rattle.lists.proofs.Bools.{and_left, and_right}
use Rattle.lists.proofs.Lists.{every_keep, every_kept}
use Rattle.number.specs.Words.{digits}
use Rattle.types.specs.Value.{value_width, value_ok, is_deletion}
use Rattle.types.specs.Response.{response}
use Rattle.request.specs.Set.{tags_from, tags_of, Member, members_of}
use Rattle.request.proofs.SetTags.{AtLeast, Below, Rising}
use Rattle.model.specs.Rows.{Row, is_above, rising, of_key}
use Rattle.model.specs.Fine.{is_word, fine_value, fine_committed, fine_group}
use Rattle.model.specs.Group.{Committed, set_of, values_of, committed_answer}
use Rattle.model.proofs.Rows.{Over, above_told, rising_keep}

-- Tags as bits, the lowest being t.
unfoldable pub bits : ℕ → List ℕ → ℕ
bits t [] = 0
bits t (x ∷ xs) = 2 ^ (x - t) + bits t xs

bits_double : (t : ℕ) (ts : List ℕ) → AtLeast (suc t) ts → bits t ts ≡ 2 * bits (suc t) ts
unfolding bits AtLeast
bits_double t [] h = refl
bits_double t (x ∷ xs) h =
    let e : x - t ≡ suc (x - suc t) = omega (arith, h.0) in
    rw e (omega (arith, bits_double t xs h.1))

odd_step : (n t w v : ℕ) → w ≡ 1 + 2 * v → tags_from (suc n) t w ≡ t ∷ tags_from n (suc t) v
unfolding tags_from
odd_step n t w v e =
    let e₁ : w % 2 ≡ 1 = omega arith in
    let e₂ : w / 2 ≡ v = omega arith in
    rw (e₁, e₂)

even_step : (n t w v : ℕ) → w ≡ 2 * v → tags_from (suc n) t w ≡ tags_from n (suc t) v
unfolding tags_from
even_step n t w v e =
    let e₁ : w % 2 ≡ 0 = omega arith in
    let e₂ : w / 2 ≡ v = omega arith in
    rw (e₁, e₂)

at_least_less : (s t : ℕ) (ts : List ℕ) → s ≤ t → AtLeast t ts → AtLeast s ts
unfolding AtLeast
at_least_less s t [] h a = tt
at_least_less s t (x ∷ xs) h a = (omega (arith, a.0), at_least_less s t xs h a.1)

tags_from_bits : (n t : ℕ) (ts : List ℕ) → Rising ts → AtLeast t ts → Below (n + t) ts → tags_from n t (bits t ts) ≡ ts
unfolding bits Rising AtLeast Below
tags_from_bits zero t [] r a b = unfold tags_from in refl
tags_from_bits zero t (x ∷ xs) r a b = absurd (omega (arith, a.0, b.0))
tags_from_bits (suc n) t [] r a b = even_step n t 0 0 refl ∙ tags_from_bits n (suc t) [] tt tt tt
tags_from_bits (suc n) t (x ∷ xs) r a b =
    go (ℕ_discrete x t) (λ l g. tags_from_bits n (suc t) xs r.1 l g) (λ l g. tags_from_bits n (suc t) (x ∷ xs) r l g)
  where
    sum : suc n + t ≡ n + suc t
    sum = omega arith

    go : Dec (x ≡ t) → (AtLeast (suc t) xs → Below (n + suc t) xs → tags_from n (suc t) (bits (suc t) xs) ≡ xs) →
        (AtLeast (suc t) (x ∷ xs) → Below (n + suc t) (x ∷ xs) → tags_from n (suc t) (bits (suc t) (x ∷ xs)) ≡ x ∷ xs) →
        tags_from (suc n) t (bits t (x ∷ xs)) ≡ x ∷ xs
    go (yes e) later whole =
        let l : AtLeast (suc t) xs = rw e at r.0 in
        let z : x - t ≡ 0 = omega arith in
        odd_step n t (bits t (x ∷ xs)) (bits (suc t) xs) (rw (z, bits_double t xs l))
        ∙ ap₂ (λ (y : ℕ) (ys : List ℕ). y ∷ ys) (sym e) (later l (subst (λ (k : ℕ). Below k xs) sum b.1))
    go (no e) later whole =
        let l : AtLeast (suc t) (x ∷ xs) = (omega (arith, a.0), at_least_less (suc t) (suc x) xs (omega (arith, a.0)) r.0) in
        even_step n t (bits t (x ∷ xs)) (bits (suc t) (x ∷ xs)) (bits_double t (x ∷ xs) l) ∙ whole l (subst (λ (k : ℕ). Below k (x ∷ xs)) sum b)

-- ---- in two words

-- one bit of a word
tags_from_bit : (n t w b h : ℕ) → w ≡ b + 2 * h → b < 2 → tags_from (suc n) t w ≡ cond (eqb b 1) (t ∷ tags_from n (suc t) h) (tags_from n (suc t) h)
unfolding tags_from
tags_from_bit n t w b h e l =
    let e₁ : w % 2 ≡ b = omega arith in
    let e₂ : w / 2 ≡ h = omega arith in
    rw (e₁, e₂)

mod_step : (p h b : ℕ) → 0 < p → b < 2 → (b + 2 * h) % (2 * p) ≡ b + 2 * (h % p)
mod_step p h b g l =
    let e : b + 2 * h ≡ (b + 2 * (h % p)) + 2 * p * (h / p) = omega (arith, div-add-mod h p) in
    rw e (add-mul-mod_self_left (b + 2 * (h % p)) (2 * p) (h / p) ∙ mod-eq_of_lt (omega (arith, mod-lt h g)))

power_pos : (n : ℕ) → 0 < 2 ^ n
power_pos zero = lit< tt
power_pos (suc n) = omega (arith, power_pos n, pow-succ' 2 n)

-- only the n lowest bits of a word are looked at
tags_from_mod : (n t w : ℕ) → tags_from n t (w % 2 ^ n) ≡ tags_from n t w
tags_from_mod zero t w = unfold tags_from in refl
tags_from_mod (suc n) t w =
    let h = w / 2 in
    let b = w % 2 in
    let l : b < 2 = omega arith in
    let e : w ≡ b + 2 * h = omega arith in
    let m : w % 2 ^ suc n ≡ b + 2 * (h % 2 ^ n) = ap₂ (λ (x y : ℕ). x % y) e (pow-succ' 2 n) ∙ mod_step (2 ^ n) h b (power_pos n) l in
    tags_from_bit n t (w % 2 ^ suc n) b (h % 2 ^ n) m l ∙ rw (tags_from_mod n (suc t) h) (sym (tags_from_bit n t w b h e l))

-- the higher bits are the tags that follow
tags_from_append : (n k t w : ℕ) → tags_from n t w ++ tags_from k (n + t) (w / 2 ^ n) ≡ tags_from (n + k) t w
tags_from_append zero k t w = unfold tags_from in rw (zero-add t, zero-add k, div-one w)
tags_from_append (suc n) k t w =
    let h = w / 2 in
    let b = w % 2 in
    let l : b < 2 = omega arith in
    let e : w ≡ b + 2 * h = omega arith in
    let s : suc n + t ≡ n + suc t = omega arith in
    let d : w / 2 ^ suc n ≡ h / 2 ^ n = ap (λ (x : ℕ). w / x) (pow-succ' 2 n) ∙ sym (div-div-eq-div-mul w 2 (2 ^ n)) in
    ap₂ (λ (xs ys : List ℕ). xs ++ ys) (tags_from_bit n t w b h e l) (ap₂ (tags_from k) s d)
    ∙ go (eqb b 1) (tags_from_append n k (suc t) h)
    ∙ sym (ap (λ (x : ℕ). tags_from x t w) (suc-add n k) ∙ tags_from_bit (n + k) t w b h e l)
  where
    go : (c : Bool) → tags_from n (suc t) (w / 2) ++ tags_from k (n + suc t) (w / 2 / 2 ^ n) ≡ tags_from (n + k) (suc t) (w / 2) →
        cond c (t ∷ tags_from n (suc t) (w / 2)) (tags_from n (suc t) (w / 2)) ++ tags_from k (n + suc t) (w / 2 / 2 ^ n)
        ≡ cond c (t ∷ tags_from (n + k) (suc t) (w / 2)) (tags_from (n + k) (suc t) (w / 2))
    go true ih = ap (λ (l : List ℕ). t ∷ l) ih
    go false ih = ih

from_zero : (xs : List ℕ) → AtLeast 0 xs
unfolding AtLeast
from_zero [] = tt
from_zero (x ∷ xs) = (zero-le, from_zero xs)

-- A set of rising tags up to 63, in two words, is read back as those tags.
pub tags_of_bits : (ts : List ℕ) → Rising ts → Below 64 ts → tags_of (bits 0 ts % 2 ^ 32) (bits 0 ts / 2 ^ 32 % 2 ^ 32) ≡ ts
unfolding tags_of
tags_of_bits ts r b =
    ap₂ (λ (xs ys : List ℕ). xs ++ ys) (tags_from_mod 32 0 (bits 0 ts)) (tags_from_mod 32 32 (bits 0 ts / 2 ^ 32))
    ∙ tags_from_append 32 32 0 (bits 0 ts)
    ∙ tags_from_bits 64 0 ts r (from_zero ts) b

-- ---- the answer of a committed group

unfoldable pub places_of : Committed → List ℕ
places_of rows = map (λ r. r.place) rows

set_of_bits : (rows : Committed) → set_of rows ≡ bits 0 (places_of rows)
unfolding set_of bits places_of
set_of_bits [] = refl
set_of_bits (r ∷ rows) = rw (set_of_bits rows, sub-zero)

-- rising rows of one key have rising places
above_places : (k p : ℕ) (rs : Committed) → every (is_above k p) rs ≡ true → every (λ r. eqb r.key k) rs ≡ true → AtLeast (suc p) (places_of rs)
unfolding every places_of AtLeast
above_places k p [] a e = tt
above_places k p (r ∷ rs) a e = (
  go (above_told k p r (and_left (is_above k p r) (every (is_above k p) rs) a)),
  above_places k p rs (and_right (is_above k p r) (every (is_above k p) rs) a) (and_right (eqb r.key k) (every (λ s. eqb s.key k) rs) e),
)
  where
    go : Over k p r.key r.place → suc p ≤ r.place
    go (inl h) = absurd (omega (arith, eqb-true r.key k (and_left (eqb r.key k) (every (λ s. eqb s.key k) rs) e)))
    go (inr h) = h.1

rising_places : (k : ℕ) (rs : Committed) → rising rs ≡ true → every (λ r. eqb r.key k) rs ≡ true → Rising (places_of rs)
unfolding rising every places_of Rising
rising_places k [] a e = tt
rising_places k (r ∷ rs) a e =
    let same : r.key ≡ k = eqb-true r.key k (and_left (eqb r.key k) (every (λ s. eqb s.key k) rs) e) in
    let later : every (λ s. eqb s.key k) rs ≡ true = and_right (eqb r.key k) (every (λ s. eqb s.key k) rs) e in (
      above_places k r.place rs (rw same at (and_left (every (is_above r.key r.place) rs) (rising rs) a)) later,
      rising_places k rs (and_right (every (is_above r.key r.place) rs) (rising rs) a) later,
    )

-- what rule 5 says of a committed value: its tag is at most 63, and it has a value's words
fine_place : (r : Row (List ℕ)) → fine_committed r ≡ true → r.place < 64
unfolding fine_committed
fine_place r e =
    let f = and_left (is_word r.key && leb r.place 63 && fine_value r.held) (not (is_deletion r.held)) e in
    let g = and_left (is_word r.key && leb r.place 63) (fine_value r.held) f in
    omega (arith, leb-true r.place 63 (and_right (is_word r.key) (leb r.place 63) g))

fine_length : (r : Row (List ℕ)) → fine_committed r ≡ true → length r.held ≡ value_width
unfolding fine_committed fine_value
fine_length r e =
    let f = and_left (is_word r.key && leb r.place 63 && fine_value r.held) (not (is_deletion r.held)) e in
    let g = and_right (is_word r.key && leb r.place 63) (fine_value r.held) f in
    let h = and_left (eqb (length r.held) value_width && every is_word r.held) (value_ok r.held) g in
    eqb-true (length r.held) value_width (and_left (eqb (length r.held) value_width) (every is_word r.held) h)

places_below : (rs : Committed) → every fine_committed rs ≡ true → Below 64 (places_of rs)
unfolding every places_of Below
places_below [] e = tt
places_below (r ∷ rs) e = (fine_place r (and_left (fine_committed r) (every fine_committed rs) e), places_below rs (and_right (fine_committed r) (every fine_committed rs) e))

-- The rows of a key as a request's members.
unfoldable pub members_in : Committed → List Member
members_in rows = map (λ r. record { tag = r.place; value = r.held }) rows

members_of_values : (rows : Committed) → every fine_committed rows ≡ true → members_of (places_of rows) (values_of rows) ≡ members_in rows
unfolding members_of places_of values_of every members_in
members_of_values [] h = refl
members_of_values (r ∷ rows) h =
    let e : length r.held ≡ value_width = fine_length r (and_left (fine_committed r) (every fine_committed rows) h) in
    rw (take_at r.held (values_of rows) value_width e, drop_at r.held (values_of rows) value_width e, members_of_values rows (and_right (fine_committed r) (every fine_committed rows) h))

-- Read as a request's, the set and the values of an answer of kind 9 are the tags and values that are committed of the key, for a committed
-- group that keeps rule 5.
module _ (key : ℕ) (g : Committed) (fine : fine_group g ≡ true) where
  own_fine : every fine_committed (of_key key g) ≡ true
  unfolding of_key fine_group
  own_fine = every_keep fine_committed (λ r. eqb r.key key) g (and_right (rising g) (every fine_committed g) fine)

  own_rising : Rising (places_of (of_key key g))
  unfolding of_key fine_group
  own_rising =
      rising_places key (of_key key g) (rising_keep (λ r. eqb r.key key) g (and_left (rising g) (every fine_committed g) fine)) (every_kept (λ r. eqb r.key key) g)

  committed_tags : tags_of (get_or (committed_answer key g) 1 0) (get_or (committed_answer key g) 2 0) ≡ places_of (of_key key g)
  unfolding committed_answer response digits
  committed_tags = rw (set_of_bits (of_key key g)) (tags_of_bits (places_of (of_key key g)) own_rising (places_below (of_key key g) own_fine))

  pub committed_members :
      members_of (tags_of (get_or (committed_answer key g) 1 0) (get_or (committed_answer key g) 2 0)) (drop 3 (committed_answer key g)) ≡ members_in (of_key key g)
  committed_members = rw committed_tags (unfold committed_answer response digits in members_of_values (of_key key g) own_fine)
