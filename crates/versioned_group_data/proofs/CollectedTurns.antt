-- Tags and values collected from slots, one slot a turn.
-- Assumes nothing.
use mathlib.Core.Path.{◌≡◌, refl, sym, ◌∙◌, ap}
use mathlib.Core.Bool.{true}
use mathlib.Core.List.{List, [], ◌∷◌, ◌++◌, append_assoc, append-nil}
use Prim.Native.Nat.{ℕ, zero, suc, ◌+◌, ◌-◌, ◌*◌, ◌^◌, ◌%◌, ◌≤◌, ◌<◌}
use native.Mathlib.Nat.{add-zero, one-mul, mod-eq_of_lt}
use native.Mathlib.Decide.{dec_le}
use native.Mathlib.Omega.{arith}
use lib.ListN.{length, get_or, take, drop, length-append, length-drop, take-append-drop}
use lib.Pow.{pow_mono}
use lib.Seq.{take_all, take_at, drop-append-add, drop-drop, get_or-drop, length-take-le}
use borrow.Author.Tests.{leb-true}
use borrow.Rule.Slice.PartMut.{put_mid}
use Rattle.std.proofs.lemmas.Slice.{put_mid-paste}
use Rattle.lists.specs.Lists.{every}
use Rattle.lists.proofs.Lists.{every_at}
use Rattle.types.specs.Value.{value_at, value_width}
use Rattle.slots.specs.Slots.{Slot, slot_width, slots, slot_at}
use Rattle.types.specs.Units.{units_in}
use Rattle.slots.proofs.StoreWords.{slots_few, slots_inside, slots_at, slots_more, slot_at_word, length_slots}
use Rattle.versioned_group_data.specs.Collected.{is_from, tag_bits, slot_values}
use Rattle.group_slots.proofs.GroupStanding.{slot_at_value}

-- ---- tags

module _ (s : List ℕ) (i n j less : ℕ) (inside : j < slot_width) where
  -- word j of slot k of the run
  run_word : (k : ℕ) → k < n → get_or (get_or (slots n (drop (slot_width * i) s)) k []) j 0 ≡ get_or s (slot_width * (i + k) + j) 0
  run_word k h =
      let e : slot_width * i + (slot_width * k + j) ≡ slot_width * (i + k) + j = omega arith in
      ap (λ (u : Slot). get_or u j 0) (slots_at n k (drop (slot_width * i) s) [] h)
      ∙ slot_at_word k j (drop (slot_width * i) s) inside
      ∙ get_or-drop (slot_width * i) s (slot_width * k + j) 0
      ∙ ap (λ (m : ℕ). get_or s m 0) e

  pub from_word : (k x : ℕ) → every (is_from j less) (slots n (drop (slot_width * i) s)) ≡ true → k < n → x ≡ get_or s (slot_width * (i + k) + j) 0 → less ≤ x
  unfolding is_from
  from_word k x f h e =
      let l : less ≤ get_or (get_or (slots n (drop (slot_width * i) s)) k []) j 0 =
      leb-true less (get_or (get_or (slots n (drop (slot_width * i) s)) k []) j 0)
      (every_at (is_from j less) (slots n (drop (slot_width * i) s)) k [] (omega (arith, length_slots n (drop (slot_width * i) s))) f) in
      omega (arith, run_word k h)

  -- the first of what is left
  pub tags_next : (k x : ℕ) → k < n → x ≡ get_or s (slot_width * (i + k) + j) 0 →
      tag_bits j less (slots (n - k) (drop (slot_width * (i + k)) s)) ≡ 2 ^ (x - less) + tag_bits j less (slots (n - (k + 1)) (drop (slot_width * (i + (k + 1))) s))
  unfolding slots tag_bits
  tags_next k x h e =
      let m : n - k ≡ suc (n - (k + 1)) = omega arith in
      let a : slot_width * (i + k) + slot_width ≡ slot_width * (i + (k + 1)) = omega arith in
      ap (λ (c : ℕ). tag_bits j less (slots c (drop (slot_width * (i + k)) s))) m
      ∙ rw (drop-drop slot_width (slot_width * (i + k)) s, a) (ap (λ (c : ℕ). 2 ^ (c - less) + tag_bits j less (slots (n - (k + 1)) (drop (slot_width * (i + (k + 1))) s))) (word ∙ sym e))
    where
      word : get_or (take slot_width (drop (slot_width * (i + k)) s)) j 0 ≡ get_or s (slot_width * (i + k) + j) 0
      word = unfold slot_at in slot_at_word (i + k) j s inside

-- one turn: the bit of slot k, and what is left after it
module _ (s : List ℕ) (i n j less bits k x : ℕ) (inside : j < slot_width) (h : k < n) (e : x ≡ get_or s (slot_width * (i + k) + j) 0)
    (inv : bits + tag_bits j less (slots (n - k) (drop (slot_width * (i + k)) s)) ≡ tag_bits j less (slots n (drop (slot_width * i) s)))
    (fits : tag_bits j less (slots n (drop (slot_width * i) s)) < 2 ^ 64) where
  pub bit_low : x - less < 64
  bit_low = go (dec_le 64 (x - less))
    where
      go : Dec (64 ≤ x - less) → x - less < 64
      go (yes l) = absurd (omega (arith, pow_mono l, tags_next s i n j less inside k x h e))
      go (no l) = omega arith

  bit_whole : (1 * 2 ^ (x - less)) % 2 ^ 64 ≡ 2 ^ (x - less)
  bit_whole = rw one-mul (mod-eq_of_lt (omega (arith, tags_next s i n j less inside k x h e)))

  pub bit_fits : bits + (1 * 2 ^ (x - less)) % 2 ^ 64 < 2 ^ 64
  bit_fits = rw bit_whole (omega (arith, tags_next s i n j less inside k x h e))

  pub bit_again : bits + (1 * 2 ^ (x - less)) % 2 ^ 64 + tag_bits j less (slots (n - (k + 1)) (drop (slot_width * (i + (k + 1))) s)) ≡ tag_bits j less (slots n (drop (slot_width * i) s))
  bit_again = rw bit_whole (omega (arith, tags_next s i n j less inside k x h e))

pub tags_none : (j less n k : ℕ) (s : List ℕ) → n ≤ k → tag_bits j less (slots (n - k) s) ≡ 0
unfolding slots tag_bits
tags_none j less n k s h = let e : n - k ≡ 0 = omega arith in rw e

-- there are few slots
pub few : (i n k w : ℕ) → i + n ≤ units_in w → k < n → i + k < 4096
few i n k w h l = omega (arith, slots_few w)

-- ---- values

pub slot_values_append : (us vs : List Slot) → slot_values (us ++ vs) ≡ slot_values us ++ slot_values vs
unfolding slot_values
slot_values_append [] vs = refl
slot_values_append (u ∷ us) vs = rw (slot_values_append us vs) (sym (append_assoc (value_at 7 u) (slot_values us) (slot_values vs)))

module _ (s : List ℕ) (i : ℕ) where
  run_value : (k : ℕ) → value_at 7 (slot_at k (drop (slot_width * i) s)) ≡ take value_width (drop (slot_width * (i + k) + 7) s)
  run_value k =
      let e : slot_width * i + (slot_width * k + 7) ≡ slot_width * (i + k) + 7 = omega arith in
      slot_at_value k (drop (slot_width * i) s) ∙ at e
    where
      at : slot_width * i + (slot_width * k + 7) ≡ slot_width * (i + k) + 7 → value_at (slot_width * k + 7) (drop (slot_width * i) s) ≡ take value_width (drop (slot_width * (i + k) + 7) s)
      at e = unfold value_at in rw (drop-drop (slot_width * k + 7) (slot_width * i) s, e)

  values_more : (k : ℕ) → slot_values (slots (k + 1) (drop (slot_width * i) s)) ≡ slot_values (slots k (drop (slot_width * i) s)) ++ take value_width (drop (slot_width * (i + k) + 7) s)
  unfolding slot_values
  values_more k =
      ap slot_values (slots_more k (drop (slot_width * i) s))
      ∙ slot_values_append (slots k (drop (slot_width * i) s)) (slot_at k (drop (slot_width * i) s) ∷ [])
      ∙ rw (run_value k, append-nil (take value_width (drop (slot_width * (i + k) + 7) s)))

  pub length_values : (k : ℕ) → i + k ≤ units_in (length s) → length (slot_values (slots k (drop (slot_width * i) s))) ≡ value_width * k
  length_values zero h = unfold slots slot_values in refl
  length_values (suc k) h =
      let e : suc k ≡ k + 1 = omega arith in
      let l : slot_width * (suc (i + k)) ≤ length s = slots_inside (suc (i + k)) (length s) (omega arith) in
      ap (λ (n : ℕ). length (slot_values (slots n (drop (slot_width * i) s)))) e ∙ ap length (values_more k)
      ∙ length-append (slot_values (slots k (drop (slot_width * i) s))) (take value_width (drop (slot_width * (i + k) + 7) s))
      ∙ omega (arith, length_values k (omega arith), length-take-le value_width (drop (slot_width * (i + k) + 7) s) (omega (arith, length-drop (slot_width * (i + k) + 7) s)))

-- words put after others
append_next : (d out p w : List ℕ) (a n : ℕ) → out ≡ p ++ drop a d → length p ≡ a → take a out ++ (w ++ drop (a + n) out) ≡ p ++ (w ++ drop (a + n) d)
append_next d out p w a n e l =
    let f : take a out ≡ p = ap (take a) e ∙ take_at p (drop a d) a l in
    let g : drop (a + n) out ≡ drop (a + n) d = ap (λ (m : ℕ). drop (m + n) out) (sym l) ∙ ap (drop (length p + n)) e ∙ drop-append-add p (drop a d) n ∙ drop-drop n a d in
    rw (f, g)

-- a value copied
pub value_copied : (out z s : List ℕ) (to from : ℕ) → from + value_width ≤ length s → z ≡ take (from + value_width - from) (drop from s) →
    put_mid to (to + value_width - to) out z ≡ take to out ++ (take value_width (drop from s) ++ drop (to + value_width) out)
value_copied out z s to from h e =
    let n : from + value_width - from ≡ value_width = omega arith in
    let v : List ℕ = take value_width (drop from s) in
    let f : z ≡ v = rw n at e in
    let l : length v ≡ value_width = length-take-le value_width (drop from s) (omega (arith, length-drop from s)) in
    put_mid-paste to (to + value_width - to) out z v value_width f (omega arith) (sym l)
    ∙ rw (take_all value_width v (omega arith)) (append_assoc (take to out) v (drop (to + value_width) out))

module _ (s : List ℕ) (i : ℕ) (d : List ℕ) (at : ℕ) where
  -- what is in place after k slots
  unfoldable pub values_in : ℕ → List ℕ
  values_in k = take at d ++ (slot_values (slots k (drop (slot_width * i) s)) ++ drop (at + value_width * k) d)

  pub values_none : d ≡ values_in 0
  unfolding values_in slots slot_values
  values_none = rw (add-zero at) (sym (take-append-drop at d))

  pub values_again : (k : ℕ) (out : List ℕ) → out ≡ values_in k → i + k < units_in (length s) → at + value_width * k + value_width ≤ length d →
      take (at + value_width * k) out ++ (take value_width (drop (slot_width * (i + k) + 7) s) ++ drop (at + value_width * k + value_width) out) ≡ values_in (k + 1)
  unfolding values_in
  values_again k out e h l =
      let v = slot_values (slots k (drop (slot_width * i) s)) in
      let w = take value_width (drop (slot_width * (i + k) + 7) s) in
      let p : length (take at d ++ v) ≡ at + value_width * k =
      length-append (take at d) v ∙ omega (arith, length-take-le at d (omega arith), length_values s i k (omega arith)) in
      let n : at + value_width * k + value_width ≡ at + value_width * (k + 1) = omega arith in
      append_next d out (take at d ++ v) w (at + value_width * k) value_width (e ∙ sym (append_assoc (take at d) v (drop (at + value_width * k) d))) p
      ∙ rw (n, values_more s i k) (append_assoc (take at d) v (w ++ drop (at + value_width * (k + 1)) d) ∙ ap (λ (z : List ℕ). take at d ++ z) (sym (append_assoc v w (drop (at + value_width * (k + 1)) d))))

  pub values_all : (k n : ℕ) (out : List ℕ) → out ≡ values_in k → k ≡ n → out ≡ take at d ++ (slot_values (slots n (drop (slot_width * i) s)) ++ drop (at + value_width * n) d)
  unfolding values_in
  values_all k n out e h = e ∙ rw h
