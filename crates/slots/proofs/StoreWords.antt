-- Slots as words and words as slots: laws of `padded`, `flat`, `slots` and `slot_at`.
-- Assumes nothing.
use mathlib.Core.Path.{◌≡◌, refl, sym, ◌∙◌, ap}
use mathlib.Core.Bool.{true}
use mathlib.Core.List.{List, [], ◌∷◌, ◌++◌, append_assoc}
use Prim.Native.Nat.{ℕ, zero, suc, ◌+◌, ◌-◌, ◌*◌, ◌≤◌, ◌<◌}
use native.Mathlib.Nat.{sub-zero, suc-sub-suc, not-suc-le-zero, le_of_suc-le-suc}
use native.Mathlib.Omega.{arith}
use lib.ListN.{length, get_or, take, drop, replicate, length-append, length-drop, length-replicate, take-append-drop, get_or-append}
use lib.Seq.{length-take-le, take-nil, take-take, take_at, drop_at, drop-drop, take-add, get_or-take, get_or-drop}
use borrow.Author.Tests.{eqb-true, eq-eqb}
use Rattle.std.specs.Simd.{first_chunks}
use Rattle.lists.specs.Lists.{every}
use Rattle.lists.proofs.Bools.{and_both, and_left, and_right}
use Rattle.lists.proofs.Lists.{every_drop, every_take}
use Rattle.slots.specs.Slots.{Slot, slot_width, flat, slots, slot_at, is_whole, padded}
use Rattle.types.specs.Units.{units_in}

-- a slot's words are inside the store
pub slot_inside : (i w : ℕ) → i < units_in w → slot_width * i + slot_width ≤ w
unfolding units_in
slot_inside i w h = omega arith

-- so many words at a place of a slot are inside the store
pub part_inside : (j n m w : ℕ) → j < units_in w → n + m ≤ slot_width → slot_width * j + n + m ≤ w
part_inside j n m w h l = omega (arith, slot_inside j w h)

-- a part of a slot is a part of the store
pub drop_take : (a b : ℕ) (l : List ℕ) → a ≤ b → drop a (take b l) ≡ take (b - a) (drop a l)
drop_take zero b l h = rw (sub-zero b)
drop_take (suc a) zero l h = absurd (not-suc-le-zero h)
drop_take (suc a) (suc b) [] h = sym (take-nil (suc b - suc a))
drop_take (suc a) (suc b) (x ∷ l) h = drop_take a b l (le_of_suc-le-suc h) ∙ ap (λ (n : ℕ). take n (drop a l)) (sym (suc-sub-suc b a))

pub slot_at_part : (i a n : ℕ) (s : List ℕ) → a + n ≤ slot_width → take n (drop a (slot_at i s)) ≡ take n (drop (slot_width * i + a) s)
unfolding slot_at
slot_at_part i a n s h =
    rw (drop_take a slot_width (drop (slot_width * i) s) (omega arith), take-take n (slot_width - a) (drop a (drop (slot_width * i) s)) (omega arith), drop-drop a (slot_width * i) s)

pub slots_inside : (n w : ℕ) → n ≤ units_in w → slot_width * n ≤ w
unfolding units_in
slots_inside n w h = omega arith

pub slots_few : (w : ℕ) → units_in w ≤ 4096
unfolding units_in
slots_few w = omega arith

pub whole_length : (u : Slot) → is_whole u ≡ true → length u ≡ slot_width
unfolding is_whole
whole_length u e = eqb-true (length u) slot_width e

pub padded_whole : (ws : List ℕ) → length ws ≤ slot_width → length (padded ws) ≡ slot_width
unfolding padded
padded_whole ws h =
    omega (arith, length-append ws (replicate (slot_width - length ws) 0), length-replicate (slot_width - length ws) (let z : ℕ = 0 in z))

pub get_d_padded : (ws : List ℕ) (j : ℕ) → j < length ws → get_or (padded ws) j 0 ≡ get_or ws j 0
unfolding padded
get_d_padded ws j h = get_or-append ws (replicate (slot_width - length ws) 0) 0 j h

pub flat_append : (us vs : List Slot) → flat (us ++ vs) ≡ flat us ++ flat vs
unfolding flat
flat_append [] vs = refl
flat_append (u ∷ us) vs = rw (flat_append us vs) (sym (append_assoc u (flat us) (flat vs)))

pub length_flat : (us : List Slot) → every is_whole us ≡ true → length (flat us) ≡ slot_width * length us
unfolding flat every
length_flat [] e = refl
length_flat (u ∷ us) e =
    let h : length u ≡ slot_width = whole_length u (and_left (is_whole u) (every is_whole us) e) in
    let ih : length (flat us) ≡ slot_width * length us = length_flat us (and_right (is_whole u) (every is_whole us) e) in
    length-append u (flat us) ∙ omega arith

pub flat_split : (us : List Slot) (i : ℕ) → flat us ≡ flat (take i us) ++ flat (drop i us)
flat_split us i = ap flat (sym (take-append-drop i us)) ∙ flat_append (take i us) (drop i us)

pub length_slots : (n : ℕ) (s : List ℕ) → length (slots n s) ≡ n
unfolding slots
length_slots zero s = refl
length_slots (suc n) s = ap suc (length_slots n (drop slot_width s))

pub slots_add : (m n : ℕ) (s : List ℕ) → slots (m + n) s ≡ slots m s ++ slots n (drop (slot_width * m) s)
unfolding slots
slots_add zero n s =
    let e : zero + n ≡ n = omega arith in
    rw e
slots_add (suc m) n s =
    let e : suc m + n ≡ suc (m + n) = omega arith in
    let f : slot_width * suc m ≡ slot_width + slot_width * m = omega arith in
    let g : drop (slot_width * m) (drop slot_width s) ≡ drop (slot_width * suc m) s = drop-drop (slot_width * m) slot_width s ∙ ap (λ (k : ℕ). drop k s) (sym f) in
    rw e (ap (λ (l : List Slot). take slot_width s ∷ l) (slots_add m n (drop slot_width s) ∙ rw g))

pub take_slots : (i n : ℕ) (s : List ℕ) → i ≤ n → take i (slots n s) ≡ slots i s
take_slots i n s h =
    let e : n ≡ i + (n - i) = omega arith in
    ap (λ (k : ℕ). take i (slots k s)) e ∙ rw (slots_add i (n - i) s) (take_at (slots i s) (slots (n - i) (drop (slot_width * i) s)) i (length_slots i s))

pub every_whole : (n : ℕ) (s : List ℕ) → slot_width * n ≤ length s → every is_whole (slots n s) ≡ true
unfolding slots every is_whole
every_whole zero s h = refl
every_whole (suc n) s h =
    and_both (is_whole (take slot_width s)) (every is_whole (slots n (drop slot_width s)))
    (eq-eqb (length (take slot_width s)) slot_width (length-take-le slot_width s (omega arith)))
    (every_whole n (drop slot_width s) (rw (length-drop slot_width s) (omega arith)))

-- words are slots are words
pub slots_flat : (us : List Slot) (t : List ℕ) → every is_whole us ≡ true → slots (length us) (flat us ++ t) ≡ us
unfolding slots flat every
slots_flat [] t e = refl
slots_flat (u ∷ us) t e =
    let h : length u ≡ slot_width = whole_length u (and_left (is_whole u) (every is_whole us) e) in
    let ih : slots (length us) (flat us ++ t) ≡ us = slots_flat us t (and_right (is_whole u) (every is_whole us) e) in
    rw (append_assoc u (flat us) t, take_at u (flat us ++ t) slot_width h, drop_at u (flat us ++ t) slot_width h, ih)

pub flat_slots : (n : ℕ) (s : List ℕ) → flat (slots n s) ≡ take (slot_width * n) s
unfolding slots flat
flat_slots zero s = refl
flat_slots (suc n) s =
    let e : slot_width * suc n ≡ slot_width + slot_width * n = omega arith in
    rw (e, take-add slot_width (slot_width * n) s, flat_slots n (drop slot_width s))

-- one slot of many
pub slots_at : (n i : ℕ) (s : List ℕ) (d : Slot) → i < n → get_or (slots n s) i d ≡ slot_at i s
unfolding slots slot_at
slots_at zero i s d h = absurd (omega arith)
slots_at (suc n) zero s d h = refl
slots_at (suc n) (suc i) s d h =
    let f : slot_width * suc i ≡ slot_width + slot_width * i = omega arith in
    let g : drop (slot_width * i) (drop slot_width s) ≡ drop (slot_width * suc i) s = drop-drop (slot_width * i) slot_width s ∙ ap (λ (k : ℕ). drop k s) (sym f) in
    slots_at n i (drop slot_width s) d (omega arith) ∙ rw g

pub slots_more : (i : ℕ) (s : List ℕ) → slots (i + 1) s ≡ slots i s ++ (slot_at i s ∷ [])
unfolding slots slot_at
slots_more i s = slots_add i 1 s

pub slot_at_word : (i j : ℕ) (s : List ℕ) → j < slot_width → get_or (slot_at i s) j 0 ≡ get_or s (slot_width * i + j) 0
unfolding slot_at
slot_at_word i j s h = get_or-take slot_width (drop (slot_width * i) s) j 0 h ∙ get_or-drop (slot_width * i) s j 0

pub length_slot_at : (i : ℕ) (s : List ℕ) → slot_width * i + slot_width ≤ length s → length (slot_at i s) ≡ slot_width
unfolding slot_at
length_slot_at i s h = length-take-le slot_width (drop (slot_width * i) s) (rw (length-drop (slot_width * i) s) (omega arith))

-- what stands before slot i, slot i, and what stands after it
pub flat_at : (us : List Slot) (i : ℕ) → i < length us → flat us ≡ flat (take i us) ++ (get_or us i [] ++ flat (drop (suc i) us))
unfolding flat
flat_at [] i h = absurd (omega arith)
flat_at (u ∷ us) zero h = refl
flat_at (u ∷ us) (suc i) h =
    ap (λ (l : List ℕ). u ++ l) (flat_at us i (omega arith))
    ∙ sym (append_assoc u (flat (take i us)) (get_or us i [] ++ flat (drop (suc i) us)))

pub length_flat_take : (us : List Slot) (i : ℕ) → every is_whole us ≡ true → i ≤ length us → length (flat (take i us)) ≡ slot_width * i
length_flat_take us i e h = length_flat (take i us) (every_take is_whole i us e) ∙ ap (λ (k : ℕ). slot_width * k) (length-take-le i us h)

pub length_flat_drop : (us : List Slot) (i : ℕ) → every is_whole us ≡ true → length (flat (drop i us)) ≡ slot_width * (length us - i)
length_flat_drop us i e = length_flat (drop i us) (every_drop is_whole i us e) ∙ ap (λ (k : ℕ). slot_width * k) (length-drop i us)

-- the slots of a store, as the library cuts words
pub chunks_slots : (k n : ℕ) (s : List ℕ) → k ≤ n → take k (first_chunks slot_width n s) ≡ slots k s
unfolding slots
chunks_slots zero n s h = refl
chunks_slots (suc k) zero s h = absurd (omega arith)
chunks_slots (suc k) (suc n) s h = ap (λ (us : List Slot). take slot_width s ∷ us) (chunks_slots k n (drop slot_width s) (omega arith))

-- what is read of a store's slots
module _ (s : List ℕ) (us : List Slot) (all : us ≡ slots (units_in (length s)) s) where
  pub slots_many : length us ≡ units_in (length s)
  slots_many = ap length all ∙ length_slots (units_in (length s)) s

  pub slots_are : (i : ℕ) (d : Slot) → i < length us → get_or us i d ≡ slot_at i s
  slots_are i d h = ap (λ (l : List Slot). get_or l i d) all ∙ slots_at (units_in (length s)) i s d (omega (arith, slots_many))
