-- A store that holds slots: what is written is held, a packed store is the encoding of what it holds, and how its words are read.
-- Assumes nothing.
use mathlib.Core.Path.{◌≡◌, refl, sym, ◌∙◌, ap}
use mathlib.Core.Bool.{true, false}
use mathlib.Core.List.{List, [], ◌++◌, append_assoc, append-nil}
use Prim.Native.Nat.{ℕ, zero, suc, ◌+◌, ◌-◌, ◌*◌, ◌≤◌, ◌<◌}
use native.Mathlib.Omega.{arith}
use lib.ListN.{length, get_or, take, drop, replicate, length-append, length-drop, length-replicate, take-append-drop, get_or-replicate, get_or-append, replicate-append-replicate}
use lib.Seq.{length-take-le, take_at, drop_at, drop-drop, get_or-take}
use Rattle.lists.specs.Lists.{every, front}
use Rattle.lists.proofs.Bools.{and_left, and_right}
use Rattle.lists.proofs.Lists.{every_front, every_take, front_append, front_long, front_stop, front_take, length_front}
use Rattle.slots.specs.Slots.{Slot, slot_width, flat, encode, slots, slot_at, is_whole, is_used, held, ordered, is_zero_from, packed}
use Rattle.types.specs.Units.{units_in}
use Rattle.slots.proofs.StoreWords.{slots_inside, length_flat, flat_split, length_flat_take, length_slots, slots_add, take_slots, every_whole, slots_flat, flat_slots, slots_at, slot_at_word}
use Rattle.slots.proofs.ZeroWords.{all_zero_replicate, all_zero_told}

-- What follows n slots in use: zeros up to the last slot, and the words past it.
unfoldable pub free : List ℕ → ℕ → List ℕ
free s n = replicate (slot_width * (units_in (length s) - n)) 0 ++ drop (slot_width * units_in (length s)) s

pub encode_free : (s : List ℕ) (us : List Slot) → encode s us ≡ flat us ++ free s (length us)
unfolding encode free
encode_free s us = refl

pub length_free : (s : List ℕ) (n : ℕ) → n ≤ units_in (length s) → length (free s n) ≡ length s - slot_width * n
unfolding free
length_free s n h =
    length-append (replicate (slot_width * (units_in (length s) - n)) 0) (drop (slot_width * units_in (length s)) s)
    ∙ rw (length-replicate {A = ℕ} (slot_width * (units_in (length s) - n)) 0, length-drop (slot_width * units_in (length s)) s)
    (omega (arith, slots_inside (units_in (length s)) (length s) (omega arith)))

-- what is free after n slots is c slots of zeros and what is free after n + c
pub free_add : (s : List ℕ) (n c : ℕ) → n + c ≤ units_in (length s) → free s n ≡ replicate (slot_width * c) 0 ++ free s (n + c)
unfolding free
free_add s n c h =
    let e : slot_width * (units_in (length s) - n) ≡ slot_width * c + slot_width * (units_in (length s) - (n + c)) = omega arith in
    rw (e, ← replicate-append-replicate {A = ℕ} (slot_width * c) (slot_width * (units_in (length s) - (n + c))) 0)
    (append_assoc (replicate (slot_width * c) 0) (replicate (slot_width * (units_in (length s) - (n + c))) 0) (drop (slot_width * units_in (length s)) s))

take_free : (s : List ℕ) (n : ℕ) → take (slot_width * (units_in (length s) - n)) (free s n) ≡ replicate (slot_width * (units_in (length s) - n)) 0
unfolding free
take_free s n =
    take_at (replicate (slot_width * (units_in (length s) - n)) 0) (drop (slot_width * units_in (length s)) s) (slot_width * (units_in (length s) - n))
    (length-replicate (slot_width * (units_in (length s) - n)) 0)

drop_free : (s : List ℕ) (n : ℕ) → drop (slot_width * (units_in (length s) - n)) (free s n) ≡ drop (slot_width * units_in (length s)) s
unfolding free
drop_free s n =
    drop_at (replicate (slot_width * (units_in (length s) - n)) 0) (drop (slot_width * units_in (length s)) s) (slot_width * (units_in (length s) - n))
    (length-replicate (slot_width * (units_in (length s) - n)) 0)

-- a slot of zeros is not in use
zero_unused : (n : ℕ) (t : List ℕ) → 0 < n → is_used (take slot_width (replicate n 0 ++ t)) ≡ false
unfolding is_used
zero_unused n t h =
    let e : get_or (take slot_width (replicate n 0 ++ t)) 0 0 ≡ 0 =
    get_or-take slot_width (replicate n 0 ++ t) 0 0 (omega arith)
    ∙ get_or-append (replicate n 0) t 0 0 (rw (length-replicate {A = ℕ} n 0) h)
    ∙ get_or-replicate n 0 0 0 h
    in
    rw e

front_zeros : (m : ℕ) (t : List ℕ) → front is_used (slots m (replicate (slot_width * m) 0 ++ t)) ≡ []
unfolding slots front
front_zeros zero t = refl
front_zeros (suc m) t = rw (zero_unused (slot_width * suc m) t (omega arith))

-- an encoding takes only the length of a store and the words past its last slot
pub encode_like : (s t : List ℕ) (us : List Slot) → length s ≡ length t → drop (slot_width * units_in (length t)) s ≡ drop (slot_width * units_in (length t)) t → encode s us ≡ encode t us
unfolding encode
encode_like s t us e f = rw (e, f)

module _ (s : List ℕ) (us : List Slot) (whole : every is_whole us ≡ true) (fits : length us ≤ units_in (length s)) where
  pub length_encode : length (encode s us) ≡ length s
  length_encode =
      ap length (encode_free s us)
      ∙ length-append (flat us) (free s (length us))
      ∙ rw (length_flat us whole, length_free s (length us) fits)
      (omega (arith, slots_inside (length us) (length s) fits))

  pub take_encode : (i : ℕ) → i ≤ length us → take (slot_width * i) (encode s us) ≡ flat (take i us)
  take_encode i h =
      rw (encode_free s us, flat_split us i, append_assoc)
      (take_at (flat (take i us)) (flat (drop i us) ++ free s (length us)) (slot_width * i) (length_flat_take us i whole h))

  pub drop_encode : (i : ℕ) → i ≤ length us → drop (slot_width * i) (encode s us) ≡ flat (drop i us) ++ free s (length us)
  drop_encode i h =
      rw (encode_free s us, flat_split us i, append_assoc)
      (drop_at (flat (take i us)) (flat (drop i us) ++ free s (length us)) (slot_width * i) (length_flat_take us i whole h))

  pub drop_encode_all : drop (slot_width * length us) (encode s us) ≡ free s (length us)
  drop_encode_all = rw (encode_free s us) (drop_at (flat us) (free s (length us)) (slot_width * length us) (length_flat us whole))

  -- words past the last slot are those of `s`
  pub drop_encode_past : drop (slot_width * units_in (length s)) (encode s us) ≡ drop (slot_width * units_in (length s)) s
  drop_encode_past =
      let e : slot_width * units_in (length s) ≡ slot_width * length us + slot_width * (units_in (length s) - length us) = omega arith in
      ap (λ (k : ℕ). drop k (encode s us)) e
      ∙ sym (drop-drop (slot_width * (units_in (length s) - length us)) (slot_width * length us) (encode s us))
      ∙ rw drop_encode_all (drop_free s (length us))

  slots_encode : slots (units_in (length s)) (encode s us) ≡ us ++ slots (units_in (length s) - length us) (free s (length us))
  slots_encode =
      let e : units_in (length s) ≡ length us + (units_in (length s) - length us) = omega arith in
      let f : slots (length us) (encode s us) ≡ us = rw (encode_free s us) (slots_flat us (free s (length us)) whole) in
      ap (λ (k : ℕ). slots k (encode s us)) e
      ∙ slots_add (length us) (units_in (length s) - length us) (encode s us)
      ∙ rw (f, drop_encode_all)

  pub encode_encode : (vs : List Slot) → encode (encode s us) vs ≡ encode s vs
  encode_encode vs = encode_like (encode s us) s vs length_encode drop_encode_past

  pub zero_from_encode : is_zero_from (length us) (encode s us) ≡ true
  unfolding is_zero_from
  zero_from_encode = rw (length_encode, drop_encode_all, take_free s (length us), all_zero_replicate (slot_width * (units_in (length s) - length us)))

  module _ (used : every is_used us ≡ true) where
    -- what is written is held
    pub held_encode : held (encode s us) ≡ us
    unfolding held free
    held_encode =
        rw (length_encode, slots_encode, front_append is_used us (slots (units_in (length s) - length us) (free s (length us))) used)
        (rw (front_zeros (units_in (length s) - length us) (drop (slot_width * units_in (length s)) s)) (append-nil us))

    pub packed_encode : packed (encode s us) ≡ ordered us
    unfolding packed
    packed_encode = rw (held_encode, zero_from_encode)

-- a packed store is the encoding of what it holds
pub held_whole : (s : List ℕ) → every is_whole (held s) ≡ true
unfolding held
held_whole s =
    rw (front_take is_used (slots (units_in (length s)) s))
    (every_take is_whole (length (front is_used (slots (units_in (length s)) s))) (slots (units_in (length s)) s)
    (every_whole (units_in (length s)) s (slots_inside (units_in (length s)) (length s) (omega arith))))

pub held_used : (s : List ℕ) → every is_used (held s) ≡ true
unfolding held
held_used s = every_front is_used (slots (units_in (length s)) s)

pub held_fits : (s : List ℕ) → length (held s) ≤ units_in (length s)
unfolding held
held_fits s = omega (arith, length_front is_used (slots (units_in (length s)) s), length_slots (units_in (length s)) s)

pub packed_ordered : (s : List ℕ) → packed s ≡ true → ordered (held s) ≡ true
unfolding packed
packed_ordered s e =
    and_right (is_zero_from (length (held s)) s) (ordered (held s)) e

held_first_lem : (s : List ℕ) → held s ≡ take (length (held s)) (slots (units_in (length s)) s)
unfolding held
held_first_lem s = front_take is_used (slots (units_in (length s)) s)

pub held_slots : (s : List ℕ) → held s ≡ slots (length (held s)) s
held_slots s = held_first_lem s ∙ take_slots (length (held s)) (units_in (length s)) s (held_fits s)

pub held_at : (s : List ℕ) (i : ℕ) → i < length (held s) → get_or (held s) i [] ≡ slot_at i s
held_at s i h = ap (λ (l : List Slot). get_or l i []) (held_slots s) ∙ slots_at (length (held s)) i s [] h

-- slots in use at the front are held, and no more where the next one is not in use
pub held_long : (s : List ℕ) (i : ℕ) → i ≤ units_in (length s) → every is_used (slots i s) ≡ true → i ≤ length (held s)
unfolding held
held_long s i h e =
    front_long is_used i (slots (units_in (length s)) s) (rw (length_slots (units_in (length s)) s) h)
    (rw (take_slots i (units_in (length s)) s h) e)

pub held_stop : (s : List ℕ) (i : ℕ) → i < units_in (length s) → every is_used (slots i s) ≡ true → is_used (slot_at i s) ≡ false → held s ≡ slots i s
unfolding held
held_stop s i h e f =
    front_stop is_used i (slots (units_in (length s)) s) [] (rw (length_slots (units_in (length s)) s) h)
    (rw (take_slots i (units_in (length s)) s (omega arith)) e)
    (rw (slots_at (units_in (length s)) i s [] h) f)
    ∙ take_slots i (units_in (length s)) s (omega arith)

flat_held : (s : List ℕ) → flat (held s) ≡ take (slot_width * length (held s)) s
flat_held s = ap flat (held_slots s) ∙ flat_slots (length (held s)) s

-- slots that are all zero are free
zero_free : (s : List ℕ) (n : ℕ) → n ≤ units_in (length s) → is_zero_from n s ≡ true → drop (slot_width * n) s ≡ free s n
unfolding is_zero_from free
zero_free s n h e =
    let k : ℕ = slot_width * (units_in (length s) - n) in
    let inside : slot_width * units_in (length s) ≤ length s = slots_inside (units_in (length s)) (length s) (omega arith) in
    let size : length (take k (drop (slot_width * n) s)) ≡ k = length-take-le k (drop (slot_width * n) s) (rw (length-drop (slot_width * n) s) (omega arith)) in
    let zeros : take k (drop (slot_width * n) s) ≡ replicate k 0 =
    all_zero_told (take k (drop (slot_width * n) s)) e ∙ ap (λ (j : ℕ). replicate j 0) size
    in
    let sum : slot_width * n + k ≡ slot_width * units_in (length s) = omega arith in
    let past : drop k (drop (slot_width * n) s) ≡ drop (slot_width * units_in (length s)) s =
    drop-drop k (slot_width * n) s ∙ ap (λ (j : ℕ). drop j s) sum
    in
    sym (take-append-drop k (drop (slot_width * n) s)) ∙ rw (zeros, past)

pub encode_zero_from : (s : List ℕ) → is_zero_from (length (held s)) s ≡ true → encode s (held s) ≡ s
encode_zero_from s e =
    encode_free s (held s)
    ∙ rw (flat_held s, ← zero_free s (length (held s)) (held_fits s) e)
    (take-append-drop (slot_width * length (held s)) s)

pub encode_held : (s : List ℕ) → packed s ≡ true → encode s (held s) ≡ s
unfolding packed
encode_held s e = encode_zero_from s (and_left (is_zero_from (length (held s)) s) (ordered (held s)) e)

-- a cleared store holds nothing
pub encode_cleared : (n : ℕ) → encode (replicate n 0) [] ≡ replicate n 0
unfolding encode flat
encode_cleared n =
    let s : List ℕ = replicate n 0 in
    let k : ℕ = slot_width * units_in (length s) in
    let size : length s ≡ n = length-replicate {A = ℕ} n 0 in
    let inside : k ≤ length s = slots_inside (units_in (length s)) (length s) (omega arith) in
    let e : n ≡ k + (n - k) = omega arith in
    let f : slot_width * (units_in (length s) - 0) ≡ k = omega arith in
    let g : s ≡ replicate k 0 ++ replicate (n - k) 0 = ap (λ (j : ℕ). replicate {A = ℕ} j 0) e ∙ sym (replicate-append-replicate {A = ℕ} k (n - k) 0) in
    let h : drop k s ≡ replicate (n - k) 0 = ap (drop k) g ∙ drop_at (replicate {A = ℕ} k 0) (replicate {A = ℕ} (n - k) 0) k (length-replicate {A = ℕ} k 0) in
    rw (f, h) (sym g)

pub held_cleared : (n : ℕ) → held (replicate n 0) ≡ []
unfolding every
held_cleared n = rw (← encode_cleared n) (held_encode (replicate n 0) [] refl (omega arith) refl)

-- reading a store that holds slots
module _ (s : List ℕ) (us : List Slot) (whole : every is_whole us ≡ true) (fits : length us ≤ units_in (length s)) where
  pub slot_at_encode : (i : ℕ) → i < length us → slot_at i (encode s us) ≡ get_or us i []
  slot_at_encode i h =
      let e : slots (length us) (encode s us) ≡ us = rw (encode_free s us) (slots_flat us (free s (length us)) whole) in
      sym (slots_at (length us) i (encode s us) [] h) ∙ ap (λ (l : List Slot). get_or l i []) e

  pub word_encode : (i j : ℕ) → i < length us → j < slot_width → get_or (encode s us) (slot_width * i + j) 0 ≡ get_or (get_or us i []) j 0
  word_encode i j h g = sym (slot_at_word i j (encode s us) g) ∙ ap (λ (u : Slot). get_or u j 0) (slot_at_encode i h)

  -- the other slots are not in use
  pub unused_encode : (i : ℕ) → length us ≤ i → i < units_in (length s) → is_used (slot_at i (encode s us)) ≡ false
  unfolding slot_at free
  unused_encode i h g =
      let k : ℕ = slot_width * (i - length us) in
      let n : ℕ = slot_width * (units_in (length s) - i) in
      let p : List ℕ = drop (slot_width * units_in (length s)) s in
      let e : slot_width * i ≡ slot_width * length us + k = omega arith in
      let f : slot_width * (units_in (length s) - length us) ≡ k + n = omega arith in
      let d : drop (slot_width * i) (encode s us) ≡ replicate n 0 ++ p =
      ap (λ (j : ℕ). drop j (encode s us)) e
      ∙ sym (drop-drop k (slot_width * length us) (encode s us))
      ∙ rw (drop_encode_all s us whole fits, f, ← replicate-append-replicate {A = ℕ} k n 0, append_assoc)
      (drop_at (replicate {A = ℕ} k 0) (replicate {A = ℕ} n 0 ++ p) k (length-replicate {A = ℕ} k 0))
      in
      rw d (zero_unused n p (omega arith))
