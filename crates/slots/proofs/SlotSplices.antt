-- A run of slots replaced: the words that the edits leave are the encoding of the spliced list of slots.
-- Assumes nothing.
use mathlib.Core.Path.{◌≡◌, refl, sym, ◌∙◌, ap}
use mathlib.Core.Bool.{true}
use mathlib.Core.List.{List, [], ◌∷◌, ◌++◌, map, map-append, append_assoc, append-nil}
use Prim.Native.Nat.{ℕ, ◌+◌, ◌-◌, ◌*◌, ◌≤◌, ◌<◌}
use native.Mathlib.Omega.{arith}
use native.Mathlib.Decide.{dec_le}
use lib.ListN.{length, take, drop, replicate, length-append, length-drop, length-replicate, take-append-drop}
use lib.Seq.{length-take-le, take_at, drop_at, drop-drop, take-take, take-append-le}
use borrow.Author.Tests.{le-leb, lt-leb}
use Rattle.lists.specs.Lists.{every}
use Rattle.lists.proofs.Lists.{map_drop, map_take}
use Rattle.slots.specs.Slots.{Slot, slot_width, flat, encode, is_whole, opened, closed, written}
use Rattle.types.specs.Units.{units_in}
use Rattle.slots.specs.Runs.{spliced, resized, written_from}
use Rattle.slots.proofs.StoreWords.{slots_inside, flat_append, length_flat, length_flat_drop}
use Rattle.slots.proofs.StoreEncoding.{free, encode_free, free_add, length_encode, take_encode, drop_encode, drop_encode_all}
use Rattle.slots.proofs.SlotMoves.{shift}

-- a splice of a list in three parts
module _ {A : Type 0} where
  pub spliced_parts : (us vs ws new : List A) → spliced (length us) (length vs) new (us ++ (vs ++ ws)) ≡ us ++ (new ++ ws)
  unfolding spliced
  spliced_parts us vs ws new =
      let last : drop (length us + length vs) (us ++ (vs ++ ws)) ≡ ws =
      sym (drop-drop (length vs) (length us) (us ++ (vs ++ ws)))
      ∙ ap (drop (length vs)) (drop_at us (vs ++ ws) (length us) refl)
      ∙ drop_at vs ws (length vs) refl
      in
      rw (take_at us (vs ++ ws) (length us) refl, last)

  -- one element inserted
  pub spliced_insert : (i : ℕ) (u : A) (us : List A) → spliced i 0 (u ∷ []) us ≡ take i us ++ (u ∷ drop i us)
  unfolding spliced
  spliced_insert i u us =
      let e : i + 0 ≡ i = omega arith in
      rw e

  module _ (i n : ℕ) (new us : List A) where
    pub length_spliced : i + n ≤ length us → length (spliced i n new us) ≡ length us + length new - n
    unfolding spliced
    length_spliced h =
        length-append (take i us) (new ++ drop (i + n) us)
        ∙ rw (length-take-le i us (omega arith), length-append new (drop (i + n) us), length-drop (i + n) us) (omega arith)

pub map_spliced : {A B : Type 0} (f : A → B) (i n : ℕ) (new us : List A) → map f (spliced i n new us) ≡ spliced i n (map f new) (map f us)
unfolding spliced
map_spliced f i n new us =
    map-append f (take i us) (new ++ drop (i + n) us)
    ∙ rw (map_take f i us, map-append f new (drop (i + n) us), map_drop f (i + n) us)

-- slots written one after the other
pub written_from_none : (i : ℕ) (s : List ℕ) → written_from i [] s ≡ s
unfolding written_from flat
written_from_none i s =
    let e : i + 0 ≡ i = omega arith in
    rw e (take-append-drop (slot_width * i) s)

pub written_one : (i : ℕ) (u : Slot) (s : List ℕ) → written i u s ≡ written_from i (u ∷ []) s
unfolding written written_from flat
written_one i u s = rw (append-nil u)

pub written_next : (i : ℕ) (us : List Slot) (u : Slot) (s : List ℕ) → every is_whole us ≡ true → i ≤ units_in (length s) →
    written (i + length us) u (written_from i us s) ≡ written_from i (us ++ (u ∷ [])) s
unfolding written written_from flat
written_next i us u s e h =
    let k : ℕ = slot_width * (i + length us) in
    let a : List ℕ = take (slot_width * i) s in
    let p : List ℕ = a ++ flat us in
    let size : length p ≡ k =
    length-append a (flat us)
    ∙ rw (length-take-le (slot_width * i) s (slots_inside i (length s) h), length_flat us e) (omega arith)
    in
    let x : a ++ (flat us ++ drop k s) ≡ p ++ drop k s = sym (append_assoc a (flat us) (drop k s)) in
    let f : slot_width * (i + length us + 1) ≡ k + slot_width = omega arith in
    let last : drop (k + slot_width) (p ++ drop k s) ≡ drop (k + slot_width) s = shift p s k slot_width k (k + slot_width) size refl in
    let more : slot_width * (i + length (us ++ (u ∷ []))) ≡ k + slot_width = omega (arith, length-append us (u ∷ [])) in
    rw (x, take_at p (drop k s) k size, f, last, more, flat_append us (u ∷ []), append-nil u)
    (append_assoc a (flat us) (u ++ drop (k + slot_width) s)
    ∙ ap (λ (l : List ℕ). a ++ l) (sym (append_assoc (flat us) u (drop (k + slot_width) s))))

-- slots written over the first part of words
written_from_front : (i k : ℕ) (us : List Slot) (s t : List ℕ) → i + length us ≡ k → slot_width * k ≤ length s →
    written_from i us (take (slot_width * k) s ++ t) ≡ take (slot_width * i) s ++ (flat us ++ t)
unfolding written_from
written_from_front i k us s t e h =
    let x : List ℕ = take (slot_width * k) s in
    let size : length x ≡ slot_width * k = length-take-le (slot_width * k) s h in
    let first : take (slot_width * i) (x ++ t) ≡ take (slot_width * i) s =
    take-append-le (slot_width * i) x t (omega arith) ∙ take-take (slot_width * i) (slot_width * k) s (omega arith)
    in
    rw (first, e, drop_at x t (slot_width * k) size)

-- a store that holds slots, after each edit of its words
module _ (s : List ℕ) (us : List Slot) (whole : every is_whole us ≡ true) (fits : length us ≤ units_in (length s)) where
  drop_encode_past : (c : ℕ) → length us + c ≤ units_in (length s) → drop (slot_width * (length us + c)) (encode s us) ≡ free s (length us + c)
  drop_encode_past c h =
      let e : slot_width * (length us + c) ≡ slot_width * length us + slot_width * c = omega arith in
      ap (λ (k : ℕ). drop k (encode s us)) e
      ∙ sym (drop-drop (slot_width * c) (slot_width * length us) (encode s us))
      ∙ rw (drop_encode_all s us whole fits, free_add s (length us) c h)
      (drop_at (replicate (slot_width * c) 0) (free s (length us + c)) (slot_width * c) (length-replicate {A = ℕ} (slot_width * c) 0))

  -- the slots from i on
  rest_encode : (i : ℕ) → i ≤ length us → take (slot_width * (length us - i)) (drop (slot_width * i) (encode s us)) ≡ flat (drop i us)
  rest_encode i h =
      rw (drop_encode s us whole fits i h)
      (take_at (flat (drop i us)) (free s (length us)) (slot_width * (length us - i)) (length_flat_drop us i whole))

  opened_encode : (c i : ℕ) → i ≤ length us → length us + c ≤ units_in (length s) →
      opened c i (length us) (encode s us) ≡ take (slot_width * (i + c)) (encode s us) ++ (flat (drop i us) ++ free s (length us + c))
  unfolding opened
  opened_encode c i h g = rw (rest_encode i h, drop_encode_past c g)

  closed_encode : (c i : ℕ) → i + c ≤ length us →
      closed c i (length us) (encode s us) ≡ take (slot_width * i) (encode s us) ++ (flat (drop (i + c) us) ++ free s (length us - c))
  unfolding closed
  closed_encode c i h =
      let e : length us - c + c ≡ length us = omega arith in
      let f : free s (length us - c) ≡ replicate (slot_width * c) 0 ++ free s (length us) = free_add s (length us - c) c (omega arith) ∙ rw e in
      rw (rest_encode (i + c) h, drop_encode_all s us whole fits, f)

  resized_encode : (i n m : ℕ) → i + n ≤ length us → length us + m ≤ units_in (length s) + n →
      resized i n m (length us) (encode s us) ≡ take (slot_width * (i + m)) (encode s us) ++ (flat (drop (i + n) us) ++ free s (length us + m - n))
  unfolding resized
  resized_encode i n m h g = go (dec_le n m)
    where
      go : Dec (n ≤ m) →
          resized i n m (length us) (encode s us) ≡ take (slot_width * (i + m)) (encode s us) ++ (flat (drop (i + n) us) ++ free s (length us + m - n))
      go (yes l) =
          let e : i + n + (m - n) ≡ i + m = omega arith in
          let f : length us + (m - n) ≡ length us + m - n = omega arith in
          rw (le-leb n m l) (opened_encode (m - n) (i + n) h (omega arith) ∙ rw (e, f))
      go (no l) =
          let e : i + m + (n - m) ≡ i + n = omega arith in
          let f : length us - (n - m) ≡ length us + m - n = omega arith in
          rw (lt-leb n m (omega arith)) (closed_encode (n - m) (i + m) (omega arith) ∙ rw (e, f))

  encode_parts : (i n : ℕ) (new : List Slot) → i + n ≤ length us →
      flat (take i us) ++ (flat new ++ (flat (drop (i + n) us) ++ free s (length us + length new - n))) ≡ encode s (spliced i n new us)
  unfolding spliced
  encode_parts i n new h =
      sym (encode_free s (spliced i n new us)
      ∙ rw (length_spliced i n new us h, flat_append (take i us) (new ++ drop (i + n) us), flat_append new (drop (i + n) us), append_assoc, append_assoc))

  -- a run of slots replaced
  pub encode_spliced : (i n : ℕ) (new : List Slot) → i + n ≤ length us → length us + length new ≤ units_in (length s) + n →
      written_from i new (resized i n (length new) (length us) (encode s us)) ≡ encode s (spliced i n new us)
  encode_spliced i n new h g =
      let inside : slot_width * (i + length new) ≤ length (encode s us) =
      rw (length_encode s us whole fits) (slots_inside (i + length new) (length s) (omega arith))
      in
      ap (written_from i new) (resized_encode i n (length new) h g)
      ∙ written_from_front i (i + length new) new (encode s us) (flat (drop (i + n) us) ++ free s (length us + length new - n)) refl inside
      ∙ rw (take_encode s us whole fits i (omega arith)) (encode_parts i n new h)

  -- by as many
  pub encode_rewritten : (i : ℕ) (new : List Slot) → i + length new ≤ length us → written_from i new (encode s us) ≡ encode s (spliced i (length new) new us)
  unfolding written_from
  encode_rewritten i new h =
      let e : length us ≡ length us + length new - length new = omega arith in
      rw (take_encode s us whole fits i (omega arith), drop_encode s us whole fits (i + length new) h)
      (ap (λ (n : ℕ). flat (take i us) ++ (flat new ++ (flat (drop (i + length new) us) ++ free s n))) e ∙ encode_parts i (length new) new h)

  -- by none
  pub encode_removed : (i n : ℕ) → i + n ≤ length us → closed n i (length us) (encode s us) ≡ encode s (spliced i n [] us)
  unfolding flat
  encode_removed i n h =
      let e : length us - n ≡ length us + 0 - n = omega arith in
      closed_encode n i h
      ∙ rw (take_encode s us whole fits i (omega arith))
      (ap (λ (m : ℕ). flat (take i us) ++ (flat (drop (i + n) us) ++ free s m)) e ∙ encode_parts i n [] h)

  -- one slot inserted
  pub encode_inserted : (i : ℕ) (u : Slot) → i ≤ length us → length us < units_in (length s) →
      written i u (opened 1 i (length us) (encode s us)) ≡ encode s (spliced i 0 (u ∷ []) us)
  unfolding resized
  encode_inserted i u h g =
      let e : i + 0 ≡ i = omega arith in
      let same : resized i 0 1 (length us) (encode s us) ≡ opened 1 i (length us) (encode s us) = rw e in
      written_one i u (opened 1 i (length us) (encode s us))
      ∙ ap (written_from i (u ∷ [])) (sym same)
      ∙ encode_spliced i 0 (u ∷ []) (omega arith) (omega arith)

-- how a run is resized
module _ (i n m used : ℕ) (s t : List ℕ) where
  pub resized_up : n ≤ m → t ≡ opened (m - n) (i + n) used s → t ≡ resized i n m used s
  unfolding resized
  resized_up h e = rw (le-leb n m h) e

  pub resized_down : m < n → t ≡ closed (n - m) (i + m) used s → t ≡ resized i n m used s
  unfolding resized
  resized_down h e = rw (lt-leb n m h) e

-- a run that keeps its length keeps the words
pub opened_none : (i n : ℕ) (s : List ℕ) → i ≤ n → opened 0 i n s ≡ s
unfolding opened
opened_none i n s h =
    let e : i + 0 ≡ i = omega arith in
    let f : n + 0 ≡ n = omega arith in
    let g : slot_width * n ≡ slot_width * i + slot_width * (n - i) = omega arith in
    let rest : drop (slot_width * n) s ≡ drop (slot_width * (n - i)) (drop (slot_width * i) s) =
    ap (λ k. drop k s) g ∙ sym (drop-drop (slot_width * (n - i)) (slot_width * i) s)
    in
    rw (e, f, rest, take-append-drop (slot_width * (n - i)) (drop (slot_width * i) s)) (take-append-drop (slot_width * i) s)

pub resized_same : (i n m used : ℕ) (s : List ℕ) → n ≡ m → i + n ≤ used → s ≡ resized i n m used s
unfolding resized
resized_same i n m used s e h =
    let f : m - n ≡ 0 = omega arith in
    let g : n ≤ m = omega arith in
    sym (rw (le-leb n m g, f) (opened_none (i + n) used s h))
