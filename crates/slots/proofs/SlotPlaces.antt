-- The place of four words among slots in order: it splits them, search finds it, and inserting there keeps the order.
-- Assumes nothing.
use mathlib.Core.Path.{◌≡◌, refl, sym, ◌∙◌, ap}
use mathlib.Core.Bool.{Bool, true, false, cond, not, ◌&&◌}
use mathlib.Core.List.{List, [], ◌∷◌}
use Prim.Native.Nat.{ℕ, ◌+◌, ◌-◌, ◌≤◌, ◌<◌}
use native.Mathlib.Omega.{arith}
use native.Mathlib.Decide.{dec_lt}
use lib.Dec.{ltb}
use lib.ListN.{length, get_or, take, drop, length-drop}
use lib.Seq.{length-take-le, get_or-take, get_or-drop}
use borrow.Author.Tests.{not-true, ltb-true, ltb-false, lt-ltb, le-ltb}
use Rattle.lists.specs.Lists.{every, front}
use Rattle.lists.proofs.Bools.{and_left, and_right, true_not_false}
use Rattle.lists.proofs.Lists.{every_at, every_front, every_imp, every_of, front_take, length_front}
use Rattle.slots.specs.Slots.{Slot, is_whole, is_used, slots, slot_at, held, packed, encode, before, is_before, same_words, is_at, ordered, place_of}
use Rattle.types.specs.Units.{units_in}
use Rattle.slots.proofs.StoreWords.{whole_length, slots_many, slots_are}
use Rattle.slots.proofs.StoreEncoding.{held_whole, held_used, held_fits, packed_ordered, encode_held, slot_at_encode, unused_encode}
use Rattle.slots.proofs.SlotOrder.{before_irrefl, before_trans, Side, lower, level, upper, side, ordered_at}
use Rattle.slots.proofs.ZeroWords.{same_words_lem, words_same}

module _ (k : List ℕ) where
  pub place_fits : (us : List Slot) → place_of k us ≤ length us
  unfolding place_of
  place_fits us = length_front (λ u. before (take 4 u) k) us

  pub front_place : (us : List Slot) → front (λ u. before (take 4 u) k) us ≡ take (place_of k us) us
  unfolding place_of
  front_place us = front_take (λ u. before (take 4 u) k) us

  -- all before the place stand before the four words, and none from the place on
  pub take_place : (us : List Slot) → every (λ u. before (take 4 u) k) (take (place_of k us) us) ≡ true
  take_place us = rw (← front_place us) (every_front (λ u. before (take 4 u) k) us)

  -- what stands after a slot that is not before the words is not before them either
  none_after : (u : Slot) (us : List Slot) → before (take 4 u) k ≡ false → every (is_before u) us ≡ true → every (λ v. not (before (take 4 v) k)) us ≡ true
  unfolding is_before
  none_after u us e f = every_imp (is_before u) (λ v. not (before (take 4 v) k)) (λ v g. go v g (before (take 4 v) k) refl) us f
    where
      go : (v : Slot) → is_before u v ≡ true → (b : Bool) → before (take 4 v) k ≡ b → not (before (take 4 v) k) ≡ true
      go v g true h = true_not_false (before (take 4 u) k) (before_trans (take 4 u) (take 4 v) k g h) e
      go v g false h = rw h

  pub drop_place : (us : List Slot) → ordered us ≡ true → every (λ u. not (before (take 4 u) k)) (drop (place_of k us) us) ≡ true
  unfolding place_of front ordered every
  drop_place [] e = refl
  drop_place (u ∷ us) e = go (before (take 4 u) k) refl (drop_place us (and_right (every (is_before u) us) (ordered us) e))
    where
      go : (b : Bool) → before (take 4 u) k ≡ b → every (λ v. not (before (take 4 v) k)) (drop (place_of k us) us) ≡ true →
          every (λ v. not (before (take 4 v) k)) (drop (place_of k (u ∷ us)) (u ∷ us)) ≡ true
      go true f ih = rw f ih
      go false f ih = rw (f, f) (none_after u us f (and_left (every (is_before u) us) (ordered us) e))

  -- a slot is before the four words exactly where its index is below the place
  pub place_test : (us : List Slot) (i : ℕ) → ordered us ≡ true → i < length us → before (take 4 (get_or us i [])) k ≡ ltb i (place_of k us)
  place_test us i e h = go (dec_lt i (place_of k us))
    where
      go : Dec (i < place_of k us) → before (take 4 (get_or us i [])) k ≡ ltb i (place_of k us)
      go (yes l) =
          let size : length (take (place_of k us) us) ≡ place_of k us = length-take-le (place_of k us) us (place_fits us) in
          let f : before (take 4 (get_or (take (place_of k us) us) i [])) k ≡ true =
          every_at (λ u. before (take 4 u) k) (take (place_of k us) us) i [] (omega arith) (take_place us)
          in
          rw (lt-ltb i (place_of k us) l, ← get_or-take (place_of k us) us i [] l) f
      go (no l) =
          let j : ℕ = i - place_of k us in
          let sum : place_of k us + j ≡ i = omega arith in
          let size : length (drop (place_of k us) us) ≡ length us - place_of k us = length-drop (place_of k us) us in
          let f : not (before (take 4 (get_or (drop (place_of k us) us) j [])) k) ≡ true =
          every_at (λ u. not (before (take 4 u) k)) (drop (place_of k us) us) j [] (omega arith) (drop_place us e)
          in
          let g : get_or (drop (place_of k us) us) j [] ≡ get_or us i [] = get_or-drop (place_of k us) us j [] ∙ ap (λ (m : ℕ). get_or us m []) sum in
          rw (le-ltb i (place_of k us) (omega arith), ← g) (not-true (before (take 4 (get_or (drop (place_of k us) us) j [])) k) f)

  module _ (f : List Slot → List Slot) (nil : f [] ≡ []) (cons : (u : Slot) (us : List Slot) → f (u ∷ us) ≡ cond (before (take 4 u) k) (u ∷ f us) (f us)) where
    filter_none : (us : List Slot) → every (λ u. not (before (take 4 u) k)) us ≡ true → f us ≡ []
    unfolding every
    filter_none [] e = nil
    filter_none (u ∷ us) e =
        let g : before (take 4 u) k ≡ false =
        not-true (before (take 4 u) k) (and_left (not (before (take 4 u) k)) (every (λ v. not (before (take 4 v) k)) us) e)
        in
        cons u us ∙ rw g (filter_none us (and_right (not (before (take 4 u) k)) (every (λ v. not (before (take 4 v) k)) us) e))

    -- where slots are in order, the filter by a test on the four words is the front
    pub front_filter : (us : List Slot) → ordered us ≡ true → f us ≡ front (λ u. before (take 4 u) k) us
    unfolding front ordered
    front_filter [] e = nil
    front_filter (u ∷ us) e = go (before (take 4 u) k) refl (front_filter us (and_right (every (is_before u) us) (ordered us) e))
      where
        go : (b : Bool) → before (take 4 u) k ≡ b → f us ≡ front (λ v. before (take 4 v) k) us → f (u ∷ us) ≡ front (λ v. before (take 4 v) k) (u ∷ us)
        go true g ih = cons u us ∙ rw (g, ih)
        go false g ih = cons u us ∙ rw g (filter_none us (none_after u us g (and_left (every (is_before u) us) (ordered us) e)))

  pub nothing_at : length k ≡ 4 → is_at k [] ≡ false
  unfolding is_at same_words
  nothing_at l = go k l
    where
      go : (xs : List ℕ) → length xs ≡ 4 → same_words [] xs ≡ false
      go [] e = absurd (omega arith)
      go (x ∷ xs) e = refl

  pub at_level : (u : Slot) → is_at k u ≡ true → take 4 u ≡ k
  unfolding is_at
  at_level u e = same_words_lem (take 4 u) k e

  -- the slot at the four words, if there is one, stands at their place
  pub at_place : (us : List Slot) (i : ℕ) → ordered us ≡ true → i < length us → is_at k (get_or us i []) ≡ true → i ≡ place_of k us
  unfolding is_before
  at_place us i e h f = go (dec_lt i (place_of k us)) (dec_lt (place_of k us) i)
    where
      here : take 4 (get_or us i []) ≡ k
      here = at_level (get_or us i []) f

      go : Dec (i < place_of k us) → Dec (place_of k us < i) → i ≡ place_of k us
      go (yes l) d =
          true_not_false (before k k) (rw here at (place_test us i e h ∙ lt-ltb i (place_of k us) l)) (before_irrefl k)
      go (no l) (yes g) =
          true_not_false (before (take 4 (get_or us (place_of k us) [])) k)
          (rw here at (ordered_at us (place_of k us) i e g h))
          (place_test us (place_of k us) e (omega arith) ∙ le-ltb (place_of k us) (place_of k us) (omega arith))
      go (no l) (no g) = omega arith

  -- a slot that is neither before the four words nor at them is after them
  after : (u : Slot) → length k ≡ 4 → is_whole u ≡ true → before (take 4 u) k ≡ false → is_at k u ≡ false → before k (take 4 u) ≡ true
  unfolding is_at
  after u l w e f = go (side (take 4 u) k (length-take-le 4 u (omega (arith, whole_length u w)) ∙ sym l))
    where
      go : Side (take 4 u) k → before k (take 4 u) ≡ true
      go (lower g) = true_not_false (before (take 4 u) k) g e
      go (level g) = true_not_false (same_words (take 4 u) k) (rw g (words_same k)) f
      go (upper g) = g

  pub absent_all : (us : List Slot) → ordered us ≡ true → is_at k (get_or us (place_of k us) []) ≡ false → every (λ v. not (is_at k v)) us ≡ true
  absent_all us e f = every_of (λ v. not (is_at k v)) us [] (λ i h. go i h (is_at k (get_or us i [])) refl)
    where
      go : (i : ℕ) → i < length us → (b : Bool) → is_at k (get_or us i []) ≡ b → not (is_at k (get_or us i [])) ≡ true
      go i h true g = true_not_false (is_at k (get_or us (place_of k us) [])) (rw (at_place us i e h g) at g) f
      go i h false g = rw g

-- what a search reads of a packed store: slots not in use count as after everything
module _ (s : List ℕ) (rising : packed s ≡ true) (i : ℕ) (h : i < units_in (length s)) where
  -- the store as the encoding of what it holds
  at_held : {A : Type 0} (f : Slot → A) (a : A) → f (slot_at i (encode s (held s))) ≡ a → f (slot_at i s) ≡ a
  at_held f a e = ap (λ (w : List ℕ). f (slot_at i w)) (sym (encode_held s rising)) ∙ e

  pub slot_at_held : i < length (held s) → slot_at i s ≡ get_or (held s) i []
  slot_at_held l = at_held (λ u. u) (get_or (held s) i []) (slot_at_encode s (held s) (held_whole s) (held_fits s) i l)

  pub used_test : is_used (slot_at i s) ≡ ltb i (length (held s))
  used_test = go (dec_lt i (length (held s)))
    where
      go : Dec (i < length (held s)) → is_used (slot_at i s) ≡ ltb i (length (held s))
      go (yes l) = rw (slot_at_held l, lt-ltb i (length (held s)) l) (every_at is_used (held s) i [] l (held_used s))
      go (no l) =
          rw (le-ltb i (length (held s)) (omega arith))
          (at_held is_used false (unused_encode s (held s) (held_whole s) (held_fits s) i (omega arith) h))

  pub search_test : (k : List ℕ) → (is_used (slot_at i s) && before (take 4 (slot_at i s)) k) ≡ ltb i (place_of k (held s))
  search_test k = go (dec_lt i (length (held s)))
    where
      go : Dec (i < length (held s)) → (is_used (slot_at i s) && before (take 4 (slot_at i s)) k) ≡ ltb i (place_of k (held s))
      go (yes l) =
          rw (used_test, lt-ltb i (length (held s)) l, slot_at_held l)
          (place_test k (held s) i (packed_ordered s rising) l)
      go (no l) =
          rw (used_test, le-ltb i (length (held s)) (omega arith))
          (sym (le-ltb i (place_of k (held s)) (omega (arith, place_fits k (held s)))))

-- where slot i passes a test just where i is below m, a search for the first that fails ends at m
module _ (p : Slot → Bool) (s : List ℕ) (m : ℕ) (few : m ≤ units_in (length s)) (tells : (i : ℕ) → i < units_in (length s) → p (slot_at i s) ≡ ltb i m) (us : List Slot)
    (all : us ≡ slots (units_in (length s)) s) where
  many : length us ≡ units_in (length s)
  many = slots_many s us all

  tells_at : (i : ℕ) (d : Slot) → i < length us → p (get_or us i d) ≡ ltb i m
  tells_at i d h =
      ap p (slots_are s us all i d h) ∙ tells i (omega (arith, many))

  pub point_is : (r : ℕ) → r ≤ length us → (0 < r → true ≡ p (get_or us (r - 1) [])) → (r < length us → false ≡ p (get_or us r [])) → r ≡ m
  point_is r within last first =
      let low : r ≤ m = below (dec_lt 0 r) in
      let high : m ≤ r = above (dec_lt r (length us)) in
      omega arith
    where
      below : Dec (0 < r) → r ≤ m
      below (yes h) = omega (arith, ltb-true (r - 1) m (sym (tells_at (r - 1) [] (omega arith)) ∙ sym (last h)))
      below (no h) = omega arith

      above : Dec (r < length us) → m ≤ r
      above (yes h) = ltb-false r m (sym (tells_at r [] h) ∙ sym (first h))
      above (no h) = omega (arith, many)
