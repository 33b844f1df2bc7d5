-- Rule 5 of a group store is what a scan decides: each slot passes, follows the one before it, the first is no member, and zeros come after.
-- Assumes nothing.
use mathlib.Core.Path.{◌≡◌, refl, sym, ◌∙◌, ap}
use mathlib.Core.Bool.{true, not, ◌&&◌}
use mathlib.Core.List.{List, [], ◌∷◌}
use Prim.Native.Nat.{ℕ, zero, suc}
use native.Mathlib.Omega.{arith}
use lib.Dec.{eqb}
use lib.ListN.{length, take, drop}
use borrow.Author.Tests.{eqb-false, lt-ltb, not-true}
use Rattle.lists.specs.Lists.{every}
use Rattle.lists.proofs.Bools.{and_both, and_left, and_right, same_test}
use Rattle.number.specs.Words.{AreWords}
use Rattle.number.proofs.Digits.{words_take, words_drop}
use Rattle.slots.specs.Slots.{Slot, slot_width, slots, encode, held, is_used, before, is_before, same_words, ordered, packed, neighbours, is_zero_from, sound}
use Rattle.slots.proofs.StoreEncoding.{held_whole, held_used, held_slots, encode_zero_from, packed_ordered}
use Rattle.slots.proofs.SlotOrder.{ordered_is_neighbours}
use Rattle.slots.proofs.SlotScans.{sound_zero, sound_every, sound_neighbours}
use Rattle.slots.proofs.ZeroWords.{words_same}
use Rattle.model.specs.Fine.{is_word, fine_updates, fine_group}
use Rattle.model.proofs.FineParts.{words_every}
use Rattle.group_slots.specs.Layout.{group_slots, gathered, groups_in, holding, fine_groups, group_valid}
use Rattle.group_slots.specs.Tests.{slot_test, is_member, belongs, follows, first_test}
use Rattle.group_slots.proofs.GroupHolding.{fine_valid, packed_valid, held_valid}
use Rattle.group_slots.proofs.GatheredSlots.{Regathers, are_words, regathers}
use Rattle.group_slots.proofs.ScanPassed.{slots_pass, slots_belong, slots_first}

-- two tests of neighbours are one
neighbours_both : (us : List Slot) → neighbours is_before us ≡ true → neighbours belongs us ≡ true → neighbours follows us ≡ true
unfolding neighbours follows
neighbours_both [] e f = refl
neighbours_both (u ∷ []) e f = refl
neighbours_both (u ∷ v ∷ us) e f =
    and_both (follows u v) (neighbours follows (v ∷ us))
    (and_both (is_before u v) (belongs u v) (and_left (is_before u v) (neighbours is_before (v ∷ us)) e) (and_left (belongs u v) (neighbours belongs (v ∷ us)) f))
    (neighbours_both (v ∷ us) (and_right (is_before u v) (neighbours is_before (v ∷ us)) e) (and_right (belongs u v) (neighbours belongs (v ∷ us)) f))

-- A slot that is not in use stands before every slot that is, and no member belongs to it.
abbrev nothing : Slot
nothing = 0 ∷ 0 ∷ 0 ∷ 0 ∷ []

first_after : (u : Slot) → is_used u ≡ true → is_before nothing u ≡ true
unfolding is_used is_before before
first_after [] h = absurd (let z : ◌≡◌ {A = ℕ} 0 1 = cc in omega arith)
first_after (x ∷ u) h = rw (lt-ltb 0 x (omega (arith, eqb-false x 0 (not-true (eqb x 0) h))))

first_belongs : (u : Slot) → not (is_member u) ≡ true → belongs nothing u ≡ true
unfolding belongs
first_belongs u h = rw (not-true (is_member u) h)

from_nothing : (us : List Slot) → every is_used us ≡ true → first_test us ≡ true → neighbours follows us ≡ true → neighbours follows (nothing ∷ us) ≡ true
unfolding every first_test neighbours follows
from_nothing [] a f n = refl
from_nothing (u ∷ us) a f n =
    and_both (follows nothing u) (neighbours follows (u ∷ us))
    (and_both (is_before nothing u) (belongs nothing u) (first_after u (and_left (is_used u) (every is_used us) a)) (first_belongs u f)) n

-- slots of words have words
slots_words : (n : ℕ) (s : List ℕ) → AreWords s → every are_words (slots n s) ≡ true
unfolding every slots are_words
slots_words zero s w = refl
slots_words (suc n) s w =
    and_both (every is_word (take slot_width s)) (every are_words (slots n (drop slot_width s)))
    (words_every (take slot_width s) (words_take slot_width s w)) (slots_words n (drop slot_width s) (words_drop slot_width s w))

module _ (s : List ℕ) where
  passes : group_valid s ≡ true → (first_test (held s) && sound slot_test follows s) ≡ true
  unfolding sound packed
  passes v =
      and_both (first_test (held s)) (is_zero_from (length (held s)) s && (every slot_test (held s) && neighbours follows (held s)))
      (ap first_test (held_valid s v) ∙ slots_first (groups_in s))
      (and_both (is_zero_from (length (held s)) s) (every slot_test (held s) && neighbours follows (held s))
      (and_left (is_zero_from (length (held s)) s) (ordered (held s)) (packed_valid s v))
      (and_both (every slot_test (held s)) (neighbours follows (held s))
      (ap (every slot_test) (held_valid s v) ∙ slots_pass (groups_in s) (fine_valid s v))
      (neighbours_both (held s) (sym (ordered_is_neighbours (held s)) ∙ packed_ordered s (packed_valid s v))
      (ap (neighbours belongs) (held_valid s v) ∙ slots_belong (groups_in s)))))

  module _ (w : AreWords s) (f : first_test (held s) ≡ true) (t : sound slot_test follows s ≡ true) where
    from_slots : Regathers nothing (held s) (gathered (held s))
    from_slots =
        regathers (held s) nothing (omega arith) (held_whole s) (ap (every are_words) (held_slots s) ∙ slots_words (length (held s)) s w)
        (sound_every slot_test follows s t) (from_nothing (held s) (held_used s) f (sound_neighbours slot_test follows s t))

    slots_again : group_slots (groups_in s) ≡ held s
    unfolding group_slots groups_in
    slots_again =
        let none : (gathered (held s)).waiting ≡ [] = from_slots.alone (λ h. omega arith) in
        rw none at from_slots.again

    holding_again : holding s (groups_in s) ≡ s
    unfolding holding
    holding_again = ap (encode s) slots_again ∙ encode_zero_from s (sound_zero slot_test follows s t)

    all_fine : fine_groups (groups_in s) ≡ true
    unfolding fine_groups groups_in
    all_fine = and_both (fine_updates (gathered (held s)).updates) (fine_group (gathered (held s)).committed) from_slots.updates from_slots.committed

    is_valid_lem : group_valid s ≡ true
    unfolding group_valid
    is_valid_lem =
        and_both (same_words (holding s (groups_in s)) s) (fine_groups (groups_in s)) (ap (λ (l : List ℕ). same_words l s) holding_again ∙ words_same s) all_fine

  pub valid_sound : AreWords s → group_valid s ≡ (first_test (held s) && sound slot_test follows s)
  valid_sound w =
      same_test (group_valid s) (first_test (held s) && sound slot_test follows s) passes
      (λ h. is_valid_lem w (and_left (first_test (held s)) (sound slot_test follows s) h) (and_right (first_test (held s)) (sound slot_test follows s) h))
