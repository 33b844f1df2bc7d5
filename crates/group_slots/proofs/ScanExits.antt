-- The scan of a group store: its first slot, and the turns of its loop.
-- Assumes nothing.
use mathlib.Core.Path.{◌≡◌, refl, sym, ◌∙◌}
use mathlib.Core.Bool.{Bool, true, false, not}
use mathlib.Core.List.{List, [], ◌∷◌}
use Rattle.std.proofs.Common.{Some}
use Rattle.std.specs.List.{slice_get}
use Prim.Native.Nat.{ℕ, zero, suc, ◌+◌, ◌-◌, ◌<◌}
use native.Mathlib.Omega.{arith}
use lib.Dec.{eqb}
use lib.ListN.{length, get_or, take}
use borrow.Author.Tests.{ne_eqb, eqb-true, not-false}
use Rattle.lists.specs.Lists.{front}
use Rattle.slots.specs.Slots.{Slot, slot_width, slots, slot_at, is_used, held, joined, is_zero_from, sound}
use Rattle.types.specs.Units.{units_in}
use Rattle.slots.proofs.StoreWords.{slots_many, slots_are}
use Rattle.slots.proofs.SlotScans.{passed, passed_more, joined_first, joined_next, scan_done, scan_stop, scan_not_ok, scan_not_joined}
use Rattle.group_slots.specs.Tests.{slot_test, is_member, follows, first_test}

-- ---- the first slot

unused_no_member : (u : Slot) → is_used u ≡ false → is_member u ≡ false
unfolding is_used is_member
unused_no_member u h = rw (ne_eqb (get_or u 0 0) 1 (omega (arith, eqb-true (get_or u 0 0) 0 (not-false (eqb (get_or u 0 0) 0) h))))

first_slots : (n : ℕ) (s : List ℕ) → 0 < n → not (is_member (slot_at 0 s)) ≡ first_test (front is_used (slots n s))
unfolding slots front first_test slot_at
first_slots zero s h = absurd (omega arith)
first_slots (suc n) s h = go (is_used (take slot_width s)) refl
  where
    go : (b : Bool) → is_used (take slot_width s) ≡ b → not (is_member (take slot_width s)) ≡ first_test (front is_used (slots (suc n) s))
    go true e = rw e
    go false e = rw (e, unused_no_member (take slot_width s) e)

module _ (s : List ℕ) (us : List Slot) (all : us ≡ slots (units_in (length s)) s) where
  pub first_none : length us ≡ 0 → true ≡ first_test (held s)
  unfolding held slots front first_test
  first_none h =
      let z : units_in (length s) ≡ 0 = sym (slots_many s us all) ∙ h in
      rw z

  pub first_there : (u : Slot) → Some u ≡ slice_get us 0 → not (is_member u) ≡ first_test (held s)
  unfolding held
  first_there u e =
      let h : (0 < length us) × (u ≡ get_or us 0 []) = read us e in
      rw (h.1, slots_are s us all 0 [] h.0) (first_slots (units_in (length s)) s (omega (arith, slots_many s us all)))
    where
      read : (vs : List Slot) → Some u ≡ slice_get vs 0 → (0 < length vs) × (u ≡ get_or vs 0 [])
      read [] f = absurd (let z : ◌≡◌ {A = ℕ} 0 1 = cc in omega arith)
      read (v ∷ vs) f = (omega arith, cc)

  -- ---- the turns of the loop

  pub turns_done : (i : ℕ) → passed slot_test follows i s ≡ true → i ≡ length us → true ≡ sound slot_test follows s
  turns_done i e h = scan_done slot_test follows s i e (h ∙ slots_many s us all)

  module _ (i : ℕ) (h : i < length us) (e : passed slot_test follows i s ≡ true) where
    at : get_or us i [] ≡ slot_at i s
    at = slots_are s us all i [] h

    inside : i < units_in (length s)
    inside = omega (arith, slots_many s us all)

    pub turn_stop : is_used (get_or us i []) ≡ false → is_zero_from i s ≡ sound slot_test follows s
    turn_stop f = scan_stop slot_test follows s i inside e (rw (← at) f)

    module _ (f : is_used (get_or us i []) ≡ true) where
      pub turn_not_ok : slot_test (get_or us i []) ≡ false → false ≡ sound slot_test follows s
      turn_not_ok g = scan_not_ok slot_test follows s i inside e (rw (← at) f) (rw (← at) g)

      pub turn_not_joined : 0 < i → follows (get_or us (i - 1) []) (get_or us i []) ≡ false → false ≡ sound slot_test follows s
      turn_not_joined p g =
          scan_not_joined slot_test follows s i inside e (rw (← at) f)
          (sym (joined_next follows s i false (omega arith) (rw (← at, ← slots_are s us all (i - 1) [] (omega arith)) (sym g))))

      pub turn_more : slot_test (get_or us i []) ≡ true → (0 < i → follows (get_or us (i - 1) []) (get_or us i []) ≡ true) → passed slot_test follows (i + 1) s ≡ true
      turn_more g p = passed_more slot_test follows s i e (rw (← at) f) (rw (← at) g) (sym (go i refl))
        where
          go : (j : ℕ) → j ≡ i → true ≡ joined follows i s
          go zero k = joined_first follows s i (sym k)
          go (suc j) k = joined_next follows s i true (omega arith) (rw (← at, ← slots_are s us all (i - 1) [] (omega arith)) (sym (p (omega arith))))
