-- A committed value put or erased where it was looked for: the words that the edit leaves are those of a store that holds the rest as it was.
-- Assumes nothing.
use mathlib.Core.Path.{◌≡◌, sym, ◌∙◌, ap}
use mathlib.Core.Bool.{true}
use mathlib.Core.List.{List, [], ◌∷◌, ◌++◌}
use mathlib.Core.Option.{Option, none, some}
use Prim.Native.Nat.{ℕ, ◌+◌, ◌≤◌, ◌<◌}
use native.Mathlib.Omega.{arith}
use lib.ListN.{length, length-append}
use Rattle.slots.specs.Slots.{Slot, encode, held, opened, closed, written}
use Rattle.types.specs.Units.{units_in}
use Rattle.slots.specs.Runs.{spliced}
use Rattle.std.proofs.Common.{Result}
use Rattle.std.proofs.Common.{Result, Ok, Err}
use Rattle.slots.proofs.SlotSplices.{spliced_parts, written_one, encode_rewritten, encode_removed, encode_inserted}
use Rattle.model.specs.Rows.{find, put, erase, rank, row_at}
use Rattle.model.specs.Model.{updates_held}
use Rattle.group_slots.specs.Layout.{committed_slot, group_slots, groups_in, holding, group_valid, fits_in, with_group}
use Rattle.slots.specs.Found.{found_of}
use Rattle.group_slots.specs.Found.{committed_found}
use Rattle.group_slots.proofs.SlotParts.{slots_whole, length_group_slots}
use Rattle.group_slots.proofs.GroupHolding.{holding_groups, fine_valid, committed_rising_valid, few_valid, length_held_valid}
use Rattle.group_slots.proofs.GroupSplits.{own_value_lem, lower_values_lem, upper_values_lem, length_lower_values, put_values, committed_split, erase_values, held_put_new}
use Rattle.group_slots.proofs.GroupStanding.{committed_at, committed_none}
use Rattle.versioned_group_data.proofs.GroupRulings.{fits_held}

there_place : {A : Type 0} (i j : ℕ) (o : Option A) → Ok i ≡ found_of j o → i ≡ j
unfolding found_of
there_place i j none e = absurd (let z : ◌≡◌ {A = ℕ} 0 1 = cc in omega arith)
there_place i j (some a) e = cc

module _ (s : List ℕ) (v : group_valid s ≡ true) (key tag : ℕ) where
  encode_groups : s ≡ encode s (group_slots (groups_in s))
  unfolding holding
  encode_groups = sym (holding_groups s v)

  few : length (group_slots (groups_in s)) ≤ units_in (length s)
  few = rw (length_group_slots (groups_in s)) (few_valid s v)

  -- other slots in place of what is committed
  spliced_values : (i n : ℕ) (new : List Slot) → i ≡ length (lower_values_lem key tag (groups_in s)) → n ≡ length (own_value_lem key tag (find key tag (groups_in s).committed)) →
      spliced i n new (group_slots (groups_in s)) ≡ lower_values_lem key tag (groups_in s) ++ (new ++ upper_values_lem key tag (groups_in s))
  spliced_values i n new e f =
      rw (e, f, committed_split key tag (groups_in s) (committed_rising_valid s v))
      (spliced_parts (lower_values_lem key tag (groups_in s)) (own_value_lem key tag (find key tag (groups_in s).committed)) (upper_values_lem key tag (groups_in s)) new)

  place_few : (n : ℕ) → n ≡ length (own_value_lem key tag (find key tag (groups_in s).committed)) → length (lower_values_lem key tag (groups_in s)) + n ≤ length (group_slots (groups_in s))
  place_few n e =
      omega (
        arith,
        e,
        ap length (committed_split key tag (groups_in s) (committed_rising_valid s v)),
        length-append (lower_values_lem key tag (groups_in s)) (own_value_lem key tag (find key tag (groups_in s).committed) ++ upper_values_lem key tag (groups_in s)),
        length-append (own_value_lem key tag (find key tag (groups_in s).committed)) (upper_values_lem key tag (groups_in s)),
      )

  put_holding : (w : List ℕ) → encode s (lower_values_lem key tag (groups_in s) ++ (committed_slot (row_at key tag w) ∷ upper_values_lem key tag (groups_in s))) ≡ holding s (with_group (groups_in s) (put key tag w (groups_in s).committed))
  unfolding holding with_group
  put_holding w = ap (encode s) (sym (put_values key tag (groups_in s) w))

  erase_holding : encode s (lower_values_lem key tag (groups_in s) ++ upper_values_lem key tag (groups_in s)) ≡ holding s (with_group (groups_in s) (erase key tag (groups_in s).committed))
  unfolding holding with_group
  erase_holding = ap (encode s) (sym (erase_values key tag (groups_in s) (committed_rising_valid s v)))

  none_own : find key tag (groups_in s).committed ≡ none → own_value_lem key tag (find key tag (groups_in s).committed) ≡ []
  unfolding own_value_lem
  none_own e = rw e

  some_own : (w : List ℕ) → find key tag (groups_in s).committed ≡ some w → 1 ≡ length (own_value_lem key tag (find key tag (groups_in s).committed))
  unfolding own_value_lem
  some_own w e = rw e

  module _ (f : Result ℕ ℕ) (found : f ≡ committed_found key tag (groups_in s)) (i : ℕ) where
    module _ (t : f ≡ Ok i) where
      there_here : i ≡ length (lower_values_lem key tag (groups_in s))
      unfolding committed_found
      there_here =
          there_place i (updates_held (groups_in s).updates + rank key tag (groups_in s).committed) (find key tag (groups_in s).committed) (sym t ∙ found)
          ∙ sym (length_lower_values key tag (groups_in s))

      there_own : 1 ≡ length (own_value_lem key tag (find key tag (groups_in s).committed))
      there_own = let w = committed_at s v key tag i (sym found ∙ t) in some_own w.value w.found

      there_few : i + 1 ≤ length (group_slots (groups_in s))
      there_few = omega (arith, there_here, place_few 1 there_own)

      pub put_room : i < units_in (length s)
      put_room = omega (arith, there_few, few)

      pub put_over : (w : List ℕ) (u : Slot) → u ≡ committed_slot (row_at key tag w) → (after : List ℕ) → after ≡ written i u s → after ≡ holding s (with_group (groups_in s) (put key tag w (groups_in s).committed))
      put_over w u e after d =
          d ∙ ap (written i u) encode_groups
          ∙ written_one i u (encode s (group_slots (groups_in s)))
          ∙ encode_rewritten s (group_slots (groups_in s)) (slots_whole (groups_in s) (fine_valid s v)) few i (u ∷ []) there_few
          ∙ ap (encode s) (spliced_values i 1 (u ∷ []) there_here there_own)
          ∙ ap (λ (x : Slot). encode s (lower_values_lem key tag (groups_in s) ++ (x ∷ upper_values_lem key tag (groups_in s)))) e
          ∙ put_holding w

      module _ (n : ℕ) (count : n ≡ length (held s)) where
        used_slots : n ≡ length (group_slots (groups_in s))
        used_slots = count ∙ length_held_valid s v ∙ sym (length_group_slots (groups_in s))

        pub erase_room : (i + 1 ≤ n) × (n ≤ units_in (length s))
        erase_room = (omega (arith, used_slots, there_few), omega (arith, used_slots, few))

        pub erase_some : (after : List ℕ) → after ≡ closed 1 i n s → after ≡ holding s (with_group (groups_in s) (erase key tag (groups_in s).committed))
        erase_some after d =
            d ∙ ap (λ (m : ℕ). closed 1 i m s) used_slots
            ∙ ap (closed 1 i (length (group_slots (groups_in s)))) encode_groups
            ∙ encode_removed s (group_slots (groups_in s)) (slots_whole (groups_in s) (fine_valid s v)) few i 1 there_few
            ∙ ap (encode s) (spliced_values i 1 [] there_here there_own)
            ∙ erase_holding

    module _ (t : f ≡ Err i) where
      absent_here : i ≡ length (lower_values_lem key tag (groups_in s))
      absent_here = (committed_none s key tag i (sym found ∙ t)).1 ∙ sym (length_lower_values key tag (groups_in s))

      absent_find : find key tag (groups_in s).committed ≡ none
      absent_find = (committed_none s key tag i (sym found ∙ t)).0

      absent_own : 0 ≡ length (own_value_lem key tag (find key tag (groups_in s).committed))
      absent_own = sym (ap length (none_own absent_find))

      absent_few : i ≤ length (group_slots (groups_in s))
      absent_few = omega (arith, absent_here, place_few 0 absent_own)

      -- nothing to erase
      pub erase_none : s ≡ holding s (with_group (groups_in s) (erase key tag (groups_in s).committed))
      erase_none =
          encode_groups
          ∙ ap (encode s)
          (committed_split key tag (groups_in s) (committed_rising_valid s v)
          ∙ ap (λ (l : List Slot). lower_values_lem key tag (groups_in s) ++ (l ++ upper_values_lem key tag (groups_in s))) (none_own absent_find))
          ∙ erase_holding

      module _ (w : List ℕ) (fits : fits_in s (with_group (groups_in s) (put key tag w (groups_in s).committed)) ≡ true) (n : ℕ) (count : n ≡ length (held s)) where
        used_are : n ≡ length (group_slots (groups_in s))
        used_are = count ∙ length_held_valid s v ∙ sym (length_group_slots (groups_in s))

        one_free : length (group_slots (groups_in s)) < units_in (length s)
        unfolding with_group
        one_free =
            omega (
              arith,
              length_group_slots (groups_in s),
              held_put_new key tag (groups_in s) (committed_rising_valid s v) absent_find w,
              fits_held s (with_group (groups_in s) (put key tag w (groups_in s).committed)) fits,
            )

        pub open_room : (i ≤ n) × (n + 1 ≤ units_in (length s))
        open_room = (omega (arith, used_are, absent_few), omega (arith, used_are, one_free))

        pub write_room : (m : ℕ) → m ≡ length s → (i ≤ n) × (n < units_in m)
        write_room m e = (open_room.0, rw e (omega (arith, open_room.1)))

        pub put_new : (x : List ℕ) → x ≡ opened 1 i n s → (u : Slot) → u ≡ committed_slot (row_at key tag w) → (after : List ℕ) → after ≡ written i u x →
            after ≡ holding s (with_group (groups_in s) (put key tag w (groups_in s).committed))
        put_new x o u e after d =
            d ∙ ap (written i u) (o ∙ ap (λ (m : ℕ). opened 1 i m s) used_are ∙ ap (opened 1 i (length (group_slots (groups_in s)))) encode_groups)
            ∙ encode_inserted s (group_slots (groups_in s)) (slots_whole (groups_in s) (fine_valid s v)) few i u absent_few one_free
            ∙ ap (encode s) (spliced_values i 0 (u ∷ []) absent_here absent_own)
            ∙ ap (λ (y : Slot). encode s (lower_values_lem key tag (groups_in s) ++ (y ∷ upper_values_lem key tag (groups_in s)))) e
            ∙ put_holding w
