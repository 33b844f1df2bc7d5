-- An update recorded, marked or removed: the words after it are those of a store that holds what the rule leaves.
-- Assumes nothing.
use mathlib.Core.Path.{◌≡◌, refl, sym, ◌∙◌, ap, ap₂}
use mathlib.Core.Bool.{true}
use mathlib.Core.List.{List, [], ◌∷◌, ◌++◌, map, append_assoc}
use mathlib.Core.Option.{Option, none, some}
use Prim.Native.Nat.{ℕ, suc, ◌+◌, ◌-◌, ◌*◌, ◌≤◌}
use native.Mathlib.Omega.{arith}
use lib.ListN.{length, drop}
use lib.Seq.{drop_at}
use Rattle.lists.specs.Lists.{every}
use Rattle.types.specs.Refusal.{nothing_there}
use Rattle.types.specs.Units.{lack_of, units_in}
use Rattle.request.specs.Set.{Member}
use Rattle.slots.specs.Slots.{Slot, slot_width, is_whole, flat, encode, held, closed, slots, padded}
use Rattle.slots.specs.Runs.{spliced, resized, written_from}
use Rattle.slots.proofs.SlotSplices.{spliced_parts, encode_spliced, encode_rewritten, encode_removed}
use Rattle.slots.proofs.StoreWords.{flat_append, slots_flat}
use Rattle.slots.proofs.StoreEncoding.{drop_encode, free}
use Rattle.model.specs.Rows.{find, put, erase, row_at, edited}
use Rattle.model.specs.Data.{refuse, accept, done_answer}
use Rattle.model.specs.Group.{Update, mark_group, remove_group}
use Rattle.model.specs.Model.{ruled}
use Rattle.types.specs.Flag.{flag_of}
use Rattle.group_slots.specs.Layout.{Groups, groups_in, group_valid, group_slots, holding, held_by, lack_in, update_slots, member_slot, part_slot, with_group_updates}
use Rattle.group_slots.specs.declared.find.Run.{Run}
use Rattle.group_slots.specs.Found.{start_of, slots_taken, run_of}
use Rattle.versioned_group_data.specs.Ruled.{editing, Ruled}
use Rattle.versioned_group_data.specs.Members.{done_update, recording, marked}
use Rattle.group_slots.proofs.SlotParts.{slots_whole, update_whole, length_group_slots, length_update_slots}
use Rattle.group_slots.proofs.GroupHolding.{holding_groups, fine_valid, few_valid, rising_valid, length_held_valid}
use Rattle.group_slots.proofs.GroupMembers.{fine_found}
use Rattle.group_slots.proofs.GroupSplits.{own_slots_lem, lower_slots, upper_slots, length_own_slots, length_lower_slots, put_slots, groups_split, erase_slots, held_split, held_put, held_erase}
use Rattle.versioned_group_data.proofs.GroupRulings.{held_lack_in, ruled_refused, ruled_full, ruled_done}

-- A valid store, and an update that is looked for in it.
module _ (s : List ℕ) (v : group_valid s ≡ true) (k p : ℕ) where
  abbrev g : Groups
  g = groups_in s

  abbrev own : Option Update
  own = find k p g.updates

  few : length (group_slots g) ≤ units_in (length s)
  few = rw (length_group_slots g) (few_valid s v)

  is_encoded : encode s (group_slots g) ≡ s
  unfolding holding
  is_encoded = holding_groups s v

  -- the slots of the update stand among those in use
  pub run_inside : start_of k p g + slots_taken own ≤ held_by g
  run_inside = omega (arith, held_split k p g (rising_valid s v))

  pub held_is : length (held s) ≡ held_by g
  held_is = length_held_valid s v

  start_is : start_of k p g ≡ length (lower_slots k p g)
  start_is = sym (length_lower_slots k p g)

  own_is : slots_taken own ≡ length (own_slots_lem k p own)
  own_is = sym (length_own_slots k p own)

  -- those slots replaced by others
  spliced_is : (new : List Slot) → spliced (start_of k p g) (slots_taken own) new (group_slots g) ≡ lower_slots k p g ++ (new ++ upper_slots k p g)
  spliced_is new =
      rw (start_is, own_is, groups_split k p g (rising_valid s v)) (spliced_parts (lower_slots k p g) (own_slots_lem k p own) (upper_slots k p g) new)

  module _ (u : Update) where
    abbrev new : Groups
    new = with_group_updates g (put k p u g.updates)

    put_held : held_by new + slots_taken own ≡ held_by g + suc (length u.members)
    put_held = held_put k p g (rising_valid s v) u

    put_few : held_by g + suc (length u.members) ≤ units_in (length s) + slots_taken own → held_by new ≤ units_in (length s)
    put_few h = omega (arith, put_held)

    put_holding : holding s new ≡ encode s (lower_slots k p g ++ (update_slots (row_at k p u) ++ upper_slots k p g))
    unfolding holding
    put_holding = ap (encode s) (put_slots k p g u)

    pub put_words_lem : (n : ℕ) → n ≡ held_by g → held_by g + suc (length u.members) ≤ units_in (length s) + slots_taken own →
        written_from (start_of k p g) (update_slots (row_at k p u)) (resized (start_of k p g) (slots_taken own) (suc (length u.members)) n s) ≡ holding s new
    unfolding row_at
    put_words_lem n e h =
        let m : length (update_slots (row_at k p u)) ≡ suc (length u.members) = length_update_slots (row_at k p u) in
        let used : n ≡ length (group_slots g) = e ∙ sym (length_group_slots g) in
        ap (λ (x : List ℕ). written_from (start_of k p g) (update_slots (row_at k p u)) (resized (start_of k p g) (slots_taken own) (suc (length u.members)) n x)) (sym is_encoded)
        ∙ ap₂ (λ (a b : ℕ). written_from (start_of k p g) (update_slots (row_at k p u)) (resized (start_of k p g) (slots_taken own) a b (encode s (group_slots g)))) (sym m) used
        ∙ encode_spliced s (group_slots g) (slots_whole g (fine_valid s v)) few (start_of k p g) (slots_taken own) (update_slots (row_at k p u))
        (omega (arith, run_inside, length_group_slots g)) (omega (arith, length_group_slots g))
        ∙ ap (encode s) (spliced_is (update_slots (row_at k p u)))
        ∙ sym put_holding

    recording_is : recording k p u g ≡ accept done_answer new
    unfolding recording editing ruled edited
    recording_is = refl

    -- what recording promises, where the slots suffice and where they do not
    recorded : (after : List ℕ) → held_by g + suc (length u.members) ≤ units_in (length s) + slots_taken own → after ≡ holding s new → Ruled s (recording k p u g) 0 after
    recorded after h e = ruled_done s s (recording k p u g) done_answer new recording_is (put_few h) after e

    not_recorded : (lack : ℕ) → lack ≡ lack_in s new → (lack ≡ 0 → ⊥) → Ruled s (recording k p u g) lack s
    not_recorded lack l h = ruled_full s s (recording k p u g) done_answer new recording_is lack l h

  -- ---- removed

  abbrev without : Groups
  without = with_group_updates g (erase k p g.updates)

  erased_holding : holding s without ≡ encode s (lower_slots k p g ++ ([] ++ upper_slots k p g))
  unfolding holding
  erased_holding = ap (encode s) (erase_slots k p g (rising_valid s v))

  erased_few : held_by without ≤ units_in (length s)
  erased_few = omega (arith, held_erase k p g (rising_valid s v), few_valid s v)

  pub erased_words : (n : ℕ) → n ≡ held_by g → closed (slots_taken own) (start_of k p g) n s ≡ holding s without
  erased_words n e =
      let used : n ≡ length (group_slots g) = e ∙ sym (length_group_slots g) in
      ap₂ (λ (a : ℕ) (x : List ℕ). closed (slots_taken own) (start_of k p g) a x) used (sym is_encoded)
      ∙ encode_removed s (group_slots g) (slots_whole g (fine_valid s v)) few (start_of k p g) (slots_taken own) (omega (arith, run_inside, length_group_slots g))
      ∙ ap (encode s) (spliced_is [])
      ∙ sym erased_holding

  removing_is : editing g k p remove_group ≡ accept done_answer without
  unfolding editing ruled edited remove_group
  removing_is = refl

  removed : (after : List ℕ) → after ≡ holding s without → Ruled s (editing g k p remove_group) 0 after
  removed after e = ruled_done s s (editing g k p remove_group) done_answer without removing_is erased_few after e

  -- ---- marked

  module _ (u : Update) (there : own ≡ some u) where
    abbrev estimated : Update
    estimated = record { incarnation = u.incarnation; estimate = true; members = u.members }

    own_held : slots_taken own ≡ suc (length u.members)
    unfolding slots_taken
    own_held = rw there

    -- its slots as they stand, and with the flag of an estimate
    own_slots : slots (slots_taken own) (drop (slot_width * start_of k p g) s) ≡ update_slots (row_at k p u)
    unfolding own_slots_lem row_at
    own_slots =
        let mine : own_slots_lem k p own ≡ update_slots (row_at k p u) = rw there in
        let whole : every is_whole (update_slots (row_at k p u)) ≡ true = update_whole (row_at k p u) (fine_found k p 0 g (fine_valid s v) u there) in
        let parts : group_slots g ≡ lower_slots k p g ++ (update_slots (row_at k p u) ++ upper_slots k p g) =
        groups_split k p g (rising_valid s v) ∙ ap (λ (l : List Slot). lower_slots k p g ++ (l ++ upper_slots k p g)) mine
        in
        let after : drop (start_of k p g) (group_slots g) ≡ update_slots (row_at k p u) ++ upper_slots k p g =
        ap (λ (l : List Slot). drop (start_of k p g) l) parts
        ∙ drop_at (lower_slots k p g) (update_slots (row_at k p u) ++ upper_slots k p g) (start_of k p g) (length_lower_slots k p g)
        in
        let words : drop (slot_width * start_of k p g) s ≡ flat (update_slots (row_at k p u)) ++ (flat (upper_slots k p g) ++ free s (length (group_slots g))) =
        ap (λ (l : List ℕ). drop (slot_width * start_of k p g) l) (sym is_encoded)
        ∙ drop_encode s (group_slots g) (slots_whole g (fine_valid s v)) few (start_of k p g) (omega (arith, run_inside, length_group_slots g))
        ∙ ap (λ (l : List Slot). flat l ++ free s (length (group_slots g))) after
        ∙ ap (λ (l : List ℕ). l ++ free s (length (group_slots g))) (flat_append (update_slots (row_at k p u)) (upper_slots k p g))
        ∙ append_assoc (flat (update_slots (row_at k p u))) (flat (upper_slots k p g)) (free s (length (group_slots g)))
        in
        ap₂ (λ (n : ℕ) (l : List ℕ). slots n l) (own_is ∙ ap length mine) words
        ∙ slots_flat (update_slots (row_at k p u)) (flat (upper_slots k p g) ++ free s (length (group_slots g))) whole

    marked_part : (part : ℕ) (value : List ℕ) → marked (part_slot (row_at k p u) part value) ≡ part_slot (row_at k p estimated) part value
    unfolding marked part_slot padded row_at flag_of
    marked_part part value = refl

    marked_members : (ms : List Member) → map marked (map (member_slot (row_at k p u)) ms) ≡ map (member_slot (row_at k p estimated)) ms
    unfolding member_slot
    marked_members [] = refl
    marked_members (m ∷ ms) = ap₂ (λ (x : Slot) (l : List Slot). x ∷ l) (marked_part (suc m.tag) m.value) (marked_members ms)

    marked_slots : map marked (update_slots (row_at k p u)) ≡ update_slots (row_at k p estimated)
    unfolding update_slots row_at
    marked_slots = ap₂ (λ (x : Slot) (l : List Slot). x ∷ l) (marked_part 0 []) (marked_members u.members)

    pub marked_words : written_from (start_of k p g) (map marked (slots (slots_taken own) (drop (slot_width * start_of k p g) s))) s ≡ holding s (new estimated)
    unfolding row_at
    marked_words =
        let m : length (update_slots (row_at k p estimated)) ≡ slots_taken own = length_update_slots (row_at k p estimated) ∙ sym own_held in
        ap (λ (l : List Slot). written_from (start_of k p g) l s) (ap (map marked) own_slots ∙ marked_slots)
        ∙ ap (λ (x : List ℕ). written_from (start_of k p g) (update_slots (row_at k p estimated)) x) (sym is_encoded)
        ∙ encode_rewritten s (group_slots g) (slots_whole g (fine_valid s v)) few (start_of k p g) (update_slots (row_at k p estimated)) (omega (arith, run_inside, length_group_slots g))
        ∙ ap (λ (n : ℕ). encode s (spliced (start_of k p g) n (update_slots (row_at k p estimated)) (group_slots g))) m
        ∙ ap (encode s) (spliced_is (update_slots (row_at k p estimated)))
        ∙ sym (put_holding estimated)

    marking_is : editing g k p mark_group ≡ accept done_answer (new estimated)
    unfolding editing ruled edited mark_group
    marking_is = rw there

    marked_done : (after : List ℕ) → after ≡ holding s (new estimated) → Ruled s (editing g k p mark_group) 0 after
    marked_done after e =
        let few_after : held_by (new estimated) ≤ units_in (length s) = put_few estimated (omega (arith, own_held, few_valid s v)) in
        ruled_done s s (editing g k p mark_group) done_answer (new estimated) marking_is few_after after e

  marking_none : own ≡ none → editing g k p mark_group ≡ refuse nothing_there
  unfolding editing ruled mark_group
  marking_none e = rw e

  not_marked : own ≡ none → Ruled s (editing g k p mark_group) nothing_there s
  not_marked e = ruled_refused s s (editing g k p mark_group) nothing_there (marking_none e)

-- ---- from what a search answered

module _ (s : List ℕ) (v : group_valid s ≡ true) (k p q : ℕ) (same : q ≡ p) (run : Run) (found : run ≡ run_of k q (groups_in s)) where
  run_at : run.at ≡ start_of k p (groups_in s)
  unfolding run_of
  run_at = ap (λ (r : Run). r.at) found ∙ ap (λ (x : ℕ). start_of k x (groups_in s)) same

  run_len : run.len ≡ slots_taken (find k p (groups_in s).updates)
  unfolding run_of
  run_len = ap (λ (r : Run). r.len) found ∙ ap (λ (x : ℕ). slots_taken (find k x (groups_in s).updates)) same

  pub run_fits : run.at + run.len ≤ units_in (length s)
  run_fits = omega (arith, run_at, run_len, run_inside s v k p, few_valid s v)

  pub mark_refused : run.len ≡ 0 → Ruled s (editing (groups_in s) k p mark_group) nothing_there s
  unfolding slots_taken
  mark_refused e = go (find k p (groups_in s).updates) refl
    where
      go : (o : Option Update) → find k p (groups_in s).updates ≡ o → Ruled s (editing (groups_in s) k p mark_group) nothing_there s
      go none f = not_marked s v k p f
      go (some u) f = absurd (omega (arith, own_held s v k p u f, run_len))

  pub mark_done : (run.len ≡ 0 → ⊥) → (after : List ℕ) → after ≡ written_from run.at (map marked (slots run.len (drop (slot_width * run.at) s))) s →
      Ruled s (editing (groups_in s) k p mark_group) 0 after
  unfolding slots_taken
  mark_done ne after e = go (find k p (groups_in s).updates) refl
    where
      go : (o : Option Update) → find k p (groups_in s).updates ≡ o → Ruled s (editing (groups_in s) k p mark_group) 0 after
      go none f = absurd (ne (run_len ∙ rw f refl))
      go (some u) f =
          marked_done s v k p u f after
          (e
          ∙ ap₂ (λ (a b : ℕ). written_from a (map marked (slots b (drop (slot_width * a) s))) s) run_at run_len
          ∙ marked_words s v k p u f)

  module _ (n : ℕ) (count : n ≡ length (held s)) where
    count_is : n ≡ held_by (groups_in s)
    count_is = count ∙ held_is s v k p

    pub run_room : (run.at + run.len ≤ n) × (n ≤ units_in (length s))
    run_room = (omega (arith, run_at, run_len, count_is, run_inside s v k p), omega (arith, count_is, few_valid s v))

    pub remove_done : (after : List ℕ) → after ≡ closed run.len run.at n s → Ruled s (editing (groups_in s) k p remove_group) 0 after
    remove_done after e =
        removed s v k p after (e ∙ ap₂ (λ (a b : ℕ). closed a b n s) run_len run_at ∙ erased_words s v k p n count_is)

    module _ (i : ℕ) (ms : List Member) (l : ℕ) (size : l ≡ length ms) where
      abbrev u : Update
      u = done_update i ms

      takes : 1 + l ≡ suc (length u.members)
      unfolding done_update
      takes = omega arith

      -- what is held after, and what lacks, as the code asks for it
      held_after : n - run.len + (1 + l) ≡ held_by (new s v k p u)
      held_after = omega (arith, run_len, count_is, takes, put_held s v k p u, run_inside s v k p)

      module _ (lack slots : ℕ) (has : slots ≡ units_in (length s)) (told : lack ≡ lack_of (n - run.len + (1 + l)) slots) where
        lack_is : lack ≡ lack_in s (new s v k p u)
        unfolding lack_in
        lack_is = told ∙ ap₂ lack_of held_after has

        pub put_refused : (lack ≡ 0 → ⊥) → Ruled s (recording k p u (groups_in s)) lack s
        put_refused h = not_recorded s v k p u lack lack_is h

        module _ (h : lack ≡ 0) where
          pub put_room : n + (1 + l) ≤ units_in (length s) + run.len
          put_room = omega (arith, held_lack_in s (new s v k p u) (sym lack_is ∙ h), held_after, run_len, count_is, run_inside s v k p)

          room : held_by (groups_in s) + suc (length u.members) ≤ units_in (length s) + slots_taken (find k p (groups_in s).updates)
          room = omega (arith, put_room, run_len, count_is, takes)

          pub put_done : (mid after : List ℕ) → mid ≡ resized run.at run.len (1 + l) n s → after ≡ written_from run.at (update_slots (row_at k p u)) mid →
              Ruled s (recording k p u (groups_in s)) 0 after
          put_done mid after e f =
              recorded s v k p u after room
              (f
              ∙ ap (written_from run.at (update_slots (row_at k p u))) e
              ∙ ap₂ (λ (a b : ℕ). written_from a (update_slots (row_at k p u)) (resized a b (1 + l) n s)) run_at run_len
              ∙ ap (λ (x : ℕ). written_from (start_of k p (groups_in s)) (update_slots (row_at k p u)) (resized (start_of k p (groups_in s)) (slots_taken (find k p (groups_in s).updates)) x n s)) takes
              ∙ put_words_lem s v k p u n count_is room)
