-- An exchange: what was found in the base and among the committed values, and the store with both replaced.
-- Assumes nothing.
use mathlib.Core.Path.{◌≡◌, refl, sym, ◌∙◌, ap, ap₂}
use mathlib.Core.Bool.{Bool, true, false}
use mathlib.Core.List.{List, [], ◌∷◌, ◌++◌, map, map-append, append_assoc}
use mathlib.Core.Option.{Option, none, some}
use Prim.Native.Nat.{ℕ, suc, ◌+◌, ◌-◌, ◌*◌, ◌≤◌, ◌<◌}
use native.Mathlib.Omega.{arith}
use lib.Dec.{eqb}
use lib.ListN.{length, get_or, take, drop, set, replicate, length-append, length-drop, take-append-drop}
use lib.Seq.{sets, sets-eq, take-add, take-take, drop-drop, drop-append-le, drop_at, set_at, get_or_at, length-take-le}
use borrow.Author.Tests.{ltb-true, ne_eqb, eq-eqb}
use Rattle.lists.specs.Lists.{every, keep}
use Rattle.lists.proofs.Bools.{and_left, and_right}
use Rattle.lists.proofs.Lists.{every_kept, every_set}
use Rattle.types.specs.Refusal.{nothing_there, nothing_to_exchange}
use Rattle.types.specs.Value.{value_at, value_width, is_exchanged}
use Rattle.types.specs.Index.{shifted_of, word_of}
use Rattle.types.specs.declared.index.ShiftedTxnIndex.{ShiftedTxnIndex}
use Rattle.types.specs.ValueWithLayout.{value_from as struct_of, words_of}
use Rattle.types.specs.declared.value.ValueWithLayout.{ValueWithLayout}
use Rattle.types.proofs.ValueLaws.{words_read}
use Rattle.number.specs.Words.{AreWords, digits}
use Rattle.request.specs.Set.{Member}
use Rattle.slots.specs.Slots.{Slot, slot_width, slot_at, encode, is_whole, written, padded}
use Rattle.types.specs.Units.{units_in}
use Rattle.std.proofs.Common.{Result}
use Rattle.std.proofs.Common.{Result, Ok, Err}
use Rattle.slots.proofs.StoreEncoding.{slot_at_encode, length_encode}
use Rattle.slots.proofs.SlotEdits.{written_encode}
use Rattle.slots.proofs.StoreWords.{slots_few, slot_inside}
use Rattle.model.specs.Rows.{Row, find, put, rank, row_at, edited}
use Rattle.model.specs.Data.{refuse, accept, done_answer}
use Rattle.model.specs.Group.{Update, commits, member_value, members_in, replaced, exchange_raw, exchange_in, update_tagged_base_value}
use Rattle.model.specs.Model.{updates_held, ruled}
use Rattle.model.specs.Fine.{rising_from}
use Rattle.model.proofs.FineParts.{value_length}
use Rattle.types.specs.Flag.{flag_of}
use Rattle.group_slots.specs.Layout.{Groups, part_slot, member_slot, update_slots, committed_slot, group_slots, groups_in, holding, group_valid, held_by, with_group_updates, with_group}
use Rattle.slots.specs.Found.{found_of}
use Rattle.group_slots.specs.Found.{start_of, slots_taken, is_lower, lower_in, member_found, committed_found}
use Rattle.versioned_group_data.specs.Ruled.{Ruled, committing, with_group_commits}
use Rattle.versioned_group_data.specs.Exchange.{with_value}
use Rattle.group_slots.proofs.SlotParts.{part_whole, slots_whole, length_group_slots}
use Rattle.group_slots.proofs.GroupHolding.{holding_groups, held_valid, fine_valid, few_valid, rising_valid, committed_rising_valid}
use Rattle.group_slots.proofs.GroupSplits.{own_value_lem, lower_slots, upper_slots, lower_values_lem, upper_values_lem, put_slots, put_values, held_put, held_put_over, committed_split, length_lower_values}
use Rattle.group_slots.proofs.GroupMembers.{is_higher, own_member, members_split, lower_parts, upper_parts, found_tags, member_there, length_lower_parts}
use Rattle.group_slots.proofs.GroupStanding.{MemberAt, CommittedAt, member_at, committed_at}
use Rattle.versioned_group_data.proofs.GroupRulings.{ruled_refused, ruled_done, ruled_kept}

place_in : Result ℕ ℕ → ℕ
place_in (Ok i) = i
place_in (Err i) = i

-- a place that was found is the one that was looked for
found_place : {A : Type 0} (n i : ℕ) (o : Option A) → found_of n o ≡ Ok i → n ≡ i
unfolding found_of place_in
found_place n i none e = ap place_in e
found_place n i (some a) e = ap place_in e

found_nothing : {A : Type 0} (n i : ℕ) (o : Option A) → found_of n o ≡ Err i → o ≡ none
unfolding found_of
found_nothing n i none e = refl
found_nothing n i (some a) e = absurd (let z : ◌≡◌ {A = ℕ} 0 1 = cc in omega arith)

-- ---- one slot

-- seven words copied into a slot
pub value_written : (i : ℕ) (v s : List ℕ) → slot_width * i + slot_width ≤ length s →
    take (slot_width * i + 7) s ++ (v ++ drop (slot_width * i + 7 + 7) s) ≡ written i (with_value v (slot_at i s)) s
unfolding written with_value slot_at
value_written i v s h =
    let x : List ℕ = drop (slot_width * i) s in
    let e : slot_width * i + 7 + 7 ≡ slot_width * i + 14 = omega arith in
    let f : slot_width * (i + 1) ≡ slot_width * i + slot_width = omega arith in
    let w : length (take slot_width x) ≡ slot_width = length-take-le slot_width x (omega (arith, length-drop (slot_width * i) s)) in
    let g : drop 14 x ≡ drop 14 (take slot_width x) ++ drop slot_width x =
    ap (drop 14) (sym (take-append-drop slot_width x)) ∙ drop-append-le 14 (take slot_width x) (drop slot_width x) (omega arith) in
    rw (
      e,
      f,
      ← drop-drop slot_width (slot_width * i) s,
      ← drop-drop 14 (slot_width * i) s,
      g,
      take-add (slot_width * i) 7 s,
      take-take 7 slot_width x (omega arith),
      append_assoc,
      append_assoc,
      append_assoc,
    )

-- the value of a part, and of a committed value, replaced
module _ (v w : List ℕ) (e : length w ≡ value_width) (f : length v ≡ value_width) where
  rest : drop value_width (w ++ replicate (slot_width - suc (suc (suc (suc (suc (suc (suc (length w)))))))) 0) ≡ replicate (slot_width - suc (suc (suc (suc (suc (suc (suc (length v)))))))) 0
  rest =
      drop_at w (replicate (slot_width - suc (suc (suc (suc (suc (suc (suc (length w)))))))) 0) value_width e
      ∙ ap (λ (n : ℕ). replicate (slot_width - suc (suc (suc (suc (suc (suc (suc n))))))) 0) (e ∙ sym f)

  pub part_with_value : (r : Row Update) (part : ℕ) → with_value v (part_slot r part w) ≡ part_slot r part v
  unfolding with_value part_slot padded
  part_with_value r part =
      ap (λ (l : List ℕ). 1 ∷ r.key ∷ r.place ∷ part ∷ 0 ∷ flag_of r.held.estimate ∷ r.held.incarnation ∷ (v ++ l)) rest

  pub committed_with_value : (k t : ℕ) → with_value v (committed_slot (row_at k t w)) ≡ committed_slot (row_at k t v)
  unfolding with_value committed_slot padded row_at
  committed_with_value k t = ap (λ (l : List ℕ). 2 ∷ k ∷ t ∷ 0 ∷ 0 ∷ 0 ∷ 0 ∷ (v ++ l)) rest

-- ---- a member replaced

module _ (tag : ℕ) (v : List ℕ) where
  replaced_append : (xs ys : List Member) → replaced tag v (xs ++ ys) ≡ replaced tag v xs ++ replaced tag v ys
  unfolding replaced
  replaced_append [] ys = refl
  replaced_append (x ∷ xs) ys = rw (replaced_append xs ys)

  length_replaced : (ms : List Member) → length (replaced tag v ms) ≡ length ms
  unfolding replaced
  length_replaced [] = refl
  length_replaced (m ∷ ms) = ap suc (length_replaced ms)

  -- others stay
  replaced_others : (p : Member → Bool) → ((m : Member) → p m ≡ true → eqb m.tag tag ≡ false) → (ms : List Member) → every p ms ≡ true → replaced tag v ms ≡ ms
  unfolding replaced every
  replaced_others p h [] e = refl
  replaced_others p h (m ∷ ms) e =
      rw (h m (and_left (p m) (every p ms) e), replaced_others p h ms (and_right (p m) (every p ms) e))

  lower_other : (m : Member) → is_lower tag m ≡ true → eqb m.tag tag ≡ false
  unfolding is_lower
  lower_other m e = ne_eqb m.tag tag (λ f. omega (arith, ltb-true m.tag tag e))

  higher_other : (m : Member) → is_higher tag m ≡ true → eqb m.tag tag ≡ false
  unfolding is_higher
  higher_other m e = ne_eqb m.tag tag (λ f. omega (arith, ltb-true tag m.tag e))

  own_replaced : (old : List ℕ) → replaced tag v (own_member tag (some old)) ≡ own_member tag (some v)
  unfolding replaced own_member
  own_replaced old = rw (eq-eqb tag tag refl)

  pub replaced_split : (n : ℕ) (ms : List Member) (old : List ℕ) → rising_from n ms ≡ true → member_value tag ms ≡ some old →
      replaced tag v ms ≡ keep (is_lower tag) ms ++ (own_member tag (some v) ++ keep (is_higher tag) ms)
  replaced_split n ms old r e =
      let low : List Member = keep (is_lower tag) ms in
      let high : List Member = keep (is_higher tag) ms in
      let s : ms ≡ low ++ (own_member tag (some old) ++ high) = members_split tag n ms r ∙ ap (λ (o : Option (List ℕ)). low ++ (own_member tag o ++ high)) e in
      ap (replaced tag v) s
      ∙ replaced_append low (own_member tag (some old) ++ high)
      ∙ ap₂ (λ (xs ys : List Member). xs ++ ys) (replaced_others (is_lower tag) lower_other low (every_kept (is_lower tag) ms))
      (replaced_append (own_member tag (some old)) high
      ∙ ap₂ (λ (xs ys : List Member). xs ++ ys) (own_replaced old) (replaced_others (is_higher tag) higher_other high (every_kept (is_higher tag) ms)))

-- no base, or one without the tag
exchange_refused : (key tag : ℕ) (new : List ℕ) (g : Groups) → member_value tag (members_in (find key 0 g.updates)) ≡ none →
    committing g key 0 (update_tagged_base_value key tag new) ≡ refuse nothing_there
unfolding committing ruled update_tagged_base_value exchange_in members_in
exchange_refused key tag new g e = go (find key 0 g.updates) e
  where
    go : (o : Option Update) → member_value tag (members_in o) ≡ none → ruled (with_group_commits g key 0) (update_tagged_base_value key tag new o g.committed) ≡ refuse nothing_there
    go none e = refl
    go (some u) e = rw e

-- ---- the store

module _ (s : List ℕ) (v : group_valid s ≡ true) where
  whole_valid : every is_whole (group_slots (groups_in s)) ≡ true
  whole_valid = slots_whole (groups_in s) (fine_valid s v)

  slots_few_valid : length (group_slots (groups_in s)) ≤ units_in (length s)
  slots_few_valid = rw (length_group_slots (groups_in s)) (few_valid s v)

  -- a slot of the store replaced
  write_valid : (i : ℕ) (x : Slot) → i < length (group_slots (groups_in s)) → written i x s ≡ encode s (set (group_slots (groups_in s)) i x)
  write_valid i x h =
      ap (written i x) (sym (holding_groups s v))
      ∙ (unfold holding in written_encode s (group_slots (groups_in s)) whole_valid slots_few_valid i h x)

  module _ (key tag : ℕ) (new : List ℕ) (seven : length new ≡ value_width) (i : ℕ) (there : member_found key 0 tag (groups_in s) ≡ Ok i) where
    at : MemberAt key 0 tag i s
    at = member_at s v key 0 i tag there

    -- the base with the member replaced, and the groups with that base
    exchanged_base : Update
    exchanged_base = record { incarnation = at.update.incarnation; estimate = at.update.estimate; members = replaced tag new at.update.members }

    with_base_lem : Groups
    with_base_lem = with_group_updates (groups_in s) (put key 0 exchanged_base (groups_in s).updates)

    lower : List Slot
    lower = lower_parts key 0 tag at.update (groups_in s)

    upper : List Slot
    upper = upper_parts key 0 tag at.update (groups_in s)

    slot_with : List ℕ → Slot
    slot_with w = member_slot (row_at key 0 at.update) (record { tag = tag; value = w })

    lower_length : length lower ≡ i
    unfolding lower member_found
    lower_length =
        length_lower_parts key 0 tag (groups_in s) (fine_valid s v) at.update at.found
        ∙ found_place (start_of key 0 (groups_in s) + lower_in tag (find key 0 (groups_in s).updates)) i (member_value tag (members_in (find key 0 (groups_in s).updates))) there

    base_slots : group_slots (groups_in s) ≡ lower ++ (slot_with at.value ∷ upper)
    unfolding lower upper slot_with
    base_slots = member_there key 0 tag (groups_in s) (fine_valid s v) at.update at.found at.value at.valued

    with_base_slots : group_slots with_base_lem ≡ lower ++ (slot_with new ∷ upper)
    unfolding with_base_lem exchanged_base lower upper slot_with lower_parts upper_parts update_slots own_member row_at member_slot part_slot
    with_base_slots =
        let slot : Member → Slot = member_slot (row_at key 0 at.update) in
        let low : List Member = keep (is_lower tag) at.update.members in
        let high : List Member = keep (is_higher tag) at.update.members in
        let own : List Member = own_member tag (some new) in
        let r : replaced tag new at.update.members ≡ low ++ (own ++ high) =
        replaced_split tag new 0 at.update.members at.value (found_tags key 0 tag (groups_in s) (fine_valid s v) at.update at.found) at.valued in
        put_slots key 0 (groups_in s) exchanged_base
        ∙ ap (λ (ms : List Member). lower_slots key 0 (groups_in s) ++ ((part_slot (row_at key 0 at.update) 0 [] ∷ map slot ms) ++ upper_slots key 0 (groups_in s))) r
        ∙ ap (λ (l : List Slot). lower_slots key 0 (groups_in s) ++ ((part_slot (row_at key 0 at.update) 0 [] ∷ l) ++ upper_slots key 0 (groups_in s))) (map-append slot low (own ++ high))
        ∙ ap (λ (l : List Slot). lower_slots key 0 (groups_in s) ++ (part_slot (row_at key 0 at.update) 0 [] ∷ l)) (append_assoc (map slot low) (slot_with new ∷ map slot high) (upper_slots key 0 (groups_in s)))
        ∙ sym (append_assoc (lower_slots key 0 (groups_in s)) (part_slot (row_at key 0 at.update) 0 [] ∷ map slot low) (slot_with new ∷ (map slot high ++ upper_slots key 0 (groups_in s))))

    old_length : length at.value ≡ value_width
    old_length = value_length at.value at.fine

    base_among : i < length (group_slots (groups_in s))
    base_among = omega (arith, at.inside, ap length (held_valid s v))

    pub base_inside : i < units_in (length s)
    base_inside = omega (arith, base_among, slots_few_valid)

    replaced_slots : set (group_slots (groups_in s)) i (slot_with new) ≡ group_slots with_base_lem
    replaced_slots =
        ap (λ (us : List Slot). set us i (slot_with new)) base_slots ∙ set_at lower (slot_with at.value) upper (slot_with new) i lower_length ∙ sym with_base_slots

    -- the base's value is written
    base_written : written i (with_value new (slot_at i s)) s ≡ holding s with_base_lem
    unfolding holding slot_with member_slot
    base_written =
        ap (λ (x : Slot). written i x s) (ap (with_value new) at.slot ∙ part_with_value new at.value old_length seven (row_at key 0 at.update) (suc tag))
        ∙ write_valid i (slot_with new) base_among ∙ ap (encode s) replaced_slots

    with_base_whole : every is_whole (group_slots with_base_lem) ≡ true
    unfolding slot_with member_slot
    with_base_whole =
        ap (every is_whole) (sym replaced_slots)
        ∙ every_set is_whole (group_slots (groups_in s)) i (slot_with new) whole_valid (part_whole (row_at key 0 at.update) (suc tag) new (omega arith))

    with_base_held : held_by with_base_lem ≡ held_by (groups_in s)
    unfolding with_base_lem exchanged_base slots_taken
    with_base_held =
        let e : held_by with_base_lem + slots_taken (find key 0 (groups_in s).updates) ≡ held_by (groups_in s) + suc (length (replaced tag new at.update.members)) =
        held_put key 0 (groups_in s) (rising_valid s v) exchanged_base in
        let f : slots_taken (find key 0 (groups_in s).updates) ≡ suc (length at.update.members) = rw at.found in
        omega (arith, length_replaced tag new at.update.members)

    with_base_few : length (group_slots with_base_lem) ≤ units_in (length s)
    with_base_few = rw (length_group_slots with_base_lem, with_base_held) (few_valid s v)

    with_base_updates : updates_held with_base_lem.updates ≡ updates_held (groups_in s).updates
    unfolding held_by with_base_lem with_group_updates
    with_base_updates = omega (arith, with_base_held)

    pub base_length : (m : List ℕ) → m ≡ written i (with_value new (slot_at i s)) s → length m ≡ length s
    base_length m e = ap length (e ∙ base_written) ∙ (unfold holding in length_encode s (group_slots with_base_lem) with_base_whole with_base_few)

    module _ (j : ℕ) (here : committed_found key tag (groups_in s) ≡ Ok j) where
      value_at_lem : CommittedAt key tag j s
      value_at_lem = committed_at s v key tag j here

      exchanged_groups : Groups
      exchanged_groups = with_group with_base_lem (put key tag new (groups_in s).committed)

      lower' : List Slot
      lower' = lower_values_lem key tag with_base_lem

      upper' : List Slot
      upper' = upper_values_lem key tag with_base_lem

      lower'_length : length lower' ≡ j
      unfolding lower' committed_found with_base_lem with_group_updates
      lower'_length =
          length_lower_values key tag with_base_lem ∙ ap (λ (n : ℕ). n + rank key tag (groups_in s).committed) with_base_updates
          ∙ found_place (updates_held (groups_in s).updates + rank key tag (groups_in s).committed) j (find key tag (groups_in s).committed) here

      committed_slots : group_slots with_base_lem ≡ lower' ++ (committed_slot (row_at key tag value_at_lem.value) ∷ upper')
      unfolding lower' upper' own_value_lem with_base_lem with_group_updates
      committed_slots =
          committed_split key tag with_base_lem (committed_rising_valid s v)
          ∙ ap (λ (o : Option (List ℕ)). lower_values_lem key tag with_base_lem ++ (own_value_lem key tag o ++ upper_values_lem key tag with_base_lem)) value_at_lem.found

      exchanged_slots : group_slots exchanged_groups ≡ lower' ++ (committed_slot (row_at key tag new) ∷ upper')
      unfolding exchanged_groups lower' upper' with_base_lem with_group_updates
      exchanged_slots = put_values key tag with_base_lem new

      committed_among : j < length (group_slots with_base_lem)
      committed_among = rw committed_slots (omega (arith, lower'_length, length-append lower' (committed_slot (row_at key tag value_at_lem.value) ∷ upper')))

      pub value_inside : j < units_in (length s)
      value_inside = omega (arith, committed_among, with_base_few)

      value_slot : slot_at j (holding s with_base_lem) ≡ committed_slot (row_at key tag value_at_lem.value)
      unfolding holding
      value_slot =
          slot_at_encode s (group_slots with_base_lem) with_base_whole with_base_few j committed_among
          ∙ ap (λ (us : List Slot). get_or us j []) committed_slots
          ∙ get_or_at lower' (committed_slot (row_at key tag value_at_lem.value)) upper' [] j lower'_length

      -- the committed value is written too
      value_written_too : (m : List ℕ) → m ≡ written i (with_value new (slot_at i s)) s → written j (with_value new (slot_at j m)) m ≡ holding s exchanged_groups
      unfolding holding
      value_written_too m e =
          ap (λ (l : List ℕ). written j (with_value new (slot_at j l)) l) (e ∙ base_written)
          ∙ ap (λ (x : Slot). written j x (holding s with_base_lem)) (ap (with_value new) value_slot ∙ committed_with_value new value_at_lem.value (value_length value_at_lem.value value_at_lem.fine) seven key tag)
          ∙ written_encode s (group_slots with_base_lem) with_base_whole with_base_few j committed_among (committed_slot (row_at key tag new))
          ∙ ap (encode s)
          (ap (λ (us : List Slot). set us j (committed_slot (row_at key tag new))) committed_slots
          ∙ set_at lower' (committed_slot (row_at key tag value_at_lem.value)) upper' (committed_slot (row_at key tag new)) j lower'_length
          ∙ sym exchanged_slots)

      exchanged_held : held_by exchanged_groups ≤ units_in (length s)
      unfolding exchanged_groups with_base_lem with_group_updates
      exchanged_held =
          let e : held_by exchanged_groups ≡ held_by with_base_lem = held_put_over key tag with_base_lem (committed_rising_valid s v) value_at_lem.value value_at_lem.found new in
          omega (arith, with_base_held, few_valid s v)

      exchanged_ruling : is_exchanged at.value ≡ false → is_exchanged value_at_lem.value ≡ false →
          committing (groups_in s) key 0 (update_tagged_base_value key tag new) ≡ accept done_answer exchanged_groups
      unfolding committing ruled update_tagged_base_value exchange_in exchange_raw with_group_commits commits exchanged_groups with_base_lem with_group_updates with_group exchanged_base edited
      exchanged_ruling e f = rw (at.found, at.valued, e, value_at_lem.found, f)

      module _ (b c : Bool) (raw : b ≡ is_exchanged (value_at (slot_width * i + 7) s)) (raw' : c ≡ is_exchanged (value_at (slot_width * j + 7) s)) (f : b ≡ false) where
        is_raw : is_exchanged at.value ≡ false
        is_raw = ap is_exchanged (sym at.words) ∙ sym raw ∙ f

        pub exchange_done : c ≡ false → (m after : List ℕ) → m ≡ written i (with_value new (slot_at i s)) s → after ≡ written j (with_value new (slot_at j m)) m →
            Ruled s (committing (groups_in s) key 0 (update_tagged_base_value key tag new)) 0 after
        exchange_done f' m after e w =
            ruled_done s s (committing (groups_in s) key 0 (update_tagged_base_value key tag new)) done_answer exchanged_groups
            (exchanged_ruling is_raw (ap is_exchanged (sym value_at_lem.words) ∙ sym raw' ∙ f')) exchanged_held after (w ∙ value_written_too m e)

        pub exchange_over : c ≡ true → Ruled s (committing (groups_in s) key 0 (update_tagged_base_value key tag new)) nothing_to_exchange s
        exchange_over t = ruled_refused s s (committing (groups_in s) key 0 (update_tagged_base_value key tag new)) nothing_to_exchange rule
          where
            is : is_exchanged value_at_lem.value ≡ true
            is = ap is_exchanged (sym value_at_lem.words) ∙ sym raw' ∙ t

            rule : committing (groups_in s) key 0 (update_tagged_base_value key tag new) ≡ refuse nothing_to_exchange
            rule = unfold committing ruled update_tagged_base_value exchange_in exchange_raw in rw (at.found, at.valued, is_raw, value_at_lem.found, is)

    module _ (b : Bool) (raw : b ≡ is_exchanged (value_at (slot_width * i + 7) s)) where
      pub exchange_before : b ≡ true → Ruled s (committing (groups_in s) key 0 (update_tagged_base_value key tag new)) 0 s
      exchange_before t = ruled_kept s (committing (groups_in s) key 0 (update_tagged_base_value key tag new)) done_answer v rule
        where
          is : is_exchanged at.value ≡ true
          is = ap is_exchanged (sym at.words) ∙ sym raw ∙ t

          rule : committing (groups_in s) key 0 (update_tagged_base_value key tag new) ≡ accept done_answer (groups_in s)
          rule = unfold committing ruled update_tagged_base_value exchange_in with_group_commits commits edited in rw (at.found, at.valued, is)

      pub exchange_none : (j : ℕ) → b ≡ false → committed_found key tag (groups_in s) ≡ Err j → Ruled s (committing (groups_in s) key 0 (update_tagged_base_value key tag new)) nothing_to_exchange s
      exchange_none j f e = ruled_refused s s (committing (groups_in s) key 0 (update_tagged_base_value key tag new)) nothing_to_exchange rule
        where
          is : is_exchanged at.value ≡ false
          is = ap is_exchanged (sym at.words) ∙ sym raw ∙ f

          none_there : find key tag (groups_in s).committed ≡ none
          none_there = unfold committed_found in found_nothing (updates_held (groups_in s).updates + rank key tag (groups_in s).committed) j (find key tag (groups_in s).committed) e

          rule : committing (groups_in s) key 0 (update_tagged_base_value key tag new) ≡ refuse nothing_to_exchange
          rule = unfold committing ruled update_tagged_base_value exchange_in exchange_raw in rw (at.found, at.valued, is, none_there)

  pub exchange_absent : (key tag i : ℕ) (new : List ℕ) → member_found key 0 tag (groups_in s) ≡ Err i → Ruled s (committing (groups_in s) key 0 (update_tagged_base_value key tag new)) nothing_there s
  exchange_absent key tag i new e = ruled_refused s s (committing (groups_in s) key 0 (update_tagged_base_value key tag new)) nothing_there (exchange_refused key tag new (groups_in s) nothing)
    where
      nothing : member_value tag (members_in (find key 0 (groups_in s).updates)) ≡ none
      nothing = unfold member_found in found_nothing (start_of key 0 (groups_in s) + lower_in tag (find key 0 (groups_in s).updates)) i (member_value tag (members_in (find key 0 (groups_in s).updates))) e

-- what the code's searches told: the base's index is 0
pub base_found : (key tag : ℕ) (g : Groups) (x : ShiftedTxnIndex) (f : Result ℕ ℕ) (r : Result ℕ ℕ) → x ≡ shifted_of 0 → f ≡ member_found key (word_of x) tag g → f ≡ r → member_found key 0 tag g ≡ r
base_found key tag g x f r e m h = ap (λ (y : ShiftedTxnIndex). member_found key (word_of y) tag g) (sym e) ∙ sym m ∙ h

pub committed_told : (key tag : ℕ) (g : Groups) (f r : Result ℕ ℕ) → f ≡ committed_found key tag g → f ≡ r → committed_found key tag g ≡ r
committed_told key tag g f r m h = sym m ∙ h

-- ---- what the code reads and writes

pub slot_room : (i w : ℕ) → i < units_in w → (i < 4096) × (slot_width * i + slot_width ≤ w)
slot_room i w h = (omega (arith, slots_few w), slot_inside i w h)

pub read_exchanged : (s : List ℕ) (i : ℕ) (x : ValueWithLayout) (b : Bool) → AreWords s → i < units_in (length s) → x ≡ struct_of (value_at (slot_width * i + 7) s) → b ≡ is_exchanged (words_of x) →
    b ≡ is_exchanged (value_at (slot_width * i + 7) s)
read_exchanged s i x b w h e f = f ∙ ap is_exchanged (ap words_of e ∙ words_read s (slot_width * i + 7) w (omega (arith, slot_inside i (length s) h)))

pub words_wide : (v : ValueWithLayout) → length (words_of v) ≡ value_width
unfolding words_of digits
words_wide v = refl

sets_seven : (s : List ℕ) (i : ℕ) (ws : List ℕ) → length ws ≡ 7 → i + 7 ≤ length s → sets s i ws ≡ take i s ++ (ws ++ drop (i + 7) s)
sets_seven s i ws n h = sets-eq ws s i (omega arith) ∙ rw n (append_assoc (take i s) ws (drop (i + 7) s))

pub value_put : (i : ℕ) (v : ValueWithLayout) (s after : List ℕ) → i < units_in (length s) → after ≡ sets s (slot_width * i + 7) (words_of v) → after ≡ written i (with_value (words_of v) (slot_at i s)) s
value_put i v s after h e =
    let l : slot_width * i + slot_width ≤ length s = slot_inside i (length s) h in
    e ∙ sets_seven s (slot_width * i + 7) (words_of v) (words_wide v) (omega arith) ∙ value_written i (words_of v) s l

pub inside_as : (i a b : ℕ) → a ≡ b → i < units_in b → i < units_in a
inside_as i a b e h = rw e h
