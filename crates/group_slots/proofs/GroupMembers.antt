-- The members of an update below a tag, at it and above it, and the slots of a group store around a member.
-- Assumes nothing.
use mathlib.Core.Path.{◌≡◌, refl, sym, ◌∙◌, ap}
use mathlib.Core.Bool.{Bool, true, false, ◌&&◌}
use mathlib.Core.List.{List, [], ◌∷◌, ◌++◌, map, map-append, append_assoc}
use mathlib.Core.Option.{Option, none, some}
use Prim.Native.Nat.{ℕ, suc, ◌+◌, ◌≤◌, ◌<◌}
use native.Mathlib.Omega.{arith}
use native.Mathlib.Decide.{dec_lt}
use lib.Dec.{leb, ltb}
use lib.ListN.{length, length-append, length-map}
use borrow.Author.Tests.{ltb-true, leb-true, lt-ltb, le-ltb, eq-eqb, ne_eqb}
use Rattle.lists.specs.Lists.{every, keep}
use Rattle.lists.proofs.Bools.{and_left, and_right}
use Rattle.lists.proofs.Lists.{every_imp, keep_all, keep_none}
use Rattle.request.specs.Set.{Member}
use Rattle.slots.specs.Slots.{Slot}
use Rattle.model.specs.Rows.{find, row_at}
use Rattle.model.specs.Group.{Update, first_tagged, member_value}
use Rattle.model.specs.Fine.{rising_from, fine_update}
use Rattle.model.proofs.RowMaps.{passes, every_find}
use Rattle.group_slots.specs.Layout.{Groups, part_slot, member_slot, update_slots, group_slots, fine_groups}
use Rattle.group_slots.specs.Found.{is_lower, lower_in, start_of}
use Rattle.group_slots.proofs.SlotParts.{tags_from_lem, update_tags, fine_rising, fine_every}
use Rattle.group_slots.proofs.GroupSplits.{own_slots_lem, lower_slots, upper_slots, groups_split, length_lower_slots}

unfoldable pub is_higher : ℕ → Member → Bool
is_higher tag m = ltb tag m.tag

unfoldable pub own_member : ℕ → Option (List ℕ) → List Member
own_member tag none = []
own_member tag (some v) = record { tag = tag; value = v } ∷ []

module _ (tag : ℕ) where
  higher_not_lower : (m : Member) → is_higher tag m ≡ true → is_lower tag m ≡ false
  unfolding is_higher is_lower
  higher_not_lower m e = le-ltb m.tag tag (omega (arith, ltb-true tag m.tag e))

  none_valued : (ms : List Member) → every (is_higher tag) ms ≡ true → member_value tag ms ≡ none
  unfolding every member_value first_tagged is_higher
  none_valued [] e = refl
  none_valued (m ∷ ms) e =
      rw (ne_eqb m.tag tag (λ f. omega (arith, ltb-true tag m.tag (and_left (is_higher tag m) (every (is_higher tag) ms) e))))
      (none_valued ms (and_right (is_higher tag m) (every (is_higher tag) ms) e))

  rising_higher : (n : ℕ) (ms : List Member) → tag < n → rising_from n ms ≡ true → every (is_higher tag) ms ≡ true
  unfolding is_higher
  rising_higher n ms h e =
      every_imp (λ m. leb n m.tag && leb m.tag 63) (is_higher tag)
      (λ m f. lt-ltb tag m.tag (omega (arith, leb-true n m.tag (and_left (leb n m.tag) (leb m.tag 63) f)))) ms (tags_from_lem n n ms (omega arith) e)

  -- members rise, so those are the parts
  pub members_split : (n : ℕ) (ms : List Member) → rising_from n ms ≡ true →
      ms ≡ keep (is_lower tag) ms ++ (own_member tag (member_value tag ms) ++ keep (is_higher tag) ms)
  unfolding keep rising_from member_value first_tagged own_member is_lower is_higher every
  members_split n [] e = refl
  members_split n (m ∷ ms) e = go (dec_lt m.tag tag) (dec_lt tag m.tag) (members_split (suc m.tag) ms rest)
    where
      rest : rising_from (suc m.tag) ms ≡ true
      rest = and_right (leb n m.tag && leb m.tag 63) (rising_from (suc m.tag) ms) e

      above : tag ≤ m.tag → every (is_higher tag) ms ≡ true
      above h = rising_higher (suc m.tag) ms (omega arith) rest

      go : Dec (m.tag < tag) → Dec (tag < m.tag) → ms ≡ keep (is_lower tag) ms ++ (own_member tag (member_value tag ms) ++ keep (is_higher tag) ms) →
          m ∷ ms ≡ keep (is_lower tag) (m ∷ ms) ++ (own_member tag (member_value tag (m ∷ ms)) ++ keep (is_higher tag) (m ∷ ms))
      go (yes h) d ih =
          rw (lt-ltb m.tag tag h, ne_eqb m.tag tag (omega arith), le-ltb tag m.tag (omega arith)) (ap (λ (l : List Member). m ∷ l) ih)
      go (no h) (yes d) ih =
          rw (le-ltb m.tag tag (omega arith), ne_eqb m.tag tag (omega arith), lt-ltb tag m.tag d, keep_none (is_lower tag) (is_higher tag) higher_not_lower ms (above (omega arith)), none_valued ms (above (omega arith)), keep_all (is_higher tag) ms (above (omega arith)))
      go (no h) (no d) ih =
          let same : m.tag ≡ tag = omega arith in
          rw (le-ltb m.tag tag (omega arith), eq-eqb m.tag tag same, le-ltb tag m.tag (omega arith), keep_none (is_lower tag) (is_higher tag) higher_not_lower ms (above (omega arith)), keep_all (is_higher tag) ms (above (omega arith)))
          (λ i. record { tag = same i; value = m.value } ∷ ms)

-- The slots before a member's of an update, and after it.
unfoldable pub lower_parts : ℕ → ℕ → ℕ → Update → Groups → List Slot
lower_parts k p tag u g = lower_slots k p g ++ (part_slot (row_at k p u) 0 [] ∷ map (member_slot (row_at k p u)) (keep (is_lower tag) u.members))

unfoldable pub upper_parts : ℕ → ℕ → ℕ → Update → Groups → List Slot
upper_parts k p tag u g = map (member_slot (row_at k p u)) (keep (is_higher tag) u.members) ++ upper_slots k p g

module _ (k p tag : ℕ) (g : Groups) (f : fine_groups g ≡ true) (u : Update) (e : find k p g.updates ≡ some u) where
  -- the update that is found is fine
  pub fine_found : fine_update (row_at k p u) ≡ true
  unfolding passes
  fine_found = rw e at (every_find fine_update k p g.updates (fine_every g f))

  pub found_tags : rising_from 0 u.members ≡ true
  unfolding row_at
  found_tags = update_tags (row_at k p u) fine_found

  -- the slots before a member's, its own, and those after it
  pub member_slots : group_slots g ≡ lower_parts k p tag u g ++ (map (member_slot (row_at k p u)) (own_member tag (member_value tag u.members)) ++ upper_parts k p tag u g)
  unfolding lower_parts upper_parts own_slots_lem update_slots row_at
  member_slots =
      let slot : Member → Slot = member_slot (row_at k p u) in
      let low : List Member = keep (is_lower tag) u.members in
      let own : List Member = own_member tag (member_value tag u.members) in
      let high : List Member = keep (is_higher tag) u.members in
      let parts : map slot u.members ≡ map slot low ++ (map slot own ++ map slot high) =
      ap (map slot) (members_split tag 0 u.members found_tags) ∙ map-append slot low (own ++ high) ∙ ap (λ (l : List Slot). map slot low ++ l) (map-append slot own high)
      in
      groups_split k p g (fine_rising g f)
      ∙ ap (λ (o : Option Update). lower_slots k p g ++ (own_slots_lem k p o ++ upper_slots k p g)) e
      ∙ ap (λ (l : List Slot). lower_slots k p g ++ (part_slot (row_at k p u) 0 [] ∷ (l ++ upper_slots k p g))) parts
      ∙ ap (λ (l : List Slot). lower_slots k p g ++ (part_slot (row_at k p u) 0 [] ∷ l))
      (append_assoc (map slot low) (map slot own ++ map slot high) (upper_slots k p g)
      ∙ ap (λ (l : List Slot). map slot low ++ l) (append_assoc (map slot own) (map slot high) (upper_slots k p g)))
      ∙ sym
      (append_assoc (lower_slots k p g) (part_slot (row_at k p u) 0 [] ∷ map slot low) (map slot own ++ (map slot high ++ upper_slots k p g)))

  pub length_lower_parts : length (lower_parts k p tag u g) ≡ start_of k p g + lower_in tag (find k p g.updates)
  unfolding lower_parts lower_in
  length_lower_parts =
      rw e
      (length-append (lower_slots k p g) (part_slot (row_at k p u) 0 [] ∷ map (member_slot (row_at k p u)) (keep (is_lower tag) u.members))
      ∙ omega (arith, length_lower_slots k p g, length-map (keep (is_lower tag) u.members) (member_slot (row_at k p u))))

  pub member_there : (v : List ℕ) → member_value tag u.members ≡ some v →
      group_slots g ≡ lower_parts k p tag u g ++ (member_slot (row_at k p u) (record { tag = tag; value = v }) ∷ upper_parts k p tag u g)
  unfolding own_member
  member_there v h =
      member_slots
      ∙ ap (λ (o : Option (List ℕ)). lower_parts k p tag u g ++ (map (member_slot (row_at k p u)) (own_member tag o) ++ upper_parts k p tag u g)) h

  pub member_absent : member_value tag u.members ≡ none → group_slots g ≡ lower_parts k p tag u g ++ upper_parts k p tag u g
  unfolding own_member
  member_absent h =
      member_slots
      ∙ ap (λ (o : Option (List ℕ)). lower_parts k p tag u g ++ (map (member_slot (row_at k p u)) (own_member tag o) ++ upper_parts k p tag u g)) h
