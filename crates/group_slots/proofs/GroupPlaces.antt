-- Where a search for an update, a member or a committed value comes to among the slots of a fine group store.
-- Assumes nothing.
use mathlib.Core.Path.{◌≡◌, refl, sym, ◌∙◌, ap, ap₂}
use mathlib.Core.Bool.{Bool, true, not, ◌&&◌}
use mathlib.Core.List.{List, [], ◌∷◌, ◌++◌, map, append_assoc}
use mathlib.Core.Option.{Option, none, some}
use Prim.Native.Nat.{ℕ, suc, ◌+◌, ◌-◌, ◌≤◌, ◌<◌}
use native.Mathlib.Omega.{arith}
use native.Mathlib.Decide.{dec_lt}
use lib.Dec.{leb}
use lib.ListN.{length, take, length-append}
use borrow.Author.Tests.{ltb-true, leb-true, lt-ltb, le-ltb, eq-eqb, ne_eqb}
use Rattle.lists.specs.Lists.{every, keep}
use Rattle.lists.proofs.Bools.{and_both, and_left, and_right}
use Rattle.lists.proofs.Lists.{every_append, every_imp, every_kept}
use Rattle.types.specs.Response.{most_tags}
use Rattle.request.specs.Set.{Member}
use Rattle.slots.specs.Slots
use Rattle.slots.specs.Slots.{Slot, before, ordered, place_of, held}
use Rattle.slots.specs.Found.{found_at, found_of}
use Rattle.std.proofs.Common.{Result}
use Rattle.slots.proofs.SlotOrder.{before_asym, before_irrefl}
use Rattle.slots.proofs.SlotFinds.{place_between, found_there, found_absent}
use Rattle.slots.proofs.ZeroWords.{words_same}
use Rattle.model.specs.Rows.{is_below, is_above, of_key, find, rank, row_at}
use Rattle.model.specs.Group.{Update, Committed, member_value, members_in}
use Rattle.model.specs.Model.{updates_held}
use Rattle.model.specs.Fine.{rising_from, fine_committed}
use Rattle.model.proofs.Rows.{above_told, below_told}
use Rattle.group_slots.specs.Layout.{Groups, part_slot, member_slot, update_slots, updates_slots, committed_slot, group_slots, groups_in, fine_groups, group_valid}
use Rattle.group_slots.specs.Found.{start_of, slots_taken, is_lower, lower_in, run_of, member_found, committed_found}
use Rattle.group_slots.proofs.SlotParts.{part_place, committed_place, committed_tag, every_map, every_parts, every_updates, every_updated, every_mapped, earlier_part, later_part, earlier_place, tags_from_lem, fine_rising, fine_committed_rising, fine_committed_every, slots_ordered}
use Rattle.group_slots.proofs.GroupHolding.{fine_valid, held_valid}
use Rattle.group_slots.proofs.GroupSplits.{own_slots_lem, own_value_lem, lower_slots, upper_slots, lower_values_lem, upper_values_lem, groups_split, committed_split, length_own_slots, length_lower_slots, length_lower_values}
use Rattle.group_slots.proofs.GroupMembers.{is_higher, lower_parts, upper_parts, found_tags, length_lower_parts, member_there, member_absent}

-- what stands after the four words does not stand before them
every_after : (k : List ℕ) (us : List Slot) → every (λ u. before k (take 4 u)) us ≡ true → every (λ u. not (before (take 4 u) k)) us ≡ true
every_after k us e = every_imp (λ u. before k (take 4 u)) (λ u. not (before (take 4 u) k)) (λ u f. ap not (before_asym k (take 4 u) f)) us e

-- The slots around an update stand before and after any part of it.
module _ (k p : ℕ) (g : Groups) (x : ℕ) where
  pub lower_before : every (λ u. before (take 4 u) (1 ∷ k ∷ p ∷ x ∷ [])) (lower_slots k p g) ≡ true
  unfolding lower_slots
  lower_before =
      every_updates (is_below k p) (λ u. before (take 4 u) (1 ∷ k ∷ p ∷ x ∷ []))
      (λ r e.
      every_parts (λ u. before (take 4 u) (1 ∷ k ∷ p ∷ x ∷ [])) r
      (λ a v. rw (part_place r a v) (earlier_place 1 r.key r.place a k p x (below_told k p r e))))
      (keep (is_below k p) g.updates) (every_kept (is_below k p) g.updates)

  pub upper_after : every (λ u. before (1 ∷ k ∷ p ∷ x ∷ []) (take 4 u)) (upper_slots k p g) ≡ true
  unfolding upper_slots before
  upper_after =
      every_append (λ u. before (1 ∷ k ∷ p ∷ x ∷ []) (take 4 u)) (updates_slots (keep (is_above k p) g.updates)) (map committed_slot g.committed)
      ∙ and_both (every (λ u. before (1 ∷ k ∷ p ∷ x ∷ []) (take 4 u)) (updates_slots (keep (is_above k p) g.updates)))
      (every (λ u. before (1 ∷ k ∷ p ∷ x ∷ []) (take 4 u)) (map committed_slot g.committed))
      (every_updates (is_above k p) (λ u. before (1 ∷ k ∷ p ∷ x ∷ []) (take 4 u))
      (λ r e.
      every_parts (λ u. before (1 ∷ k ∷ p ∷ x ∷ []) (take 4 u)) r
      (λ a v. rw (part_place r a v) (earlier_place 1 k p x r.key r.place a (above_told k p r e))))
      (keep (is_above k p) g.updates) (every_kept (is_above k p) g.updates))
      (every_mapped (λ u. before (1 ∷ k ∷ p ∷ x ∷ []) (take 4 u)) committed_slot (λ r. rw (committed_place r)) g.committed)

module _ (k p : ℕ) (u : Update) where
  -- the slots of an update do not stand before its first
  own_first : every (λ w. not (before (take 4 w) (1 ∷ k ∷ p ∷ 0 ∷ []))) (update_slots (row_at k p u)) ≡ true
  unfolding row_at
  own_first =
      every_parts (λ w. not (before (take 4 w) (1 ∷ k ∷ p ∷ 0 ∷ []))) (row_at k p u)
      (λ a v. rw (part_place (row_at k p u) a v, later_part k p a 0 (omega arith)))

  -- members by their tags
  lower_members : (tag : ℕ) (ms : List Member) → every (is_lower tag) ms ≡ true →
      every (λ w. before (take 4 w) (1 ∷ k ∷ p ∷ suc tag ∷ [])) (map (member_slot (row_at k p u)) ms) ≡ true
  unfolding is_lower member_slot row_at
  lower_members tag ms e =
      every_map (is_lower tag) (λ w. before (take 4 w) (1 ∷ k ∷ p ∷ suc tag ∷ [])) (member_slot (row_at k p u))
      (λ m f.
      rw (part_place (row_at k p u) (suc m.tag) m.value) (earlier_part k p (suc m.tag) (suc tag) (omega (arith, ltb-true m.tag tag f))))
      ms e

  higher_members : (tag : ℕ) (ms : List Member) → every (is_higher tag) ms ≡ true →
      every (λ w. before (1 ∷ k ∷ p ∷ suc tag ∷ []) (take 4 w)) (map (member_slot (row_at k p u)) ms) ≡ true
  unfolding is_higher member_slot row_at
  higher_members tag ms e =
      every_map (is_higher tag) (λ w. before (1 ∷ k ∷ p ∷ suc tag ∷ []) (take 4 w)) (member_slot (row_at k p u))
      (λ m f.
      rw (part_place (row_at k p u) (suc m.tag) m.value) (earlier_part k p (suc tag) (suc m.tag) (omega (arith, ltb-true tag m.tag f))))
      ms e

  own_with : (tag : ℕ) (ms : List Member) → every (is_lower tag) ms ≡ true →
      every (λ w. before (take 4 w) (1 ∷ k ∷ p ∷ suc tag ∷ [])) (part_slot (row_at k p u) 0 [] ∷ map (member_slot (row_at k p u)) ms) ≡ true
  unfolding every row_at
  own_with tag ms e =
      and_both (before (take 4 (part_slot (row_at k p u) 0 [])) (1 ∷ k ∷ p ∷ suc tag ∷ []))
      (every (λ w. before (take 4 w) (1 ∷ k ∷ p ∷ suc tag ∷ [])) (map (member_slot (row_at k p u)) ms))
      (rw (part_place (row_at k p u) 0 []) (earlier_part k p 0 (suc tag) (omega arith))) (lower_members tag ms e)

  -- all of them stand before the part after the last tag
  own_last : rising_from 0 u.members ≡ true → every (λ w. before (take 4 w) (1 ∷ k ∷ p ∷ 65 ∷ [])) (update_slots (row_at k p u)) ≡ true
  unfolding update_slots is_lower row_at
  own_last e =
      own_with most_tags u.members
      (every_imp (λ m. leb 0 m.tag && leb m.tag 63) (is_lower most_tags)
      (λ m f. lt-ltb m.tag most_tags (omega (arith, leb-true m.tag 63 (and_right (leb 0 m.tag) (leb m.tag 63) f))))
      u.members (tags_from_lem 0 0 u.members (omega arith) e))

-- The slots around a committed value.
module _ (k t : ℕ) (g : Groups) where
  lower_values : every (λ u. before (take 4 u) (2 ∷ k ∷ t ∷ 0 ∷ [])) (lower_values_lem k t g) ≡ true
  unfolding lower_values_lem before
  lower_values =
      every_append (λ u. before (take 4 u) (2 ∷ k ∷ t ∷ 0 ∷ [])) (updates_slots g.updates) (map committed_slot (keep (is_below k t) g.committed))
      ∙ and_both (every (λ u. before (take 4 u) (2 ∷ k ∷ t ∷ 0 ∷ [])) (updates_slots g.updates))
      (every (λ u. before (take 4 u) (2 ∷ k ∷ t ∷ 0 ∷ [])) (map committed_slot (keep (is_below k t) g.committed)))
      (every_updated (λ u. before (take 4 u) (2 ∷ k ∷ t ∷ 0 ∷ [])) (λ r a v. rw (part_place r a v)) g.updates)
      (every_map (is_below k t) (λ u. before (take 4 u) (2 ∷ k ∷ t ∷ 0 ∷ [])) committed_slot
      (λ r e. rw (committed_place r) (earlier_place 2 r.key r.place 0 k t 0 (below_told k t r e)))
      (keep (is_below k t) g.committed) (every_kept (is_below k t) g.committed))

  upper_values : every (λ u. before (2 ∷ k ∷ t ∷ 0 ∷ []) (take 4 u)) (upper_values_lem k t g) ≡ true
  unfolding upper_values_lem
  upper_values =
      every_map (is_above k t) (λ u. before (2 ∷ k ∷ t ∷ 0 ∷ []) (take 4 u)) committed_slot
      (λ r e. rw (committed_place r) (earlier_place 2 k t 0 r.key r.place 0 (above_told k t r e)))
      (keep (is_above k t) g.committed) (every_kept (is_above k t) g.committed)

-- Where the searches end.
module _ (g : Groups) (f : fine_groups g ≡ true) where
  module _ (k p : ℕ) where
    own_after : (o : Option Update) → every (λ w. not (before (take 4 w) (1 ∷ k ∷ p ∷ 0 ∷ []))) (own_slots_lem k p o) ≡ true
    unfolding own_slots_lem every
    own_after none = refl
    own_after (some u) = own_first k p u

    own_before : (o : Option Update) → find k p g.updates ≡ o → every (λ w. before (take 4 w) (1 ∷ k ∷ p ∷ 65 ∷ [])) (own_slots_lem k p o) ≡ true
    unfolding own_slots_lem every
    own_before none e = refl
    own_before (some u) e = own_last k p u (found_tags k p 0 g f u e)

    pub place_start : place_of (1 ∷ k ∷ p ∷ 0 ∷ []) (group_slots g) ≡ start_of k p g
    place_start =
        let key : List ℕ = 1 ∷ k ∷ p ∷ 0 ∷ [] in
        let own : List Slot = own_slots_lem k p (find k p g.updates) in
        let upper : List Slot = upper_slots k p g in
        ap (place_of key) (groups_split k p g (fine_rising g f))
        ∙ place_between key (lower_slots k p g) (own ++ upper) (lower_before k p g 0)
        (every_append (λ w. not (before (take 4 w) key)) own upper
        ∙ and_both (every (λ w. not (before (take 4 w) key)) own) (every (λ w. not (before (take 4 w) key)) upper) (own_after (find k p g.updates))
        (every_after key upper (upper_after k p g 0)))
        ∙ length_lower_slots k p g

    pub place_end : place_of (1 ∷ k ∷ p ∷ 65 ∷ []) (group_slots g) ≡ start_of k p g + slots_taken (find k p g.updates)
    place_end =
        let key : List ℕ = 1 ∷ k ∷ p ∷ 65 ∷ [] in
        let lower : List Slot = lower_slots k p g in
        let own : List Slot = own_slots_lem k p (find k p g.updates) in
        let upper : List Slot = upper_slots k p g in
        ap (place_of key) (groups_split k p g (fine_rising g f) ∙ sym (append_assoc lower own upper))
        ∙ place_between key (lower ++ own) upper
        (every_append (λ w. before (take 4 w) key) lower own
        ∙ and_both (every (λ w. before (take 4 w) key) lower) (every (λ w. before (take 4 w) key) own) (lower_before k p g 65)
        (own_before (find k p g.updates) refl))
        (every_after key upper (upper_after k p g 65))
        ∙ length-append lower own
        ∙ omega (arith, length_lower_slots k p g, length_own_slots k p (find k p g.updates))

    module _ (tag : ℕ) where
      -- the slots around a member stand before and after it
      module _ (u : Update) where
        before_member : every (λ w. before (take 4 w) (1 ∷ k ∷ p ∷ suc tag ∷ [])) (lower_parts k p tag u g) ≡ true
        unfolding lower_parts
        before_member =
            let test : Slot → Bool = λ w. before (take 4 w) (1 ∷ k ∷ p ∷ suc tag ∷ []) in
            let parts : List Slot = part_slot (row_at k p u) 0 [] ∷ map (member_slot (row_at k p u)) (keep (is_lower tag) u.members) in
            every_append test (lower_slots k p g) parts
            ∙ and_both (every test (lower_slots k p g)) (every test parts) (lower_before k p g (suc tag))
            (own_with k p u tag (keep (is_lower tag) u.members) (every_kept (is_lower tag) u.members))

        after_member : every (λ w. before (1 ∷ k ∷ p ∷ suc tag ∷ []) (take 4 w)) (upper_parts k p tag u g) ≡ true
        unfolding upper_parts
        after_member =
            let test : Slot → Bool = λ w. before (1 ∷ k ∷ p ∷ suc tag ∷ []) (take 4 w) in
            let parts : List Slot = map (member_slot (row_at k p u)) (keep (is_higher tag) u.members) in
            every_append test parts (upper_slots k p g)
            ∙ and_both (every test parts) (every test (upper_slots k p g))
            (higher_members k p u tag (keep (is_higher tag) u.members) (every_kept (is_higher tag) u.members)) (upper_after k p g (suc tag))

        member_at : (v : List ℕ) → Slots.is_at (1 ∷ k ∷ p ∷ suc tag ∷ []) (member_slot (row_at k p u) (record { tag = tag; value = v })) ≡ true
        unfolding Slots.is_at member_slot row_at
        member_at v = rw (part_place (row_at k p u) (suc tag) v) (words_same (1 ∷ k ∷ p ∷ suc tag ∷ []))

      found_no_update : find k p g.updates ≡ none → found_at (1 ∷ k ∷ p ∷ suc tag ∷ []) (group_slots g) ≡ member_found k p tag g
      unfolding member_found found_of lower_in members_in member_value own_slots_lem
      found_no_update e =
          let place : length (lower_slots k p g) ≡ start_of k p g + 0 = omega (arith, length_lower_slots k p g) in
          let whole : group_slots g ≡ lower_slots k p g ++ upper_slots k p g =
          groups_split k p g (fine_rising g f) ∙ ap (λ (o : Option Update). lower_slots k p g ++ (own_slots_lem k p o ++ upper_slots k p g)) e
          in
          ap (found_at (1 ∷ k ∷ p ∷ suc tag ∷ [])) whole
          ∙ found_absent (1 ∷ k ∷ p ∷ suc tag ∷ []) (lower_slots k p g) (upper_slots k p g) (lower_before k p g (suc tag)) (upper_after k p g (suc tag))
          ∙ rw (e, place)

      module _ (u : Update) (e : find k p g.updates ≡ some u) where
        found_no_member : member_value tag u.members ≡ none → found_at (1 ∷ k ∷ p ∷ suc tag ∷ []) (group_slots g) ≡ member_found k p tag g
        unfolding member_found found_of members_in
        found_no_member h =
            let whole : group_slots g ≡ lower_parts k p tag u g ++ upper_parts k p tag u g = member_absent k p tag g f u e h in
            ap (found_at (1 ∷ k ∷ p ∷ suc tag ∷ [])) whole
            ∙ found_absent (1 ∷ k ∷ p ∷ suc tag ∷ []) (lower_parts k p tag u g) (upper_parts k p tag u g) (before_member u) (after_member u)
            ∙ rw (length_lower_parts k p tag g f u e, e, h)

        found_a_member : (v : List ℕ) → member_value tag u.members ≡ some v → found_at (1 ∷ k ∷ p ∷ suc tag ∷ []) (group_slots g) ≡ member_found k p tag g
        unfolding member_found found_of members_in
        found_a_member v h =
            let slot : Slot = member_slot (row_at k p u) (record { tag = tag; value = v }) in
            let whole : group_slots g ≡ lower_parts k p tag u g ++ (slot ∷ upper_parts k p tag u g) = member_there k p tag g f u e v h in
            ap (found_at (1 ∷ k ∷ p ∷ suc tag ∷ [])) whole
            ∙ found_there (1 ∷ k ∷ p ∷ suc tag ∷ []) (lower_parts k p tag u g) (upper_parts k p tag u g) slot (ap ordered (sym whole) ∙ slots_ordered g f) (member_at u v)
            ∙ rw (length_lower_parts k p tag g f u e, e, h)

      pub found_member : found_at (1 ∷ k ∷ p ∷ suc tag ∷ []) (group_slots g) ≡ member_found k p tag g
      found_member = go (find k p g.updates) refl
        where
          by_value : (u : Update) → find k p g.updates ≡ some u → (o : Option (List ℕ)) → member_value tag u.members ≡ o →
              found_at (1 ∷ k ∷ p ∷ suc tag ∷ []) (group_slots g) ≡ member_found k p tag g
          by_value u e none h = found_no_member u e h
          by_value u e (some v) h = found_a_member u e v h

          go : (o : Option Update) → find k p g.updates ≡ o → found_at (1 ∷ k ∷ p ∷ suc tag ∷ []) (group_slots g) ≡ member_found k p tag g
          go none e = found_no_update e
          go (some u) e = by_value u e (member_value tag u.members) refl

  module _ (k t : ℕ) where
    pub committed_there : (v : List ℕ) → find k t g.committed ≡ some v → group_slots g ≡ lower_values_lem k t g ++ (committed_slot (row_at k t v) ∷ upper_values_lem k t g)
    unfolding own_value_lem
    committed_there v e =
        committed_split k t g (fine_committed_rising g f) ∙ ap (λ (o : Option (List ℕ)). lower_values_lem k t g ++ (own_value_lem k t o ++ upper_values_lem k t g)) e

    committed_absent : find k t g.committed ≡ none → group_slots g ≡ lower_values_lem k t g ++ upper_values_lem k t g
    unfolding own_value_lem
    committed_absent e =
        committed_split k t g (fine_committed_rising g f) ∙ ap (λ (o : Option (List ℕ)). lower_values_lem k t g ++ (own_value_lem k t o ++ upper_values_lem k t g)) e

    committed_at : (v : List ℕ) → Slots.is_at (2 ∷ k ∷ t ∷ 0 ∷ []) (committed_slot (row_at k t v)) ≡ true
    unfolding Slots.is_at row_at
    committed_at v = rw (committed_place (row_at k t v)) (words_same (2 ∷ k ∷ t ∷ 0 ∷ []))

    pub found_committed : found_at (2 ∷ k ∷ t ∷ 0 ∷ []) (group_slots g) ≡ committed_found k t g
    unfolding committed_found found_of
    found_committed = go (find k t g.committed) refl
      where
        go : (o : Option (List ℕ)) → find k t g.committed ≡ o → found_at (2 ∷ k ∷ t ∷ 0 ∷ []) (group_slots g) ≡ committed_found k t g
        go none e =
            ap (found_at (2 ∷ k ∷ t ∷ 0 ∷ [])) (committed_absent e)
            ∙ found_absent (2 ∷ k ∷ t ∷ 0 ∷ []) (lower_values_lem k t g) (upper_values_lem k t g) (lower_values k t g) (upper_values k t g)
            ∙ rw (length_lower_values k t g, e)
        go (some v) e =
            ap (found_at (2 ∷ k ∷ t ∷ 0 ∷ [])) (committed_there v e)
            ∙ found_there (2 ∷ k ∷ t ∷ 0 ∷ []) (lower_values_lem k t g) (upper_values_lem k t g) (committed_slot (row_at k t v))
            (ap ordered (sym (committed_there v e)) ∙ slots_ordered g f) (committed_at v)
            ∙ rw (length_lower_values k t g, e)

    -- the committed values below a key and tag are all before their place
    own_value_after : (o : Option (List ℕ)) → every (λ w. not (before (take 4 w) (2 ∷ k ∷ t ∷ 0 ∷ []))) (own_value_lem k t o) ≡ true
    unfolding own_value_lem every row_at
    own_value_after none = refl
    own_value_after (some v) = rw (committed_place (row_at k t v), before_irrefl (2 ∷ k ∷ t ∷ 0 ∷ []))

    pub place_committed : place_of (2 ∷ k ∷ t ∷ 0 ∷ []) (group_slots g) ≡ updates_held g.updates + rank k t g.committed
    place_committed =
        let key : List ℕ = 2 ∷ k ∷ t ∷ 0 ∷ [] in
        let own : List Slot = own_value_lem k t (find k t g.committed) in
        let upper : List Slot = upper_values_lem k t g in
        ap (place_of key) (committed_split k t g (fine_committed_rising g f))
        ∙ place_between key (lower_values_lem k t g) (own ++ upper) (lower_values k t g)
        (every_append (λ w. not (before (take 4 w) key)) own upper
        ∙ and_both (every (λ w. not (before (take 4 w) key)) own) (every (λ w. not (before (take 4 w) key)) upper)
        (own_value_after (find k t g.committed)) (every_after key upper (upper_values k t g)))
        ∙ length_lower_values k t g

-- A key's committed values stand together: from the place of its first tag to that of the tag after the last.
pub rank_key : (k : ℕ) (rs : Committed) → every fine_committed rs ≡ true → rank k most_tags rs ≡ rank k 0 rs + length (of_key k rs)
unfolding rank of_key keep every is_below
rank_key k [] e = refl
rank_key k (r ∷ rs) e =
    go (dec_lt r.key k) (dec_lt k r.key) (rank_key k rs (and_right (fine_committed r) (every fine_committed rs) e))
    (committed_tag r (and_left (fine_committed r) (every fine_committed rs) e))
  where
    go : Dec (r.key < k) → Dec (k < r.key) → rank k most_tags rs ≡ rank k 0 rs + length (of_key k rs) → r.place ≤ 63 →
        rank k most_tags (r ∷ rs) ≡ rank k 0 (r ∷ rs) + length (of_key k (r ∷ rs))
    go (yes h) d ih t = rw (lt-ltb r.key k h, ne_eqb r.key k (omega arith)) (omega arith)
    go (no h) (yes d) ih t = rw (le-ltb r.key k (omega arith), ne_eqb r.key k (omega arith)) (omega arith)
    go (no h) (no d) ih t =
        rw (le-ltb r.key k (omega arith), eq-eqb r.key k (omega arith), lt-ltb r.place most_tags (omega arith), le-ltb r.place 0 (omega arith)) (omega arith)

pub place_key_end : (k : ℕ) (g : Groups) → fine_groups g ≡ true →
    place_of (2 ∷ k ∷ most_tags ∷ 0 ∷ []) (group_slots g) ≡ updates_held g.updates + (rank k 0 g.committed + length (of_key k g.committed))
place_key_end k g f = place_committed g f k most_tags ∙ ap (λ (n : ℕ). updates_held g.updates + n) (rank_key k g.committed (fine_committed_every g f))

-- The same of a valid store.
module _ (s : List ℕ) (v : group_valid s ≡ true) where
  module _ (k p : ℕ) where
    pub start_valid : place_of (1 ∷ k ∷ p ∷ 0 ∷ []) (held s) ≡ start_of k p (groups_in s)
    start_valid = ap (place_of (1 ∷ k ∷ p ∷ 0 ∷ [])) (held_valid s v) ∙ place_start (groups_in s) (fine_valid s v) k p

    pub end_valid : place_of (1 ∷ k ∷ p ∷ 65 ∷ []) (held s) ≡ start_of k p (groups_in s) + slots_taken (find k p (groups_in s).updates)
    end_valid = ap (place_of (1 ∷ k ∷ p ∷ 65 ∷ [])) (held_valid s v) ∙ place_end (groups_in s) (fine_valid s v) k p

    pub member_valid : (tag : ℕ) → found_at (1 ∷ k ∷ p ∷ suc tag ∷ []) (held s) ≡ member_found k p tag (groups_in s)
    member_valid tag = ap (found_at (1 ∷ k ∷ p ∷ suc tag ∷ [])) (held_valid s v) ∙ found_member (groups_in s) (fine_valid s v) k p tag

    pub committed_found_valid : found_at (2 ∷ k ∷ p ∷ 0 ∷ []) (held s) ≡ committed_found k p (groups_in s)
    committed_found_valid = ap (found_at (2 ∷ k ∷ p ∷ 0 ∷ [])) (held_valid s v) ∙ found_committed (groups_in s) (fine_valid s v) k p

  -- what the code's searches came to
  module _ (k p w : ℕ) (word : w ≡ p) (i j : ℕ) (first : i ≡ place_of (1 ∷ k ∷ w ∷ 0 ∷ []) (held s)) (last : j ≡ place_of (1 ∷ k ∷ w ∷ 65 ∷ []) (held s)) where
    first_is : i ≡ start_of k p (groups_in s)
    first_is = first ∙ ap (λ (x : ℕ). place_of (1 ∷ k ∷ x ∷ 0 ∷ []) (held s)) word ∙ start_valid k p

    last_is : j ≡ start_of k p (groups_in s) + slots_taken (find k p (groups_in s).updates)
    last_is = last ∙ ap (λ (x : ℕ). place_of (1 ∷ k ∷ x ∷ 65 ∷ []) (held s)) word ∙ end_valid k p

    pub run_rises : i ≤ j
    run_rises = omega (arith, first_is, last_is)

    pub run_is : record { at = i; len = j - i } ≡ run_of k p (groups_in s)
    unfolding run_of
    run_is =
        let size : j - i ≡ slots_taken (find k p (groups_in s).updates) = omega (arith, first_is, last_is) in
        λ x. record { at = first_is x; len = size x }

  pub member_is : (k p w : ℕ) → w ≡ p → (tag : ℕ) (r : Result ℕ ℕ) → r ≡ found_at (1 ∷ k ∷ w ∷ (tag + 1) ∷ []) (held s) → r ≡ member_found k p tag (groups_in s)
  member_is k p w word tag r e =
      let part : tag + 1 ≡ suc tag = omega arith in
      e ∙ ap₂ (λ (x y : ℕ). found_at (1 ∷ k ∷ x ∷ y ∷ []) (held s)) word part ∙ member_valid k p tag
