-- What stands at a place that was found: the slots of an update, of a member, of a committed value, and their words in the store.
-- Assumes nothing.
use mathlib.Core.Path.{◌≡◌, refl, sym, ◌∙◌, ap}
use mathlib.Core.Bool.{Bool, true, false}
use mathlib.Core.List.{List, [], ◌∷◌, ◌++◌}
use mathlib.Core.Option.{Option, none, some}
use Prim.Native.Nat.{ℕ, suc, ◌+◌, ◌*◌, ◌<◌}
use native.Mathlib.Omega.{arith}
use lib.Dec.{eqb}
use lib.ListN.{length, get_or, length-append}
use lib.Seq.{get_or_at}
use Rattle.lists.specs.Lists.{every}
use Rattle.lists.proofs.Bools.{and_left, and_right}
use Rattle.types.specs.Value.{value_at, value_width}
use Rattle.request.specs.Set.{Member}
use Rattle.slots.specs.Slots.{Slot, slot_width, held, slot_at, padded}
use Rattle.slots.specs.Found.{found_of}
use Rattle.std.proofs.Common.{Ok, Err}
use Rattle.slots.proofs.StoreWords.{slot_at_part, slot_at_word}
use Rattle.slots.proofs.StoreEncoding.{held_fits}
use Rattle.slots.proofs.SlotPlaces.{slot_at_held}
use Rattle.model.specs.Rows.{Row, find, rank, row_at}
use Rattle.model.specs.Group.{Update, first_tagged, member_value, members_in}
use Rattle.model.specs.Model.{updates_held}
use Rattle.model.specs.Fine.{fine_value, fine_member, fine_committed}
use Rattle.model.proofs.RowMaps.{passes, every_find}
use Rattle.model.proofs.FineUpdates.{member_value_lem}
use Rattle.types.specs.Flag.{flag_of}
use Rattle.group_slots.specs.Layout.{part_slot, member_slot, committed_slot, group_slots, groups_in, group_valid}
use Rattle.group_slots.specs.Found.{start_of, lower_in, member_found, committed_found}
use Rattle.group_slots.proofs.SlotParts.{update_values, committed_value}
use Rattle.group_slots.proofs.GatheredGroups.{part_value, committed_slot_value}
use Rattle.group_slots.proofs.GroupHolding.{fine_valid, held_valid, packed_valid, committed_every_valid}
use Rattle.group_slots.proofs.GroupSplits.{lower_values_lem, upper_values_lem, length_lower_values}
use Rattle.group_slots.proofs.GroupMembers.{lower_parts, upper_parts, fine_found, length_lower_parts, member_there}
use Rattle.group_slots.proofs.GroupPlaces.{committed_there}

pub slot_at_value : (i : ℕ) (s : List ℕ) → value_at 7 (slot_at i s) ≡ value_at (slot_width * i + 7) s
unfolding value_at
slot_at_value i s = slot_at_part i 7 value_width s (omega arith)

-- The words of a slot.
pub part_flag : (r : Row Update) (part : ℕ) (v : List ℕ) → get_or (part_slot r part v) 5 0 ≡ flag_of r.held.estimate
unfolding part_slot padded
part_flag r part v = refl

pub part_incarnation : (r : Row Update) (part : ℕ) (v : List ℕ) → get_or (part_slot r part v) 6 0 ≡ r.held.incarnation
unfolding part_slot padded
part_incarnation r part v = refl

-- The value of a member that is found is fine.
valued_fine : (place tag : ℕ) (ms : List Member) (v : List ℕ) → every (fine_member place) ms ≡ true → member_value tag ms ≡ some v → fine_value v ≡ true
unfolding every member_value first_tagged
valued_fine place tag [] v f e = absurd (let z : ◌≡◌ {A = ℕ} 0 1 = cc in omega arith)
valued_fine place tag (m ∷ ms) v f e = go (eqb m.tag tag) refl (valued_fine place tag ms v (and_right (fine_member place m) (every (fine_member place) ms) f))
  where
    go : (b : Bool) → eqb m.tag tag ≡ b → (member_value tag ms ≡ some v → fine_value v ≡ true) → fine_value v ≡ true
    go true h ih =
        let g : some m.value ≡ some v = rw h at e in
        let same : m.value ≡ v = cc in
        rw same at (member_value_lem place m (and_left (fine_member place m) (every (fine_member place) ms) f))
    go false h ih = ih (rw h at e)

module _ (s : List ℕ) (valid : group_valid s ≡ true) where
  -- a slot that follows others
  module _ (us : List Slot) (x : Slot) (ys : List Slot) (whole : group_slots (groups_in s) ≡ us ++ (x ∷ ys)) (i : ℕ) (here : length us ≡ i) where
    stands_inside : i < length (held s)
    stands_inside = omega (arith, ap length (held_valid s valid ∙ whole) ∙ length-append us (x ∷ ys), here)

    stands : slot_at i s ≡ x
    stands =
        slot_at_held s (packed_valid s valid) i (omega (arith, stands_inside, held_fits s)) stands_inside
        ∙ ap (λ (l : List Slot). get_or l i []) (held_valid s valid ∙ whole) ∙ get_or_at us x ys [] i here

  module _ (k p : ℕ) where
    module _ (u : Update) (e : find k p (groups_in s).updates ≡ some u) where
      -- a member's
      module _ (tag : ℕ) (v : List ℕ) (h : member_value tag u.members ≡ some v) (i : ℕ) (here : i ≡ start_of k p (groups_in s) + lower_in tag (find k p (groups_in s).updates)) where
        member_here : length (lower_parts k p tag u (groups_in s)) ≡ i
        member_here = length_lower_parts k p tag (groups_in s) (fine_valid s valid) u e ∙ sym here

        pub member_inside : i < length (held s)
        member_inside =
            stands_inside (lower_parts k p tag u (groups_in s)) (member_slot (row_at k p u) (record { tag = tag; value = v })) (upper_parts k p tag u (groups_in s))
            (member_there k p tag (groups_in s) (fine_valid s valid) u e v h) i member_here

        pub member_slot_lem : slot_at i s ≡ member_slot (row_at k p u) (record { tag = tag; value = v })
        member_slot_lem =
            stands (lower_parts k p tag u (groups_in s)) (member_slot (row_at k p u) (record { tag = tag; value = v })) (upper_parts k p tag u (groups_in s))
            (member_there k p tag (groups_in s) (fine_valid s valid) u e v h) i member_here

        pub member_fine : fine_value v ≡ true
        unfolding row_at
        member_fine = valued_fine p tag u.members v (update_values (row_at k p u) (fine_found k p tag (groups_in s) (fine_valid s valid) u e)) h

        pub member_value_at : value_at (slot_width * i + 7) s ≡ v
        unfolding member_slot
        member_value_at = sym (slot_at_value i s) ∙ ap (value_at 7) member_slot_lem ∙ part_value (row_at k p u) (suc tag) v member_fine

        pub member_flag : get_or s (slot_width * i + 5) 0 ≡ flag_of u.estimate
        unfolding member_slot row_at
        member_flag = sym (slot_at_word i 5 s (omega arith)) ∙ ap (λ (w : Slot). get_or w 5 0) member_slot_lem ∙ part_flag (row_at k p u) (suc tag) v

        pub member_incarnation : get_or s (slot_width * i + 6) 0 ≡ u.incarnation
        unfolding member_slot row_at
        member_incarnation = sym (slot_at_word i 6 s (omega arith)) ∙ ap (λ (w : Slot). get_or w 6 0) member_slot_lem ∙ part_incarnation (row_at k p u) (suc tag) v

    -- a committed value's
    module _ (v : List ℕ) (e : find k p (groups_in s).committed ≡ some v) (i : ℕ) (here : i ≡ updates_held (groups_in s).updates + rank k p (groups_in s).committed) where
      pub committed_inside : i < length (held s)
      committed_inside =
          stands_inside (lower_values_lem k p (groups_in s)) (committed_slot (row_at k p v)) (upper_values_lem k p (groups_in s))
          (committed_there (groups_in s) (fine_valid s valid) k p v e) i (length_lower_values k p (groups_in s) ∙ sym here)

      pub committed_slot_lem : slot_at i s ≡ committed_slot (row_at k p v)
      committed_slot_lem =
          stands (lower_values_lem k p (groups_in s)) (committed_slot (row_at k p v)) (upper_values_lem k p (groups_in s))
          (committed_there (groups_in s) (fine_valid s valid) k p v e) i (length_lower_values k p (groups_in s) ∙ sym here)

      committed_found_fine : fine_committed (row_at k p v) ≡ true
      unfolding passes
      committed_found_fine = rw e at (every_find fine_committed k p (groups_in s).committed (committed_every_valid s valid))

      pub committed_fine : fine_value v ≡ true
      unfolding row_at
      committed_fine = committed_value (row_at k p v) committed_found_fine

      pub committed_value_at : value_at (slot_width * i + 7) s ≡ v
      unfolding row_at
      committed_value_at = sym (slot_at_value i s) ∙ ap (value_at 7) committed_slot_lem ∙ committed_slot_value (row_at k p v) committed_fine

-- The same from what a search answered.
pub record MemberAt (key place tag i : ℕ) (s : List ℕ) : Type 0 where
  pub update : Update
  pub value : List ℕ
  pub found : find key place (groups_in s).updates ≡ some update
  pub valued : member_value tag update.members ≡ some value
  pub inside : i < length (held s)
  pub slot : slot_at i s ≡ member_slot (row_at key place update) (record { tag = tag; value = value })
  pub fine : fine_value value ≡ true
  pub words : value_at (slot_width * i + 7) s ≡ value
  pub flag : get_or s (slot_width * i + 5) 0 ≡ flag_of update.estimate
  pub incarnation : get_or s (slot_width * i + 6) 0 ≡ update.incarnation

pub record CommittedAt (key tag i : ℕ) (s : List ℕ) : Type 0 where
  pub value : List ℕ
  pub found : find key tag (groups_in s).committed ≡ some value
  pub inside : i < length (held s)
  pub slot : slot_at i s ≡ committed_slot (row_at key tag value)
  pub fine : fine_value value ≡ true
  pub words : value_at (slot_width * i + 7) s ≡ value

found_there : {A : Type 0} (n i : ℕ) (o : Option A) (a : A) → o ≡ some a → found_of n o ≡ Ok i → i ≡ n
unfolding found_of
found_there n i o a e f =
    let g : Ok n ≡ Ok i = rw e at f in
    let h : n ≡ i = cc in
    sym h

found_none : {A : Type 0} {B : Type 0} (n i : ℕ) (o : Option A) → o ≡ none → found_of n o ≡ Ok i → B
unfolding found_of
found_none n i o e f =
    let g : Err n ≡ Ok i = rw e at f in
    absurd (let z : ◌≡◌ {A = ℕ} 0 1 = cc in omega arith)

module _ (s : List ℕ) (valid : group_valid s ≡ true) (k p i : ℕ) where
  pub member_at : (tag : ℕ) → member_found k p tag (groups_in s) ≡ Ok i → MemberAt k p tag i s
  unfolding member_found members_in member_value
  member_at tag e = go (find k p (groups_in s).updates) refl
    where
      by_value : (u : Update) → find k p (groups_in s).updates ≡ some u → (o : Option (List ℕ)) → member_value tag u.members ≡ o → MemberAt k p tag i s
      by_value u f none h =
          found_none (start_of k p (groups_in s) + lower_in tag (find k p (groups_in s).updates)) i (member_value tag (members_in (find k p (groups_in s).updates))) (rw f h) e
      by_value u f (some v) h =
          let here : i ≡ start_of k p (groups_in s) + lower_in tag (find k p (groups_in s).updates) =
          found_there (start_of k p (groups_in s) + lower_in tag (find k p (groups_in s).updates)) i (member_value tag (members_in (find k p (groups_in s).updates))) v (rw f h) e
          in
          record {
            update = u;
            value = v;
            found = f;
            valued = h;
            inside = member_inside s valid k p u f tag v h i here;
            slot = member_slot_lem s valid k p u f tag v h i here;
            fine = member_fine s valid k p u f tag v h i here;
            words = member_value_at s valid k p u f tag v h i here;
            flag = member_flag s valid k p u f tag v h i here;
            incarnation = member_incarnation s valid k p u f tag v h i here;
          }

      go : (o : Option Update) → find k p (groups_in s).updates ≡ o → MemberAt k p tag i s
      go none f =
          found_none (start_of k p (groups_in s) + lower_in tag (find k p (groups_in s).updates)) i (member_value tag (members_in (find k p (groups_in s).updates))) (rw f) e
      go (some u) f = by_value u f (member_value tag u.members) refl

  pub committed_at : committed_found k p (groups_in s) ≡ Ok i → CommittedAt k p i s
  unfolding committed_found
  committed_at e = go (find k p (groups_in s).committed) refl
    where
      go : (o : Option (List ℕ)) → find k p (groups_in s).committed ≡ o → CommittedAt k p i s
      go none f = found_none (updates_held (groups_in s).updates + rank k p (groups_in s).committed) i (find k p (groups_in s).committed) f e
      go (some v) f =
          let here : i ≡ updates_held (groups_in s).updates + rank k p (groups_in s).committed =
          found_there (updates_held (groups_in s).updates + rank k p (groups_in s).committed) i (find k p (groups_in s).committed) v f e
          in
          record {
            value = v;
            found = f;
            inside = committed_inside s valid k p v f i here;
            slot = committed_slot_lem s valid k p v f i here;
            fine = committed_fine s valid k p v f i here;
            words = committed_value_at s valid k p v f i here;
          }

-- What a search that found nothing tells.
absent_told : {A : Type 0} (n i : ℕ) (o : Option A) → found_of n o ≡ Err i → (o ≡ none) × (i ≡ n)
unfolding found_of
absent_told n i none e = (refl, let h : n ≡ i = cc in sym h)
absent_told n i (some a) e = absurd (let z : ◌≡◌ {A = ℕ} 0 1 = cc in omega arith)

pub member_none : (s : List ℕ) (k p tag i : ℕ) → member_found k p tag (groups_in s) ≡ Err i →
    (member_value tag (members_in (find k p (groups_in s).updates)) ≡ none) × (i ≡ start_of k p (groups_in s) + lower_in tag (find k p (groups_in s).updates))
unfolding member_found
member_none s k p tag i e =
    absent_told (start_of k p (groups_in s) + lower_in tag (find k p (groups_in s).updates)) i (member_value tag (members_in (find k p (groups_in s).updates))) e

pub committed_none : (s : List ℕ) (k t i : ℕ) → committed_found k t (groups_in s) ≡ Err i →
    (find k t (groups_in s).committed ≡ none) × (i ≡ updates_held (groups_in s).updates + rank k t (groups_in s).committed)
unfolding committed_found
committed_none s k t i e =
    absent_told (updates_held (groups_in s).updates + rank k t (groups_in s).committed) i (find k t (groups_in s).committed) e
