-- The slots of a group store in three parts: those below a key and place, those at them, and those above them; and what an edit there leaves.
-- Assumes nothing.
use mathlib.Core.Path.{◌≡◌, refl, sym, ◌∙◌, ap, ap₂}
use mathlib.Core.Bool.{Bool, true, false, not}
use mathlib.Core.List.{List, [], ◌∷◌, ◌++◌, map, map-append, append_assoc, append-nil}
use mathlib.Core.Option.{Option, none, some}
use Prim.Native.Nat.{ℕ, suc, ◌+◌}
use native.Mathlib.Omega.{arith}
use lib.ListN.{length, length-append, length-map}
use Rattle.lists.specs.Lists.{keep}
use Rattle.lists.proofs.Lists.{every_imp, every_kept, keep_all, keep_append, keep_none}
use Rattle.slots.specs.Slots.{Slot}
use Rattle.model.specs.Rows.{Row, is_below, is_at, is_above, rising, find, put, erase, rank, row_at}
use Rattle.model.specs.Group.{Update, Committed}
use Rattle.model.specs.Model.{updates_held}
use Rattle.model.proofs.Rows.{split, below_not_at, above_not_at}
use Rattle.model.proofs.RowPlaces.{at_absent, at_present}
use Rattle.group_slots.specs.Layout.{Groups, with_group, update_slots, updates_slots, committed_slot, group_slots, held_by, with_group_updates}
use Rattle.group_slots.specs.Found.{start_of, slots_taken}
use Rattle.group_slots.proofs.SlotParts.{length_update_slots, length_updates_slots, length_group_slots}

-- The slots of an update that is looked for, and of a committed value.
unfoldable pub own_slots_lem : ℕ → ℕ → Option Update → List Slot
own_slots_lem k p none = []
own_slots_lem k p (some u) = update_slots (row_at k p u)

unfoldable pub own_value_lem : ℕ → ℕ → Option (List ℕ) → List Slot
own_value_lem k t none = []
own_value_lem k t (some v) = committed_slot (row_at k t v) ∷ []

-- The slots before an update's, and after them.
unfoldable pub lower_slots : ℕ → ℕ → Groups → List Slot
lower_slots k p g = updates_slots (keep (is_below k p) g.updates)

unfoldable pub upper_slots : ℕ → ℕ → Groups → List Slot
upper_slots k p g = updates_slots (keep (is_above k p) g.updates) ++ map committed_slot g.committed

-- The slots before a committed value's, and after it.
unfoldable pub lower_values_lem : ℕ → ℕ → Groups → List Slot
lower_values_lem k t g = updates_slots g.updates ++ map committed_slot (keep (is_below k t) g.committed)

unfoldable pub upper_values_lem : ℕ → ℕ → Groups → List Slot
upper_values_lem k t g = map committed_slot (keep (is_above k t) g.committed)

-- Rows.
module _ {A : Type 0} (k p : ℕ) (rs : List (Row A)) (g : rising rs ≡ true) where
  stays : (q : Row A → Bool) → ((r : Row A) → q r ≡ true → is_at k p r ≡ false) → keep (λ r. not (is_at k p r)) (keep q rs) ≡ keep q rs
  stays q f =
      keep_all (λ r. not (is_at k p r)) (keep q rs) (every_imp q (λ r. not (is_at k p r)) (λ r h. ap not (f r h)) (keep q rs) (every_kept q rs))

  pub erase_split : erase k p rs ≡ keep (is_below k p) rs ++ keep (is_above k p) rs
  unfolding erase
  erase_split =
      ap (keep (λ r. not (is_at k p r))) (split k p rs g)
      ∙ keep_append (λ r. not (is_at k p r)) (keep (is_below k p) rs) (keep (is_at k p) rs ++ keep (is_above k p) rs)
      ∙ ap₂ (λ (l m : List (Row A)). l ++ m) (stays (is_below k p) (λ r. below_not_at k p r))
      (keep_append (λ r. not (is_at k p r)) (keep (is_at k p) rs) (keep (is_above k p) rs)
      ∙ ap₂ (λ (l m : List (Row A)). l ++ m)
      (keep_none (λ r. not (is_at k p r)) (is_at k p) (λ r h. ap not h) (keep (is_at k p) rs) (every_kept (is_at k p) rs))
      (stays (is_above k p) (λ r. above_not_at k p r)))

pub updates_slots_append : (xs ys : List (Row Update)) → updates_slots (xs ++ ys) ≡ updates_slots xs ++ updates_slots ys
unfolding updates_slots
updates_slots_append [] ys = refl
updates_slots_append (x ∷ xs) ys =
    ap (λ (l : List Slot). update_slots x ++ l) (updates_slots_append xs ys) ∙ sym (append_assoc (update_slots x) (updates_slots xs) (updates_slots ys))

module _ (k p : ℕ) where
  own_slots : (rs : List (Row Update)) → rising rs ≡ true → updates_slots (keep (is_at k p) rs) ≡ own_slots_lem k p (find k p rs)
  unfolding updates_slots own_slots_lem
  own_slots rs g = go (find k p rs) refl
    where
      go : (o : Option Update) → find k p rs ≡ o → updates_slots (keep (is_at k p) rs) ≡ own_slots_lem k p (find k p rs)
      go none e = rw (e, at_absent k p rs e)
      go (some u) e = rw (e, at_present k p rs u g e) (append-nil (update_slots (row_at k p u)))

  pub updates_split : (rs : List (Row Update)) → rising rs ≡ true →
      updates_slots rs ≡ updates_slots (keep (is_below k p) rs) ++ (own_slots_lem k p (find k p rs) ++ updates_slots (keep (is_above k p) rs))
  updates_split rs g =
      ap updates_slots (split k p rs g)
      ∙ updates_slots_append (keep (is_below k p) rs) (keep (is_at k p) rs ++ keep (is_above k p) rs)
      ∙ ap (λ (l : List Slot). updates_slots (keep (is_below k p) rs) ++ l)
      (updates_slots_append (keep (is_at k p) rs) (keep (is_above k p) rs)
      ∙ ap (λ (l : List Slot). l ++ updates_slots (keep (is_above k p) rs)) (own_slots rs g))

  own_value : (rs : Committed) → rising rs ≡ true → map committed_slot (keep (is_at k p) rs) ≡ own_value_lem k p (find k p rs)
  unfolding own_value_lem
  own_value rs g = go (find k p rs) refl
    where
      go : (o : Option (List ℕ)) → find k p rs ≡ o → map committed_slot (keep (is_at k p) rs) ≡ own_value_lem k p (find k p rs)
      go none e = rw (e, at_absent k p rs e)
      go (some v) e = rw (e, at_present k p rs v g e)

  pub values_split : (rs : Committed) → rising rs ≡ true →
      map committed_slot rs ≡ map committed_slot (keep (is_below k p) rs) ++ (own_value_lem k p (find k p rs) ++ map committed_slot (keep (is_above k p) rs))
  values_split rs g =
      ap (map committed_slot) (split k p rs g)
      ∙ map-append committed_slot (keep (is_below k p) rs) (keep (is_at k p) rs ++ keep (is_above k p) rs)
      ∙ ap (λ (l : List Slot). map committed_slot (keep (is_below k p) rs) ++ l)
      (map-append committed_slot (keep (is_at k p) rs) (keep (is_above k p) rs)
      ∙ ap (λ (l : List Slot). l ++ map committed_slot (keep (is_above k p) rs)) (own_value rs g))

  pub length_own_slots : (o : Option Update) → length (own_slots_lem k p o) ≡ slots_taken o
  unfolding own_slots_lem slots_taken row_at
  length_own_slots none = refl
  length_own_slots (some u) = length_update_slots (row_at k p u)

  module _ (g : Groups) where
    pub length_lower_slots : length (lower_slots k p g) ≡ start_of k p g
    unfolding lower_slots start_of
    length_lower_slots = length_updates_slots (keep (is_below k p) g.updates)

    pub length_lower_values : length (lower_values_lem k p g) ≡ updates_held g.updates + rank k p g.committed
    unfolding lower_values_lem rank
    length_lower_values =
        length-append (updates_slots g.updates) (map committed_slot (keep (is_below k p) g.committed))
        ∙ omega (arith, length_updates_slots g.updates, length-map (keep (is_below k p) g.committed) committed_slot)

    -- an update put, or a committed value
    pub put_slots : (u : Update) → group_slots (with_group_updates g (put k p u g.updates)) ≡ lower_slots k p g ++ (update_slots (row_at k p u) ++ upper_slots k p g)
    unfolding group_slots with_group_updates put lower_slots upper_slots updates_slots row_at
    put_slots u =
        ap (λ (l : List Slot). l ++ map committed_slot g.committed) (updates_slots_append (keep (is_below k p) g.updates) (row_at k p u ∷ keep (is_above k p) g.updates))
        ∙ append_assoc (updates_slots (keep (is_below k p) g.updates)) (update_slots (row_at k p u) ++ updates_slots (keep (is_above k p) g.updates)) (map committed_slot g.committed)
        ∙ ap (λ (l : List Slot). updates_slots (keep (is_below k p) g.updates) ++ l)
        (append_assoc (update_slots (row_at k p u)) (updates_slots (keep (is_above k p) g.updates)) (map committed_slot g.committed))

    pub put_values : (v : List ℕ) → group_slots (with_group g (put k p v g.committed)) ≡ lower_values_lem k p g ++ (committed_slot (row_at k p v) ∷ upper_values_lem k p g)
    unfolding group_slots with_group put lower_values_lem upper_values_lem row_at
    put_values v =
        ap (λ (l : List Slot). updates_slots g.updates ++ l) (map-append committed_slot (keep (is_below k p) g.committed) (row_at k p v ∷ keep (is_above k p) g.committed))
        ∙ sym
        (append_assoc (updates_slots g.updates) (map committed_slot (keep (is_below k p) g.committed))
        (committed_slot (row_at k p v) ∷ map committed_slot (keep (is_above k p) g.committed)))

    module _ (r : rising g.updates ≡ true) where
      -- the three parts
      pub groups_split : group_slots g ≡ lower_slots k p g ++ (own_slots_lem k p (find k p g.updates) ++ upper_slots k p g)
      unfolding group_slots lower_slots upper_slots
      groups_split =
          ap (λ (l : List Slot). l ++ map committed_slot g.committed) (updates_split g.updates r)
          ∙ append_assoc (updates_slots (keep (is_below k p) g.updates)) (own_slots_lem k p (find k p g.updates) ++ updates_slots (keep (is_above k p) g.updates))
          (map committed_slot g.committed)
          ∙ ap (λ (l : List Slot). updates_slots (keep (is_below k p) g.updates) ++ l)
          (append_assoc (own_slots_lem k p (find k p g.updates)) (updates_slots (keep (is_above k p) g.updates)) (map committed_slot g.committed))

      -- an update erased
      pub erase_slots : group_slots (with_group_updates g (erase k p g.updates)) ≡ lower_slots k p g ++ upper_slots k p g
      unfolding group_slots with_group_updates lower_slots upper_slots
      erase_slots =
          ap (λ (l : List (Row Update)). updates_slots l ++ map committed_slot g.committed) (erase_split k p g.updates r)
          ∙ ap (λ (l : List Slot). l ++ map committed_slot g.committed) (updates_slots_append (keep (is_below k p) g.updates) (keep (is_above k p) g.updates))
          ∙ append_assoc (updates_slots (keep (is_below k p) g.updates)) (updates_slots (keep (is_above k p) g.updates)) (map committed_slot g.committed)

      -- how many slots the parts have
      pub held_split : held_by g ≡ start_of k p g + (slots_taken (find k p g.updates) + length (upper_slots k p g))
      held_split =
          sym (length_group_slots g) ∙ ap length groups_split
          ∙ length-append (lower_slots k p g) (own_slots_lem k p (find k p g.updates) ++ upper_slots k p g)
          ∙ omega (arith, length_lower_slots, length-append (own_slots_lem k p (find k p g.updates)) (upper_slots k p g), length_own_slots (find k p g.updates))

      pub held_put : (u : Update) → held_by (with_group_updates g (put k p u g.updates)) + slots_taken (find k p g.updates) ≡ held_by g + suc (length u.members)
      unfolding row_at
      held_put u =
          let e : held_by (with_group_updates g (put k p u g.updates)) ≡ start_of k p g + (suc (length u.members) + length (upper_slots k p g)) =
          sym (length_group_slots (with_group_updates g (put k p u g.updates))) ∙ ap length (put_slots u)
          ∙ length-append (lower_slots k p g) (update_slots (row_at k p u) ++ upper_slots k p g)
          ∙ omega (arith, length_lower_slots, length-append (update_slots (row_at k p u)) (upper_slots k p g), length_update_slots (row_at k p u))
          in
          omega (arith, held_split)

      pub held_erase : held_by (with_group_updates g (erase k p g.updates)) + slots_taken (find k p g.updates) ≡ held_by g
      held_erase =
          let e : held_by (with_group_updates g (erase k p g.updates)) ≡ start_of k p g + length (upper_slots k p g) =
          sym (length_group_slots (with_group_updates g (erase k p g.updates))) ∙ ap length erase_slots
          ∙ length-append (lower_slots k p g) (upper_slots k p g)
          ∙ omega (arith, length_lower_slots)
          in
          omega (arith, held_split)

    module _ (r : rising g.committed ≡ true) where
      -- the same three parts around a committed value
      pub committed_split : group_slots g ≡ lower_values_lem k p g ++ (own_value_lem k p (find k p g.committed) ++ upper_values_lem k p g)
      unfolding group_slots lower_values_lem upper_values_lem
      committed_split =
          ap (λ (l : List Slot). updates_slots g.updates ++ l) (values_split g.committed r)
          ∙ sym
          (append_assoc (updates_slots g.updates) (map committed_slot (keep (is_below k p) g.committed))
          (own_value_lem k p (find k p g.committed) ++ map committed_slot (keep (is_above k p) g.committed)))

      -- a committed value erased
      pub erase_values : group_slots (with_group g (erase k p g.committed)) ≡ lower_values_lem k p g ++ upper_values_lem k p g
      unfolding group_slots with_group lower_values_lem upper_values_lem
      erase_values =
          ap (λ (l : Committed). updates_slots g.updates ++ map committed_slot l) (erase_split k p g.committed r)
          ∙ ap (λ (l : List Slot). updates_slots g.updates ++ l) (map-append committed_slot (keep (is_below k p) g.committed) (keep (is_above k p) g.committed))
          ∙ sym
          (append_assoc (updates_slots g.updates) (map committed_slot (keep (is_below k p) g.committed)) (map committed_slot (keep (is_above k p) g.committed)))

      -- how many slots they have
      held_values : held_by g ≡ length (lower_values_lem k p g) + (length (own_value_lem k p (find k p g.committed)) + length (upper_values_lem k p g))
      held_values =
          sym (length_group_slots g) ∙ ap length committed_split
          ∙ length-append (lower_values_lem k p g) (own_value_lem k p (find k p g.committed) ++ upper_values_lem k p g)
          ∙ omega (arith, length-append (own_value_lem k p (find k p g.committed)) (upper_values_lem k p g))

      held_values_put : (v : List ℕ) → held_by (with_group g (put k p v g.committed)) ≡ length (lower_values_lem k p g) + suc (length (upper_values_lem k p g))
      held_values_put v =
          sym (length_group_slots (with_group g (put k p v g.committed))) ∙ ap length (put_values v)
          ∙ length-append (lower_values_lem k p g) (committed_slot (row_at k p v) ∷ upper_values_lem k p g)

      held_values_erase : held_by (with_group g (erase k p g.committed)) ≡ length (lower_values_lem k p g) + length (upper_values_lem k p g)
      held_values_erase =
          sym (length_group_slots (with_group g (erase k p g.committed))) ∙ ap length erase_values
          ∙ length-append (lower_values_lem k p g) (upper_values_lem k p g)

      module _ (e : find k p g.committed ≡ none) where
        nothing : length (own_value_lem k p (find k p g.committed)) ≡ 0
        unfolding own_value_lem
        nothing = rw e

        pub held_put_new : (v : List ℕ) → held_by (with_group g (put k p v g.committed)) ≡ suc (held_by g)
        held_put_new v = omega (arith, held_values, held_values_put v, nothing)

        pub held_erase_none : held_by (with_group g (erase k p g.committed)) ≡ held_by g
        held_erase_none = omega (arith, held_values, held_values_erase, nothing)

      module _ (w : List ℕ) (e : find k p g.committed ≡ some w) where
        something : length (own_value_lem k p (find k p g.committed)) ≡ 1
        unfolding own_value_lem
        something = rw e

        pub held_put_over : (v : List ℕ) → held_by (with_group g (put k p v g.committed)) ≡ held_by g
        held_put_over v = omega (arith, held_values, held_values_put v, something)

        pub held_erase_some : suc (held_by (with_group g (erase k p g.committed))) ≡ held_by g
        held_erase_some = omega (arith, held_values, held_values_erase, something)
