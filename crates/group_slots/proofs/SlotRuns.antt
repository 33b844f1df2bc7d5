-- Slots that stand together: those of an update by number, and those of a key's committed values.
-- Assumes nothing.
use mathlib.Core.Path.{◌≡◌, refl, sym, ◌∙◌, ap}
use mathlib.Core.Bool.{Bool, true, false}
use mathlib.Core.Logic.{inl, inr}
use mathlib.Core.List.{List, [], ◌∷◌, ◌++◌, map, map-append, append_assoc}
use mathlib.Core.Option.{Option, some}
use Prim.Native.Nat.{ℕ, zero, suc, ◌+◌, ◌≤◌, ◌<◌}
use native.Mathlib.Omega.{arith}
use native.Mathlib.Decide.{dec_lt}
use lib.Dec.{leb, ltb, eqb}
use lib.ListN.{length, get_or, length-append, length-map, get_or-append}
use lib.Seq.{get_or-append-add}
use borrow.Author.Tests.{leb-true, ltb-true, le-leb, lt-ltb, le-ltb, eq-eqb, ne_eqb}
use Rattle.lists.specs.Lists.{every, keep}
use Rattle.lists.proofs.Bools.{and_left, and_right, and_swap}
use Rattle.lists.proofs.Lists.{every_imp, keep_all, keep_none}
use Rattle.request.specs.Set.{Member}
use Rattle.slots.specs.Slots.{Slot, held, slot_at}
use Rattle.slots.proofs.StoreEncoding.{held_fits}
use Rattle.slots.proofs.SlotPlaces.{slot_at_held}
use Rattle.model.specs.Rows.{Row, is_below, is_above, rising, of_key, find, rank, row_at}
use Rattle.model.specs.Group.{Update, Committed}
use Rattle.model.specs.Model.{updates_held}
use Rattle.model.proofs.Rows.{Over, above_told}
use Rattle.group_slots.specs.Layout.{member_slot, update_slots, updates_slots, committed_slot, group_slots, groups_in, group_valid}
use Rattle.group_slots.specs.Found.{start_of, slots_taken}
use Rattle.group_slots.proofs.SlotParts.{length_updates_slots}
use Rattle.group_slots.proofs.GroupHolding.{held_valid, packed_valid, rising_valid, length_held_valid, committed_rising_valid}
use Rattle.group_slots.proofs.GroupSplits.{own_slots_lem, lower_slots, upper_slots, groups_split, held_split, length_own_slots, length_lower_slots}

get_d_mapped : {A : Type 0} (g : A → Slot) (xs : List A) (j : ℕ) (d : A) → j < length xs → get_or (map g xs) j [] ≡ g (get_or xs j d)
get_d_mapped g [] j d h = absurd (omega arith)
get_d_mapped g (x ∷ xs) zero d h = refl
get_d_mapped g (x ∷ xs) (suc j) d h = get_d_mapped g xs j d (omega arith)

-- Rows of lower keys, of a key, and of higher keys.
unfoldable pub is_beyond : {A : Type 0} → ℕ → Row A → Bool
is_beyond k r = ltb k r.key

is_from : {A : Type 0} → ℕ → Row A → Bool
is_from k r = leb k r.key

module _ {A : Type 0} (k : ℕ) where
  from_not_below : (r : Row A) → is_from k r ≡ true → is_below k 0 r ≡ false
  unfolding is_from is_below
  from_not_below r e =
      rw (le-ltb r.key k (leb-true k r.key e), le-ltb r.place 0 (omega arith), and_swap (eqb r.key k) false)

  beyond_not_of : (r : Row A) → is_beyond k r ≡ true → eqb r.key k ≡ false
  unfolding is_beyond
  beyond_not_of r e = ne_eqb r.key k (λ f. omega (arith, ltb-true k r.key e))

  above_from : (r q : Row A) → k ≤ r.key → is_above r.key r.place q ≡ true → is_from k q ≡ true
  unfolding is_from
  above_from r q h e = go (above_told r.key r.place q e)
    where
      go : Over r.key r.place q.key q.place → leb k q.key ≡ true
      go (inl f) = le-leb k q.key (omega arith)
      go (inr f) = le-leb k q.key (omega (arith, f.0))

  above_beyond : (r q : Row A) → k < r.key → is_above r.key r.place q ≡ true → is_beyond k q ≡ true
  unfolding is_beyond
  above_beyond r q h e = go (above_told r.key r.place q e)
    where
      go : Over r.key r.place q.key q.place → ltb k q.key ≡ true
      go (inl f) = lt-ltb k q.key (omega arith)
      go (inr f) = lt-ltb k q.key (omega (arith, f.0))

  pub key_split : (rs : List (Row A)) → rising rs ≡ true → rs ≡ keep (is_below k 0) rs ++ (of_key k rs ++ keep (is_beyond k) rs)
  unfolding keep rising of_key is_below is_beyond
  key_split [] g = refl
  key_split (r ∷ rs) g = go (dec_lt r.key k) (dec_lt k r.key) (key_split rs (and_right (every (is_above r.key r.place) rs) (rising rs) g))
    where
      later : every (is_above r.key r.place) rs ≡ true
      later = and_left (every (is_above r.key r.place) rs) (rising rs) g

      none_below : k ≤ r.key → keep (is_below k 0) rs ≡ []
      none_below h = keep_none (is_below k 0) (is_from k) from_not_below rs (every_imp (is_above r.key r.place) (is_from k) (λ q. above_from r q h) rs later)

      all_beyond : k < r.key → every (is_beyond k) rs ≡ true
      all_beyond h = every_imp (is_above r.key r.place) (is_beyond k) (λ q. above_beyond r q h) rs later

      go : Dec (r.key < k) → Dec (k < r.key) → rs ≡ keep (is_below k 0) rs ++ (of_key k rs ++ keep (is_beyond k) rs) →
          r ∷ rs ≡ keep (is_below k 0) (r ∷ rs) ++ (of_key k (r ∷ rs) ++ keep (is_beyond k) (r ∷ rs))
      go (yes h) d ih =
          rw (lt-ltb r.key k h, ne_eqb r.key k (omega arith), le-ltb k r.key (omega arith)) (ap (λ (l : List (Row A)). r ∷ l) ih)
      go (no h) (yes d) ih =
          rw (le-ltb r.key k (omega arith), ne_eqb r.key k (omega arith), lt-ltb k r.key d, none_below (omega arith), keep_none (λ q. eqb q.key k) (is_beyond k) beyond_not_of rs (all_beyond d), keep_all (is_beyond k) rs (all_beyond d))
      go (no h) (no d) ih =
          let rest : rs ≡ of_key k rs ++ keep (is_beyond k) rs =
          ih ∙ ap (λ (l : List (Row A)). l ++ (of_key k rs ++ keep (is_beyond k) rs)) (none_below (omega arith))
          in
          rw (le-ltb r.key k (omega arith), eq-eqb r.key k (omega arith), le-ltb r.place 0 (omega arith), le-ltb k r.key (omega arith), none_below (omega arith))
          (ap (λ (l : List (Row A)). r ∷ l) rest)

module _ (s : List ℕ) (valid : group_valid s ≡ true) where
  -- a slot of several that stand together
  module _ (us vs ws : List Slot) (whole : group_slots (groups_in s) ≡ us ++ (vs ++ ws)) (n : ℕ) (here : length us ≡ n) where
    run_fits : n + length vs ≤ length (held s)
    run_fits = omega (arith, ap length (held_valid s valid ∙ whole) ∙ length-append us (vs ++ ws), length-append vs ws, here)

    run_slot : (j : ℕ) → j < length vs → slot_at (n + j) s ≡ get_or vs j []
    run_slot j h =
        slot_at_held s (packed_valid s valid) (n + j) (omega (arith, run_fits, held_fits s)) (omega (arith, run_fits))
        ∙ ap (λ (l : List Slot). get_or l (n + j) []) (held_valid s valid ∙ whole)
        ∙ ap (λ (m : ℕ). get_or (us ++ (vs ++ ws)) (m + j) []) (sym here)
        ∙ get_or-append-add us (vs ++ ws) j [] ∙ get_or-append vs ws [] j h

  module _ (k p : ℕ) where
    pub run_inside : start_of k p (groups_in s) + slots_taken (find k p (groups_in s).updates) ≤ length (held s)
    run_inside = omega (arith, length_held_valid s valid, held_split k p (groups_in s) (rising_valid s valid))

    -- the slots of an update by number: its own is 0, and its members follow
    module _ (u : Update) (e : find k p (groups_in s).updates ≡ some u) where
      pub run_part : (j : ℕ) → j < suc (length u.members) → slot_at (start_of k p (groups_in s) + j) s ≡ get_or (update_slots (row_at k p u)) j []
      unfolding own_slots_lem slots_taken
      run_part j h =
          run_slot (lower_slots k p (groups_in s)) (own_slots_lem k p (some u)) (upper_slots k p (groups_in s))
          (groups_split k p (groups_in s) (rising_valid s valid)
          ∙ ap (λ (o : Option Update). lower_slots k p (groups_in s) ++ (own_slots_lem k p o ++ upper_slots k p (groups_in s))) e)
          (start_of k p (groups_in s)) (length_lower_slots k p (groups_in s)) j (omega (arith, length_own_slots k p (some u)))

      pub run_member : (j : ℕ) (d : Member) → j < length u.members → slot_at (start_of k p (groups_in s) + suc j) s ≡ member_slot (row_at k p u) (get_or u.members j d)
      unfolding update_slots row_at
      run_member j d h = run_part (suc j) (omega arith) ∙ get_d_mapped (member_slot (row_at k p u)) u.members j d h

  -- a key's committed values by number
  module _ (k : ℕ) where
    key_slots : group_slots (groups_in s)
        ≡ (updates_slots (groups_in s).updates ++ map committed_slot (keep (is_below k 0) (groups_in s).committed))
        ++ (map committed_slot (of_key k (groups_in s).committed) ++ map committed_slot (keep (is_beyond k) (groups_in s).committed))
    unfolding group_slots
    key_slots =
        let rows : Committed = (groups_in s).committed in
        ap (λ (l : Committed). updates_slots (groups_in s).updates ++ map committed_slot l) (key_split k rows (committed_rising_valid s valid))
        ∙ ap (λ (l : List Slot). updates_slots (groups_in s).updates ++ l)
        (map-append committed_slot (keep (is_below k 0) rows) (of_key k rows ++ keep (is_beyond k) rows)
        ∙ ap (λ (l : List Slot). map committed_slot (keep (is_below k 0) rows) ++ l) (map-append committed_slot (of_key k rows) (keep (is_beyond k) rows)))
        ∙ sym
        (append_assoc (updates_slots (groups_in s).updates) (map committed_slot (keep (is_below k 0) rows))
        (map committed_slot (of_key k rows) ++ map committed_slot (keep (is_beyond k) rows)))

    key_start : length (updates_slots (groups_in s).updates ++ map committed_slot (keep (is_below k 0) (groups_in s).committed))
        ≡ updates_held (groups_in s).updates + rank k 0 (groups_in s).committed
    unfolding rank
    key_start =
        length-append (updates_slots (groups_in s).updates) (map committed_slot (keep (is_below k 0) (groups_in s).committed))
        ∙ omega (arith, length_updates_slots (groups_in s).updates, length-map (keep (is_below k 0) (groups_in s).committed) committed_slot)

    module _ (j : ℕ) (d : Row (List ℕ)) (h : j < length (of_key k (groups_in s).committed)) where
      pub key_slot : slot_at (updates_held (groups_in s).updates + rank k 0 (groups_in s).committed + j) s ≡ committed_slot (get_or (of_key k (groups_in s).committed) j d)
      key_slot =
          run_slot (updates_slots (groups_in s).updates ++ map committed_slot (keep (is_below k 0) (groups_in s).committed)) (map committed_slot (of_key k (groups_in s).committed)) (map committed_slot (keep (is_beyond k) (groups_in s).committed)) key_slots
          (updates_held (groups_in s).updates + rank k 0 (groups_in s).committed) key_start j (omega (arith, length-map (of_key k (groups_in s).committed) committed_slot))
          ∙ get_d_mapped committed_slot (of_key k (groups_in s).committed) j d h
