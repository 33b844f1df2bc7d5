-- The slots of fine updates and fine committed values pass the scan's tests.
-- Assumes nothing.
use mathlib.Core.Path.{◌≡◌, refl, ◌∙◌, ap}
use mathlib.Core.Bool.{Bool, true, false, cond, not, ◌&&◌}
use mathlib.Core.List.{List, [], ◌∷◌, ◌++◌, map, append_assoc}
use Prim.Native.Nat.{ℕ, suc, ◌-◌, ◌≤◌}
use native.Mathlib.Omega.{arith}
use lib.Dec.{leb, eqb}
use lib.ListN.{length, get_or, take, drop, replicate}
use lib.Seq.{drop_at}
use borrow.Author.Tests.{leb-true, le-leb, eq-eqb, ne_eqb}
use Rattle.lists.specs.Lists.{every}
use Rattle.lists.proofs.Bools.{and_both, and_four, and_left, and_right, and_three}
use Rattle.types.specs.Response.{most_tags}
use Rattle.types.specs.Value.{value_at, is_exchanged, is_deletion}
use Rattle.request.specs.Set.{Member}
use Rattle.moves.specs.Moves.{all_zero}
use Rattle.slots.specs.Slots.{Slot, slot_width, padded, neighbours}
use Rattle.slots.proofs.ZeroWords.{all_zero_replicate}
use Rattle.model.specs.Rows.{Row}
use Rattle.model.specs.Group.{Update, Committed}
use Rattle.model.specs.Fine.{is_word, fine_value, rising_from, fine_member, fine_update, fine_committed}
use Rattle.model.proofs.FineParts.{value_length, value_ok_lem}
use Rattle.model.proofs.FineUpdates.{update_recorded, update_side, member_value_lem}
use Rattle.types.specs.Flag.{flag_of}
use Rattle.group_slots.specs.Layout.{Groups, part_slot, member_slot, update_slots, updates_slots, committed_slot, group_slots, fine_groups}
use Rattle.group_slots.specs.Tests.{base_test, head_test, member_test, part_test, committed_test, slot_test, is_member, same_update, belongs, first_test}
use Rattle.group_slots.proofs.SlotParts.{update_tags, update_values, committed_value, committed_tag, fine_every, fine_committed_every, every_updates, every_map, every_groups}
use Rattle.group_slots.proofs.GatheredGroups.{part_value, committed_slot_value}

-- ---- each slot by itself

flag_small : (q : Bool) → leb (flag_of q) 1 ≡ true
unfolding flag_of
flag_small true = refl
flag_small false = refl

flag_done : (q : Bool) → not q ≡ true → eqb (flag_of q) 0 ≡ true
unfolding flag_of
flag_done true h = absurd (let y : ◌≡◌ {A = ℕ} 0 1 = cc in omega arith)
flag_done false h = refl

base_kept : (c i : ℕ) (q : Bool) → cond (eqb c 0) (eqb i 0 && not q) true ≡ true → cond (eqb c 0) (eqb i 0 && eqb (flag_of q) 0) true ≡ true
base_kept c i q h = go (eqb c 0) refl
  where
    go : (z : Bool) → eqb c 0 ≡ z → cond (eqb c 0) (eqb i 0 && eqb (flag_of q) 0) true ≡ true
    go true e =
        let g : (eqb i 0 && not q) ≡ true = rw e at h in
        rw e (and_both (eqb i 0) (eqb (flag_of q) 0) (and_left (eqb i 0) (not q) g) (flag_done q (and_right (eqb i 0) (not q) g)))
    go false e = rw e

-- zeros follow the value
part_rest : (r : Row Update) (part : ℕ) (v : List ℕ) → length v ≡ 7 → all_zero (drop 14 (part_slot r part v)) ≡ true
unfolding part_slot padded
part_rest r part v h =
    ap all_zero (drop_at v (replicate (slot_width - suc (suc (suc (suc (suc (suc (suc (length v)))))))) 0) 7 h)
    ∙ all_zero_replicate (slot_width - suc (suc (suc (suc (suc (suc (suc (length v))))))))

committed_rest : (r : Row (List ℕ)) → length r.held ≡ 7 → all_zero (drop 14 (committed_slot r)) ≡ true
unfolding committed_slot padded
committed_rest r h =
    ap all_zero (drop_at r.held (replicate (slot_width - suc (suc (suc (suc (suc (suc (suc (length r.held)))))))) 0) 7 h)
    ∙ all_zero_replicate (slot_width - suc (suc (suc (suc (suc (suc (suc (length r.held))))))))

module _ (r : Row Update) (f : fine_update r ≡ true) where
  head_passes : (part : ℕ) (v : List ℕ) → part ≤ most_tags → head_test (part_slot r part v) ≡ true
  unfolding head_test base_test part_slot padded
  head_passes part v h =
      rw (le-leb part most_tags h, flag_small r.held.estimate)
      (base_kept r.place r.held.incarnation r.held.estimate (update_side r.place r.held (update_recorded r f)))

  none_after : all_zero (drop 7 (part_slot r 0 [])) ≡ true
  unfolding part_slot padded
  none_after = all_zero_replicate 25

  update_passes : slot_test (part_slot r 0 []) ≡ true
  unfolding slot_test part_test part_slot padded
  update_passes =
      and_both (head_test (part_slot r 0 [])) (all_zero (drop 7 (part_slot r 0 []))) (head_passes 0 [] (omega arith)) none_after

  module _ (m : Member) (few : m.tag ≤ 63) (g : fine_member r.place m ≡ true) where
    member_exchanged : cond (eqb r.place 0) true (is_exchanged m.value) ≡ true
    unfolding fine_member
    member_exchanged = and_right (fine_value m.value) (cond (eqb r.place 0) true (is_exchanged m.value)) g

    member_value_there : value_at 7 (part_slot r (suc m.tag) m.value) ≡ m.value
    member_value_there = part_value r (suc m.tag) m.value (member_value_lem r.place m g)

    place_there : get_or (part_slot r (suc m.tag) m.value) 2 0 ≡ r.place
    unfolding part_slot padded
    place_there = refl

    member_tests : member_test (part_slot r (suc m.tag) m.value) ≡ true
    unfolding member_test
    member_tests =
        rw (member_value_there, place_there, value_ok_lem m.value (member_value_lem r.place m g), member_exchanged)
        (part_rest r (suc m.tag) m.value (value_length m.value (member_value_lem r.place m g)))

    part_there : eqb (get_or (part_slot r (suc m.tag) m.value) 3 0) 0 ≡ false
    unfolding part_slot padded
    part_there = ne_eqb (suc m.tag) 0 (omega arith)

    first_there : get_or (part_slot r (suc m.tag) m.value) 0 0 ≡ 1
    unfolding part_slot padded
    first_there = refl

    member_passes : slot_test (member_slot r m) ≡ true
    unfolding slot_test part_test member_slot
    member_passes =
        rw (first_there, part_there, head_passes (suc m.tag) m.value (omega arith)) member_tests

  members_pass : (least : ℕ) (ms : List Member) → rising_from least ms ≡ true → every (fine_member r.place) ms ≡ true → every slot_test (map (member_slot r) ms) ≡ true
  unfolding rising_from every
  members_pass least [] t g = refl
  members_pass least (m ∷ ms) t g =
      let p = and_three (leb least m.tag) (leb m.tag 63) (rising_from (suc m.tag) ms) t in
      and_both (slot_test (member_slot r m)) (every slot_test (map (member_slot r) ms))
      (member_passes m (leb-true m.tag 63 p.1) (and_left (fine_member r.place m) (every (fine_member r.place) ms) g))
      (members_pass (suc m.tag) ms p.2 (and_right (fine_member r.place m) (every (fine_member r.place) ms) g))

  all_pass : every slot_test (update_slots r) ≡ true
  unfolding update_slots every
  all_pass =
      and_both (slot_test (part_slot r 0 [])) (every slot_test (map (member_slot r) r.held.members)) update_passes
      (members_pass 0 r.held.members (update_tags r f) (update_values r f))

module _ (r : Row (List ℕ)) (f : fine_committed r ≡ true) where
  no_deletion : not (is_deletion r.held) ≡ true
  unfolding fine_committed
  no_deletion = (and_four (is_word r.key) (leb r.place 63) (fine_value r.held) (not (is_deletion r.held)) f).3

  committed_head : (leb (get_or (committed_slot r) 2 0) 63 && all_zero (take 4 (drop 3 (committed_slot r)))) ≡ true
  unfolding committed_slot padded all_zero
  committed_head = rw (le-leb r.place 63 (committed_tag r f))

  committed_tests : committed_test (committed_slot r) ≡ true
  unfolding committed_test
  committed_tests =
      rw (committed_head, committed_slot_value r (committed_value r f), value_ok_lem r.held (committed_value r f), no_deletion)
      (committed_rest r (value_length r.held (committed_value r f)))

  committed_passes : slot_test (committed_slot r) ≡ true
  unfolding slot_test committed_slot padded
  committed_passes = committed_tests

pub slots_pass : (g : Groups) → fine_groups g ≡ true → every slot_test (group_slots g) ≡ true
slots_pass g f =
    every_groups slot_test g (every_updates fine_update slot_test all_pass g.updates (fine_every g f))
    (every_map fine_committed slot_test committed_slot committed_passes g.committed (fine_committed_every g f))

-- ---- each slot and the one before it

belongs_other : (u v : Slot) → is_member v ≡ false → belongs u v ≡ true
unfolding belongs
belongs_other u v e = rw e

update_no_member : (r : Row Update) → is_member (part_slot r 0 []) ≡ false
unfolding is_member part_slot padded
update_no_member r = refl

committed_no_member : (r : Row (List ℕ)) → is_member (committed_slot r) ≡ false
unfolding is_member committed_slot padded
committed_no_member r = refl

member_belongs : (r : Row Update) (part : ℕ) (v : List ℕ) (m : Member) → belongs (part_slot r part v) (member_slot r m) ≡ true
unfolding belongs is_member same_update member_slot part_slot padded
member_belongs r part v m =
    rw (
      ne_eqb (suc m.tag) 0 (omega arith),
      eq-eqb r.key r.key refl,
      eq-eqb r.place r.place refl,
      eq-eqb (flag_of r.held.estimate) (flag_of r.held.estimate) refl,
    ) (eq-eqb r.held.incarnation r.held.incarnation refl)

members_belong : (r : Row Update) (ms : List Member) (us : List Slot) → ((part : ℕ) (v : List ℕ) → neighbours belongs (part_slot r part v ∷ us) ≡ true) →
    (part : ℕ) (v : List ℕ) → neighbours belongs (part_slot r part v ∷ (map (member_slot r) ms ++ us)) ≡ true
unfolding neighbours member_slot
members_belong r [] us h part v = h part v
members_belong r (m ∷ ms) us h part v =
    and_both (belongs (part_slot r part v) (member_slot r m)) (neighbours belongs (member_slot r m ∷ (map (member_slot r) ms ++ us))) (member_belongs r part v m)
    (members_belong r ms us h (suc m.tag) m.value)

committed_belong : (rs : Committed) (u : Slot) → neighbours belongs (u ∷ map committed_slot rs) ≡ true
unfolding neighbours
committed_belong [] u = refl
committed_belong (r ∷ rs) u =
    and_both (belongs u (committed_slot r)) (neighbours belongs (committed_slot r ∷ map committed_slot rs)) (belongs_other u (committed_slot r) (committed_no_member r))
    (committed_belong rs (committed_slot r))

updates_belong : (rs : List (Row Update)) (cs : Committed) (u : Slot) → neighbours belongs (u ∷ (updates_slots rs ++ map committed_slot cs)) ≡ true
unfolding neighbours updates_slots update_slots
updates_belong [] cs u = committed_belong cs u
updates_belong (r ∷ rs) cs u =
    rw (append_assoc (map (member_slot r) r.held.members) (updates_slots rs) (map committed_slot cs))
    (and_both (belongs u (part_slot r 0 [])) (neighbours belongs (part_slot r 0 [] ∷ (map (member_slot r) r.held.members ++ (updates_slots rs ++ map committed_slot cs))))
    (belongs_other u (part_slot r 0 []) (update_no_member r))
    (members_belong r r.held.members (updates_slots rs ++ map committed_slot cs) (λ part v. updates_belong rs cs (part_slot r part v)) 0 []))

neighbours_tail : (q : Slot → Slot → Bool) (u : Slot) (us : List Slot) → neighbours q (u ∷ us) ≡ true → neighbours q us ≡ true
unfolding neighbours
neighbours_tail q u [] e = refl
neighbours_tail q u (v ∷ us) e = and_right (q u v) (neighbours q (v ∷ us)) e

pub slots_belong : (g : Groups) → neighbours belongs (group_slots g) ≡ true
unfolding group_slots
slots_belong g = neighbours_tail belongs [] (updates_slots g.updates ++ map committed_slot g.committed) (updates_belong g.updates g.committed [])

-- ---- the first slot

first_slot : (rs : List (Row Update)) (cs : Committed) → first_test (updates_slots rs ++ map committed_slot cs) ≡ true
unfolding first_test updates_slots update_slots
first_slot [] [] = refl
first_slot [] (r ∷ cs) = rw (committed_no_member r)
first_slot (r ∷ rs) cs = rw (update_no_member r)

pub slots_first : (g : Groups) → first_test (group_slots g) ≡ true
unfolding group_slots
slots_first g = first_slot g.updates g.committed
