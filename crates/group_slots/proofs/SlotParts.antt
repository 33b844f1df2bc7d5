-- The slots of an update and of a committed value: their words, that they are whole, in use and in order, and how many they are.
-- Assumes nothing.
use mathlib.Core.Path.{◌≡◌, refl, ◌∙◌, ap}
use mathlib.Core.Bool.{Bool, true, false, ◌&&◌}
use mathlib.Core.Logic.{inl, inr}
use mathlib.Core.List.{List, [], ◌∷◌, map}
use Prim.Native.Nat.{ℕ, suc, ◌≤◌, ◌<◌}
use native.Mathlib.Omega.{arith}
use lib.Dec.{leb, eqb}
use lib.ListN.{length, take, length-append, length-map}
use borrow.Author.Tests.{leb-true, lt-ltb, le-ltb, le-leb, eq-eqb}
use Rattle.lists.specs.Lists.{every}
use Rattle.lists.proofs.Bools.{and_both, and_four, and_left, and_right, and_swap}
use Rattle.lists.proofs.Lists.{every_append}
use Rattle.request.specs.Set.{Member}
use Rattle.slots.specs.Slots
use Rattle.slots.specs.Slots.{Slot, slot_width, is_whole, is_used, before, is_before, ordered}
use Rattle.slots.proofs.StoreWords.{padded_whole}
use Rattle.slots.proofs.SlotOrder.{ordered_append}
use Rattle.model.specs.Rows.{Row, is_above, rising}
use Rattle.model.specs.Group.{Update}
use Rattle.model.specs.Model.{updates_held}
use Rattle.model.specs.Fine.{fine_value, rising_from, fine_member, fine_members, fine_update, fine_updates, fine_committed, fine_group, is_word}
use Rattle.model.proofs.Rows.{Over, above_told}
use Rattle.model.proofs.FineParts.{value_length}
use Rattle.model.proofs.FineUpdates.{update_recorded, update_members, member_value_lem, updates_rising, updates_every}
use Rattle.model.proofs.FineCommitted.{group_rising, group_every}
use Rattle.types.specs.Flag.{flag_of}
use Rattle.group_slots.specs.Layout.{Groups, part_slot, member_slot, update_slots, updates_slots, committed_slot, group_slots, fine_groups, held_by}

-- Fine updates and committed values, in parts.
module _ (r : Row Update) (f : fine_update r ≡ true) where
  fine_members_lem : fine_members r.place r.held.members ≡ true
  fine_members_lem = update_members r.place r.held (update_recorded r f)

  pub update_tags : rising_from 0 r.held.members ≡ true
  unfolding fine_members
  update_tags = and_left (rising_from 0 r.held.members) (every (fine_member r.place) r.held.members) fine_members_lem

  pub update_values : every (fine_member r.place) r.held.members ≡ true
  unfolding fine_members
  update_values = and_right (rising_from 0 r.held.members) (every (fine_member r.place) r.held.members) fine_members_lem

module _ (r : Row (List ℕ)) (f : fine_committed r ≡ true) where
  pub committed_value : fine_value r.held ≡ true
  unfolding fine_committed
  committed_value = (and_four (is_word r.key) (leb r.place 63) (fine_value r.held) _ f).2

  pub committed_tag : r.place ≤ 63
  unfolding fine_committed
  committed_tag = leb-true r.place 63 (and_four (is_word r.key) (leb r.place 63) (fine_value r.held) _ f).1

module _ (g : Groups) (f : fine_groups g ≡ true) where
  pub fine_updates_lem : fine_updates g.updates ≡ true
  unfolding fine_groups
  fine_updates_lem = and_left (fine_updates g.updates) (fine_group g.committed) f

  pub fine_committed_lem : fine_group g.committed ≡ true
  unfolding fine_groups
  fine_committed_lem = and_right (fine_updates g.updates) (fine_group g.committed) f

  pub fine_rising : rising g.updates ≡ true
  fine_rising = updates_rising g.updates fine_updates_lem

  pub fine_every : every fine_update g.updates ≡ true
  fine_every = updates_every g.updates fine_updates_lem

  pub fine_committed_rising : rising g.committed ≡ true
  fine_committed_rising = group_rising g.committed fine_committed_lem

  pub fine_committed_every : every fine_committed g.committed ≡ true
  fine_committed_every = group_every g.committed fine_committed_lem

-- One slot.
pub part_place : (r : Row Update) (part : ℕ) (v : List ℕ) → take 4 (part_slot r part v) ≡ 1 ∷ r.key ∷ r.place ∷ part ∷ []
unfolding part_slot Slots.padded
part_place r part v = refl

pub committed_place : (r : Row (List ℕ)) → take 4 (committed_slot r) ≡ 2 ∷ r.key ∷ r.place ∷ 0 ∷ []
unfolding committed_slot Slots.padded
committed_place r = refl

pub part_whole : (r : Row Update) (part : ℕ) (v : List ℕ) → length v ≤ 25 → is_whole (part_slot r part v) ≡ true
unfolding is_whole part_slot
part_whole r part v h =
    eq-eqb (length (part_slot r part v)) slot_width
    (padded_whole (1 ∷ r.key ∷ r.place ∷ part ∷ 0 ∷ flag_of r.held.estimate ∷ r.held.incarnation ∷ v) (omega arith))

pub part_used : (r : Row Update) (part : ℕ) (v : List ℕ) → is_used (part_slot r part v) ≡ true
unfolding is_used part_slot Slots.padded
part_used r part v = refl

pub member_whole : (r : Row Update) (m : Member) → fine_member r.place m ≡ true → is_whole (member_slot r m) ≡ true
unfolding member_slot
member_whole r m f = part_whole r (suc m.tag) m.value (omega (arith, value_length m.value (member_value_lem r.place m f)))

pub committed_whole : (r : Row (List ℕ)) → fine_committed r ≡ true → is_whole (committed_slot r) ≡ true
unfolding is_whole committed_slot
committed_whole r f =
    eq-eqb (length (committed_slot r)) slot_width
    (padded_whole (2 ∷ r.key ∷ r.place ∷ 0 ∷ 0 ∷ 0 ∷ 0 ∷ r.held) (omega (arith, value_length r.held (committed_value r f))))

pub committed_used : (r : Row (List ℕ)) → is_used (committed_slot r) ≡ true
unfolding is_used committed_slot Slots.padded
committed_used r = refl

-- A test of many slots.
pub every_map : {A : Type 0} (p : A → Bool) (q : Slot → Bool) (g : A → Slot) → ((x : A) → p x ≡ true → q (g x) ≡ true) → (xs : List A) →
    every p xs ≡ true → every q (map g xs) ≡ true
unfolding every
every_map p q g h [] e = refl
every_map p q g h (x ∷ xs) e =
    and_both (q (g x)) (every q (map g xs)) (h x (and_left (p x) (every p xs) e)) (every_map p q g h xs (and_right (p x) (every p xs) e))

always : {A : Type 0} → A → Bool
always x = true

every_always : {A : Type 0} (xs : List A) → every always xs ≡ true
unfolding every always
every_always [] = refl
every_always (x ∷ xs) = every_always xs

pub every_mapped : {A : Type 0} (q : Slot → Bool) (g : A → Slot) → ((x : A) → q (g x) ≡ true) → (xs : List A) → every q (map g xs) ≡ true
every_mapped q g h xs = every_map always q g (λ x e. h x) xs (every_always xs)

-- a test that does not see the part nor the value
pub every_parts : (q : Slot → Bool) (r : Row Update) → ((part : ℕ) (v : List ℕ) → q (part_slot r part v) ≡ true) → every q (update_slots r) ≡ true
unfolding update_slots every member_slot
every_parts q r h =
    and_both (q (part_slot r 0 [])) (every q (map (member_slot r) r.held.members)) (h 0 [])
    (every_mapped q (member_slot r) (λ m. h (suc m.tag) m.value) r.held.members)

pub every_updates : (p : Row Update → Bool) (q : Slot → Bool) → ((r : Row Update) → p r ≡ true → every q (update_slots r) ≡ true) →
    (rs : List (Row Update)) → every p rs ≡ true → every q (updates_slots rs) ≡ true
unfolding updates_slots every
every_updates p q h [] e = refl
every_updates p q h (r ∷ rs) e =
    every_append q (update_slots r) (updates_slots rs)
    ∙ and_both (every q (update_slots r)) (every q (updates_slots rs)) (h r (and_left (p r) (every p rs) e))
    (every_updates p q h rs (and_right (p r) (every p rs) e))

pub every_updated : (q : Slot → Bool) → ((r : Row Update) (part : ℕ) (v : List ℕ) → q (part_slot r part v) ≡ true) → (rs : List (Row Update)) →
    every q (updates_slots rs) ≡ true
every_updated q h rs = every_updates always q (λ r e. every_parts q r (h r)) rs (every_always rs)

pub every_groups : (q : Slot → Bool) (g : Groups) → every q (updates_slots g.updates) ≡ true →
    every q (map committed_slot g.committed) ≡ true → every q (group_slots g) ≡ true
unfolding group_slots
every_groups q g e f =
    every_append q (updates_slots g.updates) (map committed_slot g.committed)
    ∙ and_both (every q (updates_slots g.updates)) (every q (map committed_slot g.committed)) e f

pub update_whole : (r : Row Update) → fine_update r ≡ true → every is_whole (update_slots r) ≡ true
unfolding update_slots every
update_whole r f =
    and_both (is_whole (part_slot r 0 [])) (every is_whole (map (member_slot r) r.held.members)) (part_whole r 0 [] (omega arith))
    (every_map (fine_member r.place) is_whole (member_slot r) (member_whole r) r.held.members (update_values r f))

pub slots_whole : (g : Groups) → fine_groups g ≡ true → every is_whole (group_slots g) ≡ true
slots_whole g f =
    every_groups is_whole g (every_updates fine_update is_whole update_whole g.updates (fine_every g f))
    (every_map fine_committed is_whole committed_slot committed_whole g.committed (fine_committed_every g f))

pub slots_used : (g : Groups) → every is_used (group_slots g) ≡ true
slots_used g =
    every_groups is_used g (every_updated is_used part_used g.updates) (every_mapped is_used committed_slot committed_used g.committed)

-- How many they are.
pub length_update_slots : (r : Row Update) → length (update_slots r) ≡ suc (length r.held.members)
unfolding update_slots
length_update_slots r = ap suc (length-map r.held.members (member_slot r))

pub length_updates_slots : (rs : List (Row Update)) → length (updates_slots rs) ≡ updates_held rs
unfolding updates_slots updates_held
length_updates_slots [] = refl
length_updates_slots (r ∷ rs) =
    length-append (update_slots r) (updates_slots rs) ∙ omega (arith, length_update_slots r, length_updates_slots rs)

pub length_group_slots : (g : Groups) → length (group_slots g) ≡ held_by g
unfolding group_slots held_by
length_group_slots g =
    length-append (updates_slots g.updates) (map committed_slot g.committed)
    ∙ omega (arith, length_updates_slots g.updates, length-map g.committed committed_slot)

-- Their order.
pub earlier_part : (k p a b : ℕ) → a < b → before (1 ∷ k ∷ p ∷ a ∷ []) (1 ∷ k ∷ p ∷ b ∷ []) ≡ true
unfolding before
earlier_part k p a b h = rw (le-ltb k k (omega arith), eq-eqb k k refl, le-ltb p p (omega arith), eq-eqb p p refl, lt-ltb a b h)

pub later_part : (k p a b : ℕ) → b ≤ a → before (1 ∷ k ∷ p ∷ a ∷ []) (1 ∷ k ∷ p ∷ b ∷ []) ≡ false
unfolding before
later_part k p a b h =
    rw (le-ltb k k (omega arith), eq-eqb k k refl, le-ltb p p (omega arith), eq-eqb p p refl, le-ltb a b h, and_swap (eqb a b) false)

-- words of a head, and then of a key and place in order
pub earlier_place : (h k p a l q b : ℕ) → Over k p l q → before (h ∷ k ∷ p ∷ a ∷ []) (h ∷ l ∷ q ∷ b ∷ []) ≡ true
unfolding before
earlier_place h k p a l q b (inl e) = rw (le-ltb h h (omega arith), eq-eqb h h refl, lt-ltb k l e)
earlier_place h k p a l q b (inr e) =
    rw (le-ltb h h (omega arith), eq-eqb h h refl, le-ltb k l (omega (arith, e.0)), eq-eqb k l e.0, lt-ltb p q e.1)

pub part_before : (r q : Row Update) (a b : ℕ) (v w : List ℕ) → is_above r.key r.place q ≡ true → is_before (part_slot r a v) (part_slot q b w) ≡ true
unfolding is_before
part_before r q a b v w e =
    rw (part_place r a v, part_place q b w) (earlier_place 1 r.key r.place a q.key q.place b (above_told r.key r.place q e))

-- tags that rise from n on are n or more, and 63 or less
pub tags_from_lem : (n l : ℕ) (ms : List Member) → l ≤ n → rising_from n ms ≡ true → every (λ m. leb l m.tag && leb m.tag 63) ms ≡ true
unfolding rising_from every
tags_from_lem n l [] h e = refl
tags_from_lem n l (m ∷ ms) h e =
    let f : (leb n m.tag && leb m.tag 63) ≡ true = and_left (leb n m.tag && leb m.tag 63) (rising_from (suc m.tag) ms) e in
    let a : n ≤ m.tag = leb-true n m.tag (and_left (leb n m.tag) (leb m.tag 63) f) in
    and_both (leb l m.tag && leb m.tag 63) (every (λ x. leb l x.tag && leb x.tag 63) ms)
    (and_both (leb l m.tag) (leb m.tag 63) (le-leb l m.tag (omega arith)) (and_right (leb n m.tag) (leb m.tag 63) f))
    (tags_from_lem (suc m.tag) l ms (omega arith) (and_right (leb n m.tag && leb m.tag 63) (rising_from (suc m.tag) ms) e))

pub member_before : (r : Row Update) (a : ℕ) (v : List ℕ) (m : Member) → a ≤ m.tag → is_before (part_slot r a v) (member_slot r m) ≡ true
unfolding is_before member_slot
member_before r a v m h = rw (part_place r a v, part_place r (suc m.tag) m.value) (earlier_part r.key r.place a (suc m.tag) (omega arith))

before_members : (r : Row Update) (a : ℕ) (v : List ℕ) (ms : List Member) → rising_from a ms ≡ true → every (is_before (part_slot r a v)) (map (member_slot r) ms) ≡ true
before_members r a v ms e =
    every_map (λ m. leb a m.tag && leb m.tag 63) (is_before (part_slot r a v)) (member_slot r)
    (λ m f. member_before r a v m (leb-true a m.tag (and_left (leb a m.tag) (leb m.tag 63) f))) ms (tags_from_lem a a ms (omega arith) e)

members_ordered : (r : Row Update) (n : ℕ) (ms : List Member) → rising_from n ms ≡ true → ordered (map (member_slot r) ms) ≡ true
unfolding ordered rising_from member_slot
members_ordered r n [] e = refl
members_ordered r n (m ∷ ms) e =
    let f : rising_from (suc m.tag) ms ≡ true = and_right (leb n m.tag && leb m.tag 63) (rising_from (suc m.tag) ms) e in
    and_both (every (is_before (member_slot r m)) (map (member_slot r) ms)) (ordered (map (member_slot r) ms))
    (before_members r (suc m.tag) m.value ms f) (members_ordered r (suc m.tag) ms f)

update_ordered : (r : Row Update) → fine_update r ≡ true → ordered (update_slots r) ≡ true
unfolding update_slots ordered
update_ordered r f =
    and_both (every (is_before (part_slot r 0 [])) (map (member_slot r) r.held.members)) (ordered (map (member_slot r) r.held.members))
    (before_members r 0 [] r.held.members (update_tags r f)) (members_ordered r 0 r.held.members (update_tags r f))

update_before : (r : Row Update) (rs : List (Row Update)) → every (is_above r.key r.place) rs ≡ true →
    every (λ u. every (is_before u) (updates_slots rs)) (update_slots r) ≡ true
update_before r rs e =
    every_parts (λ u. every (is_before u) (updates_slots rs)) r
    (λ a v. every_updates (is_above r.key r.place) (is_before (part_slot r a v)) (λ q f. every_parts (is_before (part_slot r a v)) q (λ b w. part_before r q a b v w f)) rs e)

updates_ordered : (rs : List (Row Update)) → rising rs ≡ true → every fine_update rs ≡ true → ordered (updates_slots rs) ≡ true
unfolding updates_slots rising every ordered
updates_ordered [] g f = refl
updates_ordered (r ∷ rs) g f =
    ordered_append (update_slots r) (updates_slots rs) (update_ordered r (and_left (fine_update r) (every fine_update rs) f))
    (updates_ordered rs (and_right (every (is_above r.key r.place) rs) (rising rs) g) (and_right (fine_update r) (every fine_update rs) f))
    (update_before r rs (and_left (every (is_above r.key r.place) rs) (rising rs) g))

committed_before : (r q : Row (List ℕ)) → is_above r.key r.place q ≡ true → is_before (committed_slot r) (committed_slot q) ≡ true
unfolding is_before
committed_before r q e =
    rw (committed_place r, committed_place q) (earlier_place 2 r.key r.place 0 q.key q.place 0 (above_told r.key r.place q e))

committed_ordered : (rs : List (Row (List ℕ))) → rising rs ≡ true → ordered (map committed_slot rs) ≡ true
unfolding ordered rising
committed_ordered [] g = refl
committed_ordered (r ∷ rs) g =
    and_both (every (is_before (committed_slot r)) (map committed_slot rs)) (ordered (map committed_slot rs))
    (every_map (is_above r.key r.place) (is_before (committed_slot r)) committed_slot (λ q f. committed_before r q f) rs
    (and_left (every (is_above r.key r.place) rs) (rising rs) g))
    (committed_ordered rs (and_right (every (is_above r.key r.place) rs) (rising rs) g))

part_before_committed : (r : Row Update) (a : ℕ) (v : List ℕ) (q : Row (List ℕ)) → is_before (part_slot r a v) (committed_slot q) ≡ true
unfolding is_before before part_slot committed_slot Slots.padded
part_before_committed r a v q = refl

pub slots_ordered : (g : Groups) → fine_groups g ≡ true → ordered (group_slots g) ≡ true
unfolding group_slots
slots_ordered g f =
    ordered_append (updates_slots g.updates) (map committed_slot g.committed) (updates_ordered g.updates (fine_rising g f) (fine_every g f))
    (committed_ordered g.committed (fine_committed_rising g f))
    (every_updated (λ u. every (is_before u) (map committed_slot g.committed))
    (λ r a v. every_mapped (is_before (part_slot r a v)) committed_slot (part_before_committed r a v) g.committed) g.updates)
