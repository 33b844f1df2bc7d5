-- What a walk down the slots of a key meets is what a reader sees.
-- Assumes nothing.
use mathlib.Core.Path.{◌≡◌, refl, sym, ◌∙◌, ap, ap₂}
use mathlib.Core.Bool.{Bool, true, false, cond, not, ◌||◌, or-false, or_self, or_assoc}
use mathlib.Core.List.{List, [], ◌∷◌, ◌++◌, map, reverse, reverse-cons, reverse-append, map-append, append_assoc, append-nil}
use Prim.Native.Nat.{ℕ, suc, ◌-◌, ◌<◌}
use native.Mathlib.Omega.{arith}
use lib.Dec.{eqb, eqb-suc-zero}
use lib.ListN.{length, get_or, take, length-append}
use lib.Seq.{take_at}
use borrow.Author.Tests.{eqb-true, eq-eqb, not-true}
use Rattle.types.proofs.FlagLaws.{flag_back}
use Rattle.lists.specs.Lists.{every, front, keep}
use Rattle.lists.proofs.Bools.{and_both, and_left, and_right}
use Rattle.lists.proofs.Lists.{every_append, every_keep, every_reverse, front_append, keep_append, keep_reverse}
use Rattle.request.specs.Set.{Member}
use Rattle.slots.specs.Slots
use Rattle.slots.specs.Slots.{Slot}
use Rattle.model.specs.Rows
use Rattle.model.specs.Rows.{Row, is_below, is_up_to, down_from, down_at}
use Rattle.model.specs.Group.{Update, has_base}
use Rattle.model.specs.Fine.{fine_member, fine_update}
use Rattle.model.proofs.RowPlaces.{take_rank, down_at_rank}
use Rattle.model.proofs.FineUpdates.{member_value_lem}
use Rattle.group_slots.specs.Layout.{Groups, part_slot, member_slot, update_slots, updates_slots, group_slots, fine_groups}
use Rattle.group_slots.specs.Found.{start_of}
use Rattle.versioned_group_data.specs.Sizes.{Item, item_of, items, fine_item}
use Rattle.versioned_group_data.specs.Down.{is_update_of, is_tagged, item_in, slots_down, items_at}
use Rattle.versioned_group_data.specs.Seen.{is_update, any_base, meets_base, Readable}
use Rattle.group_slots.proofs.SlotParts.{update_values, fine_rising, fine_every, every_parts, every_updated}
use Rattle.group_slots.proofs.GatheredGroups.{part_value}
use Rattle.group_slots.proofs.GroupSplits.{lower_slots, upper_slots, own_slots_lem, groups_split, length_lower_slots}
use Rattle.versioned_group_data.proofs.ReadTallies.{items_fine}

-- The slots of updates, each from its last to its first.
unfoldable falling : List (Row Update) → List Slot
falling [] = []
falling (r ∷ rs) = reverse (update_slots r) ++ falling rs

falling_append : (xs ys : List (Row Update)) → falling (xs ++ ys) ≡ falling xs ++ falling ys
unfolding falling
falling_append [] ys = refl
falling_append (x ∷ xs) ys =
    ap (λ (l : List Slot). reverse (update_slots x) ++ l) (falling_append xs ys) ∙ sym (append_assoc (reverse (update_slots x)) (falling xs) (falling ys))

reverse_updates_slots : (rs : List (Row Update)) → reverse (updates_slots rs) ≡ falling (reverse rs)
unfolding updates_slots falling
reverse_updates_slots [] = refl
reverse_updates_slots (r ∷ rs) =
    reverse-append (update_slots r) (updates_slots rs)
    ∙ ap (λ (l : List Slot). l ++ reverse (update_slots r)) (reverse_updates_slots rs)
    ∙ sym
    (ap falling (reverse-cons r rs) ∙ falling_append (reverse rs) (r ∷ [])
    ∙ ap (λ (l : List Slot). falling (reverse rs) ++ l) (append-nil (reverse (update_slots r))))

-- ---- lists

every_back : (p : Slot → Bool) (us : List Slot) → every p us ≡ true → every p (reverse us) ≡ true
unfolding every
every_back p [] e = refl
every_back p (u ∷ us) e =
    ap (every p) (reverse-cons u us) ∙ every_append p (reverse us) (u ∷ [])
    ∙ and_both (every p (reverse us)) (every p (u ∷ [])) (every_back p us (and_right (p u) (every p us) e))
    (and_both (p u) true (and_left (p u) (every p us) e) refl)

reverse_some : (u : Slot) (us : List Slot) → 0 < length (reverse (u ∷ us))
reverse_some u us = omega (arith, ap length (reverse-cons u us) ∙ length-append (reverse us) (u ∷ []))

front_fails : (p : Slot → Bool) (us vs : List Slot) → every (λ u. not (p u)) us ≡ true → 0 < length us → front p (us ++ vs) ≡ []
unfolding front every
front_fails p [] vs e h = absurd (omega arith)
front_fails p (u ∷ us) vs e h = rw (not-true (p u) (and_left (not (p u)) (every (λ w. not (p w)) us) e))

map_reverse : {A B : Type 0} (f : A → B) (xs : List A) → map f (reverse xs) ≡ reverse (map f xs)
map_reverse f [] = refl
map_reverse {B = B} f (x ∷ xs) =
    ap (map f) (reverse-cons x xs) ∙ map-append f (reverse xs) (x ∷ []) ∙ ap (λ (l : List B). l ++ (f x ∷ [])) (map_reverse f xs)
    ∙ sym (reverse-cons (f x) (map f xs))

-- ---- the front of them

module _ (key : ℕ) (r : Row Update) where
  own_key : eqb r.key key ≡ true → every (is_update_of key) (update_slots r) ≡ true
  unfolding is_update_of part_slot Slots.padded
  own_key e = every_parts (is_update_of key) r (λ part v. e)

  other_key : eqb r.key key ≡ false → every (λ u. not (is_update_of key u)) (update_slots r) ≡ true
  unfolding is_update_of part_slot Slots.padded
  other_key e = every_parts (λ u. not (is_update_of key u)) r (λ part v. ap not e)

  slots_some : 0 < length (reverse (update_slots r))
  unfolding update_slots
  slots_some = reverse_some (part_slot r 0 []) (map (member_slot r) r.held.members)

front_falling : (key : ℕ) (rs : List (Row Update)) → front (is_update_of key) (falling rs) ≡ falling (front (λ r. eqb r.key key) rs)
unfolding falling front
front_falling key [] = refl
front_falling key (r ∷ rs) = go (eqb r.key key) refl (front_falling key rs)
  where
    go : (b : Bool) → eqb r.key key ≡ b → front (is_update_of key) (falling rs) ≡ falling (front (λ r. eqb r.key key) rs) →
        front (is_update_of key) (reverse (update_slots r) ++ falling rs) ≡ falling (cond b (r ∷ front (λ r. eqb r.key key) rs) [])
    go true e ih =
        front_append (is_update_of key) (reverse (update_slots r)) (falling rs) (every_back (is_update_of key) (update_slots r) (own_key key r e))
        ∙ ap (λ (l : List Slot). reverse (update_slots r) ++ l) ih
    go false e ih =
        front_fails (is_update_of key) (reverse (update_slots r)) (falling rs)
        (every_back (λ u. not (is_update_of key u)) (update_slots r) (other_key key r e)) (slots_some key r)

-- ---- their members

member_item : (r : Row Update) (m : Member) → fine_member r.place m ≡ true → item_in (member_slot r m) ≡ item_of r m
unfolding item_in member_slot item_of part_slot Slots.padded
member_item r m f =
    λ i.
    record {
      tag = tag_back i;
      place = r.place;
      incarnation = r.held.incarnation;
      estimate = flag_back r.held.estimate i;
      value = part_value r (suc m.tag) m.value (member_value_lem r.place m f) i;
    }
  where
    tag_back : suc m.tag - 1 ≡ m.tag
    tag_back = omega arith

member_is : (r : Row Update) (m : Member) → is_tagged (member_slot r m) ≡ true
unfolding is_tagged member_slot part_slot Slots.padded
member_is r m = ap not (eqb-suc-zero m.tag)

members_items : (r : Row Update) (ms : List Member) → every (fine_member r.place) ms ≡ true →
    map item_in (keep is_tagged (map (member_slot r) ms)) ≡ map (item_of r) ms
unfolding keep every
members_items r [] f = refl
members_items r (m ∷ ms) f =
    rw (member_is r m)
    (ap₂ (λ (x : Item) (l : List Item). x ∷ l) (member_item r m (and_left (fine_member r.place m) (every (fine_member r.place) ms) f))
    (members_items r ms (and_right (fine_member r.place m) (every (fine_member r.place) ms) f)))

update_kept : (r : Row Update) → keep is_tagged (update_slots r) ≡ keep is_tagged (map (member_slot r) r.held.members)
unfolding update_slots keep is_tagged part_slot Slots.padded
update_kept r = refl

update_items : (r : Row Update) → fine_update r ≡ true → map item_in (keep is_tagged (reverse (update_slots r))) ≡ reverse (map (item_of r) r.held.members)
update_items r f =
    ap (map item_in) (keep_reverse is_tagged (update_slots r)) ∙ map_reverse item_in (keep is_tagged (update_slots r))
    ∙ ap (λ (l : List Item). reverse l) (ap (map item_in) (update_kept r) ∙ members_items r r.held.members (update_values r f))

items_falling : (rs : List (Row Update)) → every fine_update rs ≡ true → map item_in (keep is_tagged (falling rs)) ≡ items rs
unfolding falling items keep every
items_falling [] f = refl
items_falling (r ∷ rs) f =
    ap (map item_in) (keep_append is_tagged (reverse (update_slots r)) (falling rs))
    ∙ map-append item_in (keep is_tagged (reverse (update_slots r))) (keep is_tagged (falling rs))
    ∙ ap₂ (λ (l m : List Item). l ++ m) (update_items r (and_left (fine_update r) (every fine_update rs) f))
    (items_falling rs (and_right (fine_update r) (every fine_update rs) f))

-- ---- their base

any_base_append : (us vs : List Slot) → any_base (us ++ vs) ≡ (any_base us || any_base vs)
unfolding any_base
any_base_append [] vs = refl
any_base_append (u ∷ us) vs = rw (any_base_append us vs) (sym (or_assoc (eqb (get_or u 2 0) 0) (any_base us) (any_base vs)))

any_base_same : (p : ℕ) (us : List Slot) → every (λ u. eqb (get_or u 2 0) p) us ≡ true → 0 < length us → any_base us ≡ eqb p 0
unfolding any_base every
any_base_same p [] e h = absurd (omega arith)
any_base_same p (u ∷ []) e h =
    rw (eqb-true (get_or u 2 0) p (and_left (eqb (get_or u 2 0) p) true e)) (or-false (eqb p 0))
any_base_same p (u ∷ v ∷ us) e h =
    rw (eqb-true (get_or u 2 0) p (and_left (eqb (get_or u 2 0) p) (every (λ w. eqb (get_or w 2 0) p) (v ∷ us)) e))
    (ap (λ (b : Bool). eqb p 0 || b)
    (any_base_same p (v ∷ us) (and_right (eqb (get_or u 2 0) p) (every (λ w. eqb (get_or w 2 0) p) (v ∷ us)) e) (omega arith))
    ∙ or_self (eqb p 0))

same_place : (r : Row Update) → every (λ u. eqb (get_or u 2 0) r.place) (update_slots r) ≡ true
unfolding part_slot Slots.padded
same_place r = every_parts (λ u. eqb (get_or u 2 0) r.place) r (λ part v. eq-eqb r.place r.place refl)

base_falling : (rs : List (Row Update)) → any_base (falling rs) ≡ has_base rs
unfolding falling any_base has_base
base_falling [] = refl
base_falling (r ∷ rs) =
    any_base_append (reverse (update_slots r)) (falling rs)
    ∙ ap₂ (λ (a b : Bool). a || b)
    (any_base_same r.place (reverse (update_slots r)) (every_back (λ u. eqb (get_or u 2 0) r.place) (update_slots r) (same_place r)) (slots_some 0 r))
    (base_falling rs)

-- ---- from where the next place of the key would stand

module _ (key reach : ℕ) (g : Groups) (f : fine_groups g ≡ true) where
  before_start : take (start_of key (suc reach) g) (group_slots g) ≡ lower_slots key (suc reach) g
  before_start =
      ap (take (start_of key (suc reach) g)) (groups_split key (suc reach) g (fine_rising g f))
      ∙ take_at (lower_slots key (suc reach) g) (own_slots_lem key (suc reach) (Rows.find key (suc reach) g.updates) ++ upper_slots key (suc reach) g)
      (start_of key (suc reach) g) (length_lower_slots key (suc reach) g)

  slots_down_lem : slots_down key (start_of key (suc reach) g) (group_slots g) ≡ falling (down_from key reach g.updates)
  unfolding slots_down lower_slots down_at
  slots_down_lem =
      ap (λ (l : List Slot). front (is_update_of key) (reverse l)) before_start
      ∙ ap (front (is_update_of key)) (reverse_updates_slots (keep (is_below key (suc reach)) g.updates))
      ∙ front_falling key (reverse (keep (is_below key (suc reach)) g.updates))
      ∙ ap falling
      (ap (λ (l : List (Row Update)). front (λ r. eqb r.key key) (reverse l)) (sym (take_rank key (suc reach) g.updates (fine_rising g f)))
      ∙ down_at_rank key reach g.updates (fine_rising g f))

  pub fine_down : every fine_update (down_from key reach g.updates) ≡ true
  unfolding down_from
  fine_down =
      every_reverse fine_update (keep (is_up_to key reach) g.updates) (every_keep fine_update (is_up_to key reach) g.updates (fine_every g f))

  pub items_down : items_at key (start_of key (suc reach) g) (group_slots g) ≡ items (down_from key reach g.updates)
  unfolding items_at
  items_down = ap (λ (l : List Slot). map item_in (keep is_tagged l)) slots_down_lem ∙ items_falling (down_from key reach g.updates) fine_down

  pub base_down : meets_base key (start_of key (suc reach) g) (group_slots g) ≡ has_base (down_from key reach g.updates)
  unfolding meets_base
  base_down = ap any_base slots_down_lem ∙ base_falling (down_from key reach g.updates)

  updates_before : every is_update (take (start_of key (suc reach) g) (group_slots g)) ≡ true
  unfolding is_update lower_slots part_slot Slots.padded
  updates_before =
      ap (every is_update) before_start ∙ every_updated is_update (λ r part v. refl) (keep (is_below key (suc reach)) g.updates)

  pub readable_down : Readable key (start_of key (suc reach) g) (group_slots g)
  readable_down =
      record {
        inside =
            omega (
              arith,
              length_lower_slots key (suc reach) g,
              ap length (groups_split key (suc reach) g (fine_rising g f))
                  ∙ length-append (lower_slots key (suc reach) g) (own_slots_lem key (suc reach) (Rows.find key (suc reach) g.updates) ++ upper_slots key (suc reach) g),
            );
        updates = updates_before;
        fine = ap (every fine_item) items_down ∙ items_fine (down_from key reach g.updates) fine_down;
      }
