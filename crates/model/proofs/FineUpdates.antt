-- Rule 5 at a group's update: what stands at a place, and the edits there that keep fine updates fine.
-- Assumes nothing.
use mathlib.Core.Path.{◌≡◌, refl, sym, ◌∙◌}
use mathlib.Core.Bool.{Bool, true, false, cond, not, ◌&&◌}
use mathlib.Core.List.{List, [], ◌∷◌}
use Prim.Native.Nat.{ℕ, suc, ◌<◌}
use native.Mathlib.Omega.{arith}
use lib.Dec.{eqb, lit<}
use borrow.Author.Tests.{ne_eqb}
use Rattle.lists.specs.Lists.{every}
use Rattle.lists.proofs.Bools.{and_both, and_left, and_right, and_three}
use Rattle.types.specs.Value.{is_exchanged}
use Rattle.request.specs.Set.{Member}
use Rattle.model.specs.Rows.{Row, rising, find, Edit, edited}
use Rattle.model.specs.Group.{Update, Commits, replaced}
use Rattle.model.specs.Fine.{is_word, fine_value, rising_from, fine_member, fine_members, fine_update, fine_updates, fine_group}
use Rattle.model.proofs.FineRows.{fine_own, fine_edit, InRange, own_fine, edited_fine}
use Rattle.model.proofs.FineParts.{word_tell}

-- ---- what stands at a place, and an edit there

unfoldable pub fine_recorded : ℕ → Update → Bool
fine_recorded place u =
    is_word u.incarnation && cond (eqb place 0) (eqb u.incarnation 0 && not u.estimate) true && fine_members place u.members

unfoldable pub fine_commits : ℕ → Commits → Bool
fine_commits place c = fine_edit fine_recorded place c.edit && fine_group c.group

regroup : (a b c d e f : Bool) → (a && b && c && d && e && f) ≡ (a && b && (c && d && (e && f)))
regroup true true true true e f = refl
regroup true true true false e f = refl
regroup true true false d e f = refl
regroup true false c d e f = refl
regroup false b c d e f = refl

update_is : (r : Row Update) → fine_update r ≡ (is_word r.key && is_word r.place && fine_recorded r.place r.held)
unfolding fine_update fine_recorded fine_members
update_is r =
    regroup (is_word r.key) (is_word r.place) (is_word r.held.incarnation)
    (cond (eqb r.place 0) (eqb r.held.incarnation 0 && not r.held.estimate) true) (rising_from 0 r.held.members)
    (every (fine_member r.place) r.held.members)

module _ (rows : List (Row Update)) (h : fine_updates rows ≡ true) where
  pub updates_rising : rising rows ≡ true
  unfolding fine_updates
  updates_rising = and_left (rising rows) (every fine_update rows) h

  pub updates_every : every fine_update rows ≡ true
  unfolding fine_updates
  updates_every = and_right (rising rows) (every fine_update rows) h

pub fine_find_update : (key place : ℕ) (rows : List (Row Update)) → fine_updates rows ≡ true → fine_own fine_recorded place (find key place rows) ≡ true
fine_find_update key place rows h = own_fine fine_update fine_recorded update_is key place rows (updates_every rows h)

pub fine_edited_update : (key place : ℕ) (e : Edit Update) (rows : List (Row Update)) → fine_updates rows ≡ true → InRange key place → fine_edit fine_recorded place e ≡ true → fine_updates (edited key place e rows) ≡ true
unfolding fine_updates
fine_edited_update key place e rows h w f = edited_fine fine_update fine_recorded update_is key place e rows w f h

-- ---- the parts of a fine update

module _ (r : Row Update) (f : fine_update r ≡ true) where
  row_parts : (is_word r.key ≡ true) × (is_word r.place ≡ true) × (fine_recorded r.place r.held ≡ true)
  row_parts = and_three (is_word r.key) (is_word r.place) (fine_recorded r.place r.held) (sym (update_is r) ∙ f)

  pub update_place : is_word r.place ≡ true
  update_place = row_parts.1

  pub update_recorded : fine_recorded r.place r.held ≡ true
  update_recorded = row_parts.2

module _ (place : ℕ) (u : Update) (f : fine_recorded place u ≡ true) where
  update_parts : (is_word u.incarnation ≡ true) × (cond (eqb place 0) (eqb u.incarnation 0 && not u.estimate) true ≡ true) × (fine_members place u.members ≡ true)
  unfolding fine_recorded
  update_parts =
      and_three (is_word u.incarnation) (cond (eqb place 0) (eqb u.incarnation 0 && not u.estimate) true) (fine_members place u.members) f

  pub update_incarnation : is_word u.incarnation ≡ true
  update_incarnation = update_parts.0

  -- at the base, incarnation 0 and done
  pub update_side : cond (eqb place 0) (eqb u.incarnation 0 && not u.estimate) true ≡ true
  update_side = update_parts.1

  pub update_members : fine_members place u.members ≡ true
  update_members = update_parts.2

-- ---- updates that a rule records

pub base_recorded : (ms : List Member) → fine_members 0 ms ≡ true → fine_recorded 0 (record { incarnation = 0; estimate = false; members = ms }) ≡ true
unfolding fine_recorded
base_recorded ms f = rw (word_tell 0 (lit< tt), f)

module _ (place : ℕ) (n : 0 < place) where
  above_base : eqb place 0 ≡ false
  above_base = ne_eqb place 0 (omega arith)

  pub recorded_tell : (u : Update) → is_word u.incarnation ≡ true → fine_members place u.members ≡ true → fine_recorded place u ≡ true
  unfolding fine_recorded
  recorded_tell u i f = rw (i, above_base, f)

-- ---- members in the place of others

pub member_value_lem : (place : ℕ) (m : Member) → fine_member place m ≡ true → fine_value m.value ≡ true
unfolding fine_member
member_value_lem place m f = and_left (fine_value m.value) (cond (eqb place 0) true (is_exchanged m.value)) f

-- a value put in the place of another leaves the tags as they are
rising_from_replaced : (tag : ℕ) (v : List ℕ) (least : ℕ) (ms : List Member) → rising_from least (replaced tag v ms) ≡ rising_from least ms
unfolding rising_from replaced
rising_from_replaced tag v least [] = refl
rising_from_replaced tag v least (m ∷ ms) = rw (rising_from_replaced tag v (suc m.tag) ms)

module _ (place tag : ℕ) (v : List ℕ) (f : fine_value v ≡ true) (x : is_exchanged v ≡ true) where
  member_replaced : (m : Member) (b : Bool) → fine_member place m ≡ true → fine_member place (record { tag = m.tag; value = cond b v m.value }) ≡ true
  unfolding fine_member
  member_replaced m true h = rw (f, x) (either (eqb place 0))
    where
      either : (b : Bool) → cond b true true ≡ true
      either true = refl
      either false = refl
  member_replaced m false h = h

  every_replaced : (ms : List Member) → every (fine_member place) ms ≡ true → every (fine_member place) (replaced tag v ms) ≡ true
  unfolding every replaced
  every_replaced [] h = refl
  every_replaced (m ∷ ms) h =
      and_both (fine_member place (record { tag = m.tag; value = cond (eqb m.tag tag) v m.value })) (every (fine_member place) (replaced tag v ms))
      (member_replaced m (eqb m.tag tag) (and_left (fine_member place m) (every (fine_member place) ms) h))
      (every_replaced ms (and_right (fine_member place m) (every (fine_member place) ms) h))

  pub replaced_fine : (ms : List Member) → fine_members place ms ≡ true → fine_members place (replaced tag v ms) ≡ true
  unfolding fine_members
  replaced_fine ms h =
      and_both (rising_from 0 (replaced tag v ms)) (every (fine_member place) (replaced tag v ms))
      (rising_from_replaced tag v 0 ms ∙ and_left (rising_from 0 ms) (every (fine_member place) ms) h)
      (every_replaced ms (and_right (rising_from 0 ms) (every (fine_member place) ms) h))

-- members in the place of others leave the rest of an update fine
pub with_members_fine : (place : ℕ) (u : Update) (ms : List Member) → fine_recorded place u ≡ true → fine_members place ms ≡ true → fine_recorded place (record { incarnation = u.incarnation; estimate = u.estimate; members = ms }) ≡ true
unfolding fine_recorded
with_members_fine place u ms h g = rw (update_incarnation place u h, update_side place u h, g)
