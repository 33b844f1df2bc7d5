-- What a request of the right shape asks: its fields are within its words, their rule is that of 01, and they stand for what its words ask.
use mathlib.Core.Path.{◌≡◌, refl, sym, ap, ◌∙◌}
use mathlib.Core.Bool.{Bool, true, false, not}
use mathlib.Core.List.{List}
use Prim.Native.Nat.{ℕ, ◌+◌, ◌*◌, ◌≤◌, ◌<◌}
use native.Mathlib.Nat.{add-zero}
use native.Mathlib.Omega.{arith}
use lib.Dec.{ltb}
use lib.ListN.{length, get_or, take, drop, length-drop}
use lib.Seq.{take_all}
use borrow.Author.Tests.{leb-true, ltb-true, ltb-false}
use Rattle.lists.proofs.Bools.{and_three}
use Rattle.delta.specs.Delta.{delta_width, delta_ok}
use Rattle.types.specs.Value.{value_width, is_deletion}
use Rattle.request.specs.Table.{Kind, number_of, LastCommitted, Base, Write, AddDelta, Estimate, Remove, Fetch, Materialize, GroupBase, Exchange, GroupWrite, GroupEstimate, GroupRemove, GroupFetch, GroupSize, Finalize, alone, by_set, Row, row, no_row, at, table, row_of, key_place, index_place, tag_place, incarnation_place, tagged_index_place}
use Rattle.request.specs.Set.{tags_of}
use Rattle.request.specs.Request.{row_at, tags_at, tags_by, tags, value_in, delta_in, members, tail_length, shape_ok, exchanged_ok, raw_ok, tag_ok, all, fields_ok, last_index, index_in, index_ok, group_base, group_write, request_as, request_of}
use Rattle.request.specs.Fields.{kind_at, kind_asked, set_in, asked_as, asked_by, asked_at, members_from, meaning_in, RoomIn, rule_in}
use Rattle.request.specs.declared.asked.Request.{Request}
use Rattle.request.specs.declared.asked.Request.TheVariants as Code
use Rattle.request.proofs.KindNumbers.{row_number, row_by_kind, row_past}
use Rattle.request.proofs.CheckAnswers.{shape_small, shape_whole, shape_length}

-- What the check of its fields and its index tells of a request: that its tag is one, and that its index can be shifted, that of kind 7 twice.
unfoldable pub Served : Request → Type 0
Served (Code.LastCommitted key) = Unit
Served (Code.Base key value) = Unit
Served (Code.Write key index incarnation value) = index ≤ 4294967294
Served (Code.AddDelta key index delta) = index ≤ 4294967294
Served (Code.Estimate key index) = index ≤ 4294967294
Served (Code.Remove key index) = index ≤ 4294967294
Served (Code.Fetch key index) = index ≤ 4294967294
Served (Code.Materialize key index) = index ≤ 4294967293
Served (Code.GroupBase key set values) = Unit
Served (Code.Exchange key tag value) = tag ≤ 63
Served (Code.GroupWrite key index incarnation set values) = index ≤ 4294967294
Served (Code.GroupEstimate key index) = index ≤ 4294967294
Served (Code.GroupRemove key index) = index ≤ 4294967294
Served (Code.GroupFetch key tag index) = (tag ≤ 63) × (index ≤ 4294967294)
Served (Code.GroupSize key index) = index ≤ 4294967294
Served (Code.Finalize key index) = index ≤ 4294967294

kind_as : (k : Kind) (r : Row) (t : List ℕ) → kind_asked (asked_as k r t) ≡ k
unfolding kind_asked asked_as
kind_as LastCommitted r t = refl
kind_as Base r t = refl
kind_as Write r t = refl
kind_as AddDelta r t = refl
kind_as Estimate r t = refl
kind_as Remove r t = refl
kind_as Fetch r t = refl
kind_as Materialize r t = refl
kind_as GroupBase r t = refl
kind_as Exchange r t = refl
kind_as GroupWrite r t = refl
kind_as GroupEstimate r t = refl
kind_as GroupRemove r t = refl
kind_as GroupFetch r t = refl
kind_as GroupSize r t = refl
kind_as Finalize r t = refl

kind_back : (k : Kind) → (row_of (number_of k)).kind ≡ k
unfolding row_of table row
kind_back LastCommitted = refl
kind_back Base = refl
kind_back Write = refl
kind_back AddDelta = refl
kind_back Estimate = refl
kind_back Remove = refl
kind_back Fetch = refl
kind_back Materialize = refl
kind_back GroupBase = refl
kind_back Exchange = refl
kind_back GroupWrite = refl
kind_back GroupEstimate = refl
kind_back GroupRemove = refl
kind_back GroupFetch = refl
kind_back GroupSize = refl
kind_back Finalize = refl

-- Where no tail follows, the fixed words are room enough.
pub room_alone : (t : List ℕ) (k : Kind) → (row_of (number_of k)).tail ≡ alone → (row_of (number_of k)).fixed < length t → RoomIn t (asked_by k t)
unfolding RoomIn asked_by asked_as row_of table row
room_alone t LastCommitted w h = tt
room_alone t Base w h = omega arith
room_alone t Write w h = omega arith
room_alone t AddDelta w h = omega arith
room_alone t Estimate w h = tt
room_alone t Remove w h = tt
room_alone t Fetch w h = tt
room_alone t Materialize w h = tt
room_alone t GroupBase w h = absurd (let z : ◌≡◌ {A = ℕ} 0 1 = cc in omega arith)
room_alone t Exchange w h = omega arith
room_alone t GroupWrite w h = absurd (let z : ◌≡◌ {A = ℕ} 0 1 = cc in omega arith)
room_alone t GroupEstimate w h = tt
room_alone t GroupRemove w h = tt
room_alone t GroupFetch w h = tt
room_alone t GroupSize w h = tt
room_alone t Finalize w h = tt

-- ---- what any words ask

module _ (t : List ℕ) where
  module _ (n : ℕ) (e : row_at t ≡ row_of n) (w : (row_of n).tail ≡ by_set value_width) where
    tags_are : tags_of (set_in (row_at t) t).low (set_in (row_at t) t).high ≡ tags t
    unfolding set_in tags tags_by tags_at
    tags_are = let tail : (row_at t).tail ≡ by_set value_width = rw e w in rw tail refl

    members_are : members_from (set_in (row_at t) t) (row_at t).value t ≡ members t
    unfolding members_from members
    members_are = rw tags_are refl

  meaning_as : (k : Kind) → row_at t ≡ row_of (number_of k) → meaning_in t (asked_as k (row_at t) t) ≡ request_as k t
  unfolding meaning_in asked_as request_as value_in delta_in row_of table row
  meaning_as LastCommitted e = refl
  meaning_as Base e = refl
  meaning_as Write e = refl
  meaning_as AddDelta e = refl
  meaning_as Estimate e = refl
  meaning_as Remove e = refl
  meaning_as Fetch e = refl
  meaning_as Materialize e = refl
  meaning_as GroupBase e = ap (group_base (get_or t key_place 0)) (members_are 8 e refl)
  meaning_as Exchange e = refl
  meaning_as GroupWrite e = ap (group_write (get_or t key_place 0) (get_or t index_place 0) (get_or t incarnation_place 0)) (members_are 10 e refl)
  meaning_as GroupEstimate e = refl
  meaning_as GroupRemove e = refl
  meaning_as GroupFetch e = refl
  meaning_as GroupSize e = refl
  meaning_as Finalize e = refl

  meaning_row : (b : Bool) → ltb (kind_at t) 16 ≡ b → meaning_in t (asked_as (row_at t).kind (row_at t) t) ≡ request_as (row_at t).kind t
  unfolding meaning_in asked_as request_as no_row row
  meaning_row true h = meaning_as (row_at t).kind (row_by_kind t (ltb-true (kind_at t) 16 h))
  meaning_row false h = rw (row_past t (ltb-false (kind_at t) 16 h)) refl

  -- A kind past the table's last asks as the code's does.
  pub meaning_at : meaning_in t (asked_at t) ≡ request_of t
  unfolding asked_at request_of
  meaning_at = meaning_row (ltb (kind_at t) 16) refl

-- ---- what those of the right shape ask

module _ (t : List ℕ) (s : shape_ok t ≡ true) where
  row_is : row_at t ≡ row_of (number_of (row_at t).kind)
  row_is = row_by_kind t (shape_small t s)

  module _ (n : ℕ) (e : row_at t ≡ row_of n) where
    -- The words of a value or of a delta.
    fits : (width : ℕ) → (row_of n).value + width ≤ (row_of n).fixed + 1 → (row_at t).value + width ≤ length t
    fits width h = let long = rw e at (shape_whole t s) in rw e (omega arith)

    -- What follows the fixed words of a kind without a tail.
    exact : (row_of n).tail ≡ alone → length t ≡ (row_of n).fixed + 1
    unfolding tail_length
    exact w = rw (e, w, add-zero) at (shape_length t s)

    module _ (w : (row_of n).tail ≡ by_set value_width) where
      -- The values of a set.
      values_fit : (row_of n).value ≡ (row_of n).fixed + 1
          → (row_at t).value + value_width * length (tags_of (set_in (row_at t) t).low (set_in (row_at t) t).high) ≤ length t
      unfolding set_in tail_length tags_at
      values_fit v =
          let tail : (row_at t).tail ≡ by_set value_width = rw e w in
          let place : (row_at t).value ≡ (row_at t).fixed + 1 = rw e v in
          let long = rw tail at (shape_length t s) in
          omega arith

  room_as : (k : Kind) → row_at t ≡ row_of (number_of k) → RoomIn t (asked_as k (row_at t) t)
  unfolding RoomIn asked_as row_of table row
  room_as LastCommitted e = tt
  room_as Base e = fits 1 e value_width (omega arith)
  room_as Write e = fits 2 e value_width (omega arith)
  room_as AddDelta e = fits 3 e delta_width (omega arith)
  room_as Estimate e = tt
  room_as Remove e = tt
  room_as Fetch e = tt
  room_as Materialize e = tt
  room_as GroupBase e = values_fit 8 e refl refl
  room_as Exchange e = fits 9 e value_width (omega arith)
  room_as GroupWrite e = values_fit 10 e refl refl
  room_as GroupEstimate e = tt
  room_as GroupRemove e = tt
  room_as GroupFetch e = tt
  room_as GroupSize e = tt
  room_as Finalize e = tt

  delta_all : row_at t ≡ row_of 3 → take delta_width (delta_in t) ≡ delta_in t
  unfolding delta_in row_of table row
  delta_all e =
      let place : (row_at t).value ≡ 3 = rw e refl in
      take_all delta_width (drop (row_at t).value t) (omega (arith, length-drop (row_at t).value t, exact 3 e refl))

  rule_as : (k : Kind) → row_at t ≡ row_of (number_of k) → rule_in t (asked_as k (row_at t) t) ≡ fields_ok k t
  unfolding rule_in asked_as fields_ok value_in delta_in row_of table row
  rule_as LastCommitted e = refl
  rule_as Base e = refl
  rule_as Write e = refl
  rule_as AddDelta e = ap delta_ok (delta_all e)
  rule_as Estimate e = refl
  rule_as Remove e = refl
  rule_as Fetch e = refl
  rule_as Materialize e = refl
  rule_as GroupBase e = ap (all raw_ok) (members_are t 8 e refl)
  rule_as Exchange e = refl
  rule_as GroupWrite e = ap (all exchanged_ok) (members_are t 10 e refl)
  rule_as GroupEstimate e = refl
  rule_as GroupRemove e = refl
  rule_as GroupFetch e = refl
  rule_as GroupSize e = refl
  rule_as Finalize e = refl

  pub kind_of_asked : number_of (kind_asked (asked_at t)) ≡ kind_at t
  unfolding asked_at row_at kind_at
  kind_of_asked = ap number_of (kind_as (row_at t).kind (row_at t) t) ∙ row_number (kind_at t) (shape_small t s)

  pub room_at : RoomIn t (asked_at t)
  unfolding asked_at
  room_at = room_as (row_at t).kind row_is

  pub rule_at : rule_in t (asked_at t) ≡ fields_ok (row_at t).kind t
  unfolding asked_at
  rule_at = rule_as (row_at t).kind row_is

  -- What the code makes of the kind.
  module _ (k : Kind) (e : number_of k ≡ kind_at t) where
    named : row_of (number_of k) ≡ row_at t
    unfolding row_at kind_at
    named = ap row_of e

    pub asked_told : asked_by k t ≡ asked_at t
    unfolding asked_by asked_at
    asked_told =
        let kind : k ≡ (row_at t).kind = sym (kind_back k) ∙ ap (λ (r : Row). r.kind) named in
        rw (named, ← kind) refl

    pub kind_whole : (row_of (number_of k)).fixed < length t
    kind_whole = rw named (shape_whole t s)

    pub kind_room : RoomIn t (asked_by k t)
    kind_room = rw asked_told room_at

    pub kind_rule : (b : Bool) → b ≡ rule_in t (asked_by k t) → b ≡ fields_ok (row_at t).kind t
    kind_rule b o = o ∙ ap (rule_in t) asked_told ∙ rule_at

  module _ (r : fields_ok (row_at t).kind t ≡ true) (i : index_ok t ≡ true) where
    served_as : (k : Kind) → row_at t ≡ row_of (number_of k) → fields_ok k t ≡ true → index_in (row_at t).index t ≡ true → Served (asked_as k (row_at t) t)
    unfolding Served asked_as fields_ok tag_ok row_of table row at index_in last_index
    served_as LastCommitted e f x = tt
    served_as Base e f x = tt
    served_as Write e f x = leb-true (get_or t index_place 0) 4294967294 (rw e at x)
    served_as AddDelta e f x = leb-true (get_or t index_place 0) 4294967294 (rw e at x)
    served_as Estimate e f x = leb-true (get_or t index_place 0) 4294967294 (rw e at x)
    served_as Remove e f x = leb-true (get_or t index_place 0) 4294967294 (rw e at x)
    served_as Fetch e f x = leb-true (get_or t index_place 0) 4294967294 (rw e at x)
    served_as Materialize e f x = leb-true (get_or t index_place 0) 4294967293 (rw e at x)
    served_as GroupBase e f x = tt
    served_as Exchange e f x =
        leb-true (get_or t tag_place 0) 63 (and_three (tag_ok (get_or t tag_place 0)) (exchanged_ok (value_in t)) (not (is_deletion (value_in t))) f).0
    served_as GroupWrite e f x = leb-true (get_or t index_place 0) 4294967294 (rw e at x)
    served_as GroupEstimate e f x = leb-true (get_or t index_place 0) 4294967294 (rw e at x)
    served_as GroupRemove e f x = leb-true (get_or t index_place 0) 4294967294 (rw e at x)
    served_as GroupFetch e f x = (leb-true (get_or t tag_place 0) 63 f, leb-true (get_or t tagged_index_place 0) 4294967294 (rw e at x))
    served_as GroupSize e f x = leb-true (get_or t index_place 0) 4294967294 (rw e at x)
    served_as Finalize e f x = leb-true (get_or t index_place 0) 4294967294 (rw e at x)

    pub served_at : Served (asked_at t)
    unfolding asked_at index_ok
    served_at = served_as (row_at t).kind row_is r i
