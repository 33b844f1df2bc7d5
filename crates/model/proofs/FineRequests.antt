-- What the checks of a request's words give: where 2, 3 and 4 do not refuse it, its fields are fine.
-- Assumes nothing.
use mathlib.Core.Path.{◌≡◌, refl}
use mathlib.Core.Bool.{Bool, true, false, cond, not, ◌&&◌}
use mathlib.Core.List.{List, [], ◌∷◌}
use mathlib.Core.Option.{Option, none}
use Prim.Native.Nat.{ℕ, zero, suc, ◌+◌, ◌*◌, ◌-◌, ◌≤◌, ◌<◌}
use native.Mathlib.Omega.{arith}
use lib.Dec.{leb, eqb, lit<, eqb-suc-zero}
use lib.ListN.{length, get_or, take, drop, length-drop}
use lib.Seq.{length-take-le}
use borrow.Author.Tests.{leb-true, le-leb, eq-eqb}
use Rattle.lists.specs.Lists.{every}
use Rattle.lists.proofs.Bools.{and_both, and_left, and_right}
use Rattle.lists.proofs.Lists.{every_drop, every_get_d, every_take}
use Rattle.delta.specs.Delta.{delta_at, delta_ok}
use Rattle.delta.proofs.DeltaFormat.{ok_valid, delta_at_small}
use Rattle.types.specs.Value.{value_width, value_at, value_ok, is_exchanged, is_deletion}
use Rattle.types.specs.Response.{kind_in}
use Rattle.types.proofs.ValueLaws.{length_value_at}
use Rattle.request.specs.declared.kind.Kind.{Kind}
use Rattle.request.specs.declared.kind.Kind.TheVariants.{Estimate, Remove, Fetch, GroupBase, GroupWrite, GroupEstimate, GroupRemove, GroupSize, Finalize}
use Rattle.request.specs.Table.{Purpose, Edits, Reads, Finalizes, IndexField, alone, by_set, Row, row, at, table, no_row, row_of}
use Rattle.request.specs.Set.{tags_of, members_of}
use Rattle.request.specs.Request.{row_at, tags_at, tags_by, tags, value_in, delta_in, members, tail_length, shape_ok, exchanged_ok, raw_ok, tag_ok, all, fields_ok, last_index, index_in, index_ok, refusal_of, request_as, request_of}
use Rattle.request.proofs.CheckAnswers.{shape_whole, shape_length}
use Rattle.request.proofs.SetTags.{AtLeast, Below, Rising, tags_below, tags_rising}
use Rattle.model.specs.Fine.{is_word, fine_value, fine_delta, rising_from, fine_member, fine_members, fine_request}
use Rattle.model.proofs.FineParts.{word_tell, every_words, delta_tell}

-- ---- values and deltas in words

pub value_tell : (v : List ℕ) → length v ≡ value_width → every is_word v ≡ true → value_ok v ≡ true → fine_value v ≡ true
unfolding fine_value
value_tell v l w k = rw (eq-eqb (length v) value_width l, w, k)

pub value_at_fine : (t : List ℕ) (at : ℕ) → every is_word t ≡ true → at + value_width ≤ length t → value_ok (value_at at t) ≡ true → fine_value (value_at at t) ≡ true
unfolding value_at
value_at_fine t at w h k =
    value_tell (value_at at t) (length_value_at t at h) (every_take is_word value_width (drop at t) (every_drop is_word at t w)) k

pub delta_at_fine : (ws : List ℕ) → every is_word ws ≡ true → length ws ≡ 17 → delta_ok ws ≡ true → fine_delta (delta_at ws) ≡ true
delta_at_fine ws w l k = delta_tell (delta_at ws) (delta_at_small ws (every_words ws w) l).limit (ok_valid ws k)

-- ---- members

-- tags that rise and are below 64 are the tags of their members
rising_from_members : (least : ℕ) (ts ws : List ℕ) → AtLeast least ts → Below 64 ts → Rising ts → rising_from least (members_of ts ws) ≡ true
unfolding rising_from members_of AtLeast Below Rising
rising_from_members least [] ws a b r = refl
rising_from_members least (t ∷ ts) ws a b r =
    rw (le-leb least t a.0, le-leb t 63 (omega (arith, b.0))) (rising_from_members (suc t) ts (drop value_width ws) r.0 b.1 r.1)

at_least_zero : (ts : List ℕ) → AtLeast 0 ts
unfolding AtLeast
at_least_zero [] = tt
at_least_zero (t ∷ ts) = (omega arith, at_least_zero ts)

-- a rule of values that gives what a member at a place needs
module _ (place : ℕ) (rule : List ℕ → Bool) (ok : (v : List ℕ) → rule v ≡ true → value_ok v ≡ true) (side : (v : List ℕ) → rule v ≡ true → cond (eqb place 0) true (is_exchanged v) ≡ true) where
  every_members : (ts ws : List ℕ) → value_width * length ts ≤ length ws → every is_word ws ≡ true → all rule (members_of ts ws) ≡ true → every (fine_member place) (members_of ts ws) ≡ true
  unfolding members_of every all fine_member
  every_members [] ws l w h = refl
  every_members (t ∷ ts) ws l w h =
      and_both (fine_value v && cond (eqb place 0) true (is_exchanged v)) (every (fine_member place) (members_of ts (drop value_width ws)))
      (and_both (fine_value v) (cond (eqb place 0) true (is_exchanged v)) (value_tell v long (every_take is_word value_width ws w) (ok v head)) (side v head))
      (every_members ts (drop value_width ws) (omega (arith, length-drop value_width ws)) (every_drop is_word value_width ws w) (and_right (rule v) (all rule (members_of ts (drop value_width ws))) h))
    where
      v : List ℕ
      v = take value_width ws

      head : rule v ≡ true
      head = and_left (rule v) (all rule (members_of ts (drop value_width ws))) h

      long : length v ≡ value_width
      long = length-take-le value_width ws (omega arith)

  pub members_of_fine : (low high : ℕ) (ws : List ℕ) → value_width * length (tags_of low high) ≤ length ws → every is_word ws ≡ true → all rule (members_of (tags_of low high) ws) ≡ true → fine_members place (members_of (tags_of low high) ws) ≡ true
  unfolding fine_members
  members_of_fine low high ws l w h =
      and_both (rising_from 0 (members_of (tags_of low high) ws)) (every (fine_member place) (members_of (tags_of low high) ws))
      (rising_from_members 0 (tags_of low high) ws (at_least_zero (tags_of low high)) (tags_below low high) (tags_rising low high))
      (every_members (tags_of low high) ws l w h)

-- ---- the three checks

pub none_refused : (a b c : Bool) → ◌≡◌ {A = ℕ} (cond a (cond b (cond c 0 4) 3) 2) 0 → (a ≡ true) × (b ≡ true) × (c ≡ true)
none_refused true true true e = (refl, refl, refl)
none_refused true true false e = absurd (omega arith)
none_refused true false c e = absurd (omega arith)
none_refused false b c e = absurd (omega arith)

-- what the words of a request that is not refused keep to, by their row of the table
pub record Checked (t : List ℕ) : Type 0 where
  pub long : (row_at t).fixed < length t
  pub exact : length t ≡ (row_at t).fixed + tail_length (row_at t).tail (row_at t).fixed t + 1
  pub fields : fields_ok (row_at t).kind t ≡ true
  pub index : index_in (row_at t).index t ≡ true

pub refusal_of_checked : (t : List ℕ) → refusal_of t ≡ 0 → Checked t
unfolding refusal_of index_ok
refusal_of_checked t z =
    let n = none_refused (shape_ok t) (fields_ok (row_at t).kind t) (index_ok t) z in
    record { long = shape_whole t n.0; exact = shape_length t n.0; fields = n.1; index = n.2 }

raw_ok_lem : (v : List ℕ) → raw_ok v ≡ true → value_ok v ≡ true
unfolding raw_ok
raw_ok_lem v h = and_left (value_ok v) (not (is_exchanged v)) h

exchanged_ok_lem : (v : List ℕ) → exchanged_ok v ≡ true → value_ok v ≡ true
unfolding exchanged_ok
exchanged_ok_lem v h = and_left (value_ok v) (is_exchanged v) h

exchanged_side : (v : List ℕ) → exchanged_ok v ≡ true → is_exchanged v ≡ true
unfolding exchanged_ok
exchanged_side v h = and_right (value_ok v) (is_exchanged v) h

-- ---- row by row

unfoldable pub Each : {A : Type 0} → (A → Type 0) → List A → Type 0
Each p [] = Unit
Each p (x ∷ xs) = p x × Each p xs

pub each_get_d : {A : Type 0} (p : A → Type 0) (xs : List A) (d : A) → Each p xs → p d → (i : ℕ) → p (get_or xs i d)
unfolding Each
each_get_d p [] d h g i = g
each_get_d p (x ∷ xs) d h g zero = h.0
each_get_d p (x ∷ xs) d h g (suc i) = each_get_d p xs d h.1 g i

module _ (t : List ℕ) (w : every is_word t ≡ true) (c : Checked t) where
  word_at : (i : ℕ) → is_word (get_or t i 0) ≡ true
  word_at i = every_get_d is_word t 0 w (word_tell 0 (lit< tt)) i

  long_by : (r : Row) → row_at t ≡ r → r.fixed < length t
  long_by r e = rw e at c.long

  fields_by : (r : Row) → row_at t ≡ r → fields_ok r.kind t ≡ true
  fields_by r e = rw e at c.fields

  index_by : (r : Row) → row_at t ≡ r → index_in r.index t ≡ true
  index_by r e = rw e at c.index

  exact_by : (r : Row) → row_at t ≡ r → length t ≡ r.fixed + tail_length r.tail r.fixed t + 1
  exact_by r e = rw e at c.exact

  value_by : (r : Row) → row_at t ≡ r → r.value + value_width ≤ r.fixed + 1 → value_ok (value_in t) ≡ true → fine_value (value_in t) ≡ true
  unfolding value_in
  value_by r e h ok =
      let place : (row_at t).value ≡ r.value = rw e refl in
      value_at_fine t (row_at t).value w (omega (arith, long_by r e)) ok

  abbrev Good : Row → Type 0
  Good r = row_at t ≡ r → fine_request (request_as r.kind t) ≡ true

  -- the shifted index is a word
  next_word : (i last : ℕ) → last ≤ 4294967294 → leb (get_or t i 0) last ≡ true → is_word (suc (get_or t i 0)) ≡ true
  next_word i last l h = word_tell (suc (get_or t i 0)) (omega (arith, leb-true (get_or t i 0) last h))

  last_committed_good : Good (row_of 0)
  unfolding row_of table row at request_as fine_request
  last_committed_good e = word_at 1

  base_good : Good (row_of 1)
  unfolding row_of table row at request_as fine_request fields_ok
  base_good e =
      let r = row_of 1 in
      and_both (is_word (get_or t 1 0)) (fine_value (value_in t)) (word_at 1) (value_by r e (omega arith) (fields_by r e))

  write_good : Good (row_of 2)
  unfolding row_of table row at request_as fine_request fields_ok exchanged_ok index_in last_index
  write_good e =
      let r = row_of 2 in
      let v = value_in t in
      let f : (value_ok v && is_exchanged v) ≡ true = fields_by r e in
      rw (
        word_at 1,
        next_word 2 4294967294 (omega arith) (index_by r e),
        word_at 3,
        value_by r e (omega arith) (and_left (value_ok v) (is_exchanged v) f),
        and_right (value_ok v) (is_exchanged v) f,
      )

  add_delta_good : Good (row_of 3)
  unfolding row_of table row at request_as fine_request fields_ok delta_in tail_length index_in last_index
  add_delta_good e =
      let r = row_of 3 in
      let place : (row_at t).value ≡ 3 = rw e refl in
      rw (
        word_at 1,
        next_word 2 4294967294 (omega arith) (index_by r e),
        delta_at_fine (delta_in t) (every_drop is_word (row_at t).value t w) (omega (arith, length-drop (row_at t).value t, exact_by r e)) (fields_by r e),
      )

  -- kinds whose fields are a key and an index
  module _ (kind : Kind) (p : Purpose) (l : last_index p ≤ 4294967294) (e : row_at t ≡ row kind 2 alone 0 (at 2 p)) where
    key_index : (is_word (get_or t 1 0) && is_word (suc (get_or t 2 0))) ≡ true
    unfolding row at index_in
    key_index =
        and_both (is_word (get_or t 1 0)) (is_word (suc (get_or t 2 0))) (word_at 1)
        (next_word 2 (last_index p) l (index_by (row kind 2 alone 0 (at 2 p)) e))

  estimate_good : Good (row_of 4)
  unfolding row_of table row at request_as fine_request last_index
  estimate_good e = key_index Estimate Edits (omega arith) e

  remove_good : Good (row_of 5)
  unfolding row_of table row at request_as fine_request last_index
  remove_good e = key_index Remove Edits (omega arith) e

  fetch_good : Good (row_of 6)
  unfolding row_of table row at request_as fine_request last_index
  fetch_good e = key_index Fetch Reads (omega arith) e

  group_estimate_good : Good (row_of 11)
  unfolding row_of table row at request_as fine_request last_index
  group_estimate_good e = key_index GroupEstimate Edits (omega arith) e

  group_remove_good : Good (row_of 12)
  unfolding row_of table row at request_as fine_request last_index
  group_remove_good e = key_index GroupRemove Edits (omega arith) e

  group_size_good : Good (row_of 14)
  unfolding row_of table row at request_as fine_request last_index
  group_size_good e = key_index GroupSize Reads (omega arith) e

  finalize_good : Good (row_of 15)
  unfolding row_of table row at request_as fine_request last_index
  finalize_good e = key_index Finalize Finalizes (omega arith) e

  materialize_good : Good (row_of 7)
  unfolding row_of table row at request_as fine_request index_in last_index
  materialize_good e =
      and_both (is_word (get_or t 1 0)) (is_word (suc (suc (get_or t 2 0)))) (word_at 1)
      (word_tell (suc (suc (get_or t 2 0))) (omega (arith, leb-true (get_or t 2 0) 4294967293 (index_by (row_of 7) e))))

  group_fetch_good : Good (row_of 13)
  unfolding row_of table row at request_as fine_request fields_ok tag_ok index_in last_index
  group_fetch_good e =
      let r = row_of 13 in
      rw (word_at 1, fields_by r e, next_word 3 4294967294 (omega arith) (index_by r e))

  exchange_good : Good (row_of 9)
  unfolding row_of table row at request_as fine_request fields_ok tag_ok exchanged_ok
  exchange_good e =
      let r = row_of 9 in
      let v = value_in t in
      let f : (leb (get_or t 2 0) 63 && (value_ok v && is_exchanged v) && not (is_deletion v)) ≡ true = fields_by r e in
      let g : (leb (get_or t 2 0) 63 && (value_ok v && is_exchanged v)) ≡ true = and_left (leb (get_or t 2 0) 63 && (value_ok v && is_exchanged v)) (not (is_deletion v)) f in
      let x : (value_ok v && is_exchanged v) ≡ true = and_right (leb (get_or t 2 0) 63) (value_ok v && is_exchanged v) g in
      rw (
        word_at 1,
        and_left (leb (get_or t 2 0) 63) (value_ok v && is_exchanged v) g,
        value_by r e (omega arith) (and_left (value_ok v) (is_exchanged v) x),
        and_right (value_ok v) (is_exchanged v) x,
      )
      (and_right (leb (get_or t 2 0) 63 && (value_ok v && is_exchanged v)) (not (is_deletion v)) f)

  -- the set is the last two of the fixed words, and the values are all that follows
  module _ (kind : Kind) (before : ℕ) (index : Option IndexField) (e : row_at t ≡ row kind (suc before) (by_set value_width) (suc (suc before)) index) where
    tags_are : tags t ≡ tags_of (get_or t before 0) (get_or t (suc before) 0)
    unfolding tags tags_by tags_at row
    tags_are =
        let s : suc before - 1 ≡ before = omega arith in
        rw (e, s)

    members_are : members t ≡ members_of (tags_of (get_or t before 0) (get_or t (suc before) 0)) (drop (suc (suc before)) t)
    unfolding members row
    members_are = rw (tags_are, e)

    values_length : value_width * length (tags_of (get_or t before 0) (get_or t (suc before) 0)) ≤ length (drop (suc (suc before)) t)
    unfolding row tail_length tags_at
    values_length =
        let s : suc before - 1 ≡ before = omega arith in
        let words = rw s at (exact_by (row kind (suc before) (by_set value_width) (suc (suc before)) index) e) in
        omega (arith, length-drop (suc (suc before)) t)

    members_fine : (place : ℕ) (rule : List ℕ → Bool) → ((v : List ℕ) → rule v ≡ true → value_ok v ≡ true) → ((v : List ℕ) → rule v ≡ true → cond (eqb place 0) true (is_exchanged v) ≡ true) → all rule (members t) ≡ true → fine_members place (members t) ≡ true
    members_fine place rule ok side h =
        rw members_are
        (members_of_fine place rule ok side (get_or t before 0) (get_or t (suc before) 0) (drop (suc (suc before)) t) values_length (every_drop is_word (suc (suc before)) t w)
        (rw members_are at h))

  group_base_good : Good (row_of 8)
  unfolding row_of table row at request_as fine_request fields_ok
  group_base_good e =
      and_both (is_word (get_or t 1 0)) (fine_members 0 (members t)) (word_at 1)
      (members_fine GroupBase 2 none e 0 raw_ok raw_ok_lem (λ v h. refl) (fields_by (row_of 8) e))

  group_write_good : Good (row_of 10)
  unfolding row_of table row at request_as fine_request fields_ok index_in last_index
  group_write_good e =
      let r = row_of 10 in
      rw (word_at 1, next_word 2 4294967294 (omega arith) (index_by r e), word_at 3)
      (members_fine GroupWrite 4 (at 2 Edits) e (suc (get_or t 2 0)) exchanged_ok exchanged_ok_lem (λ v h. rw (eqb-suc-zero (get_or t 2 0)) (exchanged_side v h)) (fields_by r e))

  rows_good : Each Good table
  unfolding Each row_of table
  rows_good = (
    last_committed_good,
    (
      base_good,
      (
        write_good,
        (
          add_delta_good,
          (
            estimate_good,
            (
              remove_good,
              (
                fetch_good,
                (
                  materialize_good,
                  (group_base_good, (exchange_good, (group_write_good, (group_estimate_good, (group_remove_good, (group_fetch_good, (group_size_good, (finalize_good, tt)))))))),
                ),
              ),
            ),
          ),
        ),
      ),
    ),
  )

  checked_fine : fine_request (request_of t) ≡ true
  unfolding request_of row_at row_of no_row row request_as fine_request
  checked_fine = each_get_d Good table no_row rows_good (λ e. word_at 1) (kind_in (get_or t 0 0)) refl

-- a request that 2, 3 and 4 do not refuse has fine fields
pub request_of_fine : (t : List ℕ) → every is_word t ≡ true → refusal_of t ≡ 0 → fine_request (request_of t) ≡ true
request_of_fine t w z = checked_fine t w (refusal_of_checked t z)
