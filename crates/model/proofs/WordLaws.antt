-- Every request whose fields keep their rules can be written in words: 2, 3 and 4 let the words through, and they ask for that request.
-- Assumes nothing.
use mathlib.Core.Path.{◌≡◌, refl, ◌∙◌}
use mathlib.Core.Bool.{Bool, true, false}
use mathlib.Core.List.{List, [], ◌∷◌, map}
use Prim.Native.Nat.{ℕ, suc, ◌+◌, ◌*◌, ◌/◌, ◌%◌, ◌^◌, ◌≤◌, ◌<◌}
use native.Mathlib.Nat.{sub-zero}
use native.Mathlib.Omega.{arith}
use lib.Dec.{eqb}
use lib.ListN.{length, take, length-append, length-map}
use lib.Seq.{take_all, take_at, drop_at}
use borrow.Author.Tests.{le-leb, lt-ltb, eq-eqb, eqb-true}
use Rattle.lists.specs.Lists.{every}
use Rattle.lists.proofs.Bools.{and_left, and_right}
use Rattle.number.specs.Words.{digits}
use Rattle.number.specs.Number.{range}
use Rattle.delta.specs.Delta.{Delta, valid}
use Rattle.delta.proofs.DeltaFormat.{length_delta_words, valid_small, delta_at_delta_words, delta_ok_delta_words}
use Rattle.types.specs.Value.{value_width, value_at, value_ok, is_deletion}
use Rattle.types.specs.Response.{response, most_tags}
use Rattle.request.specs.Set.{tags_of, Member, members_of}
use Rattle.request.proofs.SetTags.{Rising, Below, tags_length_le}
use Rattle.request.specs.Table.{by_set, Row, row, at, table, row_of}
use Rattle.request.specs.Request.{Request, last_committed, base, write, add_delta, estimate, remove, fetch, materialize, group_base, exchange, group_write, group_estimate, group_remove, group_fetch, group_size, finalize, row_at, count_of, tags_at, tags_by, tags, value_in, delta_in, members, tail_length, tail_ok, count_ok, shape_ok, exchanged_ok, tag_ok, all, raw_ok, fields_ok, last_index, index_in, index_ok, refusal_of, request_as, request_of}
use Rattle.model.specs.Model.{Model, work_of, perform, unless_refused, ruling}
use Rattle.model.specs.Tickets.{bits_of, values_in, set_and_values, request_words}
use Rattle.model.proofs.SetLaws.{bits, tags_of_bits}

-- 2, 3 and 4 let the words of a request through, and they ask for it.
pub record Written (q : Request) : Type 0 where
  pub accepted : refusal_of (request_words q) ≡ 0
  pub asks : request_of (request_words q) ≡ q

-- ---- kinds without a set

written_last_committed : (key : ℕ) → Written (last_committed key)
unfolding refusal_of request_words response shape_ok row_at row_of table row at count_of tail_length tail_ok count_ok fields_ok index_ok index_in last_index request_of request_as
written_last_committed key = record { accepted = refl; asks = refl }

written_estimate : (key index : ℕ) → index ≤ 4294967294 → Written (estimate key index)
unfolding refusal_of request_words response shape_ok row_at row_of table row at count_of tail_length tail_ok count_ok fields_ok index_ok index_in last_index request_of request_as
written_estimate key index h = record { accepted = rw (le-leb index 4294967294 h); asks = refl }

written_remove : (key index : ℕ) → index ≤ 4294967294 → Written (remove key index)
unfolding refusal_of request_words response shape_ok row_at row_of table row at count_of tail_length tail_ok count_ok fields_ok index_ok index_in last_index request_of request_as
written_remove key index h = record { accepted = rw (le-leb index 4294967294 h); asks = refl }

written_fetch : (key index : ℕ) → index ≤ 4294967294 → Written (fetch key index)
unfolding refusal_of request_words response shape_ok row_at row_of table row at count_of tail_length tail_ok count_ok fields_ok index_ok index_in last_index request_of request_as
written_fetch key index h = record { accepted = rw (le-leb index 4294967294 h); asks = refl }

written_materialize : (key index : ℕ) → index ≤ 4294967293 → Written (materialize key index)
unfolding refusal_of request_words response shape_ok row_at row_of table row at count_of tail_length tail_ok count_ok fields_ok index_ok index_in last_index request_of request_as
written_materialize key index h = record { accepted = rw (le-leb index 4294967293 h); asks = refl }

written_group_estimate : (key index : ℕ) → index ≤ 4294967294 → Written (group_estimate key index)
unfolding refusal_of request_words response shape_ok row_at row_of table row at count_of tail_length tail_ok count_ok fields_ok index_ok index_in last_index request_of request_as
written_group_estimate key index h = record { accepted = rw (le-leb index 4294967294 h); asks = refl }

written_group_remove : (key index : ℕ) → index ≤ 4294967294 → Written (group_remove key index)
unfolding refusal_of request_words response shape_ok row_at row_of table row at count_of tail_length tail_ok count_ok fields_ok index_ok index_in last_index request_of request_as
written_group_remove key index h = record { accepted = rw (le-leb index 4294967294 h); asks = refl }

written_group_size : (key index : ℕ) → index ≤ 4294967294 → Written (group_size key index)
unfolding refusal_of request_words response shape_ok row_at row_of table row at count_of tail_length tail_ok count_ok fields_ok index_ok index_in last_index request_of request_as
written_group_size key index h = record { accepted = rw (le-leb index 4294967294 h); asks = refl }

written_finalize : (key index : ℕ) → index ≤ 4294967294 → Written (finalize key index)
unfolding refusal_of request_words response shape_ok row_at row_of table row at count_of tail_length tail_ok count_ok fields_ok index_ok index_in last_index request_of request_as
written_finalize key index h = record { accepted = rw (le-leb index 4294967294 h); asks = refl }

written_group_fetch : (key tag index : ℕ) → tag ≤ 63 → index ≤ 4294967294 → Written (group_fetch key tag index)
unfolding refusal_of request_words response shape_ok row_at row_of table row at count_of tail_length tail_ok count_ok fields_ok index_ok index_in last_index request_of request_as tag_ok
written_group_fetch key tag index g h = record { accepted = rw (le-leb tag 63 g, le-leb index 4294967294 h); asks = refl }

module _ (v : List ℕ) (wide : length v ≡ value_width) where
  whole : take value_width v ≡ v
  whole = take_all value_width v (omega arith)

  written_base : (key : ℕ) → value_ok v ≡ true → Written (base key v)
  unfolding refusal_of request_words response shape_ok row_at row_of table row at count_of tail_length tail_ok count_ok fields_ok index_ok index_in last_index request_of request_as value_in value_at
  written_base key h = record { accepted = rw (wide, whole, h); asks = rw (wide, whole) }

  written_write : (key index incarnation : ℕ) → exchanged_ok v ≡ true → index ≤ 4294967294 → Written (write key index incarnation v)
  unfolding refusal_of request_words response shape_ok row_at row_of table row at count_of tail_length tail_ok count_ok fields_ok index_ok index_in last_index request_of request_as value_in value_at
  written_write key index incarnation h l = record { accepted = rw (wide, whole, h, le-leb index 4294967294 l); asks = rw (wide, whole) }

  written_exchange : (key tag : ℕ) → exchanged_ok v ≡ true → is_deletion v ≡ false → tag ≤ 63 → Written (exchange key tag v)
  unfolding refusal_of request_words response shape_ok row_at row_of table row at count_of tail_length tail_ok count_ok fields_ok index_ok index_in last_index request_of request_as value_in value_at tag_ok
  written_exchange key tag h d l = record { accepted = rw (wide, whole, h, d, le-leb tag 63 l); asks = rw (wide, whole) }

written_add_delta : (key index : ℕ) (d : Delta) → valid d ≡ true → d.limit < range → index ≤ 4294967294 → Written (add_delta key index d)
unfolding refusal_of request_words response shape_ok row_at row_of table row at count_of tail_length tail_ok count_ok fields_ok index_ok index_in last_index request_of request_as delta_in
written_add_delta key index d v l h =
    let s = valid_small d v l in
    record {
      accepted = rw (length_delta_words d, delta_ok_delta_words d v s, le-leb index 4294967294 h);
      asks = rw (length_delta_words d, delta_at_delta_words d s);
    }

-- ---- kinds with a set

unfoldable pub tags_in : List Member → List ℕ
tags_in ms = map (λ m. m.tag) ms

unfoldable pub wide : Member → Bool
wide m = eqb (length m.value) value_width

-- Members as a request has them: rising tags up to 63, and a value's words for each.
pub record Members (ms : List Member) : Type 0 where
  pub rising : Rising (tags_in ms)
  pub below : Below 64 (tags_in ms)
  pub values : every wide ms ≡ true

bits_of_bits : (ms : List Member) → bits_of ms ≡ bits 0 (tags_in ms)
unfolding bits_of bits tags_in
bits_of_bits [] = refl
bits_of_bits (m ∷ ms) = rw (bits_of_bits ms, sub-zero)

wide_length : (m : Member) (ms : List Member) → every wide (m ∷ ms) ≡ true → length m.value ≡ value_width
unfolding every wide
wide_length m ms h = eqb-true (length m.value) value_width (and_left (wide m) (every wide ms) h)

wide_rest : (m : Member) (ms : List Member) → every wide (m ∷ ms) ≡ true → every wide ms ≡ true
unfolding every
wide_rest m ms h = and_right (wide m) (every wide ms) h

length_values : (ms : List Member) → every wide ms ≡ true → length (values_in ms) ≡ value_width * length ms
unfolding values_in
length_values [] h = refl
length_values (m ∷ ms) h =
    length-append m.value (values_in ms) ∙ rw (wide_length m ms h, length_values ms (wide_rest m ms h)) (omega arith)

members_of_values : (ms : List Member) → every wide ms ≡ true → members_of (tags_in ms) (values_in ms) ≡ ms
unfolding members_of tags_in values_in
members_of_values [] h = refl
members_of_values (m ∷ ms) h =
    let e = wide_length m ms h in
    rw (take_at m.value (values_in ms) value_width e, drop_at m.value (values_in ms) value_width e, members_of_values ms (wide_rest m ms h))

module _ (ms : List Member) (w : Members ms) where
  set_back : tags_of (bits_of ms % 2 ^ 32) (bits_of ms / 2 ^ 32 % 2 ^ 32) ≡ tags_in ms
  set_back = rw (bits_of_bits ms) (tags_of_bits (tags_in ms) w.rising w.below)

  few : length ms ≤ most_tags
  unfolding tags_in
  few = rw (set_back, length-map ms (λ m. m.tag)) at (tags_length_le (bits_of ms % 2 ^ 32) (bits_of ms / 2 ^ 32 % 2 ^ 32))

  short : length (values_in ms) ≤ most_tags * value_width
  short = omega (arith, few, length_values ms w.values)

  tag_count : length (tags_in ms) ≡ length ms
  unfolding tags_in
  tag_count = length-map ms (λ m. m.tag)

kind_of_lem : (k n : ℕ) → n < 2 ^ 28 → (k * 2 ^ 28 + n) / 2 ^ 28 ≡ k
kind_of_lem k n h = omega arith

count_of_lem : (k n : ℕ) → n < 2 ^ 28 → (k * 2 ^ 28 + n) % 2 ^ 28 ≡ n
count_of_lem k n h = omega arith

-- What the tests of 2, 3 and 4 come to, from a row of the table, the tags and the members.
module _ (t : List ℕ) (r : Row) (ts : List ℕ) (is_row : row_at t ≡ r) (is-tags : tags t ≡ ts) where
  shape_is : (each : ℕ) → r.tail ≡ by_set each → r.fixed < length t → length t ≡ count_of t + 1 → count_of t ≡ r.fixed + each * length ts → shape_ok t ≡ true
  unfolding shape_ok count_ok tail_ok tail_length tags tags_by
  shape_is each by-set a b c =
      let tags_are : tags_at r.fixed t ≡ ts = rw (is_row, by-set) at is-tags in
      rw (
        is_row,
        by-set,
        tags_are,
        lt-ltb r.fixed (length t) a,
        eq-eqb (length t) (count_of t + 1) b,
        eq-eqb (count_of t) (r.fixed + each * length ts) c,
      )

  accepted_is : shape_ok t ≡ true → fields_ok r.kind t ≡ true → index_in r.index t ≡ true → refusal_of t ≡ 0
  unfolding refusal_of index_ok
  accepted_is a b c = rw (a, is_row, b, c)

module _ (ms : List Member) (w : Members ms) (key : ℕ) where
  unfoldable base_words : List ℕ
  base_words = request_words (group_base key ms)

  base_count : count_of base_words ≡ 3 + length (values_in ms)
  unfolding base_words count_of request_words response set_and_values digits
  base_count = count_of_lem 8 (suc (suc (suc (length (values_in ms))))) (omega (arith, short ms w)) ∙ omega arith

  base_row : row_at base_words ≡ row_of 8
  unfolding row_at row_of table row base_words request_words response set_and_values digits at
  base_row = rw (kind_of_lem 8 (suc (suc (suc (length (values_in ms))))) (omega (arith, short ms w)))

  base_tags : tags base_words ≡ tags_in ms
  unfolding tags
  base_tags = rw base_row (unfold tags_by tags_at row_of table row base_words request_words response set_and_values digits in set_back ms w)

  base_members : members base_words ≡ ms
  unfolding members
  base_members = rw (base_tags, base_row) (unfold row_of table row base_words request_words response set_and_values digits in members_of_values ms w.values)

  base_long : length base_words ≡ 4 + length (values_in ms)
  unfolding base_words request_words response set_and_values digits
  base_long = omega arith

  base_accepted : all raw_ok ms ≡ true → refusal_of base_words ≡ 0
  unfolding row_of table row at
  base_accepted h =
      let r = row_of 8 in
      accepted_is base_words r (tags_in ms) base_row base_tags
      (shape_is base_words r (tags_in ms) base_row base_tags value_width refl (omega (arith, base_long)) (omega (arith, base_long, base_count))
      (omega (arith, base_count, length_values ms w.values, tag_count ms w)))
      (unfold fields_ok in rw base_members h) (unfold index_in in refl)

  base_asks : request_of base_words ≡ group_base key ms
  unfolding request_of row_of table row at
  base_asks = rw base_row (unfold request_as in rw base_members (unfold base_words request_words response in refl))

  written_group_base : all raw_ok ms ≡ true → Written (group_base key ms)
  unfolding base_words
  written_group_base h = record { accepted = base_accepted h; asks = base_asks }

module _ (ms : List Member) (w : Members ms) (key index incarnation : ℕ) where
  unfoldable write_words : List ℕ
  write_words = request_words (group_write key index incarnation ms)

  write_count : count_of write_words ≡ 5 + length (values_in ms)
  unfolding write_words count_of request_words response set_and_values digits
  write_count = count_of_lem 10 (suc (suc (suc (suc (suc (length (values_in ms))))))) (omega (arith, short ms w)) ∙ omega arith

  write_row : row_at write_words ≡ row_of 10
  unfolding row_at row_of table row write_words request_words response set_and_values digits at
  write_row = rw (kind_of_lem 10 (suc (suc (suc (suc (suc (length (values_in ms))))))) (omega (arith, short ms w)))

  write_tags : tags write_words ≡ tags_in ms
  unfolding tags
  write_tags = rw write_row (unfold tags_by tags_at row_of table row write_words request_words response set_and_values digits in set_back ms w)

  write_members_lem : members write_words ≡ ms
  unfolding members
  write_members_lem = rw (write_tags, write_row) (unfold row_of table row write_words request_words response set_and_values digits in members_of_values ms w.values)

  write_long : length write_words ≡ 6 + length (values_in ms)
  unfolding write_words request_words response set_and_values digits
  write_long = omega arith

  write_accepted : all exchanged_ok ms ≡ true → index ≤ 4294967294 → refusal_of write_words ≡ 0
  unfolding row_of table row at
  write_accepted h l =
      let r = row_of 10 in
      accepted_is write_words r (tags_in ms) write_row write_tags
      (shape_is write_words r (tags_in ms) write_row write_tags value_width refl (omega (arith, write_long)) (omega (arith, write_long, write_count))
      (omega (arith, write_count, length_values ms w.values, tag_count ms w)))
      (unfold fields_ok in rw write_members_lem h) (unfold at index_in last_index write_words request_words response in le-leb index 4294967294 l)

  write_asks : request_of write_words ≡ group_write key index incarnation ms
  unfolding request_of row_of table row at
  write_asks = rw write_row (unfold request_as in rw write_members_lem (unfold write_words request_words response in refl))

  written_group_write : all exchanged_ok ms ≡ true → index ≤ 4294967294 → Written (group_write key index incarnation ms)
  unfolding write_words
  written_group_write h l = record { accepted = write_accepted h l; asks = write_asks }

-- ---- every kind

-- The fields of a request keep 01's rules.
unfoldable pub Fit : Request → Type 0
Fit (last_committed key) = Unit {0}
Fit (base key v) = (length v ≡ value_width) × (value_ok v ≡ true)
Fit (write key index incarnation v) = (length v ≡ value_width) × (exchanged_ok v ≡ true) × (index ≤ 4294967294)
Fit (add_delta key index d) = (valid d ≡ true) × (d.limit < range) × (index ≤ 4294967294)
Fit (estimate key index) = index ≤ 4294967294
Fit (remove key index) = index ≤ 4294967294
Fit (fetch key index) = index ≤ 4294967294
Fit (materialize key index) = index ≤ 4294967293
Fit (group_base key ms) = Members ms × (all raw_ok ms ≡ true)
Fit (exchange key tag v) = (length v ≡ value_width) × (exchanged_ok v ≡ true) × (is_deletion v ≡ false) × (tag ≤ 63)
Fit (group_write key index incarnation ms) = Members ms × (all exchanged_ok ms ≡ true) × (index ≤ 4294967294)
Fit (group_estimate key index) = index ≤ 4294967294
Fit (group_remove key index) = index ≤ 4294967294
Fit (group_fetch key tag index) = (tag ≤ 63) × (index ≤ 4294967294)
Fit (group_size key index) = index ≤ 4294967294
Fit (finalize key index) = index ≤ 4294967294

pub written : (q : Request) → Fit q → Written q
unfolding Fit
written (last_committed key) f = written_last_committed key
written (base key v) f = written_base v f.0 key f.1
written (write key index incarnation v) f = written_write v f.0 key index incarnation f.1 f.2
written (add_delta key index d) f = written_add_delta key index d f.0 f.1 f.2
written (estimate key index) f = written_estimate key index f
written (remove key index) f = written_remove key index f
written (fetch key index) f = written_fetch key index f
written (materialize key index) f = written_materialize key index f
written (group_base key ms) f = written_group_base ms f.0 key f.1
written (exchange key tag v) f = written_exchange v f.0 key tag f.1 f.2 f.3
written (group_write key index incarnation ms) f = written_group_write ms f.0 key index incarnation f.1 f.2
written (group_estimate key index) f = written_group_estimate key index f
written (group_remove key index) f = written_group_remove key index f
written (group_fetch key tag index) f = written_group_fetch key tag index f.0 f.1
written (group_size key index) f = written_group_size key index f
written (finalize key index) f = written_finalize key index f

-- The words of such a request do what the request does.
pub ruling_words_of : (q : Request) (m : Model) → Fit q → ruling m (request_words q) ≡ perform (work_of q) m
unfolding ruling unless_refused
ruling_words_of q m f = rw ((written q f).accepted, (written q f).asks)
