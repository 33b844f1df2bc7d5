-- 01, "Ticket and answer": what the words of a request (01: ticket) ask, and refusals 2, 3 and 4.
use Rattle.std.specs.Prelude.{Bool, true, false, cond, not, ◌&&◌, List, [], ◌∷◌, ℕ, ◌+◌, ◌*◌, ◌-◌, leb, ltb, eqb, length, get_or, drop}
use Rattle.std.proofs.Math.Option.{Option, none, some}
use Rattle.delta.specs.Delta.{Delta, delta_at, delta_ok}
use Rattle.types.specs.Value.{value_at, value_ok, is_exchanged, is_deletion}
use Rattle.types.specs.Response.{kind_in, count_in}
use Rattle.types.specs.Refusal.{wrong_count, bad_field, index_too_high}
use Rattle.request.specs.Table.{Kind, LastCommitted, Base, Write, AddDelta, Estimate, Remove, Fetch, Materialize, GroupBase, Exchange, GroupWrite, GroupEstimate, GroupRemove, GroupFetch, GroupSize, Finalize, Purpose, Edits, Reads, Materializes, Finalizes, IndexField, Tail, alone, by_set, by_count, absent, Row, row_of, key_place, index_place, tag_place, tagged_index_place, incarnation_place}
use Rattle.request.specs.Set.{tags_of, Member, members_of}

-- "Ticket head: bits 28-31 kind, bits 0-27 count of words after it."
unfoldable pub row_at : List ℕ → Row
row_at t = row_of (kind_in (get_or t 0 0))

unfoldable pub count_of : List ℕ → ℕ
count_of t = count_in (get_or t 0 0)

-- The set is the last two of a kind's fixed words; a kind without one has no tags.
unfoldable pub tags_at : ℕ → List ℕ → List ℕ
tags_at fixed t = tags_of (get_or t (fixed - 1) 0) (get_or t fixed 0)

unfoldable pub tags_by : Tail → ℕ → List ℕ → List ℕ
tags_by alone fixed t = []
tags_by (by_set each) fixed t = tags_at fixed t
tags_by (by_count place most each) fixed t = []
tags_by absent fixed t = []

unfoldable pub tags : List ℕ → List ℕ
tags t = tags_by (row_at t).tail (row_at t).fixed t

-- The value of a request, the words of its delta, and the values of its tags.
unfoldable pub value_in : List ℕ → List ℕ
value_in t = value_at (row_at t).value t

unfoldable pub delta_in : List ℕ → List ℕ
delta_in t = drop (row_at t).value t

unfoldable pub members : List ℕ → List Member
members t = members_of (tags t) (drop (row_at t).value t)

-- How many words a tail has, and whether it may be.
unfoldable pub tail_length : Tail → ℕ → List ℕ → ℕ
tail_length alone fixed t = 0
tail_length (by_set each) fixed t = each * length (tags_at fixed t)
tail_length (by_count place most each) fixed t = each * get_or t place 0
tail_length absent fixed t = 0

unfoldable pub tail_ok : Tail → List ℕ → Bool
tail_ok alone t = true
tail_ok (by_set each) t = true
tail_ok (by_count place most each) t = leb (get_or t place 0) most
tail_ok absent t = false

-- Whether a head counts the words of its kind.
unfoldable pub count_ok : Tail → ℕ → List ℕ → Bool
count_ok tail fixed t = tail_ok tail t && eqb (count_of t) (fixed + tail_length tail fixed t)

-- 2: "empty, or count wrong for the kind or the words handed in". The fixed words must be there before a set or a count among them is read.
unfoldable pub shape_ok : List ℕ → Bool
shape_ok t = ltb (row_at t).fixed (length t) && eqb (length t) (count_of t + 1) && count_ok (row_at t).tail (row_at t).fixed t

unfoldable pub exchanged_ok : List ℕ → Bool
exchanged_ok v = value_ok v && is_exchanged v

unfoldable pub raw_ok : List ℕ → Bool
raw_ok v = value_ok v && not (is_exchanged v)

-- "A tag is 0 to 63."
unfoldable pub tag_ok : ℕ → Bool
tag_ok tag = leb tag 63

unfoldable pub all : (List ℕ → Bool) → List Member → Bool
all f [] = true
all f (m ∷ ms) = f m.value && all f ms

-- 3: "a field breaks its rule". The fields are those of the table, with its words "exchanged", "raw" and "no deletion".
unfoldable pub fields_ok : Kind → List ℕ → Bool
fields_ok LastCommitted t = true
fields_ok Base t = value_ok (value_in t)
fields_ok Write t = exchanged_ok (value_in t)
fields_ok AddDelta t = delta_ok (delta_in t)
fields_ok Estimate t = true
fields_ok Remove t = true
fields_ok Fetch t = true
fields_ok Materialize t = true
fields_ok GroupBase t = all raw_ok (members t)
fields_ok Exchange t = tag_ok (get_or t tag_place 0) && exchanged_ok (value_in t) && not (is_deletion (value_in t))
fields_ok GroupWrite t = all exchanged_ok (members t)
fields_ok GroupEstimate t = true
fields_ok GroupRemove t = true
fields_ok GroupFetch t = tag_ok (get_or t tag_place 0)
fields_ok GroupSize t = true
fields_ok Finalize t = true

-- "Indexes up to 4,294,967,294 are served; materialising adds twice, so there 4,294,967,293 is the last."
unfoldable pub last_index : Purpose → ℕ
last_index Edits = 4294967294
last_index Reads = 4294967294
last_index Materializes = 4294967293
last_index Finalizes = 4294967294

-- 4: "index too high"
unfoldable pub index_in : Option IndexField → List ℕ → Bool
index_in none t = true
index_in (some f) t = leb (get_or t f.place 0) (last_index f.purpose)

unfoldable pub index_ok : List ℕ → Bool
index_ok t = index_in (row_at t).index t

-- "The lowest number that applies is given"; 0 where none of 2, 3 and 4 does.
unfoldable pub refusal_of : List ℕ → ℕ
refusal_of t = cond (shape_ok t) (cond (fields_ok (row_at t).kind t) (cond (index_ok t) 0 index_too_high) bad_field) wrong_count

-- What a request asks: its fields by the table, values as their words.
pub data Request : Type 0 where
  last_committed : (key : ℕ) → Request
  base : (key : ℕ) (value : List ℕ) → Request
  write : (key index incarnation : ℕ) (value : List ℕ) → Request
  add_delta : (key index : ℕ) (delta : Delta) → Request
  estimate remove fetch materialize : (key index : ℕ) → Request
  group_base : (key : ℕ) (members : List Member) → Request
  exchange : (key tag : ℕ) (value : List ℕ) → Request
  group_write : (key index incarnation : ℕ) (members : List Member) → Request
  group_estimate group_remove : (key index : ℕ) → Request
  group_fetch : (key tag index : ℕ) → Request
  group_size finalize : (key index : ℕ) → Request

unfoldable pub request_as : Kind → List ℕ → Request
request_as LastCommitted t = last_committed (get_or t key_place 0)
request_as Base t = base (get_or t key_place 0) (value_in t)
request_as Write t = write (get_or t key_place 0) (get_or t index_place 0) (get_or t incarnation_place 0) (value_in t)
request_as AddDelta t = add_delta (get_or t key_place 0) (get_or t index_place 0) (delta_at (delta_in t))
request_as Estimate t = estimate (get_or t key_place 0) (get_or t index_place 0)
request_as Remove t = remove (get_or t key_place 0) (get_or t index_place 0)
request_as Fetch t = fetch (get_or t key_place 0) (get_or t index_place 0)
request_as Materialize t = materialize (get_or t key_place 0) (get_or t index_place 0)
request_as GroupBase t = group_base (get_or t key_place 0) (members t)
request_as Exchange t = exchange (get_or t key_place 0) (get_or t tag_place 0) (value_in t)
request_as GroupWrite t = group_write (get_or t key_place 0) (get_or t index_place 0) (get_or t incarnation_place 0) (members t)
request_as GroupEstimate t = group_estimate (get_or t key_place 0) (get_or t index_place 0)
request_as GroupRemove t = group_remove (get_or t key_place 0) (get_or t index_place 0)
request_as GroupFetch t = group_fetch (get_or t key_place 0) (get_or t tag_place 0) (get_or t tagged_index_place 0)
request_as GroupSize t = group_size (get_or t key_place 0) (get_or t index_place 0)
request_as Finalize t = finalize (get_or t key_place 0) (get_or t index_place 0)

unfoldable pub request_of : List ℕ → Request
request_of t = request_as (row_at t).kind t
