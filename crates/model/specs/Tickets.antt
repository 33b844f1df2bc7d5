-- Requests and outcomes in words, written as a reader of 01 says them. The cases are lists of these.
use Rattle.std.specs.Prelude.{List, [], ◌∷◌, ◌++◌, ℕ, zero, suc, ◌+◌, ◌*◌, ◌^◌, pos, negsuc}
use Rattle.number.specs.Words.{digits}
use Rattle.delta.specs.Delta.{Delta, delta_words}
use Rattle.types.specs.Response.{response, done_kind, versioned_kind, resolved_kind, unresolved_kind, uninitialized_kind, tag_not_found_kind, dependency_kind, application_failure_kind, size_kind, committed_kind, wrote_outside_kind, versioned_at_base_kind}
use Rattle.request.specs.Set.{Member}
use Rattle.request.specs.Request.{Request, last_committed, base, write, add_delta, estimate, remove, fetch, materialize, group_base, exchange, group_write, group_estimate, group_remove, group_fetch, group_size, finalize}
use Rattle.model.specs.Model.{Model, work_of, perform, left_by, Outcome, answered, outcome_of, Turn}

infix 70 ◌⇒◌
infix 70 ◌⟹◌
-- "A set is two words, bit n for tag n, low word first; values follow in rising tag order."
unfoldable pub bits_of : List Member → ℕ
bits_of [] = 0
bits_of (m ∷ ms) = 2 ^ m.tag + bits_of ms

unfoldable pub values_in : List Member → List ℕ
values_in [] = []
values_in (m ∷ ms) = m.value ++ values_in ms

unfoldable pub set_and_values : List Member → List ℕ
set_and_values ms = digits 2 (bits_of ms) ++ values_in ms

-- The words of a request: its kind's number, then the table's fields. A ticket's head and an answer's have the same shape.
unfoldable pub request_words : Request → List ℕ
request_words (last_committed key) = response 0 (key ∷ [])
request_words (base key value) = response 1 (key ∷ value)
request_words (write key index incarnation value) = response 2 (key ∷ index ∷ incarnation ∷ value)
request_words (add_delta key index d) = response 3 (key ∷ index ∷ delta_words d)
request_words (estimate key index) = response 4 (key ∷ index ∷ [])
request_words (remove key index) = response 5 (key ∷ index ∷ [])
request_words (fetch key index) = response 6 (key ∷ index ∷ [])
request_words (materialize key index) = response 7 (key ∷ index ∷ [])
request_words (group_base key members) = response 8 (key ∷ set_and_values members)
request_words (exchange key tag value) = response 9 (key ∷ tag ∷ value)
request_words (group_write key index incarnation members) = response 10 (key ∷ index ∷ incarnation ∷ set_and_values members)
request_words (group_estimate key index) = response 11 (key ∷ index ∷ [])
request_words (group_remove key index) = response 12 (key ∷ index ∷ [])
request_words (group_fetch key tag index) = response 13 (key ∷ tag ∷ index ∷ [])
request_words (group_size key index) = response 14 (key ∷ index ∷ [])
request_words (finalize key index) = response 15 (key ∷ index ∷ [])

-- A request, or its words, and the outcome that 01 gives it.
unfoldable pub ◌⟹◌ : List ℕ → Outcome → Turn
words ⟹ o = record { request = words; outcome = o }

unfoldable pub ◌⇒◌ : Request → Outcome → Turn
q ⇒ o = request_words q ⟹ o

-- The answers of 01 by their kinds.
unfoldable pub done : Outcome
done = answered (response done_kind [])

unfoldable pub wrote_outside : Outcome
wrote_outside = answered (response wrote_outside_kind [])

unfoldable pub uninitialized : Outcome
uninitialized = answered (response uninitialized_kind [])

unfoldable pub tag_not_found : Outcome
tag_not_found = answered (response tag_not_found_kind [])

unfoldable pub application_failure : Outcome
application_failure = answered (response application_failure_kind [])

unfoldable pub versioned : ℕ → ℕ → List ℕ → Outcome
versioned index incarnation value = answered (response versioned_kind (index ∷ incarnation ∷ value))

unfoldable pub at_base : List ℕ → Outcome
at_base value = answered (response versioned_at_base_kind value)

unfoldable pub resolved : ℕ → Outcome
resolved n = answered (response resolved_kind (digits 4 n))

unfoldable pub unresolved : Delta → Outcome
unresolved d = answered (response unresolved_kind (delta_words d))

unfoldable pub dependency : ℕ → Outcome
dependency index = answered (response dependency_kind (index ∷ []))

unfoldable pub size : ℕ → ℕ → Outcome
size members sum = answered (response size_kind (members ∷ sum ∷ []))

unfoldable pub committed : List Member → Outcome
committed members = answered (response committed_kind (set_and_values members))

-- "Head: bits 30-31 kind ..; bit 29 is 1 for `Exchanged` ..; bits 0-28 byte length .. Then layout .., handle .., and a 128-bit number"
unfoldable pub value_words : (kind exchanged length layout number : ℕ) → List ℕ
value_words kind exchanged length layout number = (kind * 2 ^ 30 + exchanged * 2 ^ 29 + length) ∷ layout ∷ 0 ∷ digits 4 number

-- Exchanged values: a number (16 bytes), bytes without a number, and a deletion.
unfoldable pub number : ℕ → List ℕ
number n = value_words 0 1 16 0 n

unfoldable pub created : (bytes : ℕ) → List ℕ
created bytes = value_words 0 1 bytes 0 0

unfoldable pub modified : (bytes : ℕ) → List ℕ
modified bytes = value_words 1 1 bytes 0 0

unfoldable pub deleted : List ℕ
deleted = value_words 2 1 0 0 0

-- Raw values, as storage has them.
unfoldable pub raw_created : (bytes : ℕ) → List ℕ
raw_created bytes = value_words 0 0 bytes 0 0

unfoldable pub raw_modified : (bytes : ℕ) → List ℕ
raw_modified bytes = value_words 1 0 bytes 0 0

unfoldable pub raw_deleted : List ℕ
raw_deleted = value_words 2 0 0 0 0

unfoldable pub tagged : ℕ → List ℕ → Member
tagged tag value = record { tag = tag; value = value }

-- A delta of +n or −n that reached no further than its own end, under a limit.
unfoldable pub plus : (limit n : ℕ) → Delta
plus limit n = record { limit = limit; high = n; low = 0; update = pos n }

unfoldable pub minus : (limit n : ℕ) → Delta
minus limit zero = plus limit 0
minus limit (suc n) = record { limit = limit; high = 0; low = suc n; update = negsuc n }

-- A request met by a model, with slots to spare: what its caller sees, and the model that it leaves.
unfoldable pub outcome : Request → Model → Outcome
outcome q m = outcome_of (perform (work_of q) m)

unfoldable pub left : Request → Model → Model
left q m = left_by m (perform (work_of q) m)
