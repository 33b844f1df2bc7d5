-- What a request asks, as the code hands it on: its kind with the fields that the kind has.
-- Values and deltas stay in the request's words: the fields say where they begin.
use Rattle.std.specs.Prelude.{Bool, true, false, ◌&&◌, not, List, ℕ, ◌+◌, ◌*◌, ◌-◌, ◌≤◌, length, get_or, take, drop}
use Rattle.delta.specs.Delta.{delta_width, delta_at, delta_ok}
use Rattle.types.specs.Value.{value_width, value_at, value_ok, is_deletion}
use Rattle.types.specs.Response.{kind_in}
use Rattle.request.specs.Table.{Kind, LastCommitted, Base, Write, AddDelta, Estimate, Remove, Fetch, Materialize, GroupBase, Exchange, GroupWrite, GroupEstimate, GroupRemove, GroupFetch, GroupSize, Finalize, Row, row_of, number_of, kind_of, key_place, index_place, tag_place, tagged_index_place, incarnation_place}
use Rattle.request.specs.Set.{Member, tags_of, members_of}
use Rattle.request.specs.Request.{row_at, count_of, exchanged_ok, raw_ok, tag_ok, all, Request, last_committed, base, write, add_delta, estimate, remove, fetch, materialize, group_base, exchange, group_write, group_estimate, group_remove, group_fetch, group_size, finalize}
use Rattle.request.specs.Rows.{layout}
use Rattle.request.specs.declared.head.Head.{Head}
use Rattle.request.specs.declared.set.Set.{Set}
use Rattle.request.specs.declared.asked.Request.{Request as CodeRequest}
use Rattle.request.specs.declared.asked.Request.TheVariants as Code

unfoldable pub kind_at : List ℕ → ℕ
kind_at t = kind_in (get_or t 0 0)

-- The head of a request and its row of the table, decoded.
unfoldable pub head_at : List ℕ → Head
head_at t = record { kind = kind_of (kind_at t); count = count_of t; row = layout (row_at t) }

abbrev pub set_of : ℕ → ℕ → Set
set_of low high = record { low = low; high = high }

-- The two sides of a value's rule: exchanged, or raw.
unfoldable pub side_ok : Bool → List ℕ → Bool
side_ok true v = exchanged_ok v
side_ok false v = raw_ok v

-- A set is the last two of the fixed words.
unfoldable pub set_in : Row → List ℕ → Set
set_in r t = set_of (get_or t (r.fixed - 1) 0) (get_or t r.fixed 0)

-- What the words ask of a kind with the row r: its fields by the table of 01.
unfoldable pub asked_as : Kind → Row → List ℕ → CodeRequest
asked_as LastCommitted r t = Code.LastCommitted (get_or t key_place 0)
asked_as Base r t = Code.Base (get_or t key_place 0) r.value
asked_as Write r t = Code.Write (get_or t key_place 0) (get_or t index_place 0) (get_or t incarnation_place 0) r.value
asked_as AddDelta r t = Code.AddDelta (get_or t key_place 0) (get_or t index_place 0) r.value
asked_as Estimate r t = Code.Estimate (get_or t key_place 0) (get_or t index_place 0)
asked_as Remove r t = Code.Remove (get_or t key_place 0) (get_or t index_place 0)
asked_as Fetch r t = Code.Fetch (get_or t key_place 0) (get_or t index_place 0)
asked_as Materialize r t = Code.Materialize (get_or t key_place 0) (get_or t index_place 0)
asked_as GroupBase r t = Code.GroupBase (get_or t key_place 0) (set_in r t) r.value
asked_as Exchange r t = Code.Exchange (get_or t key_place 0) (get_or t tag_place 0) r.value
asked_as GroupWrite r t = Code.GroupWrite (get_or t key_place 0) (get_or t index_place 0) (get_or t incarnation_place 0) (set_in r t) r.value
asked_as GroupEstimate r t = Code.GroupEstimate (get_or t key_place 0) (get_or t index_place 0)
asked_as GroupRemove r t = Code.GroupRemove (get_or t key_place 0) (get_or t index_place 0)
asked_as GroupFetch r t = Code.GroupFetch (get_or t key_place 0) (get_or t tag_place 0) (get_or t tagged_index_place 0)
asked_as GroupSize r t = Code.GroupSize (get_or t key_place 0) (get_or t index_place 0)
asked_as Finalize r t = Code.Finalize (get_or t key_place 0) (get_or t index_place 0)

unfoldable pub asked_by : Kind → List ℕ → CodeRequest
asked_by k t = asked_as k (row_of (number_of k)) t

-- What a request asks.
unfoldable pub asked_at : List ℕ → CodeRequest
asked_at t = asked_as (row_at t).kind (row_at t) t

unfoldable pub kind_asked : CodeRequest → Kind
kind_asked (Code.LastCommitted key) = LastCommitted
kind_asked (Code.Base key value) = Base
kind_asked (Code.Write key index incarnation value) = Write
kind_asked (Code.AddDelta key index delta) = AddDelta
kind_asked (Code.Estimate key index) = Estimate
kind_asked (Code.Remove key index) = Remove
kind_asked (Code.Fetch key index) = Fetch
kind_asked (Code.Materialize key index) = Materialize
kind_asked (Code.GroupBase key set values) = GroupBase
kind_asked (Code.Exchange key tag value) = Exchange
kind_asked (Code.GroupWrite key index incarnation set values) = GroupWrite
kind_asked (Code.GroupEstimate key index) = GroupEstimate
kind_asked (Code.GroupRemove key index) = GroupRemove
kind_asked (Code.GroupFetch key tag index) = GroupFetch
kind_asked (Code.GroupSize key index) = GroupSize
kind_asked (Code.Finalize key index) = Finalize

-- The members of a set whose values stand in words from a place on.
unfoldable pub members_from : Set → ℕ → List ℕ → List Member
members_from set at t = members_of (tags_of set.low set.high) (drop at t)

-- What a request of the code stands for, over the words that it is of.
unfoldable pub meaning_in : List ℕ → CodeRequest → Request
meaning_in t (Code.LastCommitted key) = last_committed key
meaning_in t (Code.Base key value) = base key (value_at value t)
meaning_in t (Code.Write key index incarnation value) = write key index incarnation (value_at value t)
meaning_in t (Code.AddDelta key index delta) = add_delta key index (delta_at (drop delta t))
meaning_in t (Code.Estimate key index) = estimate key index
meaning_in t (Code.Remove key index) = remove key index
meaning_in t (Code.Fetch key index) = fetch key index
meaning_in t (Code.Materialize key index) = materialize key index
meaning_in t (Code.GroupBase key set values) = group_base key (members_from set values t)
meaning_in t (Code.Exchange key tag value) = exchange key tag (value_at value t)
meaning_in t (Code.GroupWrite key index incarnation set values) = group_write key index incarnation (members_from set values t)
meaning_in t (Code.GroupEstimate key index) = group_estimate key index
meaning_in t (Code.GroupRemove key index) = group_remove key index
meaning_in t (Code.GroupFetch key tag index) = group_fetch key tag index
meaning_in t (Code.GroupSize key index) = group_size key index
meaning_in t (Code.Finalize key index) = finalize key index

-- Its value, its delta or its values are within the words.
unfoldable pub RoomIn : List ℕ → CodeRequest → Type 0
RoomIn t (Code.LastCommitted key) = Unit
RoomIn t (Code.Base key value) = value + value_width ≤ length t
RoomIn t (Code.Write key index incarnation value) = value + value_width ≤ length t
RoomIn t (Code.AddDelta key index delta) = delta + delta_width ≤ length t
RoomIn t (Code.Estimate key index) = Unit
RoomIn t (Code.Remove key index) = Unit
RoomIn t (Code.Fetch key index) = Unit
RoomIn t (Code.Materialize key index) = Unit
RoomIn t (Code.GroupBase key set values) = values + value_width * length (tags_of set.low set.high) ≤ length t
RoomIn t (Code.Exchange key tag value) = value + value_width ≤ length t
RoomIn t (Code.GroupWrite key index incarnation set values) = values + value_width * length (tags_of set.low set.high) ≤ length t
RoomIn t (Code.GroupEstimate key index) = Unit
RoomIn t (Code.GroupRemove key index) = Unit
RoomIn t (Code.GroupFetch key tag index) = Unit
RoomIn t (Code.GroupSize key index) = Unit
RoomIn t (Code.Finalize key index) = Unit

-- The rule of its fields.
unfoldable pub rule_in : List ℕ → CodeRequest → Bool
rule_in t (Code.LastCommitted key) = true
rule_in t (Code.Base key value) = value_ok (value_at value t)
rule_in t (Code.Write key index incarnation value) = exchanged_ok (value_at value t)
rule_in t (Code.AddDelta key index delta) = delta_ok (take delta_width (drop delta t))
rule_in t (Code.Estimate key index) = true
rule_in t (Code.Remove key index) = true
rule_in t (Code.Fetch key index) = true
rule_in t (Code.Materialize key index) = true
rule_in t (Code.GroupBase key set values) = all raw_ok (members_from set values t)
rule_in t (Code.Exchange key tag value) = tag_ok tag && exchanged_ok (value_at value t) && not (is_deletion (value_at value t))
rule_in t (Code.GroupWrite key index incarnation set values) = all exchanged_ok (members_from set values t)
rule_in t (Code.GroupEstimate key index) = true
rule_in t (Code.GroupRemove key index) = true
rule_in t (Code.GroupFetch key tag index) = tag_ok tag
rule_in t (Code.GroupSize key index) = true
rule_in t (Code.Finalize key index) = true
