-- 01, "Rule 5" without the layout: "fields in range; no key and index (and tag) twice; base entries are done writes of incarnation 0; update
-- sets and tagged entries match, one incarnation and one mark to an update; only bases and committed values are raw; no committed deletion."
-- That sets and members match, and one incarnation and mark to an update, the model's form already says.
use Rattle.std.specs.Prelude.{Bool, true, cond, not, ◌&&◌, ◌||◌, List, [], ◌∷◌, ℕ, suc, ◌*◌, ◌^◌, leb, ltb, eqb, length}
use Rattle.std.proofs.Math.Option.{Option, none, some}
use Rattle.lists.specs.Lists.{every}
use Rattle.number.specs.Number.{range}
use Rattle.delta.specs.Delta.{Delta, valid}
use Rattle.types.specs.Refusal.{layout_under_delta, no_number_under_delta}
use Rattle.types.specs.Response.{answer_width}
use Rattle.types.specs.Value.{value_width, value_ok, is_exchanged, is_deletion}
use Rattle.request.specs.Set.{Member}
use Rattle.request.specs.Request.{Request}
use Rattle.request.specs.Request as Ask
use Rattle.model.specs.Rows.{Row, rising}
use Rattle.model.specs.Data.{Cell, write, delta, Entry, Read, versioned, resolved, unresolved, uninitialized, dependency, application_failure, refusal}
use Rattle.model.specs.Group.{Update, Committed, Latest, Size, counted, waits}
use Rattle.model.specs.Model.{Model}

-- "A word is 32 bits"
unfoldable pub is_word : ℕ → Bool
is_word n = ltb n (2 ^ 32)

unfoldable pub is_number : ℕ → Bool
is_number n = ltb n range

unfoldable pub fine_value : List ℕ → Bool
fine_value v = eqb (length v) value_width && every is_word v && value_ok v

unfoldable pub fine_delta : Delta → Bool
fine_delta d = is_number d.limit && valid d

unfoldable pub fine_shortcut : Option ℕ → Bool
fine_shortcut none = true
fine_shortcut (some n) = is_number n

-- "base entries are done writes of incarnation 0"; "only bases .. are raw"
unfoldable pub fine_cell : ℕ → Bool → Cell → Bool
fine_cell place estimate (write incarnation v) =
    is_word incarnation && fine_value v && cond (eqb place 0) (eqb incarnation 0 && not estimate) (is_exchanged v)
fine_cell place estimate (delta d shortcut) = not (eqb place 0) && fine_delta d && fine_shortcut shortcut

unfoldable pub fine_entry : Row Entry → Bool
fine_entry r = is_word r.key && is_word r.place && fine_cell r.place r.held.estimate r.held.cell

unfoldable pub fine_entries : List (Row Entry) → Bool
fine_entries rows = rising rows && every fine_entry rows

-- tags rise, and are 0 to 63
unfoldable pub rising_from : ℕ → List Member → Bool
rising_from least [] = true
rising_from least (m ∷ ms) = leb least m.tag && leb m.tag 63 && rising_from (suc m.tag) ms

unfoldable pub fine_member : ℕ → Member → Bool
fine_member place m = fine_value m.value && cond (eqb place 0) true (is_exchanged m.value)

unfoldable pub fine_update : Row Update → Bool
fine_update r =
    is_word r.key && is_word r.place && is_word r.held.incarnation
    && cond (eqb r.place 0) (eqb r.held.incarnation 0 && not r.held.estimate) true
    && rising_from 0 r.held.members
    && every (fine_member r.place) r.held.members

unfoldable pub fine_updates : List (Row Update) → Bool
fine_updates rows = rising rows && every fine_update rows

-- "no committed deletion"
unfoldable pub fine_committed : Row (List ℕ) → Bool
fine_committed r = is_word r.key && leb r.place 63 && fine_value r.held && not (is_deletion r.held)

unfoldable pub fine_group : Committed → Bool
fine_group rows = rising rows && every fine_committed rows

unfoldable pub fine : Model → Bool
fine m = fine_entries m.entries && fine_updates m.updates && fine_group m.committed

-- "fields in range" of what a read finds: what an answer's words stand for
unfoldable pub fine_read : Read → Bool
fine_read (versioned place incarnation v) = is_word place && is_word incarnation && fine_value v
fine_read (resolved n) = is_number n
fine_read (unresolved d) = fine_delta d
fine_read uninitialized = true
fine_read (dependency index) = is_word index
fine_read application_failure = true
fine_read (refusal n) = eqb n layout_under_delta || eqb n no_number_under_delta

-- the same of what a group's reader finds nearest below it, and of a size over n tags
unfoldable pub fine_latest : Option Latest → Bool
fine_latest none = true
fine_latest (some l) = is_word l.place && is_word l.incarnation && fine_value l.value

unfoldable pub fine_size : ℕ → Size → Bool
fine_size n (counted members sum) = leb members n && leb sum (n * 1048577)
fine_size n (waits place) = is_word place

-- "1: answer under 451 words": no answer has more, and each is a word
unfoldable pub fine_answer : List ℕ → Bool
fine_answer words = leb (length words) answer_width && every is_word words

unfoldable pub fine_members : ℕ → List Member → Bool
fine_members place ms = rising_from 0 ms && every (fine_member place) ms

-- What holds of the fields of a request that 2, 3 and 4 do not refuse. A shifted index is a word; so is the next, where a read starts.
unfoldable pub fine_request : Request → Bool
fine_request (Ask.last_committed key) = is_word key
fine_request (Ask.base key value) = is_word key && fine_value value
fine_request (Ask.write key index incarnation value) =
    is_word key && is_word (suc index) && is_word incarnation && fine_value value && is_exchanged value
fine_request (Ask.add_delta key index d) = is_word key && is_word (suc index) && fine_delta d
fine_request (Ask.estimate key index) = is_word key && is_word (suc index)
fine_request (Ask.remove key index) = is_word key && is_word (suc index)
fine_request (Ask.fetch key index) = is_word key && is_word (suc index)
fine_request (Ask.materialize key index) = is_word key && is_word (suc (suc index))
fine_request (Ask.group_base key members) = is_word key && fine_members 0 members
fine_request (Ask.exchange key tag value) =
    is_word key && leb tag 63 && fine_value value && is_exchanged value && not (is_deletion value)
fine_request (Ask.group_write key index incarnation members) =
    is_word key && is_word (suc index) && is_word incarnation && fine_members (suc index) members
fine_request (Ask.group_estimate key index) = is_word key && is_word (suc index)
fine_request (Ask.group_remove key index) = is_word key && is_word (suc index)
fine_request (Ask.group_fetch key tag index) = is_word key && leb tag 63 && is_word (suc index)
fine_request (Ask.group_size key index) = is_word key && is_word (suc index)
fine_request (Ask.finalize key index) = is_word key && is_word (suc index)
