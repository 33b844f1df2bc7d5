-- The whole behaviour of 01 as one function: from the model of the two stores and a request's words to an outcome and the model after.
-- 1 and 5 are not decided here: 1 is about the answer slice, 5 about the words that a store is kept in.
use Rattle.std.specs.Prelude.{Bool, List, [], ◌∷◌, ℕ, zero, suc, ◌+◌, eqb, length}
use Rattle.std.proofs.Math.Option.{Option}
use Rattle.types.specs.Units.{lack_of}
use Rattle.request.specs.Request.{Request, refusal_of, request_of}
use Rattle.request.specs.Request as Ask
use Rattle.model.specs.Rows.{Row, find, down_from, Edit, edited}
use Rattle.model.specs.Data.{Entry, Ruling, refuse, accept, set_base_value, write_value, add_delta, mark_estimate, remove, materialize_delta, fetch_data}
use Rattle.model.specs.Group.{Update, Committed, Commits, set_raw_base_values, update_tagged_base_value, write_group, mark_group, remove_group, fetch_tagged_data, get_group_size, get_last_committed_group, finalize_group}

-- What the two stores hold: the data store its entries, the group store its updates and the committed values. Rows rise by key and place.
pub record Model : Type 0 where
  pub entries : List (Row Entry)
  pub updates : List (Row Update)
  pub committed : Committed

unfoldable pub empty : Model
empty = record { entries = []; updates = []; committed = [] }

-- What is fixed for a history: how many slots (01: units) each store has.
pub record Fixed : Type 0 where
  pub data_slots : ℕ
  pub group_slots : ℕ

-- "A data entry takes 1; a group update 1 plus 1 a tag; a committed tag 1."
unfoldable pub data_held : Model → ℕ
data_held m = length m.entries

unfoldable pub updates_held : List (Row Update) → ℕ
updates_held [] = 0
updates_held (r ∷ rs) = 1 + length r.held.members + updates_held rs

unfoldable pub group_held : Model → ℕ
group_held m = updates_held m.updates + length m.committed

-- The number to refuse by: the first of two that is one.
unfoldable pub first_of : ℕ → ℕ → ℕ
first_of zero n = n
first_of (suc m) n = suc m

-- Lack of units in either store: 0 where both have the slots that the model takes, else the number of the refusal.
unfoldable pub lack_in : Fixed → Model → ℕ
lack_in s m = first_of (lack_of (data_held m) s.data_slots) (lack_of (group_held m) s.group_slots)

unfoldable pub fits : Fixed → Model → Bool
fits s m = eqb (lack_in s m) 0

-- What a rule over both stores gives: an edit of the entry and one of the update at its own place.
pub record BothEdits : Type 0 where
  pub entry : Edit Entry
  pub update : Edit Update

-- A request's work: the key, the shifted index `place` that it edits, the highest shifted index `reach` that it reads, and its rule.
pub data Work : Type 0 where
  read_data : (key reach : ℕ) → (List (Row Entry) → Ruling Unit) → Work
  edit_data : (key place reach : ℕ) → (Option Entry → List (Row Entry) → Ruling (Edit Entry)) → Work
  read_group : (key reach : ℕ) → (List (Row Update) → Ruling Unit) → Work
  edit_group : (key place : ℕ) → (Option Update → Ruling (Edit Update)) → Work
  commit_group : (key place : ℕ) → (Option Update → Committed → Ruling Commits) → Work
  edit_both : (key place : ℕ) → (Option Entry → Option Update → Ruling BothEdits) → Work

-- "A shifted index is the transaction index plus 1; shifted 0 is the base." A reader at t reaches shifted index t.
unfoldable pub work_of : Request → Work
work_of (Ask.last_committed key) = commit_group key 0 (λ own group. get_last_committed_group key own group)
work_of (Ask.base key value) = edit_data key 0 0 (λ own seen. set_base_value value own)
work_of (Ask.write key index incarnation value) = edit_data key (suc index) 0 (λ own seen. write_value incarnation value own)
work_of (Ask.add_delta key index d) = edit_data key (suc index) 0 (λ own seen. add_delta d own)
work_of (Ask.estimate key index) = edit_data key (suc index) 0 (λ own seen. mark_estimate own)
work_of (Ask.remove key index) = edit_data key (suc index) 0 (λ own seen. remove own)
work_of (Ask.fetch key index) = read_data key index fetch_data
work_of (Ask.materialize key index) = edit_data key (suc index) (suc index) (λ own seen. materialize_delta own seen)
work_of (Ask.group_base key members) = commit_group key 0 (λ own group. set_raw_base_values key members own group)
work_of (Ask.exchange key tag value) = commit_group key 0 (λ own group. update_tagged_base_value key tag value own group)
work_of (Ask.group_write key index incarnation members) = edit_group key (suc index) (λ own. write_group incarnation members own)
work_of (Ask.group_estimate key index) = edit_group key (suc index) (λ own. mark_group own)
work_of (Ask.group_remove key index) = edit_group key (suc index) (λ own. remove_group own)
work_of (Ask.group_fetch key tag index) = read_group key index (λ seen. fetch_tagged_data tag seen)
work_of (Ask.group_size key index) = read_group key index (λ seen. get_group_size seen)
work_of (Ask.finalize key index) = commit_group key (suc index) (λ own group. finalize_group key own group)

-- A ruling carried to what the rule's edit makes.
unfoldable pub ruled : {A B : Type 0} → (A → B) → Ruling A → Ruling B
ruled f (refuse n) = refuse n
ruled f (accept answer a) = accept answer (f a)

unfoldable pub with_entries : Model → List (Row Entry) → Model
with_entries m rows = record { entries = rows; updates = m.updates; committed = m.committed }

unfoldable pub with_updates : Model → List (Row Update) → Model
with_updates m rows = record { entries = m.entries; updates = rows; committed = m.committed }

unfoldable pub with_commits : ℕ → ℕ → Model → Commits → Model
with_commits key place m c =
    record { entries = m.entries; updates = edited key place c.edit m.updates; committed = c.group }

unfoldable pub with_both : ℕ → ℕ → Model → BothEdits → Model
with_both key place m b =
    record { entries = edited key place b.entry m.entries; updates = edited key place b.update m.updates; committed = m.committed }

-- Refusals 6 to 13, or the answer and the model after, however many slots that takes.
unfoldable pub perform : Work → Model → Ruling Model
perform (read_data key reach rule) m = ruled (λ same. m) (rule (down_from key reach m.entries))
perform (edit_data key place reach rule) m =
    ruled (λ e. with_entries m (edited key place e m.entries)) (rule (find key place m.entries) (down_from key reach m.entries))
perform (read_group key reach rule) m = ruled (λ same. m) (rule (down_from key reach m.updates))
perform (edit_group key place rule) m =
    ruled (λ e. with_updates m (edited key place e m.updates)) (rule (find key place m.updates))
perform (commit_group key place rule) m = ruled (with_commits key place m) (rule (find key place m.updates) m.committed)
perform (edit_both key place rule) m = ruled (with_both key place m) (rule (find key place m.entries) (find key place m.updates))

-- "2: empty, or count wrong ..; 3: a field breaks its rule; 4: index too high" before all that a store decides.
unfoldable pub unless_refused : ℕ → Ruling Model → Ruling Model
unless_refused zero r = r
unless_refused (suc n) r = refuse (suc n)

unfoldable pub ruling : Model → List ℕ → Ruling Model
ruling m t = unless_refused (refusal_of t) (perform (work_of (request_of t)) m)

-- 14: "more units after the ticket than the store has"
unfoldable pub unless_full : Fixed → Ruling Model → Ruling Model
unless_full s (refuse n) = refuse n
unless_full s (accept answer m) = unless_refused (lack_in s m) (accept answer m)

-- "The lowest number that applies is given; the call's result is then that number, with no answer words. An accepted call's result is 0."
unfoldable pub step : Fixed → Model → List ℕ → Ruling Model
step s m t = unless_full s (ruling m t)

-- A refused request leaves the model as it was.
unfoldable pub left_by : Model → Ruling Model → Model
left_by m (refuse n) = m
left_by m (accept answer after) = after

-- What a caller sees of a request: the result, and the answer's words where the result is 0.
pub data Outcome : Type 0 where
  refused : ℕ → Outcome
  answered : List ℕ → Outcome

unfoldable pub outcome_of : Ruling Model → Outcome
outcome_of (refuse n) = refused n
outcome_of (accept answer after) = answered answer

-- The model that a list of requests leaves, each meeting the stores as the one before it left them.
unfoldable pub after : Fixed → Model → List (List ℕ) → Model
after s m [] = m
after s m (t ∷ ts) = after s (left_by m (step s m t)) ts

-- A request and its outcome.
pub record Turn : Type 0 where
  pub request : List ℕ
  pub outcome : Outcome

unfoldable pub turns : Fixed → Model → List (List ℕ) → List Turn
turns s m [] = []
turns s m (t ∷ ts) = record { request = t; outcome = outcome_of (step s m t) } ∷ turns s (left_by m (step s m t)) ts
