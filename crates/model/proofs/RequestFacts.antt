-- The facts of every request's work: one clause for each request, by the law of its rule.
-- Assumes nothing.
use mathlib.Core.Path.{◌≡◌}
use mathlib.Core.Bool.{Bool, true, not, ◌&&◌}
use Prim.Native.Nat.{ℕ, suc}
use native.Mathlib.Omega.{arith}
use lib.Dec.{leb, lit<}
use Rattle.lists.proofs.Bools.{and_five, and_four, and_left, and_right, and_three}
use Rattle.types.specs.Refusal.{of_rules}
use Rattle.types.specs.Value.{is_exchanged, is_deletion}
use Rattle.request.specs.Request.{Request}
use Rattle.request.specs.Request as Ask
use Rattle.model.specs.Data.{set_base_value, write_value, add_delta, mark_estimate, materialize_delta, fetch_data}
use Rattle.model.specs.Group.{set_raw_base_values, update_tagged_base_value, write_group, mark_group, fetch_tagged_data, get_group_size, get_last_committed_group, finalize_group}
use Rattle.model.specs.Model.{Model, work_of, perform}
use Rattle.model.specs.Fine.{is_word, fine_value, fine_delta, fine_members, fine, fine_request}
use Rattle.model.proofs.FineParts.{word_told, word_tell}
use Rattle.model.proofs.FineRows.{InRange}
use Rattle.model.proofs.RuleFacts.{Facts, facts_given}
use Rattle.model.proofs.RuleFactsOfData.{set_base_value_facts, write_value_facts, add_delta_facts, mark_estimate_facts, remove_facts, materialize_delta_facts, fetch_data_facts}
use Rattle.model.proofs.RuleFactsOfGroups.{fetch_tagged_data_facts, get_group_size_facts, write_group_facts, mark_group_facts, remove_group_facts, set_raw_base_values_facts, update_tagged_base_value_facts, get_last_committed_group_facts, finalize_group_facts}
use Rattle.model.proofs.WorkFacts.{WorkFacts, perform_facts}

base_word : is_word 0 ≡ true
base_word = word_tell 0 (lit< tt)

word_before : (n : ℕ) → is_word (suc n) ≡ true → is_word n ≡ true
word_before n h = word_tell n (omega (arith, word_told (suc n) h))

-- the fields of a request that has a key and an index, or a key and something of the base
key_index : (key index : ℕ) → (is_word key && is_word (suc index)) ≡ true → InRange key (suc index)
key_index key index f = (and_left (is_word key) (is_word (suc index)) f, and_right (is_word key) (is_word (suc index)) f)

key_base : (key : ℕ) (b : Bool) → (is_word key && b) ≡ true → InRange key 0
key_base key b f = (and_left (is_word key) b f, base_word)

pub request_work : (q : Request) → WorkFacts (fine_request q ≡ true) (work_of q)
unfolding WorkFacts fine_request work_of
request_work (Ask.last_committed key) = (
  λ f. (f, base_word),
  λ own group. facts_given (get_last_committed_group key own group) (λ g. g.2) (get_last_committed_group_facts key 0 own group),
)
request_work (Ask.base key value) = (
  key_base key (fine_value value),
  λ own seen. facts_given (set_base_value value own) (λ g. and_right (is_word key) (fine_value value) g.0) (set_base_value_facts value own),
)
request_work (Ask.write key index incarnation value) = (
  λ f. let p = and_five (is_word key) (is_word (suc index)) (is_word incarnation) (fine_value value) (is_exchanged value) f in (p.0, p.1),
  λ own seen.
      facts_given (write_value incarnation value own)
      (λ g. let p = and_five (is_word key) (is_word (suc index)) (is_word incarnation) (fine_value value) (is_exchanged value) g.0 in (p.2, p.3, p.4))
      (write_value_facts (suc index) (omega arith) incarnation value own),
)
request_work (Ask.add_delta key index d) = (
  λ f. let p = and_three (is_word key) (is_word (suc index)) (fine_delta d) f in (p.0, p.1),
  λ own seen.
      facts_given (add_delta d own) (λ g. (and_three (is_word key) (is_word (suc index)) (fine_delta d) g.0).2) (add_delta_facts (suc index) (omega arith) d own),
)
request_work (Ask.estimate key index) = (
  key_index key index,
  λ own seen. facts_given (mark_estimate own) (λ g. g.1) (mark_estimate_facts (suc index) (omega arith) own),
)
request_work (Ask.remove key index) = (key_index key index, λ own seen. remove_facts (suc index) own)
request_work (Ask.fetch key index) = λ seen. facts_given (fetch_data seen) (λ g. g.1) (fetch_data_facts seen)
request_work (Ask.materialize key index) = (
  λ f. (and_left (is_word key) (is_word (suc (suc index))) f, word_before (suc index) (and_right (is_word key) (is_word (suc (suc index))) f)),
  λ own seen. facts_given (materialize_delta own seen) (λ g. (g.1, g.2)) (materialize_delta_facts (suc index) (omega arith) own seen),
)
request_work (Ask.group_base key members) = (
  key_base key (fine_members 0 members),
  λ own group.
      facts_given (set_raw_base_values key members own group)
      (λ g. (and_left (is_word key) (fine_members 0 members) g.0, and_right (is_word key) (fine_members 0 members) g.0, g.2))
      (set_raw_base_values_facts key members own group),
)
request_work (Ask.exchange key tag value) = (
  λ f. ((and_five (is_word key) (leb tag 63) (fine_value value) (is_exchanged value) (not (is_deletion value)) f).0, base_word),
  λ own group.
      facts_given (update_tagged_base_value key tag value own group)
      (λ g. (and_five (is_word key) (leb tag 63) (fine_value value) (is_exchanged value) (not (is_deletion value)) g.0, g.1, g.2))
      (update_tagged_base_value_facts key tag value own group),
)
request_work (Ask.group_write key index incarnation members) = (
  λ f. let p = and_four (is_word key) (is_word (suc index)) (is_word incarnation) (fine_members (suc index) members) f in (p.0, p.1),
  λ own.
      facts_given (write_group incarnation members own)
      (λ g. let p = and_four (is_word key) (is_word (suc index)) (is_word incarnation) (fine_members (suc index) members) g.0 in (p.2, p.3))
      (write_group_facts (suc index) (omega arith) incarnation members own),
)
request_work (Ask.group_estimate key index) = (
  key_index key index,
  λ own. facts_given (mark_group own) (λ g. g.1) (mark_group_facts (suc index) (omega arith) own),
)
request_work (Ask.group_remove key index) = (key_index key index, λ own. remove_group_facts (suc index) own)
request_work (Ask.group_fetch key tag index) = λ seen. facts_given (fetch_tagged_data tag seen) (λ g. g.1) (fetch_tagged_data_facts tag seen)
request_work (Ask.group_size key index) = λ seen. facts_given (get_group_size seen) (λ g. g.1) (get_group_size_facts seen)
request_work (Ask.finalize key index) = (
  key_index key index,
  λ own group.
      facts_given (finalize_group key own group) (λ g. (and_left (is_word key) (is_word (suc index)) g.0, g.1, g.2)) (finalize_group_facts key (suc index) own group),
)

pub request_facts : (q : Request) (m : Model) → Facts of_rules ((fine_request q ≡ true) × (fine m ≡ true)) fine (perform (work_of q) m)
request_facts q m = perform_facts (work_of q) m (request_work q)
