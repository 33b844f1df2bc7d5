-- The facts of each rule of a data request.
-- Assumes nothing.
use mathlib.Core.Path.{◌≡◌, refl}
use mathlib.Core.Bool.{Bool, true, false, cond, ◌&&◌}
use mathlib.Core.List.{List, [], ◌∷◌}
use mathlib.Core.Option.{Option, none, some}
use Prim.Native.Nat.{ℕ, zero, suc, ◌<◌}
use native.Mathlib.Omega.{arith}
use Rattle.lists.specs.Lists.{every}
use Rattle.lists.proofs.Bools.{and_both, and_three}
use Rattle.number.specs.Words.{digits}
use Rattle.delta.specs.Delta.{Delta, delta_words}
use Rattle.delta.proofs.DeltaFormat.{length_delta_words, words_delta_words}
use Rattle.types.specs.Refusal.{nothing_there, incarnation_not_higher, base_differs, not_materializable, of_rules}
use Rattle.types.specs.Response.{response, versioned_kind, versioned_at_base_kind, resolved_kind, unresolved_kind, uninitialized_kind, dependency_kind, application_failure_kind}
use Rattle.types.specs.Value.{is_exchanged, same_bytes}
use Rattle.model.specs.Rows.{Row, leave, set, clear}
use Rattle.model.specs.Data.{Cell, write, delta, Entry, done, refuse, accept, done_answer, Read, versioned, resolved, unresolved, uninitialized, dependency, application_failure, refusal, read_of, versioned_answer, read_ruling, same_exchanged, unless_differs, base_over, base_onto, set_base_value, may_write, write_value, add_delta, mark_estimate, remove, with_shortcut, record_shortcut, materialized, materialize_delta, fetch_data}
use Rattle.model.specs.Fine.{is_word, fine_value, fine_delta, fine_shortcut, fine_entry, fine_read}
use Rattle.model.proofs.FineParts.{word_told, word_tell, value_length, value_every, words_every}
use Rattle.model.proofs.ReadFacts.{ReadFacts, read_refuses, read_of_facts}
use Rattle.model.proofs.FineRows.{fine_own, fine_edit}
use Rattle.model.proofs.FineEntries.{fine_held, base_cell, write_cell, delta_cell, estimate_cell, shortcut_cell}
use Rattle.model.proofs.RuleFacts.{AnswerFacts, Facts, refuse_facts, accept_facts, done_facts, either_facts, response_facts, none_facts, word_facts, digits_facts, nothing_there_rule, incarnation_not_higher_rule, base_differs_rule, not_materializable_rule}

-- ---- what a read answers

module _ {given : Type 0} where
  pub versioned_answer_facts : (place incarnation : ℕ) (v : List ℕ) → (given → is_word place ≡ true) → (given → is_word incarnation ≡ true) → (given → fine_value v ≡ true) → AnswerFacts given (versioned_answer place incarnation v)
  unfolding versioned_answer every
  versioned_answer_facts zero incarnation v p i f =
      response_facts versioned_at_base_kind v (omega arith) (λ g. omega (arith, value_length v (f g))) (λ g. value_every v (f g))
  versioned_answer_facts (suc index) incarnation v p i f =
      response_facts versioned_kind (index ∷ incarnation ∷ v) (omega arith) (λ g. omega (arith, value_length v (f g)))
      (λ g.
      and_both (is_word index) (is_word incarnation && every is_word v) (word_tell index (omega (arith, word_told (suc index) (p g))))
      (and_both (is_word incarnation) (every is_word v) (i g) (value_every v (f g))))

  resolved_answer : (n : ℕ) → AnswerFacts given (response resolved_kind (digits 4 n))
  resolved_answer n = digits_facts resolved_kind 4 n (omega arith) (omega arith)

  unresolved_answer : (d : Delta) → AnswerFacts given (response unresolved_kind (delta_words d))
  unresolved_answer d =
      response_facts unresolved_kind (delta_words d) (omega arith) (λ g. omega (arith, length_delta_words d)) (λ g. words_every (delta_words d) (words_delta_words d))

pub read_ruling_facts : {A : Type 0} {given : Type 0} (t : A → Bool) (same : A) → (given → t same ≡ true) → (r : Read) → ReadFacts given r → Facts of_rules given t (read_ruling same r)
unfolding read_ruling read_refuses fine_read
read_ruling_facts t same h (versioned place incarnation v) f =
    accept_facts (versioned_answer place incarnation v) same
    (versioned_answer_facts place incarnation v (λ g. (and_three (is_word place) (is_word incarnation) (fine_value v) (f.found g)).0)
    (λ g. (and_three (is_word place) (is_word incarnation) (fine_value v) (f.found g)).1)
    (λ g. (and_three (is_word place) (is_word incarnation) (fine_value v) (f.found g)).2))
    h
read_ruling_facts t same h (resolved n) f = accept_facts (response resolved_kind (digits 4 n)) same (resolved_answer n) h
read_ruling_facts t same h (unresolved d) f = accept_facts (response unresolved_kind (delta_words d)) same (unresolved_answer d) h
read_ruling_facts t same h uninitialized f = accept_facts (response uninitialized_kind []) same (none_facts uninitialized_kind (omega arith)) h
read_ruling_facts t same h (dependency index) f =
    accept_facts (response dependency_kind (index ∷ [])) same (word_facts dependency_kind index (omega arith) f.found) h
read_ruling_facts t same h application_failure f =
    accept_facts (response application_failure_kind []) same (none_facts application_failure_kind (omega arith)) h
read_ruling_facts t same h (refusal n) f = refuse_facts n f.number

-- ---- the rules

pub fetch_data_facts : (seen : List (Row Entry)) → Facts of_rules (every fine_entry seen ≡ true) (λ same. true) (fetch_data seen)
unfolding fetch_data
fetch_data_facts seen = read_ruling_facts (λ same. true) tt (λ g. refl) (read_of seen) (read_of_facts seen)

unless_differs_facts : {given : Type 0} (b : Bool) → Facts of_rules given (fine_edit fine_held 0) (unless_differs b)
unfolding unless_differs fine_edit
unless_differs_facts true = done_facts leave (λ g. refl)
unless_differs_facts false = refuse_facts base_differs base_differs_rule

module _ (new : List ℕ) where
  base_set : Facts of_rules (fine_value new ≡ true) (fine_edit fine_held 0) (accept done_answer (set (done (write 0 new))))
  unfolding fine_edit fine_held done
  base_set = done_facts (set (done (write 0 new))) (λ f. base_cell new f)

  base_left : Facts of_rules (fine_value new ≡ true) (fine_edit fine_held 0) (accept done_answer leave)
  unfolding fine_edit
  base_left = done_facts leave (λ f. refl)

  base_over_facts : (old : List ℕ) → Facts of_rules (fine_value new ≡ true) (fine_edit fine_held 0) (base_over new old)
  unfolding base_over
  base_over_facts old =
      either_facts (is_exchanged new) (cond (is_exchanged old) (unless_differs (same_exchanged new old)) (accept done_answer (set (done (write 0 new)))))
      (cond (is_exchanged old) (accept done_answer leave) (unless_differs (same_bytes new old)))
      (either_facts (is_exchanged old) (unless_differs (same_exchanged new old)) (accept done_answer (set (done (write 0 new)))) (unless_differs_facts (same_exchanged new old)) base_set)
      (either_facts (is_exchanged old) (accept done_answer leave) (unless_differs (same_bytes new old)) base_left (unless_differs_facts (same_bytes new old)))

  base_onto_facts : (c : Cell) → Facts of_rules (fine_value new ≡ true) (fine_edit fine_held 0) (base_onto new c)
  unfolding base_onto
  base_onto_facts (write incarnation old) = base_over_facts old
  base_onto_facts (delta d shortcut) = base_left

  pub set_base_value_facts : (own : Option Entry) → Facts of_rules (fine_value new ≡ true) (fine_edit fine_held 0) (set_base_value new own)
  unfolding set_base_value
  set_base_value_facts none = base_set
  set_base_value_facts (some e) = base_onto_facts e.cell

pub remove_facts : {given : Type 0} (place : ℕ) (own : Option Entry) → Facts of_rules given (fine_edit fine_held place) (remove own)
unfolding remove fine_edit
remove_facts place none = refuse_facts nothing_there nothing_there_rule
remove_facts place (some e) = done_facts clear (λ g. refl)

-- above the base
module _ (place : ℕ) (n : 0 < place) where
  pub write_value_facts : (incarnation : ℕ) (v : List ℕ) (own : Option Entry) → Facts of_rules ((is_word incarnation ≡ true) × (fine_value v ≡ true) × (is_exchanged v ≡ true)) (fine_edit fine_held place) (write_value incarnation v own)
  unfolding write_value fine_edit fine_held done
  write_value_facts incarnation v own =
      either_facts (may_write incarnation own) (accept done_answer (set (done (write incarnation v)))) (refuse incarnation_not_higher)
      (done_facts (set (done (write incarnation v))) (λ g. write_cell place n false incarnation v g.0 g.1 g.2))
      (refuse_facts incarnation_not_higher incarnation_not_higher_rule)

  pub add_delta_facts : (d : Delta) (own : Option Entry) → Facts of_rules (fine_delta d ≡ true) (fine_edit fine_held place) (add_delta d own)
  unfolding add_delta fine_edit fine_held done fine_shortcut
  add_delta_facts d own = done_facts (set (done (delta d none))) (λ f. delta_cell place n false d none f refl)

  pub mark_estimate_facts : (own : Option Entry) → Facts of_rules (fine_own fine_held place own ≡ true) (fine_edit fine_held place) (mark_estimate own)
  unfolding mark_estimate fine_own fine_edit fine_held
  mark_estimate_facts none = refuse_facts nothing_there nothing_there_rule
  mark_estimate_facts (some e) =
      done_facts (set (record { cell = e.cell; estimate = true })) (λ f. estimate_cell place n e.estimate true e.cell f)

  record_shortcut_facts : {given : Type 0} (m : ℕ) (own : Option Entry) → (given → fine_read (resolved m) ≡ true) → (given → fine_own fine_held place own ≡ true) → Facts of_rules given (fine_edit fine_held place) (record_shortcut m own)
  unfolding record_shortcut fine_own fine_edit fine_held fine_read
  record_shortcut_facts m none f h = refuse_facts nothing_there nothing_there_rule
  record_shortcut_facts m (some e) f h =
      accept_facts (response resolved_kind (digits 4 m)) (set (record { cell = with_shortcut m e.cell; estimate = e.estimate })) (resolved_answer m)
      (λ g. shortcut_cell place n e.estimate m e.cell (f g) (h g))

  materialized_facts : {given : Type 0} (own : Option Entry) → (given → fine_own fine_held place own ≡ true) → (r : Read) → ReadFacts given r → Facts of_rules given (fine_edit fine_held place) (materialized own r)
  unfolding materialized fine_edit read_refuses
  materialized_facts own h (versioned at incarnation v) f = refuse_facts not_materializable not_materializable_rule
  materialized_facts own h (resolved m) f = record_shortcut_facts m own f.found h
  materialized_facts own h (unresolved d) f = accept_facts (response unresolved_kind (delta_words d)) leave (unresolved_answer d) (λ g. refl)
  materialized_facts own h uninitialized f = refuse_facts not_materializable not_materializable_rule
  materialized_facts own h (dependency index) f = refuse_facts not_materializable not_materializable_rule
  materialized_facts own h application_failure f = refuse_facts not_materializable not_materializable_rule
  materialized_facts own h (refusal m) f = refuse_facts m f.number

  pub materialize_delta_facts : (own : Option Entry) (seen : List (Row Entry)) → Facts of_rules ((fine_own fine_held place own ≡ true) × (every fine_entry seen ≡ true)) (fine_edit fine_held place) (materialize_delta own seen)
  unfolding materialize_delta
  materialize_delta_facts own seen =
      let f = read_of_facts seen in
      materialized_facts own (λ g. g.0) (read_of seen) (record { number = f.number; found = λ g. f.found g.1 })
