-- The facts of a rule, in one record: by which numbers it may refuse, that an answer's head counts its words, and that its answer and its edit are
-- fine. Assumes nothing.
use mathlib.Core.Path.{◌≡◌, refl}
use mathlib.Core.Bool.{Bool, true, false, cond, ◌&&◌}
use mathlib.Core.List.{List, [], ◌∷◌}
use Prim.Native.Nat.{ℕ, suc, ◌≤◌}
use native.Mathlib.Omega.{arith}
use lib.Dec.{leb, eqb}
use lib.ListN.{length}
use borrow.Author.Tests.{le-leb, eq-eqb}
use Rattle.lists.specs.Lists.{every}
use Rattle.lists.proofs.Bools.{and_both}
use Rattle.number.specs.Words.{digits}
use Rattle.number.proofs.Digits.{length_digits, words_digits}
use Rattle.types.specs.Refusal.{nothing_there, incarnation_not_higher, base_differs, commit_rule, nothing_to_exchange, not_materializable, of_entry, of_commit, of_materialize, of_rules, is_in}
use Rattle.types.specs.Response.{head_of, count_in, response, done_kind, answer_width}
use Rattle.model.specs.Data.{Ruling, refuse, accept, done_answer}
use Rattle.model.specs.Fine.{is_word, fine_answer}
use Rattle.model.specs.Model.{ruled}
use Rattle.model.proofs.FineParts.{word_tell, words_every}

-- ---- tests of a ruling: of its number, of its answer, of what it accepts. What a ruling does not have, passes.

unfoldable pub refuses : {A : Type 0} → (ℕ → Bool) → Ruling A → Bool
refuses t (refuse n) = t n
refuses t (accept answer a) = true

unfoldable pub answers : {A : Type 0} → (List ℕ → Bool) → Ruling A → Bool
answers t (refuse n) = true
answers t (accept answer a) = t answer

unfoldable pub accepts : {A : Type 0} → (A → Bool) → Ruling A → Bool
accepts t (refuse n) = true
accepts t (accept answer a) = t a

-- "Answer head, same shape": bits 0 to 27 count the words after it.
unfoldable pub head_counts : List ℕ → Bool
head_counts [] = false
head_counts (head ∷ words) = eqb (count_in head) (count_in (length words))

-- ---- the facts

-- Of an answer; `given` is what its fineness needs.
pub record AnswerFacts (given : Type 0) (answer : List ℕ) : Type 0 where
  pub counts : head_counts answer ≡ true
  pub fine : given → fine_answer answer ≡ true

-- Of a ruling. Its number and its head need nothing; its answer and its edit are fine where what the rule sees and the request's fields are.
pub record Facts {A : Type 0} (numbers : List ℕ) (given : Type 0) (fine_edit : A → Bool) (r : Ruling A) : Type 0 where
  pub number : refuses (λ n. is_in n numbers) r ≡ true
  pub counts : answers head_counts r ≡ true
  pub answer : given → answers fine_answer r ≡ true
  pub edit : given → accepts fine_edit r ≡ true

module _ {A : Type 0} {numbers : List ℕ} {given : Type 0} {t : A → Bool} where
  pub refuse_facts : (n : ℕ) → is_in n numbers ≡ true → Facts numbers given t (refuse n)
  unfolding refuses answers accepts
  refuse_facts n h = record { number = h; counts = refl; answer = λ g. refl; edit = λ g. refl }

  pub accept_facts : (answer : List ℕ) (a : A) → AnswerFacts given answer → (given → t a ≡ true) → Facts numbers given t (accept answer a)
  unfolding refuses answers accepts
  accept_facts answer a w h = record { number = refl; counts = w.counts; answer = w.fine; edit = h }

  -- one of two
  pub either_facts : (b : Bool) (x y : Ruling A) → Facts numbers given t x → Facts numbers given t y → Facts numbers given t (cond b x y)
  either_facts true x y f g = f
  either_facts false x y f g = g

  -- facts that need less, are of more numbers
  pub facts_given : {less : Type 0} (r : Ruling A) → (given → less) → Facts numbers less t r → Facts numbers given t r
  facts_given r k f =
      record { number = f.number; counts = f.counts; answer = λ g. f.answer (k g); edit = λ g. f.edit (k g) }

  pub facts_numbers : (few : List ℕ) (r : Ruling A) → ((n : ℕ) → is_in n few ≡ true → is_in n numbers ≡ true) → Facts few given t r → Facts numbers given t r
  unfolding refuses
  facts_numbers few r k f =
      record { number = more r f.number; counts = f.counts; answer = f.answer; edit = f.edit }
    where
      more : (r : Ruling A) → refuses (λ n. is_in n few) r ≡ true → refuses (λ n. is_in n numbers) r ≡ true
      more (refuse n) h = k n h
      more (accept answer a) h = refl

-- a ruling carried on
pub ruled_facts : {A B : Type 0} {numbers : List ℕ} {given : Type 0} (t : A → Bool) (u : B → Bool) (f : A → B) → (given → (a : A) → t a ≡ true → u (f a) ≡ true) → (r : Ruling A) → Facts numbers given t r → Facts numbers given u (ruled f r)
unfolding ruled refuses answers accepts
ruled_facts t u f k (refuse n) h = record { number = h.number; counts = refl; answer = λ g. refl; edit = λ g. refl }
ruled_facts t u f k (accept answer a) h =
    record { number = refl; counts = h.counts; answer = h.answer; edit = λ g. k g a (h.edit g) }

-- ---- the numbers of the rules

pub nothing_there_rule : is_in nothing_there of_rules ≡ true
unfolding is_in of_rules of_entry of_commit of_materialize
nothing_there_rule = refl

pub incarnation_not_higher_rule : is_in incarnation_not_higher of_rules ≡ true
unfolding is_in of_rules of_entry of_commit of_materialize
incarnation_not_higher_rule = refl

pub base_differs_rule : is_in base_differs of_rules ≡ true
unfolding is_in of_rules of_entry of_commit of_materialize
base_differs_rule = refl

pub commit_rule_rule : is_in commit_rule of_rules ≡ true
unfolding is_in of_rules of_entry of_commit of_materialize
commit_rule_rule = refl

pub nothing_to_exchange_rule : is_in nothing_to_exchange of_rules ≡ true
unfolding is_in of_rules of_entry of_commit of_materialize
nothing_to_exchange_rule = refl

pub not_materializable_rule : is_in not_materializable of_rules ≡ true
unfolding is_in of_rules of_entry of_commit of_materialize
not_materializable_rule = refl

-- ---- answers

pub response_counts : (kind : ℕ) (words : List ℕ) → head_counts (response kind words) ≡ true
unfolding response head_counts
response_counts kind words = eq-eqb (count_in (head_of kind (length words))) (count_in (length words)) (omega arith)

pub response_fine : (kind : ℕ) (words : List ℕ) → kind ≤ 15 → suc (length words) ≤ answer_width → every is_word words ≡ true → fine_answer (response kind words) ≡ true
unfolding response fine_answer every
response_fine kind words k l w =
    and_both (leb (suc (length words)) answer_width) (is_word (head_of kind (length words)) && every is_word words) (le-leb (suc (length words)) answer_width l)
    (and_both (is_word (head_of kind (length words))) (every is_word words) (word_tell (head_of kind (length words)) (omega arith)) w)

module _ {given : Type 0} where
  pub response_facts : (kind : ℕ) (words : List ℕ) → kind ≤ 15 → (given → suc (length words) ≤ answer_width) → (given → every is_word words ≡ true) → AnswerFacts given (response kind words)
  response_facts kind words k l w =
      record { counts = response_counts kind words; fine = λ g. response_fine kind words k (l g) (w g) }

  pub none_facts : (kind : ℕ) → kind ≤ 15 → AnswerFacts given (response kind [])
  unfolding every
  none_facts kind k = response_facts kind [] k (λ g. omega arith) (λ g. refl)

  pub word_facts : (kind n : ℕ) → kind ≤ 15 → (given → is_word n ≡ true) → AnswerFacts given (response kind (n ∷ []))
  unfolding every
  word_facts kind n k h = response_facts kind (n ∷ []) k (λ g. omega arith) (λ g. and_both (is_word n) true (h g) refl)

  pub digits_facts : (kind count n : ℕ) → kind ≤ 15 → suc count ≤ answer_width → AnswerFacts given (response kind (digits count n))
  digits_facts kind count n k l =
      response_facts kind (digits count n) k (λ g. omega (arith, length_digits count n)) (λ g. words_every (digits count n) (words_digits count n))

  -- "0 done"
  pub done_answer_lem : AnswerFacts given done_answer
  unfolding done_answer
  done_answer_lem = none_facts done_kind (omega arith)

  pub either_answer : (b : Bool) (x y : List ℕ) → AnswerFacts given x → AnswerFacts given y → AnswerFacts given (cond b x y)
  either_answer true x y f g = f
  either_answer false x y f g = g

pub done_facts : {A : Type 0} {numbers : List ℕ} {given : Type 0} {t : A → Bool} (a : A) → (given → t a ≡ true) → Facts numbers given t (accept done_answer a)
done_facts a h = accept_facts done_answer a done_answer_lem h
