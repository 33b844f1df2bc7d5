-- The facts of every step: by which numbers it refuses, that its answer is fine, and that it leaves fine stores fine.
-- Assumes nothing.
use mathlib.Core.Path.{◌≡◌, refl, sym}
use mathlib.Core.Bool.{Bool, true, false, cond, not}
use mathlib.Core.List.{List, [], ◌∷◌, ◌++◌}
use Prim.Native.Nat.{ℕ, zero, suc}
use native.Mathlib.Omega.{arith}
use lib.Dec.{eqb}
use borrow.Author.Tests.{eqb-true}
use Rattle.lists.specs.Lists.{every}
use Rattle.lists.proofs.Bools.{and_left, and_right, never}
use Rattle.types.specs.Refusal.{wrong_count, bad_field, index_too_high, of_request, of_entry, of_commit, of_materialize, of_rules, of_units, of_step, is_in, is_refusal}
use Rattle.types.proofs.RefusalLaws.{is_in_left, is_in_right, units_step, step_refusal}
use Rattle.request.specs.Request.{row_at, shape_ok, fields_ok, index_ok, refusal_of, request_of}
use Rattle.model.specs.Data.{Ruling, refuse, accept}
use Rattle.model.specs.Model.{Model, empty, Fixed, work_of, perform, unless_refused, ruling, step, left_by, after}
use Rattle.model.specs.Fine.{is_word, fine, fine_answer}
use Rattle.model.proofs.SlotLacks.{unless_full_has}
use Rattle.model.proofs.FineRequests.{request_of_fine}
use Rattle.model.proofs.FineModel.{empty_fine}
use Rattle.model.proofs.RuleFacts.{refuses, answers, accepts, head_counts, Facts, refuse_facts, facts_given, facts_numbers}
use Rattle.model.proofs.RequestFacts.{request_facts}

-- what is given of a step: fine stores, and words
abbrev pub Sound : Model → List ℕ → Type 0
Sound m t = (fine m ≡ true) × (every is_word t ≡ true)

-- "ticket": the numbers by which a request's words are refused
refusal_of_number : (t : List ℕ) (n : ℕ) → refusal_of t ≡ suc n → is_in (suc n) of_request ≡ true
unfolding refusal_of is_in of_request
refusal_of_number t n e = go (shape_ok t) (fields_ok (row_at t).kind t) (index_ok t) e
  where
    go : (a b c : Bool) → ◌≡◌ {A = ℕ} (cond a (cond b (cond c 0 index_too_high) bad_field) wrong_count) (suc n) → is_in (suc n) of_request ≡ true
    go true true true e = absurd (omega (arith, e))
    go true true false e = rw (← e) refl
    go true false c e = rw (← e) refl
    go false b c e = rw (← e) refl

pub ruling_facts : (m : Model) (t : List ℕ) → Facts (of_request ++ of_rules) (Sound m t) fine (ruling m t)
unfolding ruling unless_refused
ruling_facts m t = go (refusal_of t) refl
  where
    done : Ruling Model
    done = perform (work_of (request_of t)) m

    go : (n : ℕ) → refusal_of t ≡ n → Facts (of_request ++ of_rules) (Sound m t) fine (unless_refused n done)
    go zero z =
        facts_numbers of_rules done (λ n h. is_in_right n of_request of_rules h)
        (facts_given done (λ g. (request_of_fine t g.1 z, g.0)) (request_facts (request_of t) m))
    go (suc n) z = refuse_facts (suc n) (is_in_left (suc n) of_request of_rules (refusal_of_number t n z))

-- the table's parts, as a step and its ruling join them
step_parts : of_step ≡ (of_request ++ of_rules) ++ of_units
unfolding of_step of_request
step_parts = refl

ruling_step : (n : ℕ) → is_in n (of_request ++ of_rules) ≡ true → is_in n of_step ≡ true
ruling_step n h = rw step_parts (is_in_left n (of_request ++ of_rules) of_units h)

pub step_facts : (s : Fixed) (m : Model) (t : List ℕ) → Facts of_step (Sound m t) fine (step s m t)
unfolding step
step_facts s m t =
    unless_full_has (λ r. Facts of_step (Sound m t) fine r) s (ruling m t)
    (facts_numbers (of_request ++ of_rules) (ruling m t) ruling_step (ruling_facts m t))
    (λ n e. refuse_facts n (units_step n e))

-- ---- what callers ask of a step

-- A refusal by a number of 01's table, or an answer whose head counts its words.
unfoldable pub proper : {A : Type 0} → Ruling A → Bool
proper (refuse n) = is_refusal n
proper (accept answer a) = head_counts answer

pub step_proper : (s : Fixed) (m : Model) (t : List ℕ) → proper (step s m t) ≡ true
unfolding proper refuses answers
step_proper s m t = go (step s m t) (step_facts s m t).number (step_facts s m t).counts
  where
    go : (r : Ruling Model) → refuses (λ n. is_in n of_step) r ≡ true → answers head_counts r ≡ true → proper r ≡ true
    go (refuse n) h g = step_refusal n h
    go (accept answer a) h g = g

-- no answer is longer than the longest, and each of its words is one
pub step_answers : (s : Fixed) (m : Model) (t : List ℕ) → fine m ≡ true → every is_word t ≡ true → answers fine_answer (step s m t) ≡ true
step_answers s m t h w = (step_facts s m t).answer (h, w)

left_fine : (m : Model) (r : Ruling Model) → fine m ≡ true → accepts fine r ≡ true → fine (left_by m r) ≡ true
unfolding accepts left_by
left_fine m (refuse n) h f = h
left_fine m (accept answer left) h f = f

-- Rule 5 is kept: from fine stores, and words, every request leaves fine stores.
pub step_fine : (s : Fixed) (m : Model) (t : List ℕ) → fine m ≡ true → every is_word t ≡ true → fine (left_by m (step s m t)) ≡ true
step_fine s m t h w = left_fine m (step s m t) h ((step_facts s m t).edit (h, w))

pub after_fine : (s : Fixed) (m : Model) (ts : List (List ℕ)) → fine m ≡ true → every (every is_word) ts ≡ true → fine (after s m ts) ≡ true
unfolding after every
after_fine s m [] h w = h
after_fine s m (t ∷ ts) h w =
    after_fine s (left_by m (step s m t)) ts (step_fine s m t h (and_left (every is_word t) (every (every is_word) ts) w))
    (and_right (every is_word t) (every (every is_word) ts) w)

-- so whatever the requests were, the stores that began empty are fine
pub after_empty_fine : (s : Fixed) (ts : List (List ℕ)) → every (every is_word) ts ≡ true → fine (after s empty ts) ≡ true
after_empty_fine s ts w = after_fine s empty ts empty_fine w

-- a number of one list stands in no other that has none of its numbers
is_in_apart : (n : ℕ) (xs ys : List ℕ) → every (λ m. not (is_in m ys)) xs ≡ true → is_in n xs ≡ true → not (is_in n ys) ≡ true
unfolding is_in every
is_in_apart n [] ys a h = never (sym h)
is_in_apart n (x ∷ xs) ys a h = go (eqb n x) refl (is_in_apart n xs ys (and_right (not (is_in x ys)) (every (λ m. not (is_in m ys)) xs) a))
  where
    go : (b : Bool) → eqb n x ≡ b → (is_in n xs ≡ true → not (is_in n ys) ≡ true) → not (is_in n ys) ≡ true
    go true e ih = rw (eqb-true n x e) (and_left (not (is_in x ys)) (every (λ m. not (is_in m ys)) xs) a)
    go false e ih = ih (rw e at h)

ruling_units : every (λ n. not (is_in n of_units)) (of_request ++ of_rules) ≡ true
unfolding every is_in of_request of_rules of_entry of_commit of_materialize of_units
ruling_units = refl

-- No rule of a store, and none of a request's words, refuses for lack of slots.
pub ruling_not_full : (m : Model) (t : List ℕ) → refuses (λ n. not (is_in n of_units)) (ruling m t) ≡ true
unfolding refuses
ruling_not_full m t = go (ruling m t) (ruling_facts m t).number
  where
    go : (r : Ruling Model) → refuses (λ n. is_in n (of_request ++ of_rules)) r ≡ true → refuses (λ n. not (is_in n of_units)) r ≡ true
    go (refuse n) h = is_in_apart n (of_request ++ of_rules) of_units ruling_units h
    go (accept answer a) h = refl
