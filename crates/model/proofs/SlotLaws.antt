-- Refusals change nothing, reads change nothing, and the slots held never exceed the slots there are.
-- Assumes nothing.
use mathlib.Core.Path.{◌≡◌, refl, sym}
use mathlib.Core.Bool.{Bool, true, false, not}
use mathlib.Core.List.{List, [], ◌∷◌}
use Prim.Native.Nat.{ℕ, zero-le}
use borrow.Author.Tests.{not-true}
use Rattle.lists.proofs.Bools.{never, true_not_false}
use Rattle.types.specs.Refusal.{is_in, of_units}
use Rattle.request.specs.Request.{last_committed, fetch, group_fetch, group_size}
use Rattle.model.specs.Rows.{down_from, edited}
use Rattle.model.specs.Data.{Ruling, refuse, accept, fetch_data}
use Rattle.model.specs.Group.{commits, get_last_committed_group, fetch_tagged_data, get_group_size}
use Rattle.model.specs.Model.{Model, empty, Fixed, data_held, updates_held, group_held, fits, work_of, ruled, with_commits, perform, ruling, outcome_of, unless_full, step, left_by, after}
use Rattle.model.specs.Tickets.{left}
use Rattle.model.specs.Noninterference.{lacks}
use Rattle.model.proofs.RulingLaws.{left_as}
use Rattle.model.proofs.SlotLacks.{fits_tell, lack_in_units, unless_full_fits, unless_full_lacks}
use Rattle.model.proofs.RuleFacts.{refuses}
use Rattle.model.proofs.StepFacts.{ruling_not_full}

-- A refused request changes nothing, and a list may as well leave it out.
pub refused_left : (s : Fixed) (m : Model) (request : List ℕ) (n : ℕ) → step s m request ≡ refuse n → left_by m (step s m request) ≡ m
unfolding left_by
refused_left s m request n e = rw e

pub refused_after : (s : Fixed) (m : Model) (request : List ℕ) (n : ℕ) (later : List (List ℕ)) → step s m request ≡ refuse n → after s m (request ∷ later) ≡ after s m later
unfolding after
refused_after s m request n later e = rw (refused_left s m request n e)

-- A read changes nothing.
pub left_fetch : (key t : ℕ) (m : Model) → left (fetch key t) m ≡ m
unfolding left work_of perform
left_fetch key t m = left_as (λ n. n) m (λ same. m) (λ a. refl) (fetch_data (down_from key t m.entries))

pub left_group_fetch : (key tag t : ℕ) (m : Model) → left (group_fetch key tag t) m ≡ m
unfolding left work_of perform
left_group_fetch key tag t m = left_as (λ n. n) m (λ same. m) (λ a. refl) (fetch_tagged_data tag (down_from key t m.updates))

pub left_group_size : (key t : ℕ) (m : Model) → left (group_size key t) m ≡ m
unfolding left work_of perform
left_group_size key t m = left_as (λ n. n) m (λ same. m) (λ a. refl) (get_group_size (down_from key t m.updates))

pub left_last_committed : (key : ℕ) (m : Model) → left (last_committed key) m ≡ m
unfolding left work_of perform ruled get_last_committed_group left_by with_commits commits edited
left_last_committed key m = refl

-- The slots held never exceed the slots there are: every step keeps `fits`, and so does every list from empty stores.
pub fits_step : (s : Fixed) (m : Model) (request : List ℕ) → fits s m ≡ true → fits s (left_by m (step s m request)) ≡ true
unfolding step unless_full left_by
fits_step s m request h = go (ruling m request)
  where
    kept : (answer : List ℕ) (a : Model) (b : Bool) → fits s a ≡ b → fits s (left_by m (unless_full s (accept answer a))) ≡ true
    kept answer a true e = rw (unless_full_fits s a answer e) e
    kept answer a false e = rw (unless_full_lacks s a answer e) h

    go : (r : Ruling Model) → fits s (left_by m (unless_full s r)) ≡ true
    go (refuse n) = h
    go (accept answer a) = kept answer a (fits s a) refl

pub fits_empty : (s : Fixed) → fits s empty ≡ true
unfolding empty data_held group_held updates_held
fits_empty s = fits_tell s empty zero-le zero-le

fits_on : (s : Fixed) (m : Model) (requests : List (List ℕ)) → fits s m ≡ true → fits s (after s m requests) ≡ true
unfolding after
fits_on s m [] h = h
fits_on s m (x ∷ xs) h = fits_on s (left_by m (step s m x)) xs (fits_step s m x h)

pub fits_after : (s : Fixed) (requests : List (List ℕ)) → fits s (after s empty requests) ≡ true
fits_after s requests = fits_on s empty requests (fits_empty s)

-- A request lacks slots exactly if those of what it would leave do not fit.
pub step_full : (s : Fixed) (m : Model) (request : List ℕ) → lacks (outcome_of (step s m request)) ≡ true → fits s (left_by m (ruling m request)) ≡ false
unfolding step unless_full left_by outcome_of lacks refuses
step_full s m request e = go (ruling m request) (ruling_not_full m request) e
  where
    full : (answer : List ℕ) (a : Model) (b : Bool) → fits s a ≡ b → lacks (outcome_of (unless_full s (accept answer a))) ≡ true → fits s a ≡ false
    full answer a true f e = never (sym (rw (unless_full_fits s a answer f) at e))
    full answer a false f e = f

    go : (r : Ruling Model) → refuses (λ n. not (is_in n of_units)) r ≡ true → lacks (outcome_of (unless_full s r)) ≡ true → fits s (left_by m r) ≡ false
    go (refuse n) l e = true_not_false (is_in n of_units) e (not-true (is_in n of_units) l)
    go (accept answer a) l e = full answer a (fits s a) refl e

pub full_step : (s : Fixed) (m : Model) (request : List ℕ) → fits s m ≡ true → fits s (left_by m (ruling m request)) ≡ false → lacks (outcome_of (step s m request)) ≡ true
unfolding step unless_full left_by outcome_of lacks
full_step s m request h e = go (ruling m request) e
  where
    go : (r : Ruling Model) → fits s (left_by m r) ≡ false → lacks (outcome_of (unless_full s r)) ≡ true
    go (refuse n) e = true_not_false (fits s m) h e
    go (accept answer a) e = rw (unless_full_lacks s a answer e) (lack_in_units s a e)
