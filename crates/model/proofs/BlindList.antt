-- Blindness over any sight and any test of kept requests. The kept turns of one list are the turns of its kept requests alone, from what is seen and
-- with slots to spare; two lists with the same kept requests meet there.
-- Assumes nothing.
use mathlib.Core.Path.{◌≡◌, refl, sym, ◌∙◌, ap}
use mathlib.Core.Bool.{Bool, true, false}
use mathlib.Core.Logic.{◌⊎◌, inl, inr}
use mathlib.Core.List.{List, [], ◌∷◌}
use Prim.Native.Nat.{ℕ, zero, suc}
use Rattle.lists.specs.Lists.{every, keep}
use Rattle.lists.proofs.Bools.{and_left, and_right, never, true_not_false}
use Rattle.types.specs.Refusal.{is_in, of_units}
use Rattle.request.specs.Request.{request_of, refusal_of}
use Rattle.model.specs.Data.{Ruling, refuse, accept}
use Rattle.model.specs.Model.{Model, Fixed, lack_in, fits, ruled, work_of, perform, unless_refused, ruling, unless_full, step, left_by, outcome_of, after, Turn, turns}
use Rattle.model.specs.Noninterference.{lacks, is_answered}
use Rattle.model.specs.Sight.{Sight, seen, Beyond}
use Rattle.model.specs.Blind.{Blinding, turns_kept}
use Rattle.model.proofs.RulingLaws.{outcome_ruled, left_ruled}
use Rattle.model.proofs.SlotLacks.{lack_in_units, unless_full_fits, unless_full_lacks, unless_full_has}
use Rattle.model.proofs.Sight.{Rising, perform_within, perform_beyond}
use Rattle.model.proofs.SightKeys.{work_rising}

-- The turns of a list with slots to spare.
unfoldable pub free : Model → List (List ℕ) → List Turn
free m [] = []
free m (x ∷ xs) = record { request = x; outcome = outcome_of (ruling m x) } ∷ free (left_by m (ruling m x)) xs

-- what is refused leaves the model as it was
unanswered : (m : Model) (r : Ruling Model) → is_answered (outcome_of r) ≡ false → left_by m r ≡ m
unfolding left_by is_answered outcome_of
unanswered m (refuse n) e = refl
unanswered m (accept answer left) e = never e

-- Where slots are not lacking, the store's bound plays no part.
full_free : (s : Fixed) (r : Ruling Model) → lacks (outcome_of (unless_full s r)) ≡ false → unless_full s r ≡ r
unfolding unless_full outcome_of lacks
full_free s (refuse n) h = refl
full_free s (accept answer m) h = go (fits s m) refl
  where
    go : (b : Bool) → fits s m ≡ b → unless_full s (accept answer m) ≡ accept answer m
    go true e = unless_full_fits s m answer e
    go false e = true_not_false (is_in (lack_in s m) of_units) (lack_in_units s m e) (rw (unless_full_lacks s m answer e) at h)

step_free : (s : Fixed) (m : Model) (x : List ℕ) → lacks (outcome_of (step s m x)) ≡ false → step s m x ≡ ruling m x
unfolding step
step_free s m x h = full_free s (ruling m x) h

-- rows stay rising
ruling_rising : (m : Model) (x : List ℕ) → Rising m → Rising (left_by m (ruling m x))
unfolding ruling unless_refused left_by
ruling_rising m x g = go (refusal_of x)
  where
    go : (n : ℕ) → Rising (left_by m (unless_refused n (perform (work_of (request_of x)) m)))
    go zero = work_rising (request_of x) m g
    go (suc n) = g

step_rising : (slots : Fixed) (m : Model) (x : List ℕ) → Rising m → Rising (left_by m (step slots m x))
unfolding step left_by
step_rising slots m x g = unless_full_has (λ r. Rising (left_by m r)) slots (ruling m x) (ruling_rising m x g) (λ n e. g)

pub rising_after : (slots : Fixed) (xs : List (List ℕ)) (m : Model) → Rising m → Rising (after slots m xs)
unfolding after
rising_after slots [] m g = g
rising_after slots (x ∷ xs) m g = rising_after slots xs (left_by m (step slots m x)) (step_rising slots m x g)

module _ (s : Sight) (is_kept : List ℕ → Bool) (is_quiet : Turn → Bool) (b : Blinding s is_kept is_quiet) where
  -- A kept request does the same where all that is not in sight is hidden.
  ruling_kept : (m : Model) (x : List ℕ) → is_kept x ≡ true → ruling (seen s m) x ≡ ruled (seen s) (ruling m x)
  unfolding ruling unless_refused ruled
  ruling_kept m x k = go (refusal_of x) refl
    where
      go : (n : ℕ) → refusal_of x ≡ n → ruling (seen s m) x ≡ ruled (seen s) (ruling m x)
      go zero e = rw e (perform_within s (work_of (request_of x)) m (b.within x k e))
      go (suc n) e = rw e

  module _ (slots : Fixed) (m : Model) (x : List ℕ) (g : Rising m) where
    abbrev here : Turn
    here = record { request = x; outcome = outcome_of (step slots m x) }

    -- A dropped request leaves what is in sight as it was.
    left_dropped : is_kept x ≡ false → is_quiet here ≡ true → seen s (left_by m (step slots m x)) ≡ seen s m
    unfolding step ruling unless_refused unless_full left_by
    left_dropped k q = go (refusal_of x) refl
      where
        by : refusal_of x ≡ 0 → Beyond s (work_of (request_of x)) ⊎ (is_answered (outcome_of (step slots m x)) ≡ false) → seen s (left_by m (step slots m x)) ≡ seen s m
        by e (inl h) =
            unless_full_has (λ r. seen s (left_by m r) ≡ seen s m) slots (ruling m x) (rw e (perform_beyond s (work_of (request_of x)) m g h)) (λ n f. refl)
        by e (inr h) = ap (seen s) (unanswered m (step slots m x) h)

        go : (n : ℕ) → refusal_of x ≡ n → seen s (left_by m (step slots m x)) ≡ seen s m
        go zero e = by e (b.dropped here k q e)
        go (suc n) e = rw e

    -- A kept one has the outcome that it has there, and leaves what it leaves there.
    module _ (k : is_kept x ≡ true) (q : is_quiet here ≡ true) where
      same : step slots m x ≡ ruling m x
      same = step_free slots m x (b.served here k q)

      outcome_kept : outcome_of (step slots m x) ≡ outcome_of (ruling (seen s m) x)
      outcome_kept = ap outcome_of same ∙ sym (ap outcome_of (ruling_kept m x k) ∙ outcome_ruled (seen s) (ruling m x))

      left_kept : seen s (left_by m (step slots m x)) ≡ left_by (seen s m) (ruling (seen s m) x)
      left_kept =
          ap (λ (r : Ruling Model). seen s (left_by m r)) same
          ∙ sym (ap (left_by (seen s m)) (ruling_kept m x k) ∙ left_ruled (seen s) m (ruling m x))

  -- One list: its kept turns are the turns of its kept requests, with slots to spare and all that is not in sight hidden.
  pub alone : (slots : Fixed) (xs : List (List ℕ)) (m : Model) → Rising m → every is_quiet (turns slots m xs) ≡ true → turns_kept is_kept (turns slots m xs) ≡ free (seen s m) (keep is_kept xs)
  unfolding every turns turns_kept keep free
  alone slots [] m g q = refl
  alone slots (x ∷ xs) m g q =
      go (is_kept x) refl (alone slots xs (left_by m (step slots m x)) (step_rising slots m x g) (and_right (is_quiet (here slots m x g)) rest q))
    where
      rest : Bool
      rest = every is_quiet (turns slots (left_by m (step slots m x)) xs)

      quiet_here : is_quiet (here slots m x g) ≡ true
      quiet_here = and_left (is_quiet (here slots m x g)) rest q

      go : (c : Bool) → is_kept x ≡ c →
          turns_kept is_kept (turns slots (left_by m (step slots m x)) xs) ≡ free (seen s (left_by m (step slots m x))) (keep is_kept xs) →
          turns_kept is_kept (turns slots m (x ∷ xs)) ≡ free (seen s m) (keep is_kept (x ∷ xs))
      go true k ih =
          rw k
          (λ i.
          record { request = x; outcome = outcome_kept slots m x g k quiet_here i }
          ∷ (ih ∙ ap (λ (n : Model). free n (keep is_kept xs)) (left_kept slots m x g k quiet_here)) i)
      go false k ih = rw k (ih ∙ ap (λ (n : Model). free n (keep is_kept xs)) (left_dropped slots m x g k quiet_here))

  -- Two lists with the same kept requests, from models that look the same: their kept turns are the same, whatever slots each run has.
  pub blind : (slots others : Fixed) (m n : Model) → Rising m → Rising n → seen s m ≡ seen s n → (xs ys : List (List ℕ)) → keep is_kept xs ≡ keep is_kept ys →
      every is_quiet (turns slots m xs) ≡ true → every is_quiet (turns others n ys) ≡ true →
      turns_kept is_kept (turns slots m xs) ≡ turns_kept is_kept (turns others n ys)
  blind slots others m n g h e xs ys k qx qy =
      alone slots xs m g qx ∙ ap (free (seen s m)) k ∙ ap (λ (o : Model). free o (keep is_kept ys)) e ∙ sym (alone others ys n h qy)
