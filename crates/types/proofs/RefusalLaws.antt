-- Numbers of the table of refusals: what stands in a part of it stands in the whole, and none is 0.
-- Assumes nothing.
use mathlib.Core.Path.{◌≡◌, refl, sym}
use mathlib.Core.Bool.{Bool, true, false, ◌||◌}
use mathlib.Core.List.{List, [], ◌∷◌, ◌++◌}
use Prim.Native.Nat.{ℕ, zero, suc}
use native.Mathlib.Omega.{arith}
use lib.Dec.{eqb}
use borrow.Author.Tests.{eqb-true, ne_eqb}
use Rattle.lists.specs.Lists.{every}
use Rattle.lists.proofs.Bools.{and_left, and_right, never}
use Rattle.types.specs.Refusal.{of_slice, of_request, of_store, of_entry, of_commit, of_materialize, of_units, of_rules, of_step, refusals, is_in, is_refusal, is_result}

-- a number of one part, or of the other
pub is_in_left : (n : ℕ) (xs ys : List ℕ) → is_in n xs ≡ true → is_in n (xs ++ ys) ≡ true
unfolding is_in
is_in_left n [] ys h = never (sym h)
is_in_left n (x ∷ xs) ys h = go (eqb n x) refl (is_in_left n xs ys)
  where
    go : (b : Bool) → eqb n x ≡ b → (is_in n xs ≡ true → is_in n (xs ++ ys) ≡ true) → (eqb n x || is_in n (xs ++ ys)) ≡ true
    go true e ih = rw e refl
    go false e ih = rw e (ih (rw e at h))

pub is_in_right : (n : ℕ) (xs ys : List ℕ) → is_in n ys ≡ true → is_in n (xs ++ ys) ≡ true
unfolding is_in
is_in_right n [] ys h = h
is_in_right n (x ∷ xs) ys h = go (eqb n x) (is_in_right n xs ys h)
  where
    go : (b : Bool) → is_in n (xs ++ ys) ≡ true → (b || is_in n (xs ++ ys)) ≡ true
    go true ih = refl
    go false ih = ih

-- what holds of every number of a list
pub is_in_every : (p : ℕ → Bool) (n : ℕ) (xs : List ℕ) → every p xs ≡ true → is_in n xs ≡ true → p n ≡ true
unfolding is_in every
is_in_every p n [] a h = never (sym h)
is_in_every p n (x ∷ xs) a h = go (eqb n x) refl (is_in_every p n xs (and_right (p x) (every p xs) a))
  where
    go : (b : Bool) → eqb n x ≡ b → (is_in n xs ≡ true → p n ≡ true) → p n ≡ true
    go true e ih = rw (eqb-true n x e) (and_left (p x) (every p xs) a)
    go false e ih = ih (rw e at h)

pub units_step : (n : ℕ) → is_in n of_units ≡ true → is_in n of_step ≡ true
unfolding of_step
units_step n h = is_in_right n of_request (of_rules ++ of_units) (is_in_right n of_rules of_units h)

-- a number that is not the first of a list stands in the rest
is_in_both : (n : ℕ) (xs ys zs : List ℕ) → is_in n (xs ++ ys) ≡ true → is_in n (xs ++ (zs ++ ys)) ≡ true
unfolding is_in
is_in_both n [] ys zs h = is_in_right n zs ys h
is_in_both n (x ∷ xs) ys zs h = go (eqb n x) refl (is_in_both n xs ys zs)
  where
    go : (b : Bool) → eqb n x ≡ b → (is_in n (xs ++ ys) ≡ true → is_in n (xs ++ (zs ++ ys)) ≡ true) → (eqb n x || is_in n (xs ++ (zs ++ ys))) ≡ true
    go true e ih = rw e refl
    go false e ih = rw e (ih (rw e at h))

pub step_refusal : (n : ℕ) → is_in n of_step ≡ true → is_refusal n ≡ true
unfolding of_step refusals is_refusal
step_refusal n h =
    is_in_right n of_slice (of_request ++ (of_store ++ (of_rules ++ of_units))) (is_in_both n of_request (of_rules ++ of_units) of_store h)

-- 0 is no refusal
pub refusal_nonzero : (n : ℕ) → is_refusal n ≡ true → eqb n 0 ≡ false
unfolding is_refusal refusals of_slice of_request of_store of_rules of_entry of_commit of_materialize of_units is_in
refusal_nonzero zero h = never (sym h)
refusal_nonzero (suc n) h = ne_eqb (suc n) 0 (λ e. omega (arith, e))

pub refusal_result : (n : ℕ) → is_refusal n ≡ true → is_result n ≡ true
unfolding is_result
refusal_result n h = rw (refusal_nonzero n h) h
