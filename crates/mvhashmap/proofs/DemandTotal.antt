-- Demand 1: every call is answered, or refused by a number of the table with nothing changed.
-- Assumes nothing.
use mathlib.Core.Path.{◌≡◌, refl, ap, ◌∙◌}
use mathlib.Core.Bool.{Bool, true, false, cond}
use mathlib.Core.List.{List}
use Prim.Native.Nat.{ℕ, zero, suc}
use lib.Dec.{ltb, eqb-suc-zero}
use lib.ListN.{length}
use Rattle.types.specs.Refusal.{of_slice, of_request, of_store, of_entry, of_commit, of_materialize, of_units, of_rules, refusals, is_in, is_refusal, is_result}
use Rattle.types.specs.Response.{answer_width}
use Rattle.types.proofs.RefusalLaws.{refusal_result}
use Rattle.request.specs.Request.{refusal_of, row_at, shape_ok, fields_ok, index_ok}
use Rattle.model.specs.Data.{Ruling, refuse, accept}
use Rattle.model.specs.Model.{Model, first_of, unless_refused, step}
use Rattle.model.proofs.StepFacts.{proper, step_proper}
use Rattle.mvhashmap.specs.Call.{View, view_of, CalledView, slice_refusal, store_refusal, early_refusal, refused_by, called_by, call_of}
use Rattle.mvhashmap.specs.Demands.{Total}

-- 0 is a result, and so is each early refusal
early_result : (t : List ℕ) (v : View) → is_result (early_refusal t v) ≡ true
unfolding early_refusal slice_refusal refusal_of store_refusal first_of is_result is_refusal refusals of_slice of_request of_store of_rules of_entry of_commit of_materialize of_units is_in
early_result t v = go (ltb (length v.out) answer_width) (shape_ok t) (fields_ok (row_at t).kind t) (index_ok t) v.stores.sound
  where
    go : (short shape fields index valid : Bool) →
        is_result (first_of (cond short 1 0) (first_of (cond shape (cond fields (cond index 0 4) 3) 2) (cond valid 0 5))) ≡ true
    go true shape fields index valid = refl
    go false false fields index valid = refl
    go false true false index valid = refl
    go false true true false valid = refl
    go false true true true true = refl
    go false true true true false = refl

-- a result that is not 0 is a refusal
nonzero_refusal : (n : ℕ) → is_result (suc n) ≡ true → is_refusal (suc n) ≡ true
unfolding is_result
nonzero_refusal n h = rw (eqb-suc-zero n) at h

called_result : (v : View) (r : Ruling Model) → proper r ≡ true → is_result (called_by v r).result ≡ true
unfolding called_by refused_by proper is_result
called_result v (refuse n) h = refusal_result n h
called_result v (accept answer m) h = refl

pub call_of_result : (t : List ℕ) (v : View) → is_result (call_of t v).result ≡ true
unfolding call_of unless_refused proper
call_of_result t v = early (early_refusal t v) (early_result t v)
  where
    step_now : Ruling Model
    step_now = step v.stores.fixed v.stores.model t

    early : (n : ℕ) → is_result n ≡ true → is_result (called_by v (unless_refused n step_now)).result ≡ true
    early zero h = called_result v step_now (step_proper v.stores.fixed v.stores.model t)
    early (suc n) h = called_result v (refuse (suc n)) (nonzero_refusal n h)

pub total : Total
total t before r after x =
    record {
      number = ap (λ (c : CalledView). is_result c.result) x.called ∙ call_of_result t (view_of before);
      unchanged = x.refused;
    }
