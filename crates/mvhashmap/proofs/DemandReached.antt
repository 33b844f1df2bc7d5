-- What a list of calls leaves: the model that the definition reaches by the accepted requests alone.
-- Assumes nothing.
use mathlib.Core.Path.{◌≡◌, refl, sym, ◌∙◌, ap}
use mathlib.Core.Bool.{true, cond}
use mathlib.Core.List.{List, [], ◌∷◌}
use Prim.Native.Nat.{ℕ, zero, suc}
use lib.Dec.{eqb, eqb-suc-zero}
use Rattle.types.proofs.RefusalLaws.{refusal_nonzero}
use Rattle.model.specs.Data.{Ruling, refuse, accept}
use Rattle.model.specs.Model.{Model, Fixed, empty, unless_refused, step, left_by, after}
use Rattle.model.proofs.StepFacts.{proper, step_proper}
use Rattle.mvhashmap.specs.Call.{fixed_of, Known, known, known_of, View, CalledView, slice_refusal, refused_by, called_by}
use Rattle.mvhashmap.specs.Run.{Call, cleared, view_to, accepted_in, ruling_on, call_by, model_left, calls_by}
use Rattle.mvhashmap.specs.Demands.{Accepted}
use Rattle.mvhashmap.proofs.StoresSound.{left_call_by}
use Rattle.mvhashmap.proofs.ChainViews.{known_after, known_stores_after, known_cleared}
use Rattle.mvhashmap.proofs.DemandRight.{right}

module _ (f : Fixed) where
  after_call_by : (m : Model) (c : Call) (ts : List (List ℕ)) →
      after f m (cond (eqb (call_by f m c).result 0) (c.request ∷ ts) ts) ≡ after f (model_left f m c) ts
  unfolding call_by model_left ruling_on after called_by refused_by unless_refused left_by proper
  after_call_by m c ts = go (slice_refusal c.out) (step f m c.request) refl (step_proper f m c.request)
    where
      v : View
      v = view_to c (known f true m)

      go : (n : ℕ) (r : Ruling Model) → step f m c.request ≡ r → proper r ≡ true →
          after f m (cond (eqb (called_by v (unless_refused n r)).result 0) (c.request ∷ ts) ts) ≡ after f (left_by m (unless_refused n r)) ts
      go (suc n) r e p = rw (eqb-suc-zero n) refl
      go zero (refuse n) e p = rw (refusal_nonzero n p) refl
      go zero (accept answer a) e p = rw e refl

  left_calls_by : (m : Model) (cs : List Call) → known_after (known f true m) (calls_by f m cs) ≡ known f true (after f m (accepted_in cs (calls_by f m cs)))
  unfolding known_after calls_by accepted_in after
  left_calls_by m [] = refl
  left_calls_by m (c ∷ cs) =
      let ih = left_calls_by (model_left f m c) cs in
      ap (λ (s : Known). known_after s (calls_by f (model_left f m c) cs)) (left_call_by f m c)
      ∙ ih
      ∙ ap (λ (n : Model). known f true n) (sym (after_call_by m c (accepted_in cs (calls_by f (model_left f m c) cs))))

pub accepted : Accepted
accepted n k cs ds x =
    let e = right n k cs ds x in
    ap (λ (s : Known). s.model) (known_stores_after (cleared n k) ds)
    ∙ ap (λ (xs : List CalledView). (known_after (known_of (cleared n k)) xs).model) e
    ∙ ap (λ (s : Known). (known_after s (calls_by (fixed_of (cleared n k)) empty cs)).model) (known_cleared n k)
    ∙ ap (λ (s : Known). s.model) (left_calls_by (fixed_of (cleared n k)) empty cs)
    ∙ ap (λ (xs : List CalledView). after (fixed_of (cleared n k)) empty (accepted_in cs xs)) (sym e)
