-- Sound stores hold a fine model that fits, and a call on them is the definition's step and leaves sound stores.
-- Assumes nothing.
use mathlib.Core.Path.{◌≡◌, refl, sym, ◌∙◌, ap}
use mathlib.Core.Bool.{true}
use mathlib.Core.List.{List}
use Prim.Native.Nat.{ℕ, zero, suc, ◌≤◌}
use lib.ListN.{length}
use Rattle.lists.specs.Lists.{every}
use Rattle.lists.proofs.Bools.{and_both, and_left, and_right}
use Rattle.types.specs.Response.{answer_width}
use Rattle.request.specs.Request.{refusal_of}
use Rattle.model.specs.Data.{Ruling, refuse, accept}
use Rattle.model.specs.Model.{Model, Fixed, data_held, group_held, fits, first_of, unless_refused, ruling, unless_full, step, left_by}
use Rattle.model.specs.Fine.{is_word, fine}
use Rattle.model.proofs.SlotLacks.{fits_tell}
use Rattle.model.proofs.FineModel.{fine_tell}
use Rattle.model.proofs.StepFacts.{step_fine}
use Rattle.versioned_data.specs.Layout.{data_valid}
use Rattle.versioned_data.proofs.EntriesHeld as Entries
use Rattle.group_slots.specs.Layout.{group_valid, held_by}
use Rattle.group_slots.proofs.GroupHolding as Groups
use Rattle.mvhashmap.specs.Call.{Stores, stores, Lent, sound, model_in, fixed_of, known, View, view_of, CalledView, slice_refusal, store_refusal, early_refusal, refused_by, called_by, call_of, Calls}
use Rattle.mvhashmap.specs.Run.{Call, view_to, call_on, ruling_on, call_by, model_left}
use Rattle.mvhashmap.proofs.CallOrder.{long_slice}

-- Two stores that are valid are sound.
pub sound_both : (d g : List ℕ) → data_valid d ≡ true → group_valid g ≡ true → sound (stores d g) ≡ true
unfolding sound
sound_both d g v w = and_both (data_valid d) (group_valid g) v w

-- ---- sound stores hold a fine model that fits

module _ (s : Stores) (v : sound s ≡ true) where
  pub data_valid_lem : data_valid s.data_words ≡ true
  unfolding sound
  data_valid_lem = and_left (data_valid s.data_words) (group_valid s.group_words) v

  pub group_valid_lem : group_valid s.group_words ≡ true
  unfolding sound
  group_valid_lem = and_right (data_valid s.data_words) (group_valid s.group_words) v

  pub model_in_fine : fine (model_in s) ≡ true
  unfolding model_in
  model_in_fine =
      fine_tell (model_in s) (Entries.fine_valid s.data_words data_valid_lem) (Groups.updates_valid s.group_words group_valid_lem)
      (Groups.committed_valid s.group_words group_valid_lem)

  pub model_in_fits : fits (fixed_of s) (model_in s) ≡ true
  unfolding fixed_of model_in data_held group_held held_by
  model_in_fits =
      fits_tell (fixed_of s) (model_in s) (Entries.few_valid s.data_words data_valid_lem) (Groups.few_valid s.group_words group_valid_lem)

-- ---- a call on sound stores

step_refused : (s : Fixed) (m : Model) (t : List ℕ) (n : ℕ) → refusal_of t ≡ suc n → step s m t ≡ refuse (suc n)
unfolding step ruling unless_refused unless_full
step_refused s m t n e = rw e refl

early_sound : (t : List ℕ) (v : View) → v.stores.sound ≡ true → early_refusal t v ≡ first_of (slice_refusal v.out) (first_of (refusal_of t) 0)
unfolding early_refusal store_refusal
early_sound t v e = rw e refl

-- 1 and 5 aside, the call is the definition's step: what a caller needs who can show that the stores are sound.
pub call_of_step : (t : List ℕ) (v : View) → v.stores.sound ≡ true →
    call_of t v ≡ called_by v (unless_refused (slice_refusal v.out) (step v.stores.fixed v.stores.model t))
unfolding call_of first_of unless_refused
call_of_step t v e = ap (λ (n : ℕ). called_by v (unless_refused n s)) (early_sound t v e) ∙ ap (called_by v) (go (slice_refusal v.out) (refusal_of t) refl)
  where
    s : Ruling Model
    s = step v.stores.fixed v.stores.model t

    go : (a b : ℕ) → refusal_of t ≡ b → unless_refused (first_of a (first_of b 0)) s ≡ unless_refused a s
    go (suc a) b e = refl
    go zero zero e = refl
    go zero (suc b) e = sym (step_refused v.stores.fixed v.stores.model t b e)

pub call_of_long : (t : List ℕ) (v : View) → v.stores.sound ≡ true → answer_width ≤ length v.out →
    call_of t v ≡ called_by v (step v.stores.fixed v.stores.model t)
unfolding unless_refused
call_of_long t v e h = call_of_step t v e ∙ rw (long_slice v.out h) refl

-- The stores that it leaves are sound.
call_of_sound : (t : List ℕ) (v : View) → v.stores.sound ≡ true → (call_of t v).view.stores.sound ≡ true
unfolding call_of called_by refused_by
call_of_sound t v e = go (unless_refused (early_refusal t v) (step v.stores.fixed v.stores.model t))
  where
    go : (r : Ruling Model) → (called_by v r).view.stores.sound ≡ true
    go (refuse n) = e
    go (accept answer m) = refl

pub calls_sound : (t : List ℕ) (l : Lent) (r : ℕ) (after : Lent) → Calls t l r after → sound l.stores ≡ true → sound after.stores ≡ true
calls_sound t l r after x e = ap (λ (c : CalledView). c.view.stores.sound) x.called ∙ call_of_sound t (view_of l) e

-- ---- one call on sound stores that hold a model: it is the definition's, and the stores hold what the definition leaves

module _ (f : Fixed) (m : Model) (c : Call) where
  pub call_on_known : call_on (known f true m) c ≡ call_by f m c
  unfolding call_on call_by view_to ruling_on
  call_on_known = call_of_step c.request (view_to c (known f true m)) refl

  pub left_call_by : (call_by f m c).view.stores ≡ known f true (model_left f m c)
  unfolding call_by model_left called_by refused_by left_by view_to
  left_call_by = go (ruling_on f m c)
    where
      go : (r : Ruling Model) → (called_by (view_to c (known f true m)) r).view.stores ≡ known f true (left_by m r)
      go (refuse n) = refl
      go (accept answer n) = refl

  pub model_left_long : answer_width ≤ length c.out → model_left f m c ≡ left_by m (step f m c.request)
  unfolding model_left ruling_on unless_refused
  model_left_long l = rw (long_slice c.out l) refl

  pub model_left_fine : fine m ≡ true → every is_word c.request ≡ true → fine (model_left f m c) ≡ true
  unfolding model_left ruling_on unless_refused left_by
  model_left_fine h w = go (slice_refusal c.out)
    where
      go : (n : ℕ) → fine (left_by m (unless_refused n (step f m c.request))) ≡ true
      go zero = step_fine f m c.request h w
      go (suc n) = h
