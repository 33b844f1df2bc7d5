-- The order of the refusals that come before the stores are asked anything: 1 by the slice, then 2, 3 and 4 by the request, then 5 by the stores.
-- Assumes nothing.
use mathlib.Core.Path.{◌≡◌, refl}
use mathlib.Core.Bool.{false}
use mathlib.Core.List.{List}
use Prim.Native.Nat.{ℕ, suc, ◌≤◌, ◌<◌}
use lib.ListN.{length}
use borrow.Author.Tests.{lt-ltb, le-ltb}
use Rattle.types.specs.Refusal.{answer_too_short, damaged_store}
use Rattle.types.specs.Response.{answer_width}
use Rattle.request.specs.Request.{refusal_of}
use Rattle.model.specs.Model.{first_of, unless_refused}
use Rattle.mvhashmap.specs.Call.{View, slice_refusal, store_refusal, early_refusal, refused_by, called_by, call_of}

pub long_slice : (out : List ℕ) → answer_width ≤ length out → slice_refusal out ≡ 0
unfolding slice_refusal
long_slice out h = rw (le-ltb (length out) answer_width h) refl

short_slice : (out : List ℕ) → length out < answer_width → slice_refusal out ≡ answer_too_short
unfolding slice_refusal
short_slice out h = rw (lt-ltb (length out) answer_width h) refl

module _ (t : List ℕ) (v : View) where
  pub refused_by_slice : length v.out < answer_width → call_of t v ≡ refused_by answer_too_short v
  unfolding call_of early_refusal first_of unless_refused called_by
  refused_by_slice h = rw (short_slice v.out h) refl

  module _ (room : answer_width ≤ length v.out) where
    pub refused_by_request : (n : ℕ) → refusal_of t ≡ suc n → call_of t v ≡ refused_by (suc n) v
    unfolding call_of early_refusal first_of unless_refused called_by
    refused_by_request n e = rw (long_slice v.out room, e) refl

    pub refused_by_stores : refusal_of t ≡ 0 → v.stores.sound ≡ false → call_of t v ≡ refused_by damaged_store v
    unfolding call_of early_refusal store_refusal first_of unless_refused called_by
    refused_by_stores e u = rw (long_slice v.out room, e, u) refl
