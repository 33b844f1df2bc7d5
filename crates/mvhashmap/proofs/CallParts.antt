-- The whole call, from a store's part of it and from each refusal before that.
-- Assumes nothing.
use mathlib.Core.Path.{◌≡◌, refl, sym, ap, ◌∙◌}
use mathlib.Core.Bool.{Bool, true, false, not}
use mathlib.Core.List.{List, [], ◌++◌, append-nil}
use Prim.Native.Nat.{ℕ, zero, suc, ◌-◌, ◌^◌, ◌≤◌, ◌<◌}
use native.Mathlib.Omega.{arith}
use lib.Dec.{leb}
use lib.ListN.{length, get_or, take, drop, drop_of_length-le}
use lib.Seq.{take_all}
use borrow.Author.Tests.{not-true, not-false, leb-true}
use Rattle.lists.proofs.Bools.{and_left, and_right}
use Rattle.number.specs.Words.{AreWords}
use Rattle.types.specs.Refusal.{answer_too_short, wrong_count, damaged_store, refusal_number, result_number}
use Rattle.types.specs.Response.{answer_width, kind_in}
use Rattle.request.specs.Request.{refusal_of}
use Rattle.request.specs.Fields.{kind_at, kind_asked}
use Rattle.request.specs.Checked.{check_of}
use Rattle.request.specs.declared.asked.Request.{Request}
use Rattle.std.specs.Prelude.{Result, Ok, Err}
use Rattle.types.specs.declared.refusal.Refusal.{Refusal}
use Rattle.request.specs.declared.kind.Kind.{Kind}
use Rattle.request.specs.declared.kind.Kind.TheVariants.{LastCommitted, Base, Write, AddDelta, Estimate, Remove, Fetch, Materialize, GroupBase, Exchange, GroupWrite, GroupEstimate, GroupRemove, GroupFetch, GroupSize, Finalize}
use mathlib.Core.Logic.{◌⊎◌, inl, inr}
use Rattle.request.specs.Table.{number_of, kind_of}
use Rattle.versioned_group_data.proofs.Results.{refusal_some}
use Rattle.request.proofs.KindNumbers.{number_back}
use Rattle.request.proofs.Shapes.{shape_empty}
use Rattle.request.proofs.CheckAnswers.{accepted_passed, refused_told}
use Rattle.request.proofs.CheckPasses.{passed_kind}
use Rattle.model.specs.Model.{unless_refused, ruling, step}
use Rattle.model.proofs.FineParts.{words_every}
use Rattle.versioned_data.specs.Layout.{data_valid}
use Rattle.group_slots.specs.Layout.{group_valid}
use Rattle.mvhashmap.specs.Call.{stores, Lent, lent, sound, view_of, refused_by, call_of, Calls}
use Rattle.mvhashmap.specs.Served.{is_data, DataAsked, Asked, served_by, Serves, ServesData, ServesGroup, CallsGroup}
use Rattle.mvhashmap.proofs.CallOrder.{refused_by_slice, refused_by_request, refused_by_stores}
use Rattle.mvhashmap.proofs.StoresSound.{data_valid_lem, group_valid_lem, sound_both, call_of_long}
use Rattle.mvhashmap.proofs.ServedWorks.{like_same}

pub asked_accepted : (t : List ℕ) → AreWords t → (x : Result Request Refusal) → x ≡ check_of t → (f : Request) → x ≡ Ok f → Asked t f
asked_accepted t w x e f h = record { words = words_every t w; checked = sym e ∙ h }

-- What the check of a data request that did not refuse has told.
pub asked_data : (t : List ℕ) → AreWords t → (k : ℕ) → k ≡ kind_at t → {A : Type 0} (x : Result A Refusal) → result_number x ≡ refusal_of t → (a : A) → x ≡ Ok a → DataAsked t k
asked_data t w k e x p a z =
    record { words = words_every t w; passed = sym p ∙ ap result_number z; kind = sym e }

-- What the whole check that did not refuse has told.
pub passed_told : (t : List ℕ) (x : Result Request Refusal) → x ≡ check_of t → (f : Request) → x ≡ Ok f → refusal_of t ≡ 0
passed_told t x e f h = (accepted_passed t f (sym e ∙ h)).refusal

-- What a scan that did not refuse has told.
pub valid_told : (b v : Bool) → b ≡ v → not b ≡ false → v ≡ true
valid_told b v e n = sym e ∙ not-false b n

-- ---- the kinds of either store

pub data_not : (k : Kind) → (k ≡ Base → ⊥) → (k ≡ Write → ⊥) → (k ≡ AddDelta → ⊥) → (k ≡ Estimate → ⊥) → (k ≡ Remove → ⊥) → (k ≡ Fetch → ⊥) → (k ≡ Materialize → ⊥) → false ≡ is_data (number_of k)
unfolding is_data
data_not LastCommitted a b c d e f g = refl
data_not Base a b c d e f g = absurd (a refl)
data_not Write a b c d e f g = absurd (b refl)
data_not AddDelta a b c d e f g = absurd (c refl)
data_not Estimate a b c d e f g = absurd (d refl)
data_not Remove a b c d e f g = absurd (e refl)
data_not Fetch a b c d e f g = absurd (f refl)
data_not Materialize a b c d e f g = absurd (g refl)
data_not GroupBase a b c d e f g = refl
data_not Exchange a b c d e f g = refl
data_not GroupWrite a b c d e f g = refl
data_not GroupEstimate a b c d e f g = refl
data_not GroupRemove a b c d e f g = refl
data_not GroupFetch a b c d e f g = refl
data_not GroupSize a b c d e f g = refl
data_not Finalize a b c d e f g = refl

module _ (k : Kind) where
  data_is : (x : Kind) → is_data (number_of x) ≡ true → k ≡ x → true ≡ is_data (number_of k)
  data_is x d e = sym (ap (λ (y : Kind). is_data (number_of y)) e ∙ d)

  pub data_one : (k ≡ Base) ⊎ ((k ≡ Write) ⊎ ((k ≡ AddDelta) ⊎ ((k ≡ Estimate) ⊎ ((k ≡ Remove) ⊎ ((k ≡ Fetch) ⊎ (k ≡ Materialize)))))) → true ≡ is_data (number_of k)
  unfolding is_data
  data_one (inl e) = data_is Base refl e
  data_one (inr (inl e)) = data_is Write refl e
  data_one (inr (inr (inl e))) = data_is AddDelta refl e
  data_one (inr (inr (inr (inl e)))) = data_is Estimate refl e
  data_one (inr (inr (inr (inr (inl e))))) = data_is Remove refl e
  data_one (inr (inr (inr (inr (inr (inl e)))))) = data_is Fetch refl e
  data_one (inr (inr (inr (inr (inr (inr e)))))) = data_is Materialize refl e

-- What the test of a kind has told.
pub data_kind : (b : Bool) (k : ℕ) → b ≡ is_data k → b ≡ true → (1 ≤ k) × (k ≤ 7)
unfolding is_data
data_kind b k e n =
    let d = sym e ∙ n in
    (leb-true 1 k (and_left (leb 1 k) (leb k 7) d), leb-true k 7 (and_right (leb 1 k) (leb k 7) d))

pub group_kind : (t : List ℕ) (x : Result Request Refusal) → x ≡ check_of t → (f : Request) → x ≡ Ok f → is_data (kind_at t) ≡ false → is_data (number_of (kind_asked f)) ≡ false
group_kind t x e f h n = ap is_data (passed_kind t f (accepted_passed t f (sym e ∙ h))) ∙ n

-- Four bits hold the kind of a request.
pub kind_told : (t : List ℕ) → get_or t 0 0 < 2 ^ 32 → (n : ℕ) → n ≡ kind_in (get_or t 0 0) → (k : Kind) → k ≡ kind_of n → number_of k ≡ kind_at t
unfolding kind_at
kind_told t w n e k f = let few : n < 16 = omega (arith, w, e) in ap number_of f ∙ number_back n few ∙ e

module _ (t : List ℕ) (l : Lent) where
  calls_number : (n : ℕ) → call_of t (view_of l) ≡ refused_by n (view_of l) → Calls t l n l
  unfolding refused_by
  calls_number n e = record { called = sym e; refused = λ h. refl; like = like_same l.stores }

  pub calls_short : length l.out < answer_width → Calls t l answer_too_short l
  calls_short h = calls_number answer_too_short (refused_by_slice t (view_of l) h)

  module _ (room : answer_width ≤ length l.out) where
    -- "2", "3" and "4", by the check of a data request
    pub calls_refusal : (n : ℕ) → n ≡ refusal_of t → (n ≡ 0 → ⊥) → Calls t l n l
    calls_refusal zero e h = absurd (h refl)
    calls_refusal (suc n) e h = calls_number (suc n) (refused_by_request t (view_of l) room n (sym e))

    pub data_refused : {A : Type 0} (x : Result A Refusal) → result_number x ≡ refusal_of t → (refusal : Refusal) → x ≡ Err refusal → Calls t l (refusal_number refusal) l
    data_refused x p refusal e = calls_refusal (refusal_number refusal) (sym (ap result_number e) ∙ p) (refusal_some refusal)

    pub calls_empty : length t ≡ 0 → Calls t l wrong_count l
    unfolding refusal_of
    calls_empty h = calls_refusal wrong_count (rw (sym (shape_empty t (omega arith))) refl) (λ e. omega arith)

    -- and by the whole check
    module _ (x : Result Request Refusal) (checked : x ≡ check_of t) where
      pub calls_refused : (refusal : Refusal) → x ≡ Err refusal → Calls t l (refusal_number refusal) l
      calls_refused refusal e =
          calls_refusal (refusal_number refusal) (refused_told t refusal (sym checked ∙ e)) (refusal_some refusal)

    module _ (z : refusal_of t ≡ 0) where
      -- "5: range, pair or partner rule broken"
      calls_unsound : sound l.stores ≡ false → Calls t l damaged_store l
      calls_unsound v = calls_number damaged_store (refused_by_stores t (view_of l) room z v)

      pub calls_data_invalid : (b : Bool) → b ≡ data_valid l.stores.data_words → not b ≡ true → Calls t l damaged_store l
      unfolding sound
      calls_data_invalid b v n = calls_unsound (rw (sym v ∙ not-true b n) refl)

      pub calls_group_invalid : data_valid l.stores.data_words ≡ true → (b : Bool) → b ≡ group_valid l.stores.group_words → not b ≡ true →
          Calls t l damaged_store l
      unfolding sound
      calls_group_invalid u b v n = calls_unsound (rw (u, sym v ∙ not-true b n) refl)

      -- ---- the work

      module _ (v : sound l.stores ≡ true) where
        served_call_of : served_by t (view_of l) ≡ call_of t (view_of l)
        unfolding served_by step ruling unless_refused
        served_call_of = sym (call_of_long t (view_of l) v room ∙ rw z refl)

        calls_served : (r : ℕ) (after : Lent) → Serves t l r after → Calls t l r after
        calls_served r after s = record { called = s.served ∙ served_call_of; refused = s.refused; like = s.like }

-- ---- a part that is lent one store

module _ (t d g o : List ℕ) (k : ℕ) (a : DataAsked t k) (room : answer_width ≤ length o) (v : sound (stores d g) ≡ true) (r : ℕ) (after o-after : List ℕ) where
  pub calls_data : ServesData t d o r after o-after → Calls t (lent d g o) r (lent after g o-after)
  calls_data s = calls_served t (lent d g o) room a.passed v r (lent after g o-after) (s.served g (group_valid_lem (stores d g) v))

module _ (t g o : List ℕ) (room : answer_width ≤ length o) (v : group_valid g ≡ true) where
  pub group_refused : (x : Result Request Refusal) → x ≡ check_of t → (refusal : Refusal) → x ≡ Err refusal → CallsGroup t g o (refusal_number refusal) g o
  group_refused x e refusal h = record { called = λ d u. calls_refused t (lent d g o) room x e refusal h }

  pub group_served : (f : Request) → Asked t f → (r : ℕ) (after o-after : List ℕ) → ServesGroup t g o r after o-after → CallsGroup t g o r after o-after
  group_served f a r after o-after s =
      record {
        called = λ d u. calls_served t (lent d g o) room (accepted_passed t f a.checked).refusal (sound_both d g u v) r (lent d after o-after) (s.served d u);
      }

-- ---- slices lent whole, as parts

whole : (s : List ℕ) → take (length s - 0) s ≡ s
whole s = take_all (length s - 0) s (omega arith)

whole_after : (s u : List ℕ) → u ++ drop (length s - 0) s ≡ u
whole_after s u = let e : drop (length s - 0) s ≡ [] = drop_of_length-le s {i = length s - 0} (omega arith) in rw e (append-nil u)

-- The group store's part.
module _ (t d g : List ℕ) (v : sound (stores d g) ≡ true) where
  pub group_ready : (k : ℕ) → k ≡ kind_at t → (b : Bool) → b ≡ is_data k → b ≡ false →
      (group_valid (take (length g - 0) g) ≡ true) × (is_data (kind_at (take (length t - 0) t)) ≡ false)
  group_ready k e b h n = rw (whole g, whole t) (group_valid_lem (stores d g) v, ap is_data (sym e) ∙ sym h ∙ n)

  pub group_done : (o : List ℕ) (r : ℕ) (after o-after : List ℕ) → CallsGroup (take (length t - 0) t) (take (length g - 0) g) o r after o-after →
      Calls t (lent d g o) r (lent d (after ++ drop (length g - 0) g) o-after)
  group_done o r after o-after c =
      let s : CallsGroup t g o r after o-after = rw (← whole t, ← whole g) c in
      rw (whole_after g after) (s.called d (data_valid_lem (stores d g) v))
