-- A call, or a part of one, whose answer goes into the front of a slice: what is past the longest answer stays.
-- Assumes nothing.
use mathlib.Core.Path.{◌≡◌, refl, sym, ap, ◌∙◌}
use mathlib.Core.Bool.{true}
use mathlib.Core.List.{List, ◌++◌, append_assoc}
use Prim.Native.Nat.{ℕ, zero, suc, ◌≤◌}
use native.Mathlib.Omega.{arith}
use lib.ListN.{length, take, drop}
use Rattle.std.proofs.lemmas.List.{take-append-drop, drop-append-le, length-append, length-take, length-drop}
use Rattle.types.specs.Response.{response, answer_width}
use Rattle.types.specs.ValueWithLayout.{words_of}
use Rattle.types.specs.declared.value.ValueWithLayout.{ValueWithLayout}
use Rattle.types.proofs.ValueLaws.{words_length}
use Rattle.request.specs.Request.{refusal_of, request_of}
use Rattle.model.specs.Data.{Ruling, refuse, accept, versioned_answer}
use Rattle.model.specs.Model.{Model, first_of, unless_refused, step, work_of, perform, unless_full}
use Rattle.versioned_group_data.specs.Ruled.{answer_in}
use Rattle.mvhashmap.specs.Call.{Lent, Known, known, View, CalledView, called_view, store_refusal, early_refusal, refused_by, called_by, call_of, lent, known_of, stores, Calls}
use Rattle.mvhashmap.specs.Served.{served_by, Serves, ServesData, ServesGroup}
use Rattle.mvhashmap.proofs.CallOrder.{long_slice}

abbrev view : Known → List ℕ → View
view k o = record { stores = k; out = o }

ruling_of : List ℕ → Known → Ruling Model
ruling_of t k = unless_refused (first_of (refusal_of t) (store_refusal k)) (step k.fixed k.model t)

call_of_ruling : (t : List ℕ) (k : Known) (o : List ℕ) → answer_width ≤ length o → call_of t (view k o) ≡ called_by (view k o) (ruling_of t k)
unfolding call_of early_refusal first_of ruling_of
call_of_ruling t k o room = rw (long_slice o room) refl

module _ (o p : List ℕ) (room : answer_width ≤ length o) where
  abbrev front : List ℕ
  front = take answer_width o

  abbrev past : List ℕ
  past = drop answer_width o

  front_length : length front ≡ answer_width
  front_length = simp length-take (omega (arith, room))

  answer_past : (answer : List ℕ) → length answer ≤ answer_width → answer_in answer front ++ past ≡ answer_in answer o
  unfolding answer_in
  answer_past answer few =
      append_assoc answer (drop (length answer) front) past
      ∙ ap (λ (l : List ℕ). answer ++ l) (sym (drop-append-le (length answer) front past (omega (arith, few, front_length))) ∙ ap (drop (length answer)) (take-append-drop answer_width o))

  answer_fits : length p ≡ answer_width → (answer : List ℕ) → p ≡ answer_in answer front → length answer ≤ answer_width
  unfolding answer_in
  answer_fits e answer h = omega (arith, e, ap length h ∙ length-append answer (drop (length answer) front))

  called_past : length p ≡ answer_width → (k j : Known) (r : ℕ) (R : Ruling Model) → called_view r (view j p) ≡ called_by (view k front) R → called_view r (view j (p ++ past)) ≡ called_by (view k o) R
  unfolding called_by refused_by
  called_past e k j r (refuse n) h =
      ap (λ (c : CalledView). called_view c.result (view c.view.stores (c.view.out ++ past))) h
      ∙ ap (λ (l : List ℕ). called_view n (view k l)) (take-append-drop answer_width o)
  called_past e k j r (accept answer m) h =
      ap (λ (c : CalledView). called_view c.result (view c.view.stores (c.view.out ++ past))) h
      ∙ ap (λ (l : List ℕ). called_view 0 (view (known k.fixed true m) l))
      (answer_past answer (answer_fits e answer (ap (λ (c : CalledView). c.view.out) h)))

-- What holds of the front holds of the whole.
pub calls_front : (t d g o front p : List ℕ) (r : ℕ) (d-after g-after : List ℕ) → answer_width ≤ length o → front ≡ take answer_width o → length p ≡ answer_width →
    Calls t (lent d g front) r (lent d-after g-after p) → Calls t (lent d g o) r (lent d-after g-after (p ++ drop answer_width o))
calls_front t d g o front p r d-after g-after room s e c =
    let f : Calls t (lent d g (take answer_width o)) r (lent d-after g-after p) = rw (← s) c in
    record {
      called = called_past o p room e (known_of (stores d g)) (known_of (stores d-after g-after)) r (ruling_of t (known_of (stores d g)))
          (f.called ∙ call_of_ruling t (known_of (stores d g)) (take answer_width o) (omega (arith, front_length o p room)))
          ∙ sym (call_of_ruling t (known_of (stores d g)) o room);
      refused = λ z. ap (λ (l : Lent). lent l.stores.data_words l.stores.group_words (l.out ++ drop answer_width o)) (f.refused z) ∙ ap (lent d g) (take-append-drop answer_width o);
      like = f.like;
    }

-- A write's answer leaves the front as long as it was.
versioned_few : (place incarnation : ℕ) (v : ValueWithLayout) → length (versioned_answer place incarnation (words_of v)) ≤ answer_width
unfolding versioned_answer response
versioned_few zero incarnation v = omega (arith, words_length v)
versioned_few (suc index) incarnation v = omega (arith, words_length v)

pub versioned_size : (o front p : List ℕ) → answer_width ≤ length o → front ≡ take answer_width o → (place incarnation : ℕ) (v : ValueWithLayout) →
    p ≡ answer_in (versioned_answer place incarnation (words_of v)) front → length p ≡ answer_width
unfolding answer_in
versioned_size o front p room same place incarnation v h =
    let answer : List ℕ = versioned_answer place incarnation (words_of v) in
    let size : length front ≡ answer_width = ap length same ∙ front_length o p room in
    ap length h ∙ length-append answer (drop (length answer) front) ∙ simp length-drop (omega (arith, size, versioned_few place incarnation v))

-- And of what a part of the call leaves.
module _ (o front p : List ℕ) (room : answer_width ≤ length o) (same : front ≡ take answer_width o) (size : length p ≡ answer_width) where
  pub answer_front : (answer : List ℕ) → p ≡ answer_in answer front → p ++ drop answer_width o ≡ answer_in answer o
  answer_front answer h =
      let e : p ≡ answer_in answer (take answer_width o) = h ∙ ap (answer_in answer) same in
      ap (λ (l : List ℕ). l ++ drop answer_width o) e ∙ answer_past o p room answer (answer_fits o p room size answer e)

  module _ (t : List ℕ) (r : ℕ) where
    serves_front : (d g d-after g-after : List ℕ) → Serves t (lent d g front) r (lent d-after g-after p) → Serves t (lent d g o) r (lent d-after g-after (p ++ drop answer_width o))
    unfolding served_by
    serves_front d g d-after g-after c =
        let f : Serves t (lent d g (take answer_width o)) r (lent d-after g-after p) = rw (← same) c in
        let k : Known = known_of (stores d g) in
        record {
          served = called_past o p room size k (known_of (stores d-after g-after)) r (unless_full k.fixed (perform (work_of (request_of t)) k.model)) f.served;
          refused = λ z. ap (λ (l : Lent). lent l.stores.data_words l.stores.group_words (l.out ++ drop answer_width o)) (f.refused z) ∙ ap (lent d g) (take-append-drop answer_width o);
          like = f.like;
        }

    pub data_front : (d after : List ℕ) → ServesData t d front r after p → ServesData t d o r after (p ++ drop answer_width o)
    data_front d after s = record { served = λ g v. serves_front d g after g (s.served g v) }

    pub group_front : (g after : List ℕ) → ServesGroup t g front r after p → ServesGroup t g o r after (p ++ drop answer_width o)
    group_front g after s = record { served = λ d v. serves_front d g d after (s.served d v) }
