-- Answers in the answer slice: a head and the words after it, stored in turn, and what each case of an answer puts.
-- Assumes nothing.
use mathlib.Core.Path.{◌≡◌, refl, sym, ap, ◌∙◌}
use mathlib.Core.List.{List, [], ◌∷◌}
use Prim.Native.Nat.{ℕ, ◌+◌, ◌≤◌, ◌<◌}
use native.Mathlib.Nat.{zero-add}
use native.Mathlib.Omega.{arith}
use lib.ListN.{length, set}
use lib.Seq.{sets, sets-eq}
use borrow.Author.Tests.{ne_eqb}
use Rattle.types.specs.Value.{value_width}
use Rattle.types.specs.Response.{head_of, response, answer_number, done_kind, versioned_kind, versioned_at_base_kind, answer_width}
use Rattle.types.specs.Index.{index_of}
use Rattle.types.specs.ValueWithLayout.{words_of}
use Rattle.std.specs.Prelude.{Result, Ok, Err}
use Rattle.types.specs.declared.response.AnswerKind.{AnswerKind}
use Rattle.types.specs.declared.response.AnswerKind.TheVariants.{Done, Versioned, Resolved, Unresolved, Uninitialized, TagNotFound, Dependency, DeltaApplicationFailure, Size, Committed, WroteOutside, VersionedAtBase}
use Rattle.number.specs.declared.Number.{Number}
use Rattle.delta.specs.declared.DeltaOp.{DeltaOp}
use Rattle.types.specs.Refusal.{refusal_number, result_number}
use Rattle.versioned_data.specs.Materialize.{told_by}
use Rattle.versioned_group_data.specs.declared.update.Written.{Written}
use Rattle.versioned_group_data.proofs.Results.{refusal_some}
use Rattle.mvhashmap.specs.GroupAnswer.{written_answer, written_ruling}
use Rattle.types.specs.declared.refusal.Refusal.{Refusal}
use Rattle.types.specs.declared.output.MVDataOutput.{MVDataOutput}
use Rattle.types.specs.declared.output.MVGroupOutput.{MVGroupOutput}
use Rattle.types.specs.declared.index.StorageVersion.{StorageVersion}
use Rattle.types.specs.declared.value.ValueWithLayout.{ValueWithLayout}
use Rattle.types.proofs.AnswersTold.{index_told, storage_told}
use Rattle.types.proofs.ValueLaws.{words_length}
use Rattle.model.specs.Data.{Ruling, refuse, accept, done_answer, versioned_answer}
use Rattle.versioned_group_data.specs.Ruled.{answer_in}
use Rattle.mvhashmap.specs.Answer.{respond, materialized_answer, materialized_ruling, output_answer, output_ruling, group_output_answer, group_output_ruling, done_ruling, result_by, out_by, Put}

pub sets_answer_in : (answer out : List ℕ) → length answer ≤ length out → sets out 0 answer ≡ answer_in answer out
unfolding answer_in
sets_answer_in answer out h = sets-eq answer out 0 (omega arith) ∙ simp zero-add refl

-- Four bits hold a kind of answer.
pub kind_small : (k : AnswerKind) → answer_number k ≤ 15
kind_small Done = omega arith
kind_small Versioned = omega arith
kind_small Resolved = omega arith
kind_small Unresolved = omega arith
kind_small Uninitialized = omega arith
kind_small TagNotFound = omega arith
kind_small Dependency = omega arith
kind_small DeltaApplicationFailure = omega arith
kind_small Size = omega arith
kind_small Committed = omega arith
kind_small WroteOutside = omega arith
kind_small VersionedAtBase = omega arith

-- A head, and the words after it.
pub put_response : (kind n : ℕ) (words out first after : List ℕ) → length words ≡ n → n < answer_width → answer_width ≤ length out →
    first ≡ set out 0 (head_of kind n) → after ≡ sets first 1 words → after ≡ answer_in (response kind words) out
unfolding response
put_response kind n words out first after e few room h w =
    w
    ∙ ap (λ (l : List ℕ). sets l 1 words) h
    ∙ ap (λ (k : ℕ). sets (set out 0 (head_of kind k)) 1 words) (sym e)
    ∙ sets_answer_in (head_of kind (length words) ∷ words) out (omega arith)

pub put_bare_lem : (kind : ℕ) (out after : List ℕ) → answer_width ≤ length out → after ≡ set out 0 (head_of kind 0) → after ≡ answer_in (response kind []) out
put_bare_lem kind out after room h = put_response kind 0 [] out after after refl (omega arith) room h refl

-- What a case of an answer puts.
module _ {T : Type 0} (f : T → Ruling Unit) (o p : T) (e : o ≡ p) (out : List ℕ) where
  pub put_accepted : (answer after : List ℕ) → f p ≡ accept answer tt → after ≡ answer_in answer out → Put (f o) out 0 after
  unfolding result_by out_by
  put_accepted answer after h w = rw (e, h) (record { result = refl; words = w })

  pub put_refused : (n : ℕ) → f p ≡ refuse n → Put (f o) out n out
  unfolding result_by out_by
  put_refused n h = rw (e, h) (record { result = refl; words = refl })

-- What an operation came to.
module _ {A : Type 0} (r : Result A Refusal) (out : List ℕ) where
  pub done_put : (a : A) → r ≡ Ok a → (after : List ℕ) → after ≡ answer_in (response done_kind []) out → Put (done_ruling (result_number r)) out 0 after
  unfolding done_ruling done_answer
  done_put a e after w = put_accepted (λ (x : Result A Refusal). done_ruling (result_number x)) r (Ok a) e out done_answer after refl w

  pub done_refused : (refusal : Refusal) → r ≡ Err refusal → Put (done_ruling (result_number r)) out (refusal_number refusal) out
  unfolding done_ruling
  done_refused refusal e =
      put_refused (λ (x : Result A Refusal). done_ruling (result_number x)) r (Err refusal) e out (refusal_number refusal)
      (rw (ne_eqb (refusal_number refusal) 0 (refusal_some refusal)) refl)

-- "1 Versioned (index, incarnation, value); 11 Versioned at the base (value)"
module _ (at incarnation : ℕ) (v : ValueWithLayout) (out first after : List ℕ) (room : answer_width ≤ length out) (i : Result ℕ StorageVersion) (e : i ≡ index_of at) where
  pub versioned_at_base : (base : StorageVersion) → i ≡ Err base → first ≡ set out 0 (head_of versioned_at_base_kind value_width) → after ≡ sets first 1 (words_of v) →
      after ≡ answer_in (versioned_answer at incarnation (words_of v)) out
  unfolding versioned_answer
  versioned_at_base base b h w =
      rw (storage_told at base (sym e ∙ b)) (put_response versioned_at_base_kind value_width (words_of v) out first after (words_length v) (omega arith) room h w)

  pub versioned_at_index : (index : ℕ) → i ≡ Ok index → first ≡ set out 0 (head_of versioned_kind (2 + value_width)) →
      after ≡ sets (set (set first 1 index) 2 incarnation) 3 (words_of v) → after ≡ answer_in (versioned_answer at incarnation (words_of v)) out
  unfolding versioned_answer
  versioned_at_index index b h w =
      rw (index_told at index (sym e ∙ b))
      (put_response versioned_kind (2 + value_width) (index ∷ incarnation ∷ words_of v) out first after (omega (arith, words_length v)) (omega arith) room h w)

-- What a read of a group finds is answered, whatever it is.
pub group_put : (o : MVGroupOutput) (out after : List ℕ) → after ≡ answer_in (group_output_answer o) out → Put (group_output_ruling o) out 0 after
unfolding group_output_ruling result_by out_by
group_put o out after w = record { result = refl; words = w }

-- And of a value.
module _ (x : Result MVDataOutput Refusal) (out : List ℕ) where
  pub data_put : (o : MVDataOutput) → x ≡ Ok o → (after : List ℕ) → after ≡ answer_in (output_answer o) out → Put (output_ruling x) out 0 after
  unfolding output_ruling
  data_put o e after w = put_accepted output_ruling x (Ok o) e out (output_answer o) after refl w

  pub data_refused : (refusal : Refusal) → x ≡ Err refusal → Put (output_ruling x) out (refusal_number refusal) out
  unfolding output_ruling
  data_refused refusal e = put_refused output_ruling x (Err refusal) e out (refusal_number refusal) refl

-- And of a delta that was materialised.
module _ (x : Result (Result Number DeltaOp) Refusal) (out : List ℕ) where
  pub materialized_put : (m : Result Number DeltaOp) → x ≡ Ok m → (after : List ℕ) → after ≡ answer_in (materialized_answer m) out →
      Put (materialized_ruling (told_by x)) out 0 after
  unfolding materialized_ruling materialized_answer respond
  materialized_put (Ok n) e after w = put_accepted (λ y. materialized_ruling (told_by y)) x (Ok (Ok n)) e out (materialized_answer (Ok n)) after refl w
  materialized_put (Err op) e after w = put_accepted (λ y. materialized_ruling (told_by y)) x (Ok (Err op)) e out (materialized_answer (Err op)) after refl w

  pub materialized_refused : (refusal : Refusal) → x ≡ Err refusal → Put (materialized_ruling (told_by x)) out (refusal_number refusal) out
  unfolding materialized_ruling
  materialized_refused refusal e = put_refused (λ y. materialized_ruling (told_by y)) x (Err refusal) e out (refusal_number refusal) refl

-- And of a group write.
module _ (x : Result Written Refusal) (out : List ℕ) where
  pub written_put : (w : Written) → x ≡ Ok w → (after : List ℕ) → after ≡ answer_in (written_answer w) out → Put (written_ruling x) out 0 after
  unfolding written_ruling
  written_put w e after h = put_accepted written_ruling x (Ok w) e out (written_answer w) after refl h

  pub written_refused : (refusal : Refusal) → x ≡ Err refusal → Put (written_ruling x) out (refusal_number refusal) out
  unfolding written_ruling
  written_refused refusal e = put_refused written_ruling x (Err refusal) e out (refusal_number refusal) refl

-- What cannot be refused is done.
pub done_always : (out after : List ℕ) → after ≡ answer_in (response done_kind []) out → Put (done_ruling 0) out 0 after
unfolding done_ruling result_by out_by done_answer
done_always out after w = record { result = refl; words = w }
