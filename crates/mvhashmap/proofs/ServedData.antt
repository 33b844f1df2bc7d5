-- What each operation's promise, and its answer put into the slice, come to: the store's part of the call.
-- Assumes nothing.
use mathlib.Core.Path.{◌≡◌, refl, ap, ◌∙◌, sym}
use mathlib.Core.Bool.{true}
use mathlib.Core.List.{List}
use mathlib.Core.Option.{Option}
use Prim.Native.Nat.{ℕ, suc, ◌+◌}
use lib.ListN.{get_or}
use Rattle.types.specs.Index.{shifted_of, word_of}
use Rattle.types.specs.Value.{value_at}
use Rattle.types.specs.ValueWithLayout.{words_of, value_from}
use Rattle.types.specs.declared.output.MVDataOutput.TheVariants.{Versioned}
use Rattle.std.specs.Prelude.{Result, Ok, Some, IfSome}
use Rattle.std.specs.Prelude.{Option as Perhaps}
use Rattle.types.specs.declared.refusal.Refusal.{Refusal}
use Rattle.types.specs.declared.index.ShiftedTxnIndex.{ShiftedTxnIndex}
use Rattle.types.specs.declared.value.ValueWithLayout.{ValueWithLayout}
use Rattle.versioned_data.specs.First.{Wrote}
use Rattle.versioned_data.proofs.WalkSteps.{versioned_is}
use Rattle.versioned_group_data.specs.Ruled.{answer_in}
use Rattle.types.specs.declared.output.MVDataOutput.{MVDataOutput}
use Rattle.model.specs.Rows.{find, down_from, Edit}
use Rattle.model.specs.Data.{Entry, Ruling, versioned_answer, read_of, fetch_data, materialize_delta}
use Rattle.model.specs.Model.{read_data, edit_data}
use Rattle.model.proofs.ReadFacts.{read_of_fine}
use Rattle.model.proofs.FineEntries.{fine_down_from}
use Rattle.versioned_data.specs.Layout.{entries_in, data_valid}
use Rattle.versioned_data.specs.Output.{output_of}
use Rattle.versioned_data.specs.Edited.{Edited}
use Rattle.versioned_data.specs.Materialize.{told_by, Materializes}
use Rattle.number.specs.declared.Number.{Number}
use Rattle.delta.specs.declared.DeltaOp.{DeltaOp}
use Rattle.versioned_data.proofs.EntriesHeld as Entries
use Rattle.mvhashmap.specs.Answer.{done_ruling, output_answer, output_ruling, materialized_ruling, result_by, out_by, Put}
use Rattle.mvhashmap.specs.Served.{ServesData}
use Rattle.mvhashmap.proofs.AnswerOutputs.{output_kept}
use Rattle.mvhashmap.proofs.AskedData.{Asks}
use Rattle.mvhashmap.proofs.ServedWorks.{edits_data, reads_data}
use Rattle.mvhashmap.proofs.AnswerDones.{IsDone, done_told, data_number, materialized_told}

module _ (t d o : List ℕ) (r : ℕ) (out : List ℕ) (v : data_valid d ≡ true) where
  pub serves_edit : (key place reach : ℕ) (rule : Option Entry → Ruling (Edit Entry)) → Asks t (edit_data key place reach (λ own seen. rule own)) →
      ((own : Option Entry) → IsDone (rule own)) → (n : ℕ) (after : List ℕ) → Edited d key place rule n after → Put (done_ruling n) o r out → ServesData t d o r after out
  serves_edit key place reach rule a h n after p q =
      edits_data t o r out d key place reach (λ own seen. rule own) after a
      (done_told _ (rule (find key place (entries_in d))) n o out r (h (find key place (entries_in d)))
      (p.result ∙ data_number d key place (rule (find key place (entries_in d)))) q)
      p.left

  module _ (key index : ℕ) where
    pub serves_fetch : Asks t (read_data key index fetch_data) → (x : Result MVDataOutput Refusal) → x ≡ output_of (read_of (down_from key index (entries_in d))) →
        Put (output_ruling x) o r out → ServesData t d o r d out
    unfolding fetch_data
    serves_fetch a x h q = reads_data t o r out d v key index fetch_data a (rw (ap output_ruling h ∙ kept) at q)
      where
        kept : output_ruling (output_of (read_of (down_from key index (entries_in d)))) ≡ fetch_data (down_from key index (entries_in d))
        kept = output_kept (read_of (down_from key index (entries_in d))) (read_of_fine (down_from key index (entries_in d)) (fine_down_from key index (entries_in d) (Entries.fine_valid d v)))

    -- a fetch that ends at a write, answered from the store's words
    pub serves_write : Asks t (read_data key index fetch_data) → r ≡ 0 → (content place : ℕ) → Wrote d key index content place →
        out ≡ answer_in (versioned_answer place (get_or d content 0) (words_of (value_from (value_at (content + 1) d)))) o → ServesData t d o r d out
    unfolding output_ruling output_answer result_by out_by
    serves_write a z content place h g =
        serves_fetch a (Ok (Versioned (shifted_of place) (get_or d content 0) (value_from (value_at (content + 1) d))))
        (versioned_is (shifted_of place) (get_or d content 0) (value_from (value_at (content + 1) d)) (value_at (content + 1) d) refl ∙ ap output_of (sym h.read))
        (record { result = z; words = g })

    pub serves_materialize : Asks t (edit_data key (suc index) (suc index) materialize_delta) → (x : Result (Result Number DeltaOp) Refusal) (after : List ℕ) →
        Materializes d key (suc index) (λ own. materialize_delta own (down_from key (suc index) (entries_in d))) (read_of (down_from key (suc index) (entries_in d))) x after →
        Put (materialized_ruling (told_by x)) o r out → ServesData t d o r after out
    unfolding materialize_delta
    serves_materialize a x after p q =
        edits_data t o r out d key (suc index) (suc index) materialize_delta after a
        (rw (ap materialized_ruling p.answer ∙ materialized_told d v key (suc index) (read_of (down_from key (suc index) (entries_in d))) _ refl) at q)
        p.left

-- the write's answer, by the code's values
pub write_put_lem : (o out : List ℕ) (at : ShiftedTxnIndex) (place : ℕ) → at ≡ shifted_of place → (i : ℕ) (v w : ValueWithLayout) → v ≡ w →
    out ≡ answer_in (versioned_answer (word_of at) i (words_of v)) o → out ≡ answer_in (versioned_answer place i (words_of w)) o
write_put_lem o out at place e i v w f g = let same : word_of at ≡ place = ap word_of e in g ∙ rw (same, f)

-- What holds of what was found.
pub some_wrote : {A : Type 0} (P : A → Type 0) (o : Perhaps A) (w : A) → o ≡ Some w → IfSome o P → P w
some_wrote P o w e h = rw e at h
