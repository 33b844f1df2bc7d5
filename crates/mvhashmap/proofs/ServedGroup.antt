-- What each operation's promise on the group store, and its answer put into the slice, come to: the store's part of the call.
-- Assumes nothing.
use mathlib.Core.Path.{◌≡◌, refl, sym, ap, ◌∙◌}
use mathlib.Core.Bool.{Bool, true, false, cond}
use mathlib.Core.List.{List, []}
use mathlib.Core.Option.{Option}
use Prim.Native.Nat.{ℕ, zero, suc}
use native.Mathlib.Omega.{arith}
use lib.Dec.{eqb, eqb-suc-zero}
use lib.ListN.{length}
use Rattle.lists.specs.Lists.{every}
use Rattle.types.specs.Response.{response, wrote_outside_kind}
use Rattle.types.specs.declared.output.MVGroupOutput.{MVGroupOutput}
use Rattle.types.specs.declared.output.MVGroupOutput.TheVariants.{Uninitialized}
use Rattle.types.specs.Units.{units_in}
use Rattle.types.proofs.UnitLaws.{lack_none}
use Rattle.request.specs.Set.{Member}
use Rattle.model.specs.Rows.{Row, find, down_from, Edit, edited}
use Rattle.model.specs.Data.{Ruling, refuse, accept, done_answer}
use Rattle.model.specs.Group.{Update, Committed, Commits, commits, members_in, outside, write_group, latest, has_base, fetch_tagged_data, all_tags, size_over, get_group_size, committed_answer, get_last_committed_group, finalize_group}
use Rattle.model.specs.Model.{read_group, edit_group, commit_group, ruled}
use Rattle.model.specs.Fine.{fine_update}
use Rattle.model.proofs.RowMaps.{every_down_from}
use Rattle.model.proofs.FineGroupReads.{latest_fine}
use Rattle.group_slots.specs.Layout.{Groups, groups_in, group_valid, held_by, lack_in, fits_in}
use Rattle.versioned_group_data.specs.Ruled.{editing, with_group_commits, committing, result_of, answer_in, answer_after, Ruled, Answered}
use Rattle.versioned_group_data.specs.Left.{LeftIf, LeftBy}
use Rattle.versioned_group_data.specs.Output.{latest_output, size_output}
use Rattle.versioned_group_data.specs.Written.{written_of, Writes}
use Rattle.versioned_group_data.specs.declared.update.Written.{Written}
use Rattle.std.specs.Prelude.{Result, Ok, Err, IfOk}
use Rattle.types.specs.Refusal.{refusal_number, result_number}
use Rattle.types.specs.declared.refusal.Refusal.{Refusal}
use Rattle.versioned_group_data.proofs.Results.{refusal_some}
use Rattle.group_slots.proofs.GroupHolding.{every_valid, few_valid}
use Rattle.mvhashmap.specs.Answer.{done_ruling, group_output_ruling, result_by, out_by, Put}
use Rattle.mvhashmap.specs.GroupAnswer.{written_answer, written_ruling}
use Rattle.mvhashmap.specs.Served.{ServesGroup}
use Rattle.mvhashmap.proofs.AnswerOutputs.{latest_kept, size_kept}
use Rattle.mvhashmap.proofs.AskedData.{Asks}
use Rattle.mvhashmap.proofs.StoresLeft.{group_left, committed_left}
use Rattle.mvhashmap.proofs.ServedWorks.{told_of, told, reads_group, edits_group, commits_group}
use Rattle.mvhashmap.proofs.AnswerDones.{IsDone, ruled_done, done_told, group_number}

group_out : (g o : List ℕ) (R : Ruling Groups) → out_by (told (lack_in g) R) o ≡ answer_after g R o
unfolding answer_after fits_in told told_of out_by
group_out g o (refuse n) = refl
group_out g o (accept answer x) = go (lack_in g x)
  where
    go : (n : ℕ) → out_by (told_of n answer) o ≡ cond (eqb n 0) (answer_in answer o) o
    go zero = refl
    go (suc n) = rw (eqb-suc-zero n) refl

-- What a write answers is what its rule tells.
module _ (g : List ℕ) (key place incarnation : ℕ) (ms : List Member) where
  abbrev wrote : Ruling Groups
  wrote = editing (groups_in g) key place (write_group incarnation ms)

  abbrev past : Bool
  past = outside ms (members_in (find key place (groups_in g).updates))

  wrote_as : (w : Written) → w ≡ written_of past → result_of g wrote ≡ 0 → written_ruling (Ok w) ≡ told (lack_in g) wrote
  unfolding editing write_group ruled told result_of written_ruling written_answer written_of told_of
  wrote_as w e z = rw e (go (lack_in g _) past z)
    where
      go : (n : ℕ) (out : Bool) → n ≡ 0 → accept (written_answer (written_of out)) tt ≡ told_of n (cond out (response wrote_outside_kind []) done_answer)
      go zero true h = refl
      go zero false h = refl
      go (suc n) out h = absurd (omega arith)

  refused_as : (refusal : Refusal) → refusal_number refusal ≡ result_of g wrote → written_ruling (Err refusal) ≡ told (lack_in g) wrote
  unfolding editing write_group ruled told result_of written_ruling told_of
  refused_as refusal z = go (lack_in g _) z
    where
      go : (n : ℕ) → refusal_number refusal ≡ n → refuse (refusal_number refusal) ≡ told_of n (cond past (response wrote_outside_kind []) done_answer)
      go zero h = absurd (refusal_some refusal h)
      go (suc n) h = rw h refl

  written_told : (x : Result Written Refusal) → result_number x ≡ result_of g wrote → IfOk x (λ w. w ≡ written_of past) → written_ruling x ≡ told (lack_in g) wrote
  written_told (Ok w) z e = wrote_as w e (sym z)
  written_told (Err refusal) z e = refused_as refusal z

-- What is answered is what the rule tells.
answered_told : (g o : List ℕ) (R : Ruling Groups) (r : ℕ) (after out : List ℕ) → Answered g o R r after out → Put (told (lack_in g) R) o r out
answered_told g o R r after out x = record { result = x.result ∙ group_number g R; words = x.answer ∙ sym (group_out g o R) }

module _ (t g o : List ℕ) (r : ℕ) (out : List ℕ) (v : group_valid g ≡ true) where
  pub serves_group_edit : (key place : ℕ) (rule : Option Update → Ruling (Edit Update)) → Asks t (edit_group key place rule) →
      ((own : Option Update) → IsDone (rule own)) → (n : ℕ) (after : List ℕ) → Ruled g (editing (groups_in g) key place rule) n after →
      Put (done_ruling n) o r out → ServesGroup t g o r after out
  unfolding editing
  serves_group_edit key place rule a h n after p q =
      edits_group t o r out g key place rule after a
      (done_told (lack_in g) (editing (groups_in g) key place rule) n o out r done (p.result ∙ group_number g (editing (groups_in g) key place rule)) q)
      (group_left g v t key place rule a after p.words)
    where
      done : IsDone (editing (groups_in g) key place rule)
      done = ruled_done _ (rule (find key place (groups_in g).updates)) (h (find key place (groups_in g).updates))

  pub serves_group_commit : (key place : ℕ) (rule : Option Update → Committed → Ruling Commits) → Asks t (commit_group key place rule) →
      ((own : Option Update) (group : Committed) → IsDone (rule own group)) → (n : ℕ) (after : List ℕ) →
      Ruled g (committing (groups_in g) key place rule) n after → Put (done_ruling n) o r out → ServesGroup t g o r after out
  unfolding committing
  serves_group_commit key place rule a h n after p q =
      commits_group t o r out g key place rule after a
      (done_told (lack_in g) (committing (groups_in g) key place rule) n o out r done (p.result ∙ group_number g (committing (groups_in g) key place rule)) q)
      (committed_left g v t key place rule a after p.words)
    where
      done : IsDone (committing (groups_in g) key place rule)
      done =
          ruled_done (with_group_commits (groups_in g) key place) (rule (find key place (groups_in g).updates) (groups_in g).committed)
          (h (find key place (groups_in g).updates) (groups_in g).committed)

  pub serves_group_write : (key place incarnation : ℕ) (ms : List Member) → Asks t (edit_group key place (write_group incarnation ms)) →
      (x : Result Written Refusal) (after : List ℕ) → Writes g key place incarnation ms x after → Put (written_ruling x) o r out → ServesGroup t g o r after out
  serves_group_write key place incarnation ms a x after p q =
      edits_group t o r out g key place (write_group incarnation ms) after a
      (rw (written_told g key place incarnation ms x p.result p.answer) at q)
      (group_left g v t key place (write_group incarnation ms) a after p.words)

  module _ (key index : ℕ) where
    abbrev seen : List (Row Update)
    seen = down_from key index (groups_in g).updates

    seen_fine : every fine_update seen ≡ true
    seen_fine = every_down_from fine_update key index (groups_in g).updates (every_valid g v)

    pub serves_group_fetch : (tag : ℕ) → Asks t (read_group key index (fetch_tagged_data tag)) → (x : MVGroupOutput) →
        x ≡ latest_output (has_base seen) (latest tag seen) → Put (group_output_ruling x) o r out → ServesGroup t g o r g out
    unfolding fetch_tagged_data
    serves_group_fetch tag a x h q = reads_group t o r out g v key index (fetch_tagged_data tag) a (rw (ap group_output_ruling h ∙ kept) at q)
      where
        kept : group_output_ruling (latest_output (has_base seen) (latest tag seen)) ≡ fetch_tagged_data tag seen
        kept = latest_kept (has_base seen) (latest tag seen) (latest_fine tag seen seen_fine)

    pub serves_group_size : Asks t (read_group key index get_group_size) → (x : MVGroupOutput) →
        x ≡ cond (has_base seen) (size_output (size_over all_tags seen)) Uninitialized → Put (group_output_ruling x) o r out → ServesGroup t g o r g out
    unfolding get_group_size
    serves_group_size a x h q = reads_group t o r out g v key index get_group_size a (rw (ap group_output_ruling h ∙ kept) at q)
      where
        kept : group_output_ruling (cond (has_base seen) (size_output (size_over all_tags seen)) Uninitialized) ≡ get_group_size seen
        kept = size_kept (has_base seen) (size_over all_tags seen)

  pub serves_finalize : (key place : ℕ) → Asks t (commit_group key place (finalize_group key)) → (after : List ℕ) →
      Answered g o (committing (groups_in g) key place (finalize_group key)) r after out → ServesGroup t g o r after out
  serves_finalize key place a after p =
      commits_group t o r out g key place (finalize_group key) after a
      (answered_told g o (committing (groups_in g) key place (finalize_group key)) r after out p)
      (committed_left g v t key place (finalize_group key) a after p.words)

-- A valid store that stays holds what it held.
stays_left : (g : List ℕ) → group_valid g ≡ true → (answer : List ℕ) → LeftBy g (accept answer (groups_in g)) g
unfolding LeftBy LeftIf fits_in lack_in
stays_left g v answer =
    rw (lack_none (held_by (groups_in g)) (units_in (length g)) (few_valid g v)) (record { valid = v; groups = refl; size = refl; past = refl })

stays_put : (g : List ℕ) → group_valid g ≡ true → (answer o out : List ℕ) → out ≡ answer_in answer o → Put (told (lack_in g) (accept answer (groups_in g))) o 0 out
unfolding told told_of result_by out_by lack_in
stays_put g v answer o out h = rw (lack_none (held_by (groups_in g)) (units_in (length g)) (few_valid g v)) (record { result = refl; words = h })

pub serves_last_committed : (t g o out : List ℕ) → group_valid g ≡ true → (key : ℕ) → Asks t (commit_group key 0 (get_last_committed_group key)) →
    out ≡ answer_in (committed_answer key (groups_in g).committed) o → ServesGroup t g o 0 g out
unfolding committing get_last_committed_group ruled with_group_commits commits edited
serves_last_committed t g o out v key a h =
    commits_group t o 0 out g key 0 (get_last_committed_group key) g a
    (stays_put g v (committed_answer key (groups_in g).committed) o out h)
    (stays_left g v (committed_answer key (groups_in g).committed))
