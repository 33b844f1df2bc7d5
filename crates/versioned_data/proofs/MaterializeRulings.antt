-- What `materialize_delta` answers and leaves is its rule's.
-- Assumes nothing.
use mathlib.Core.Path.{◌≡◌, refl, sym, ◌∙◌, ap, ap₂}
use mathlib.Core.Bool.{Bool, true, false, ◌||◌}
use mathlib.Core.List.{List}
use mathlib.Core.Option.{Option, none, some}
use Prim.Native.Nat.{ℕ, suc, ◌+◌, ◌-◌, ◌<◌}
use native.Mathlib.Omega.{arith}
use native.Mathlib.Numerals.{add-one}
use lib.Dec.{eqb}
use borrow.Author.Tests.{eqb-true}
use Rattle.number.specs.Number.{Halves, range, value_of, number_of}
use Rattle.number.specs.declared.Number.{Number}
use Rattle.number.specs.Words.{digits}
use Rattle.number.proofs.Halves.{value_of_number_of, number_of_value_of, value_below}
use Rattle.delta.specs.Delta.{delta_words}
use Rattle.types.specs.Index.{shift, shifted_of, word_of}
use Rattle.types.specs.Refusal.{nothing_there, layout_under_delta, no_number_under_delta, not_materializable, refusal_number}
use Rattle.types.specs.Response.{response, resolved_kind, unresolved_kind}
use Rattle.delta.specs.declared.DeltaOp.{DeltaOp}
use Rattle.types.specs.declared.refusal.Refusal.{Refusal}
use Rattle.types.specs.declared.refusal.Refusal.TheVariants.{NothingThere}
use Rattle.types.specs.declared.index.ShiftedTxnIndex.{ShiftedTxnIndex}
use Rattle.types.specs.declared.output.MVDataOutput as output
use Rattle.types.specs.declared.output.MVDataOutput.TheVariants as found
use Rattle.model.specs.Rows
use Rattle.model.specs.Rows.{find, Edit, leave, down_from}
use Rattle.model.specs.Data.{Entry, Ruling, refuse, accept, Read, versioned, resolved, unresolved, uninitialized, dependency, application_failure, refusal, record_shortcut, materialized, materialize_delta, read_of}
use Rattle.model.specs.Fine.{fine_cell, fine_read}
use Rattle.model.proofs.FineParts.{number_tell}
use Rattle.model.proofs.FineEntries.{shortcut_cell}
use Rattle.model.proofs.ReadFacts.{read_of_down_from_fine}
use Rattle.versioned_data.specs.Layout.{StoreRow, entry_of, entries_in, data_valid}
use Rattle.versioned_data.specs.Left.{LeftBy}
use Rattle.versioned_data.specs.Found.{row_found, Here, FoundIn, PutOver}
use Rattle.versioned_data.specs.Output.{refusal_output, output_of}
use Rattle.versioned_data.specs.Materialize.{Materialized, Refused, Resolved, Unresolved, told_by, materialized_read, materialized_of, Materializes, shortcut_entry}
use Rattle.std.specs.Prelude.{Result, Ok, Err}
use Rattle.directory.specs.declared.cells.Place.{Place}
use Rattle.versioned_data.proofs.EntriesHeld.{every_valid}
use Rattle.versioned_data.proofs.WalkBounds.{read_by}
use Rattle.versioned_data.proofs.EntryRulings.{entry_fine, edited_left, edited_over}
use Rattle.versioned_data.proofs.EntryOperations.{found_here, found_gone, cell_at}

-- ---- where the walk resolves

left_refused : (s : List ℕ) (k p : ℕ) (x : Ruling (Edit Entry)) (n : ℕ) → x ≡ refuse n → LeftBy s k p x s
unfolding LeftBy
left_refused s k p x n e = rw e refl

answer_refused : (x : Ruling (Edit Entry)) (read : Read) (n : ℕ) → x ≡ refuse n → Refused n ≡ materialized_of x read
unfolding materialized_of
answer_refused x read n e = rw e

answer_resolved : (x : Ruling (Edit Entry)) (n : Number) (a : List ℕ) (y : Edit Entry) → Halves n → x ≡ accept a y → Resolved n ≡ materialized_of x (resolved (value_of n))
unfolding materialized_of materialized_read
answer_resolved x n a y h e = rw e (ap Resolved (sym (number_of_value_of n h)))

record_some : (n : ℕ) (o : Option Entry) (u : StoreRow) → o ≡ some (entry_of u).held → record_shortcut n o ≡ accept (response resolved_kind (digits 4 n)) (Rows.set (shortcut_entry n u))
unfolding record_shortcut shortcut_entry
record_some n o u e = rw e

record_none : (n : ℕ) (o : Option Entry) → o ≡ none → record_shortcut n o ≡ refuse nothing_there
unfolding record_shortcut
record_none n o e = rw e

shortcut_fine : (p : ℕ) → 0 < p → (n : ℕ) (u : StoreRow) → n < range → fine_cell p (entry_of u).held.estimate (entry_of u).held.cell ≡ true →
    fine_cell p (shortcut_entry n u).estimate (shortcut_entry n u).cell ≡ true
unfolding shortcut_entry
shortcut_fine p above n u h f = shortcut_cell p above (entry_of u).held.estimate n (entry_of u).held.cell (number_tell n h) f

module _ (s : List ℕ) (v : data_valid s ≡ true) (k p : ℕ) (big : k < 4294967296) (small : p < 4294967296) (above : 0 < p) (n : Number) (f : Result Place Place) (t : FoundIn s k p f) (c : Place) where
  pub resolve_refused : f ≡ Err c → Materializes s k p (record_shortcut (value_of n)) (resolved (value_of n)) (Err NothingThere) s
  resolve_refused e =
      let m : record_shortcut (value_of n) (find k p (entries_in s)) ≡ refuse nothing_there = record_none (value_of n) (find k p (entries_in s)) (found_gone s k p f t c e).entry in
      record {
        answer = answer_refused (record_shortcut (value_of n) (find k p (entries_in s))) (resolved (value_of n)) nothing_there m;
        left = left_refused s k p (record_shortcut (value_of n) (find k p (entries_in s))) nothing_there m;
      }

  pub resolve_done : f ≡ Ok c → Halves n → (after : List ℕ) → PutOver s c.page c.cell (shortcut_entry (value_of n) (row_found s c.page c.cell)) after →
      Materializes s k p (record_shortcut (value_of n)) (resolved (value_of n)) (Ok (Ok n)) after
  resolve_done e h after put =
      let x : Here s k p c.page c.cell = found_here s k p f t c e in
      let u : StoreRow = row_found s c.page c.cell in
      let a : Entry = shortcut_entry (value_of n) u in
      let m : record_shortcut (value_of n) (find k p (entries_in s)) ≡ accept (response resolved_kind (digits 4 (value_of n))) (Rows.set a) = record_some (value_of n) (find k p (entries_in s)) u x.entry in
      record {
        answer = answer_resolved (record_shortcut (value_of n) (find k p (entries_in s))) n (response resolved_kind (digits 4 (value_of n))) (Rows.set a) h m;
        left =
            (edited_over s v k p big small c.page c.cell x (record_shortcut (value_of n)) (response resolved_kind (digits 4 (value_of n))) a after m
            (entry_fine k p a big small (shortcut_fine p above (value_of n) u (value_below n h) (cell_at s v k p big small c.page c.cell x))) put).left;
      }

-- ---- where it does not

-- What is answered for what the read answered, unless it resolved.
abbrev pub unrecorded : Result output.MVDataOutput Refusal → Materialized
unrecorded (Ok (found.Versioned place incarnation v)) = Refused not_materializable
unrecorded (Ok (found.Resolved n)) = Resolved n
unrecorded (Ok (found.Unresolved op)) = Unresolved op
unrecorded (Ok found.Uninitialized) = Refused not_materializable
unrecorded (Ok (found.Dependency index)) = Refused not_materializable
unrecorded (Ok found.DeltaApplicationFailure) = Refused not_materializable
unrecorded (Err r) = Refused (refusal_number r)

abbrev pub resolves : Result output.MVDataOutput Refusal → Bool
resolves (Ok (found.Versioned place incarnation v)) = false
resolves (Ok (found.Resolved n)) = true
resolves (Ok (found.Unresolved op)) = false
resolves (Ok found.Uninitialized) = false
resolves (Ok (found.Dependency index)) = false
resolves (Ok found.DeltaApplicationFailure) = false
resolves (Err r) = false

-- a read refuses a layout under a delta, or a missing number there
refused_by_lem : (n : ℕ) → (eqb n layout_under_delta || eqb n no_number_under_delta) ≡ true → unrecorded (Err (refusal_output n)) ≡ Refused n
unfolding refusal_output
refused_by_lem n h = go (eqb n layout_under_delta) refl
  where
    go : (b : Bool) → eqb n layout_under_delta ≡ b → unrecorded (Err (refusal_output n)) ≡ Refused n
    go true e = rw e (ap Refused (sym (eqb-true n layout_under_delta e)))
    go false e = rw e (ap Refused (sym (eqb-true n no_number_under_delta (rw e at h))))

-- what is neither resolved nor unresolved
pub other_is : (x : output.MVDataOutput) → ((n : Number) → x ≡ found.Resolved n → ⊥) → ((op : DeltaOp) → x ≡ found.Unresolved op → ⊥) →
    (resolves (Ok x) ≡ false) × (unrecorded (Ok x) ≡ Refused not_materializable)
other_is (found.Versioned place incarnation v) f g = (refl, refl)
other_is (found.Resolved n) f g = absurd (f n refl)
other_is (found.Unresolved op) f g = absurd (g op refl)
other_is found.Uninitialized f g = (refl, refl)
other_is (found.Dependency index) f g = (refl, refl)
other_is found.DeltaApplicationFailure f g = (refl, refl)

module _ (s : List ℕ) (v : data_valid s ≡ true) (k p : ℕ) (own : Option Entry) where
  left_left : (answer : List ℕ) → LeftBy s k p (accept answer leave) s
  left_left answer = (edited_left s k p (λ o. accept answer leave) answer v refl).left

  answer_other : (read : Read) → fine_read read ≡ true → resolves (output_of read) ≡ false → unrecorded (output_of read) ≡ materialized_of (materialized own read) read
  unfolding output_of materialized_of materialized materialized_read fine_read
  answer_other (versioned place incarnation w) f h = refl
  answer_other (resolved n) f h = absurd (let z : ◌≡◌ {A = ℕ} 0 1 = cc in omega arith)
  answer_other (unresolved d) f h = refl
  answer_other uninitialized f h = refl
  answer_other (dependency index) f h = refl
  answer_other application_failure f h = refl
  answer_other (refusal n) f h = refused_by_lem n f

  left_other : (read : Read) → resolves (output_of read) ≡ false → LeftBy s k p (materialized own read) s
  unfolding output_of materialized LeftBy
  left_other (versioned place incarnation w) h = refl
  left_other (resolved n) h = absurd (let z : ◌≡◌ {A = ℕ} 0 1 = cc in omega arith)
  left_other (unresolved d) h = left_left (response unresolved_kind (delta_words d))
  left_other uninitialized h = refl
  left_other (dependency index) h = refl
  left_other application_failure h = refl
  left_other (refusal n) h = refl

-- a read that resolved
resolved_has : (read : Read) (n : Number) (G : Type 0) → Ok (found.Resolved n) ≡ output_of read → ((m : ℕ) → read ≡ resolved m → n ≡ number_of m → G) → G
unfolding output_of refusal_output
resolved_has (versioned place incarnation w) n G e h = absurd (let z : ◌≡◌ {A = ℕ} 0 1 = cc in omega arith)
resolved_has (resolved m) n G e h = h m refl (let z : n ≡ number_of m = cc in z)
resolved_has (unresolved d) n G e h = absurd (let z : ◌≡◌ {A = ℕ} 0 1 = cc in omega arith)
resolved_has uninitialized n G e h = absurd (let z : ◌≡◌ {A = ℕ} 0 1 = cc in omega arith)
resolved_has (dependency index) n G e h = absurd (let z : ◌≡◌ {A = ℕ} 0 1 = cc in omega arith)
resolved_has application_failure n G e h = absurd (let z : ◌≡◌ {A = ℕ} 0 1 = cc in omega arith)
resolved_has (refusal m) n G e h = absurd (let z : ◌≡◌ {A = ℕ} 0 1 = cc in omega arith)

-- ---- the operation

module _ (s : List ℕ) (v : data_valid s ≡ true) (k index : ℕ) (bound : ShiftedTxnIndex) (next : bound ≡ shifted_of (shift (index + 1))) (o : Result output.MVDataOutput Refusal) (walked : o ≡ output_of (read_of (down_from k (word_of bound - 1) (entries_in s)))) where
  abbrev pub Done : Result (Result Number DeltaOp) Refusal → List ℕ → Type 0
  Done r after = Materializes s k (suc index) (λ own. materialize_delta own (down_from k (suc index) (entries_in s))) (read_of (down_from k (suc index) (entries_in s))) r after

  -- the bound of the read is the index plus 1, shifted
  read : o ≡ output_of (read_of (down_from k (suc index) (entries_in s)))
  read = read_by s v k (index + 1) bound next o walked ∙ ap (λ (j : ℕ). output_of (read_of (down_from k j (entries_in s)))) (add-one index)

  pub materialize_other : (x : Result output.MVDataOutput Refusal) → o ≡ x → resolves x ≡ false → (r : Result (Result Number DeltaOp) Refusal) → told_by r ≡ unrecorded x → Done r s
  unfolding materialize_delta
  materialize_other x e h r told =
      let seen : Read = read_of (down_from k (suc index) (entries_in s)) in
      let own : Option Entry = find k (suc index) (entries_in s) in
      let other : resolves (output_of seen) ≡ false = ap resolves (sym read ∙ e) ∙ h in
      record {
        answer = told ∙ ap unrecorded (sym e ∙ read) ∙ answer_other s v k (suc index) own seen (read_of_down_from_fine k (suc index) (entries_in s) (every_valid s v)) other;
        left = left_other s v k (suc index) own seen other;
      }

  pub materialize_resolved : (n : Number) → o ≡ Ok (found.Resolved n) → (q : ℕ) → q ≡ suc index → (r : Result (Result Number DeltaOp) Refusal) (after : List ℕ) →
      Materializes s k q (record_shortcut (value_of n)) (resolved (value_of n)) r after → Done r after
  unfolding materialize_delta materialized
  materialize_resolved n t q place r after w =
      resolved_has (read_of (down_from k (suc index) (entries_in s))) n (Done r after) (sym t ∙ read) by
    where
      by : (m : ℕ) → read_of (down_from k (suc index) (entries_in s)) ≡ resolved m → n ≡ number_of m → Done r after
      by m e f =
          let same : value_of n ≡ m = ap value_of f ∙ value_of_number_of m in
          let rule : materialized (find k (suc index) (entries_in s)) (read_of (down_from k (suc index) (entries_in s))) ≡ record_shortcut m (find k (suc index) (entries_in s)) = ap (materialized (find k (suc index) (entries_in s))) e in
          record {
            answer =
                w.answer
                ∙ ap₂ (λ (x y : ℕ). materialized_of (record_shortcut y (find k x (entries_in s))) (resolved y)) place same
                ∙ sym (ap₂ (λ (x : Ruling (Edit Entry)) (y : Read). materialized_of x y) rule e);
            left = rw rule (rw (← same) (rw place at w.left));
          }
