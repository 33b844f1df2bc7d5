-- The walk over a run of done deltas without a shortcut gathers what `delta::lent::fold` answers for their records.
-- Assumes nothing.
use mathlib.Core.Path.{◌≡◌, refl, sym, ◌∙◌, ap}
use mathlib.Core.Bool.{true, false}
use mathlib.Core.List.{List, [], ◌∷◌, ◌++◌, map}
use mathlib.Core.Option.{none}
use Prim.Native.Nat.{ℕ}
use Rattle.lists.specs.Lists.{every}
use Rattle.lists.proofs.Bools.{and_both, and_left, and_right}
use Rattle.delta.specs.Delta.{Delta, Accumulated, nothing, accumulate, accumulate_all}
use Rattle.delta.specs.Op.{exactly, accumulator_of, valid_ops, fold_records}
use Rattle.delta.specs.Record.{exact, op_of, valid_op}
use Rattle.delta.specs.declared.DeltaOp.{DeltaOp}
use Rattle.delta.specs.declared.Accumulator.{Accumulator}
use Rattle.delta.proofs.RecordLaws.{exact_op_of, valid_op_op_of}
use Rattle.delta.proofs.DeltaRuns.{exactly_accumulator_of}
use Rattle.model.specs.Rows.{Row, down_from}
use Rattle.model.specs.Data
use Rattle.model.specs.Data.{Entry, walk, at_row, at_cell, past, read_of}
use Rattle.model.specs.Fine.{fine_entry}
use Rattle.model.proofs.FineEntries.{fine_down_from}
use Rattle.model.proofs.DeltaLaws.{run}
use Rattle.model.proofs.FineParts.{delta_valid, delta_delta, entry_cell}
use Rattle.versioned_data.specs.Layout.{entries_in, data_valid}
use Rattle.versioned_data.proofs.EntriesHeld.{fine_valid}

-- The records of a run, as a slice holds them.
unfoldable pub records_of : List (Row Delta) → List DeltaOp
records_of [] = []
records_of (r ∷ rs) = op_of r.held ∷ records_of rs

walk_run : (rs : List (Row Delta)) (a : Accumulated) (rest : List (Row Entry)) → walk a (run rs ++ rest) ≡ walk (accumulate_all a (map exact (records_of rs))) rest
unfolding run walk at_row at_cell past accumulate_all records_of Data.done
walk_run [] a rest = refl
walk_run (r ∷ rs) a rest = walk_run rs (accumulate a r.held) rest ∙ ap (λ (d : Delta). walk (accumulate_all (accumulate a d) (map exact (records_of rs))) rest) (sym (exact_op_of r.held))

-- the deltas of fine entries are records without a bad one
run_valid : (rs : List (Row Delta)) (rest : List (Row Entry)) → every fine_entry (run rs ++ rest) ≡ true → valid_ops (records_of rs) ≡ true
unfolding run every records_of valid_ops Data.done
run_valid [] rest h = refl
run_valid (r ∷ rs) rest h =
    let row : Row Entry = record { key = r.key; place = r.place; held = Data.done (Data.delta r.held none) } in
    let fine = delta_delta r.place false r.held none (entry_cell row (and_left (fine_entry row) (every fine_entry (run rs ++ rest)) h)) in
    and_both (valid_op (op_of r.held)) (valid_ops (records_of rs)) (valid_op_op_of r.held (delta_valid r.held fine)) (run_valid rs rest (and_right (fine_entry row) (every fine_entry (run rs ++ rest)) h))

walk_fold : (rs : List (Row Delta)) (rest : List (Row Entry)) → valid_ops (records_of rs) ≡ true → walk nothing (run rs ++ rest) ≡ walk (fold_records (records_of rs)) rest
unfolding fold_records
walk_fold rs rest v = rw v (walk_run rs nothing rest)

-- A read of a valid store that meets a run first goes on below it with what the fold of the run's records answers.
pub read_fold : (s : List ℕ) → data_valid s ≡ true → (key reach : ℕ) (rs : List (Row Delta)) (rest : List (Row Entry)) → down_from key reach (entries_in s) ≡ run rs ++ rest →
    (acc : Accumulator) → acc ≡ accumulator_of (fold_records (records_of rs)) → read_of (down_from key reach (entries_in s)) ≡ walk (exactly acc) rest
unfolding read_of
read_fold s v key reach rs rest e acc f =
    ap (walk nothing) e
    ∙ walk_fold rs rest (run_valid rs rest (ap (every fine_entry) (sym e) ∙ fine_down_from key reach (entries_in s) (fine_valid s v)))
    ∙ ap (λ (a : Accumulated). walk a rest) (sym (ap exactly f ∙ exactly_accumulator_of (fold_records (records_of rs))))
