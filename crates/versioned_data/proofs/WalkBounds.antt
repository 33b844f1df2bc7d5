-- A read from a bound: the place that the search finds is where the walk starts.
-- Assumes nothing.
use mathlib.Core.Path.{◌≡◌, sym, ◌∙◌, ap}
use mathlib.Core.Bool.{true}
use Rattle.std.specs.Prelude.{Result, Ok}
use mathlib.Core.List.{List, map, reverse}
use Prim.Native.Nat.{ℕ, ◌-◌, ◌<◌}
use native.Mathlib.Omega.{arith}
use lib.ListN.{length}
use Rattle.lists.specs.Lists.{every, keep}
use Rattle.types.specs.Index.{shift, shifted_of, word_of}
use Rattle.types.specs.Units.{units_in}
use Rattle.types.specs.declared.index.ShiftedTxnIndex.{ShiftedTxnIndex}
use Rattle.types.specs.declared.output.MVDataOutput.{MVDataOutput}
use Rattle.types.specs.declared.refusal.Refusal.{Refusal}
use Rattle.types.specs.declared.output.MVDataOutput.TheVariants.{Uninitialized}
use Rattle.probe.specs.Cells.{count_above}
use Rattle.numbers.specs.Numbers.{Drops}
use Rattle.store.specs.Held.{row_spots}
use Rattle.model.specs.Rows.{Row, down_from}
use Rattle.model.specs.Data.{Entry, read_of, walk, at_end}
use Rattle.versioned_data.specs.Layout.{StoreRow, spot_of, entry_of, rows_in, entries_in, row_ok, data_valid}
use Rattle.versioned_data.specs.Down.{down_rows}
use Rattle.versioned_data.specs.Rows.{rows_of, DataStore}
use Rattle.versioned_data.specs.Output.{output_of}
use Rattle.versioned_data.proofs.RowsDown.{down_from_lem}
use Rattle.versioned_data.proofs.EntriesHeld.{every_ok, rows_here, rows_none, store_valid, spots_drop}

module _ (s : List ℕ) (v : data_valid s ≡ true) where
  -- a store of no units
  pub read_none : (n : ℕ) → n ≡ units_in (length s) → n ≡ 0 → (key reach : ℕ) → Ok Uninitialized ≡ output_of (read_of (down_from key reach (entries_in s)))
  unfolding entries_in read_of walk at_end output_of down_from keep
  read_none n e z key reach = rw (rows_none s v (sym e ∙ z))

  module _ (n : ℕ) (e : n ≡ units_in (length s)) (z : n ≡ 0 → ⊥) where
    some : 0 < units_in (length s)
    some = omega arith

    rows_are : rows_in s ≡ rows_of n s
    rows_are = rows_here s v some ∙ ap (λ (k : ℕ). rows_of k s) (sym e)

    pub data_store : DataStore n s
    data_store = record { valid = rw e (store_valid s v some); fine = ap (every row_ok) (sym rows_are) ∙ every_ok s v }

    -- the same for a transaction's own index
    pub read_seen : (key index : ℕ) → index < 4294967296 → (y : ℕ) → y ≡ spot_of key index → (found : ℕ) → found ≡ count_above y (row_spots (rows_of n s)) →
        (position : ℕ) → position ≡ found → down_rows key position (rows_of n s) ≡ down_from key index (entries_in s)
    unfolding entries_in
    read_seen key index small y g found h position p =
        let at : position ≡ count_above (spot_of key index) (row_spots (rows_of n s)) = p ∙ h ∙ ap (λ (k : ℕ). count_above k (row_spots (rows_of n s))) g in
        let drops : Drops (row_spots (rows_of n s)) = rw (← rows_are) (spots_drop s v) in
        let same : map entry_of (reverse (rows_of n s)) ≡ map entry_of (reverse (rows_in s)) = ap (λ (l : List StoreRow). map entry_of (reverse l)) (sym rows_are) in
        ap (λ (k : ℕ). down_rows key k (rows_of n s)) at
        ∙ down_from_lem key index small (rows_of n s) drops
        ∙ ap (λ (l : List (Row Entry)). down_from key index l) same

    -- what the walk meets from the place that was found is what a reader sees
    pub read_found : (key : ℕ) (bound : ShiftedTxnIndex) → word_of bound < 4294967296 → (w : ℕ) → w ≡ word_of bound → (y : ℕ) → y ≡ spot_of key (w - 1) → (found : ℕ) →
        found ≡ count_above y (row_spots (rows_of n s)) → (position : ℕ) → position ≡ found → (o : Result MVDataOutput Refusal) → o ≡ output_of (read_of (down_rows key position (rows_of n s))) →
        o ≡ output_of (read_of (down_from key (word_of bound - 1) (entries_in s)))
    unfolding entries_in
    read_found key bound small w f y g found h position p o t =
        let reach : y ≡ spot_of key (word_of bound - 1) = g ∙ ap (λ (k : ℕ). spot_of key (k - 1)) f in
        let at : position ≡ count_above (spot_of key (word_of bound - 1)) (row_spots (rows_of n s)) = p ∙ h ∙ ap (λ (k : ℕ). count_above k (row_spots (rows_of n s))) reach in
        let drops : Drops (row_spots (rows_of n s)) = rw (← rows_are) (spots_drop s v) in
        let same : map entry_of (reverse (rows_of n s)) ≡ map entry_of (reverse (rows_in s)) = ap (λ (l : List StoreRow). map entry_of (reverse l)) (sym rows_are) in
        t
        ∙ ap (λ (k : ℕ). output_of (read_of (down_rows key k (rows_of n s)))) at
        ∙ ap (λ (l : List (Row Entry)). output_of (read_of l)) (down_from_lem key (word_of bound - 1) (omega arith) (rows_of n s) drops)
        ∙ ap (λ (l : List (Row Entry)). output_of (read_of (down_from key (word_of bound - 1) l))) same

  -- the bound of a transaction's read is its shifted index
  pub read_by : (key index : ℕ) (bound : ShiftedTxnIndex) → bound ≡ shifted_of (shift index) → (o : Result MVDataOutput Refusal) →
      o ≡ output_of (read_of (down_from key (word_of bound - 1) (entries_in s))) → o ≡ output_of (read_of (down_from key index (entries_in s)))
  read_by key index bound e o f =
      let n : word_of bound - 1 ≡ index = omega (arith, ap word_of e) in
      f ∙ ap (λ (k : ℕ). output_of (read_of (down_from key k (entries_in s)))) n

pub bound_above : (index : ℕ) (bound : ShiftedTxnIndex) → bound ≡ shifted_of (shift index) → 0 < word_of bound
bound_above index bound e = omega (arith, ap word_of e)
