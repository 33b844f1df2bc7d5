-- A cleared store is valid and holds nothing.
-- Assumes nothing.
use mathlib.Core.Path.{◌≡◌, refl, ◌∙◌, ap}
use mathlib.Core.Bool.{true, false}
use mathlib.Core.List.{List, [], map, reverse}
use Prim.Native.Nat.{ℕ}
use lib.ListN.{replicate}
use Rattle.lists.specs.Lists.{every}
use Rattle.lists.proofs.Bools.{and_both}
use Rattle.store.specs.Scan.{is_store}
use Rattle.store.proofs.ScanStores.{zeros_empty}
use Rattle.versioned_data.specs.Layout.{StoreRow, payload_width, entry_of, rows_in, entries_in, row_ok, data_valid}

rows_cleared : (n : ℕ) → rows_in (replicate n 0) ≡ []
unfolding rows_in
rows_cleared n = (zeros_empty 22 false n).1

pub entries_cleared : (n : ℕ) → entries_in (replicate n 0) ≡ []
unfolding entries_in
entries_cleared n = ap (λ (l : List StoreRow). map entry_of (reverse l)) (rows_cleared n)

none_ok : every row_ok [] ≡ true
unfolding every
none_ok = refl

pub valid_cleared : (n : ℕ) → data_valid (replicate n 0) ≡ true
unfolding data_valid
valid_cleared n =
    and_both (is_store payload_width false (replicate n 0)) (every row_ok (rows_in (replicate n 0))) (zeros_empty 22 false n).0 (ap (every row_ok) (rows_cleared n) ∙ none_ok)
