-- A data store of n units as code that reads rows knows it, and a place among its rows.
use Rattle.std.specs.Prelude.{◌≡◌, true, false, List, ℕ, IfSome, Option, get_or}
use Rattle.lists.specs.Lists.{every}
use Rattle.directory.specs.declared.cells.Place.{Place}
use Rattle.store.specs.Held.{held, position_of, position_or_end, no_row}
use Rattle.store.specs.Valid.{Valid, There}
use Rattle.model.specs.Rows.{Row}
use Rattle.model.specs.Data.{Entry}
use Rattle.versioned_data.specs.Down.{down_rows}
use Rattle.versioned_data.specs.Layout.{payload_width, StoreRow, row_ok}
use Rattle.versioned_data.specs.Step.{has_key}

abbrev pub rows_of : ℕ → List ℕ → List StoreRow
rows_of n s = held payload_width n s

pub record DataStore (n : ℕ) (s : List ℕ) : Type 0 where
  pub valid : Valid payload_width false n s
  pub fine : every row_ok (rows_of n s) ≡ true

abbrev pub position_in : ℕ → List ℕ → ℕ → ℕ → ℕ
position_in n s page cell = position_of payload_width n s page cell

abbrev pub row_of_place : ℕ → List ℕ → Place → StoreRow
row_of_place n s p = get_or (rows_of n s) (position_in n s p.page p.cell) no_row

-- A place of a walk: at a row, or after all of them.
abbrev pub Met : ℕ → List ℕ → Option Place → Type 0
Met n s at = IfSome at (λ p. There payload_width n s p.page p.cell)

abbrev pub position_from : ℕ → List ℕ → Option Place → ℕ
position_from n s at = position_or_end payload_width n s at

-- The entries of a key from a place down.
abbrev pub down_place : ℕ → List ℕ → ℕ → Option Place → List (Row Entry)
down_place n s key at = down_rows key (position_from n s at) (rows_of n s)

-- The row at a place is the one at position c, and has the key.
pub record OfKey (n : ℕ) (s : List ℕ) (key c : ℕ) (p : Place) : Type 0 where
  pub there : There payload_width n s p.page p.cell
  pub place : position_in n s p.page p.cell ≡ c
  pub own : has_key key c (rows_of n s) ≡ true
