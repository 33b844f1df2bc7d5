-- Where an entry stands among the rows of a store, as the code learns it, and what an entry put there comes to.
use Rattle.std.specs.Prelude.{◌≡◌, false, Result, Ok, Err, List, ℕ, suc, ◌<◌, length, get_or, set}
use Rattle.std.proofs.Math.Option.{Option, none, some}
use Rattle.types.specs.Units.{lack_of, units_in}
use Rattle.probe.specs.Cells.{count_above, insert_at}
use Rattle.directory.specs.declared.cells.Place.{Place}
use Rattle.store.specs.Held.{position_of, row_spots, no_row}
use Rattle.store.specs.Valid as Store
use Rattle.store.specs.Edits.{Left}
use Rattle.model.specs.Rows.{find, row_at}
use Rattle.model.specs.Data.{Entry}
use Rattle.versioned_data.specs.Layout.{StoreRow, spot_of, marks_of, body_of, padded, row_of, entry_of, rows_in, entries_in}

-- The position among the rows of cell i of a page, and the row there.
unfoldable pub position_at : List ℕ → ℕ → ℕ → ℕ
position_at s page i = position_of 22 (units_in (length s)) s page i

unfoldable pub row_found : List ℕ → ℕ → ℕ → StoreRow
row_found s page i = get_or (rows_in s) (position_at s page i) no_row

-- There is a row.
pub record IsRow (s : List ℕ) (page i : ℕ) : Type 0 where
  pub units : 0 < units_in (length s)
  pub there : Store.There 22 (units_in (length s)) s page i

-- The entry is there: its row follows all rows of higher spots.
pub record Here (s : List ℕ) (key place page i : ℕ) : Type 0 where
  pub row : IsRow s page i
  pub position : position_at s page i ≡ count_above (spot_of key place) (row_spots (rows_in s))
  pub entry : find key place (entries_in s) ≡ some (entry_of (row_found s page i)).held

-- It is not there: the place is where it would stand. A store of no units has no place.
pub record Gone (s : List ℕ) (key place page i : ℕ) : Type 0 where
  pub stands : 0 < units_in (length s) → Store.Stands 22 (units_in (length s)) s page i
  pub position : 0 < units_in (length s) → position_at s page i ≡ count_above (spot_of key place) (row_spots (rows_in s))
  pub entry : find key place (entries_in s) ≡ none

unfoldable pub FoundIn : List ℕ → ℕ → ℕ → Result Place Place → Type 0
FoundIn s key place (Ok p) = Here s key place p.page p.cell
FoundIn s key place (Err p) = Gone s key place p.page p.cell

-- The row that was found.
unfoldable pub found_row : List ℕ → Result Place Place → Option StoreRow
found_row s (Ok p) = some (row_found s p.page p.cell)
found_row s (Err p) = none

-- What was found is there.
unfoldable pub RowIn : List ℕ → Result Place Place → Type 0
RowIn s (Ok p) = IsRow s p.page p.cell
RowIn s (Err p) = Unit

-- A row with another entry.
unfoldable pub remade : Entry → StoreRow → StoreRow
remade e u = record { spot = u.spot; marks = marks_of e; payload = padded (body_of e.cell) }

-- Another entry in the row at a place: nothing else is changed.
unfoldable pub PutOver : List ℕ → ℕ → ℕ → Entry → List ℕ → Type 0
PutOver s page i e after =
    Left 22 false (units_in (length s)) (set (rows_in s) (position_at s page i) (remade e (row_found s page i))) s after

-- Lack of units where a store is to hold one row more.
unfoldable pub lack_of_more : List ℕ → ℕ
lack_of_more s = lack_of (suc (length (rows_in s))) (units_in (length s))

-- An entry's row put in at a place, unless units lack: then every word stays.
pub record PutIn (s : List ℕ) (key place page i : ℕ) (e : Entry) (r : ℕ) (after : List ℕ) : Type 0 where
  pub result : r ≡ lack_of_more s
  pub left : r ≡ 0 → Left 22 false (units_in (length s)) (insert_at (position_at s page i) (row_of (row_at key place e)) (rows_in s)) s after
  pub kept : (r ≡ 0 → ⊥) → after ≡ s

-- An entry put where it was looked for: over the one there, or in.
unfoldable pub Put : List ℕ → ℕ → ℕ → Result Place Place → Entry → ℕ → List ℕ → Type 0
Put s key place (Ok p) e r after = (r ≡ 0) × PutOver s p.page p.cell e after
Put s key place (Err p) e r after = PutIn s key place p.page p.cell e r after
