-- What a reader on the way down meets first, by its marks: the walk of `VersionedValue::read` goes on from a delta that is done and has no shortcut, and
-- stops at anything else.
use Rattle.std.specs.Prelude.{Bool, false, cond, ◌&&◌, List, [], ◌∷◌, ℕ, suc, ◌/◌, ltb, eqb, length, get_or}
use Rattle.store.specs.Held.{no_row}
use Rattle.model.specs.Rows.{Row}
use Rattle.model.specs.Data.{Entry}
use Rattle.versioned_data.specs.Layout.{StoreRow, form_of}

-- There is a row at position c, and it has the key.
unfoldable pub has_key : ℕ → ℕ → List StoreRow → Bool
has_key key c rows = ltb c (length rows) && eqb ((get_or rows c no_row).spot / 4294967296) key

-- The walk goes on from such an entry.
unfoldable pub goes_on : Row Entry → Bool
goes_on r = cond r.held.estimate false (eqb (form_of r.held.cell) 1)

-- How many of them a walk meets before it stops.
unfoldable pub deltas_in : List (Row Entry) → ℕ
deltas_in [] = 0
deltas_in (r ∷ rs) = cond (goes_on r) (suc (deltas_in rs)) 0
