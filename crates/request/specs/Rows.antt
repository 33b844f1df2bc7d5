-- A row of the table as the code has it.
use Rattle.std.proofs.Math.Option.{Option as Maybe}
use Rattle.std.proofs.Math.Option.{none, some}
use Rattle.std.specs.Prelude.{ℕ, ◌-◌, Option, Some, None}
use Rattle.request.specs.Table.{IndexField, Tail, alone, by_set, by_count, absent, Row}
use Rattle.request.specs.Request.{last_index}
use Rattle.request.specs.declared.table.IndexField.{IndexField as CodeIndexField}
use Rattle.request.specs.declared.table.Row.{Row as CodeRow}
use Rattle.request.specs.declared.table.Tail.{Tail as CodeTail}
use Rattle.request.specs.declared.table.Tail.TheVariants.{Alone, BySet, ByCount, Absent}
use Rattle.request.specs.declared.table.Cells.{Cells}

unfoldable pub index_layout : Maybe IndexField → Option CodeIndexField
index_layout none = None
index_layout (some f) = Some (record { place = f.place; last = last_index f.purpose })

unfoldable pub tail_layout : Tail → CodeTail
tail_layout alone = Alone
tail_layout (by_set each) = BySet each
tail_layout (by_count place most each) = ByCount place most each
tail_layout absent = Absent

abbrev pub layout : Row → CodeRow
layout r = record { fixed = r.fixed; tail = tail_layout r.tail; index = index_layout r.index }

unfoldable pub index_place_cell : Maybe IndexField → Option ℕ
index_place_cell none = None
index_place_cell (some f) = Some f.place

-- How often a request adds to its index: what is left below the greatest word.
unfoldable pub added_to : Maybe IndexField → ℕ
added_to none = 0
added_to (some f) = 4294967295 - last_index f.purpose

-- A row as the cells of the code's table.
abbrev pub cells_of : Row → Cells
cells_of r = record { 0 = r.fixed; 1 = tail_layout r.tail; 2 = index_place_cell r.index; 3 = added_to r.index }
