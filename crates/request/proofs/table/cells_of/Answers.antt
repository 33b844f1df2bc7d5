-- `request::table::cells_of` meets its contract.
-- Assumes nothing.
use mathlib.Core.Path.{refl}
use Rattle.request.specs.Table.{at, row, table}
use Rattle.request.specs.Request.{last_index}
use Rattle.request.specs.Rows.{tail_layout, index_place_cell, added_to}
use Rattle.request.proofs.KindNumbers.{number_small}
use Rattle.request.proofs.TableRule.{code_cells}
use Rattle.request.proofs.table.cells_of.Goals as goal

-- The rule over the whole table is one equation, which antt computes.
pub returns : goal.returns
unfolding table row at last_index tail_layout index_place_cell added_to
returns c =
    record { cells = code_cells _ refl _ _ _ c.number.ensures.number (number_small _) }
