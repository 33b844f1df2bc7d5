-- `request::table::row_of` meets its contract.
-- Assumes nothing.
use Rattle.request.proofs.TableRule.{row_without, row_indexed}
use Rattle.request.proofs.table.row_of.Goals.{in-Some, in-None}
use Rattle.request.proofs.table.row_of.Goals as goal

pub returns : goal.returns
returns c =
    record {
      row = elim c.match-cells.branch [
        | in-Some w ↦ row_indexed _ _ c.cells_of-cells.ensures.cells _ _ w.in-Some.is w.index-is
        | in-None w ↦ row_without _ _ c.cells_of-cells.ensures.cells _ w.in-None.is w.index-is
      ];
    }
