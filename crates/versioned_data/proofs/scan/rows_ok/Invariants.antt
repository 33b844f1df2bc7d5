-- `versioned_data::scan::rows_ok` meets its contract.
-- Assumes nothing.
use mathlib.Core.Path.{◌≡◌}
use Prim.Native.Nat.{◌-◌}
use lib.ListN.{length}
use Rattle.lists.specs.Lists.{every}
use Rattle.versioned_data.specs.Layout.{row_ok}
use Rattle.versioned_data.specs.Rows.{rows_of, position_from, Met}
use Rattle.versioned_data.proofs.ScanSteps.{rest_ok}
use Rattle.versioned_data.proofs.scan.rows_ok.Given as goal

abbrev pub invariant-loop-at : goal.invariant-loop-at
invariant-loop-at l = Met l.n l.s l.at × (every row_ok (rows_of l.n l.s) ≡ rest_ok l.n l.s l.at)

abbrev pub decreases-loop-at : goal.decreases-loop-at
decreases-loop-at l = length (rows_of l.n l.s) - position_from l.n l.s l.at
