-- `store::scan::cells_pass` meets its contract.
-- Assumes nothing.
use mathlib.Core.Path.{◌≡◌}
use Prim.Native.Nat.{◌+◌, ◌≤◌}
use Rattle.std.specs.Prelude.{ltb}
use Rattle.std.specs.Option.{ForSome}
use lib.ListN.{length, get_or}
use Rattle.numbers.specs.Numbers.{scans}
use Rattle.directory.specs.Cells.{page_at}
use Rattle.store.specs.Held.{carried_at}
use Rattle.store.specs.Scan.{limit_at}
use Rattle.store.proofs.ScanTurns.{cells_left}
use Rattle.store.proofs.scan.cells_pass.Given as goal

abbrev pub invariant-loop-j : goal.invariant-loop-j
invariant-loop-j g l =
    ForSome l.last (λ x. x + 3 ≤ length l.s)
    × (cells_left (carried_at g.row.WIDTH (ltb 0 g.row.PARTS) l.s) (get_or l.s 0 0) l.s l.a l.c l.j l.last ≡ scans (carried_at g.row.WIDTH (ltb 0 g.row.PARTS) l.s) (get_or l.s 0 0) (limit_at l.s l.fn.before (l.a + 1)) (page_at l.s l.a))
