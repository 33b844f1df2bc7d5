-- `store::scan::pages_pass` meets its contract.
-- Assumes nothing.
use mathlib.Core.Path.{◌≡◌}
use Prim.Native.Nat.{◌+◌, ◌*◌, ◌≤◌}
use Rattle.std.specs.Prelude.{ltb}
use Rattle.std.specs.Option.{ForSome}
use lib.ListN.{length, get_or}
use Rattle.store.specs.Held.{base_of, carried_at}
use Rattle.store.specs.Scan.{cells_test}
use Rattle.store.proofs.ScanTurns.{pages_left}
use Rattle.store.proofs.scan.pages_pass.Given as goal

abbrev pub invariant-loop-k : goal.invariant-loop-k
invariant-loop-k g l =
    ForSome l.last (λ x. x + 3 ≤ length l.s) × (l.sum ≤ 64 * l.k)
    × (pages_left (carried_at g.row.WIDTH (ltb 0 g.row.PARTS) l.s) (get_or l.s 0 0) (base_of g.row.WIDTH l.n) l.n l.s l.k l.last l.sum ≡ cells_test g.row.WIDTH (ltb 0 g.row.PARTS) l.n l.s)
