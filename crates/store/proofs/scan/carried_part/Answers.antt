-- `store::scan::carried_part` meets its contract.
-- Assumes nothing.
use native.Mathlib.Omega.{arith}
use borrow.Author.Tests.{lt-ltb, le-ltb}
use Rattle.store.proofs.ScanCells.{part_there, part_none}
use Rattle.store.proofs.scan.carried_part.Goals as goal

pub returns-then-this-gt0 : goal.returns-then-this-gt0
returns-then-this-gt0 g c =
    record { part = part_there _ c.args.s.now c.args.p _ (lt-ltb 0 g.row.PARTS c.if-this-gt0.true) c.word.ensures.same; small = c.word.ensures.small }

pub returns : goal.returns
returns g c =
    record { part = part_none _ c.args.s.now c.args.p (le-ltb 0 g.row.PARTS c.if-this-gt0.false); small = omega arith }
