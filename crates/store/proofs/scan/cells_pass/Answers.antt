-- `store::scan::cells_pass` meets its contract.
-- Assumes nothing.
use borrow.Author.Rules.{rules}
use Rattle.store.proofs.ScanTurns.{some_inside, cells_begin, cells_stop, cells_on, cells_end}
use Rattle.store.proofs.scan.cells_pass.Goals as goal

pub loop-j-init : goal.loop-j-init
loop-j-init g c = (c.requires.before, cells_begin _ _ _ _ _ _ c.word-c.ensures.same)

pub returns-then-not-is_fine : goal.returns-then-not-is_fine
returns-then-not-is_fine g c =
    record { cells = cells_stop _ _ _ _ _ _ _ _ c.loop-j.invariant.1 c.loop-j-test.true _ c.is_fine.ensures.fine (c.if-not-is_fine.true) }

pub loop-j-preserved : goal.loop-j-preserved
loop-j-preserved g c = (
  some_inside _ _ (search rules),
  cells_on _ _ _ _ _ _ _ _ c.loop-j.invariant.1 c.loop-j-test.true _ c.is_fine.ensures.fine (c.if-not-is_fine.false),
)

pub returns : goal.returns
returns g c =
    record { cells = cells_end _ _ _ _ _ _ _ _ c.loop-j.invariant.1 c.loop-j-test.false }
