-- `store::scan::is_void` meets its contract.
-- Assumes nothing.
use Rattle.store.proofs.ScanCells.{void_none, void_some}
use Rattle.store.proofs.scan.is_void.Goals as goal

pub returns-then-c-eq0 : goal.returns-then-c-eq0
returns-then-c-eq0 c =
    record { void = void_none _ c.args.m c.if-c-eq0.true }

pub returns : goal.returns
returns c =
    record { void = void_some _ c.args.m c.if-c-eq0.false }
