-- `store::scan::is_fine` meets its contract.
-- Assumes nothing.
use Rattle.store.proofs.ScanCells.{fine_not, fine_first, fine_next}
use Rattle.store.proofs.scan.is_fine.Goals as goal

pub returns-then-not-is_named : goal.returns-then-not-is_named
returns-then-not-is_named g c =
    record { fine = fine_not _ _ _ _ _ _ c.is_named.ensures.named (c.if-not-is_named.true) }

pub returns-in-None : goal.returns-in-None
returns-in-None g c =
    record { fine = fine_first _ _ _ _ _ _ c.is_named.ensures.named (c.if-not-is_named.false) c.in-None.is }

pub returns-in-Some : goal.returns-in-Some
returns-in-Some g c =
    record { fine = fine_next _ _ _ _ _ _ c.is_named.ensures.named (c.if-not-is_named.false) _ c.in-Some.is _ c.falls.ensures.below }
