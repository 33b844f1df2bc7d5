-- `versioned_data::scan::is_valid` meets its contract.
-- Assumes nothing.
use Rattle.versioned_data.proofs.ScanSteps.{no_store, none_held, some_valid, some_held}
use Rattle.versioned_data.proofs.scan.is_valid.Goals as goal

pub returns-then-not-is_store : goal.returns-then-not-is_store
returns-then-not-is_store c =
    record { valid = no_store _ _ c.is_store.ensures.valid (c.if-not-is_store.true) }

pub returns-then-n-eq0 : goal.returns-then-n-eq0
returns-then-n-eq0 c =
    record { valid = none_held _ _ c.is_store.ensures.valid (c.if-not-is_store.false) _ c.units-n.ensures.units c.if-n-eq0.true }

pub rows_ok-requires : goal.rows_ok-requires
rows_ok-requires c =
    record { valid = some_valid _ _ c.is_store.ensures.valid (c.if-not-is_store.false) _ c.units-n.ensures.units c.if-n-eq0.false }

pub returns : goal.returns
returns c =
    record { valid = some_held _ _ c.is_store.ensures.valid (c.if-not-is_store.false) _ c.units-n.ensures.units c.if-n-eq0.false _ c.rows_ok.ensures.rows }
