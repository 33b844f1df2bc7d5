-- `versioned_data::put::enough_for_more` meets its contract.
-- Assumes nothing.
use native.Mathlib.Omega.{arith}
use Rattle.versioned_data.proofs.RowInserts.{more_none, more_valid, more_is}
use Rattle.versioned_data.proofs.put.enough_for_more.Goals as goal

pub returns-then-n-eq0 : goal.returns-then-n-eq0
returns-then-n-eq0 c =
    record { lack = more_none _ c.requires.valid _ c.requires.units c.if-n-eq0.true }

pub invariant_of-rows : goal.invariant_of-rows
invariant_of-rows c = record { valid = more_valid _ c.requires.valid _ c.requires.units c.if-n-eq0.false }

pub overflow_add-units_held : goal.overflow_add-units_held
overflow_add-units_held c =
    record { fits = omega (arith, c.units_held.ensures.few, (more_valid _ c.requires.valid _ c.requires.units c.if-n-eq0.false).few) }

pub returns : goal.returns
returns c =
    record { lack = more_is _ c.requires.valid _ c.requires.units c.if-n-eq0.false _ c.units_held.ensures.held _ c.enough.ensures.lack }
