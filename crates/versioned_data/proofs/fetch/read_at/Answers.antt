-- `versioned_data::fetch::read_at` meets its contract.
-- Assumes nothing.
use borrow.Author.Rules.{rules}
use Rattle.versioned_data.proofs.WalkBounds.{data_store, read_none, read_found}
use Rattle.versioned_data.proofs.fetch.read_at.Goals as goal

pub returns-then-n-eq0 : goal.returns-then-n-eq0
returns-then-n-eq0 c =
    record { read = read_none _ c.requires.store _ c.units-n.ensures.units c.if-n-eq0.true _ _ }

pub invariant_of-rows : goal.invariant_of-rows
invariant_of-rows c = record { valid = (data_store _ c.requires.store _ c.units-n.ensures.units c.if-n-eq0.false).valid }

pub invariant_of-entries : goal.invariant_of-entries
invariant_of-entries c = record { fine = (data_store _ c.requires.store _ c.units-n.ensures.units c.if-n-eq0.false).fine }

pub returns : goal.returns
returns c =
    record { read = read_found _ c.requires.store _ c.units-n.ensures.units c.if-n-eq0.false _ _ (search rules) _ c.word.ensures.stored _ c.spot-y.ensures.spot _ c.find_place-p.ensures.place _ c.cell_after.ensures.place _ c.read_from.ensures.found }
