-- `versioned_data::find::find_entry` meets its contract.
-- Assumes nothing.
use borrow.Author.Rules.{rules}
use Rattle.versioned_data.proofs.EntryFinds.{found_nothing, searchable, found_end, found_other, found_there}
use Rattle.versioned_data.proofs.find.find_entry.Goals as goal

pub returns-then-n-eq0 : goal.returns-then-n-eq0
returns-then-n-eq0 c =
    record { found = found_nothing _ c.requires.valid _ c.units-n.ensures.units _ _ _ (search rules) c.if-n-eq0.true }

pub invariant_of-rows : goal.invariant_of-rows
invariant_of-rows c = record { valid = searchable _ c.requires.valid _ c.units-n.ensures.units c.if-n-eq0.false }

pub returns-in_default : goal.returns-in_default
returns-in_default c =
    record {
      found = found_end _ c.requires.valid _ c.units-n.ensures.units c.if-n-eq0.false _ _ _ _ _ (search rules) c.word.ensures.stored c.spot-y.ensures.spot
          c.find_place-p.ensures.place _ c.cell_after.ensures.place c.find_place-p.ensures.stands c.in_default.is;
    }

pub returns-then-spot_at-y : goal.returns-then-spot_at-y
returns-then-spot_at-y c =
    record {
      found = found_other _ c.requires.valid _ c.units-n.ensures.units c.if-n-eq0.false _ _ _ _ _ (search rules) c.word.ensures.stored c.spot-y.ensures.spot
          c.find_place-p.ensures.place _ c.cell_after.ensures.place _ c.in-Some.is c.find_place-p.ensures.stands _ c.spot_at.ensures.spot c.if-spot_at-y.true;
    }

pub returns : goal.returns
returns c =
    record {
      found = found_there _ c.requires.valid _ c.units-n.ensures.units c.if-n-eq0.false _ _ _ _ _ (search rules) c.word.ensures.stored c.spot-y.ensures.spot
          c.find_place-p.ensures.place _ c.cell_after.ensures.place _ c.in-Some.is c.in-Some.ensures.there _ c.spot_at.ensures.spot c.if-spot_at-y.false;
    }
