-- `slots::search::find_slot` meets its contract.
-- Assumes nothing.
use Rattle.slots.proofs.SlotFinds.{find_full, find_there, find_absent}
use Rattle.slots.proofs.search.find_slot.Goals as goal
use Rattle.slots.proofs.search.find_slot.Goals.{else-i-slots-via-then-i-slots+else-stands_at, else-i-slots-via-else-i-slots}

pub returns-then-stands_at : goal.returns-then-stands_at
returns-then-stands_at c =
    record {
      found = find_there _ c.requires.packed _ _ _ _ c.requires.in_use _ c.lower_bound-i.ensures.place _ c.slots_of-slots.ensures.slots
          c.if-i-slots.true _ c.stands_at.ensures.place c.if-stands_at.true;
    }

pub returns-else-i-slots : goal.returns-else-i-slots
returns-else-i-slots c =
    record {
      found = elim c.else-i-slots.branch [
        | else-i-slots-via-then-i-slots+else-stands_at w ↦ find_absent _ c.requires.packed _ _ _ _ c.requires.in_use _ c.lower_bound-i.ensures.place _
            c.slots_of-slots.ensures.slots w.if-i-slots.true _ w.stands_at.ensures.place w.if-stands_at.false
        | else-i-slots-via-else-i-slots w ↦ find_full _ c.requires.packed _ _ _ _ c.requires.in_use _ c.lower_bound-i.ensures.place _ c.slots_of-slots.ensures.slots
            w.if-i-slots.false
      ];
    }
