-- `slots::slot::stands_at` meets its contract.
-- Assumes nothing.
use Rattle.slots.proofs.SlotCompares.{at_place}
use Rattle.slots.proofs.slot.stands_at.Goals as goal

pub returns : goal.returns
returns c = record { place = at_place _ _ _ _ _ _ _ _ _ _ c.read.ensures.place c.eq.ensures }
