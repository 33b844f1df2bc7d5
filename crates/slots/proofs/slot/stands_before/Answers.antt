-- `slots::slot::stands_before` meets its contract: the order that is derived is that of the words.
-- Assumes nothing.
use Rattle.std.proofs.Common.{◌∙◌, sym}
use Rattle.slots.proofs.SlotCompares.{before_four}
use Rattle.slots.proofs.slot.stands_before.Goals as goal

pub returns-then-is_used : goal.returns-then-is_used
returns-then-is_used c =
    record { order = rw (← c.read.ensures.place, sym c.is_used.ensures.used ∙ c.if-is_used.true) (c.lt.ensures ∙ before_four _ _ _ _ _ _ _ _) }
