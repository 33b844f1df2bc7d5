-- `slots::slot::in_order` meets its contract: the order that is derived is that of the words.
-- Assumes nothing.
use Rattle.std.proofs.Common.{◌∙◌}
use Rattle.slots.specs.Slots.{is_before}
use Rattle.slots.proofs.SlotCompares.{before_four}
use Rattle.slots.proofs.slot.in_order.Goals as goal

pub returns : goal.returns
unfolding is_before
returns c = record { order = rw (← c.read-first.ensures.place, ← c.read-second.ensures.place) (c.lt.ensures ∙ before_four _ _ _ _ _ _ _ _) }
