-- `versioned_group_data::read::count_slot` meets its contract.
-- Assumes nothing.
use native.Mathlib.Omega.{arith}
use mathlib.Core.Path.{refl}
use Rattle.versioned_group_data.specs.Seen.{tally_of}
use Rattle.versioned_group_data.proofs.ReadTurns.{tag_is, tag_low, fine_item_lem, room, counted_head, counted_again, counted_new}
use Rattle.versioned_group_data.proofs.read.count_slot.Goals as goal

pub returns-then-part-eq0 : goal.returns-then-part-eq0
returns-then-part-eq0 c =
    record { counted = counted_head _ _ _ c.requires.bounded _ refl c.if-part-eq0.true }

pub bounds-seen-at : goal.bounds-seen-at
bounds-seen-at c = omega (arith, tag_low _ _ _ c.requires.bounded _ refl c.if-part-eq0.false c.requires.fine, c.requires.bounded.tags)

pub returns-then-seen-at-ne0 : goal.returns-then-seen-at-ne0
returns-then-seen-at-ne0 c =
    record { counted = counted_again _ _ _ c.requires.bounded _ refl c.if-part-eq0.false c.if-seen-at-ne0.true }

pub bounds-seen-at-2 : goal.bounds-seen-at-2
bounds-seen-at-2 c =
    omega (arith, tag_low _ _ _ c.requires.bounded _ refl c.if-part-eq0.false c.requires.fine, c.requires.bounded.tags)

pub count_new-requires : goal.count_new-requires
unfolding tally_of
count_new-requires c =
    record { tag = tag_is _ _ _ c.requires.bounded _ refl c.if-part-eq0.false; members = (room _ _ _ c.requires.bounded _ refl c.if-part-eq0.false c.requires.fine c.if-seen-at-ne0.false).0; sum = (room _ _ _ c.requires.bounded _ refl c.if-part-eq0.false c.requires.fine c.if-seen-at-ne0.false).1; fine = fine_item_lem _ _ _ c.requires.bounded _ refl c.if-part-eq0.false c.requires.fine }

pub returns : goal.returns
returns c =
    record { counted = counted_new _ _ _ c.requires.bounded _ refl c.if-part-eq0.false c.requires.fine c.if-seen-at-ne0.false _ c.count_new.ensures.counts }
