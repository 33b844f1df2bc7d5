-- `versioned_group_data::update::Update::write_members` meets its contract.
-- Assumes nothing.
use Rattle.std.proofs.Common.{rules, arith, ap, length}
use Rattle.versioned_group_data.proofs.UpdateBuilding.{write_turn}
use Rattle.versioned_group_data.proofs.update.Update.write_members.Goals as goal

pub loop-tag-preserved : goal.loop-tag-preserved
loop-tag-preserved c = (
  write_turn _ _ _ _ _ _ _ _ _ c.in-Some.ensures.some c.new_member-m.ensures.slot c.write_slot.ensures.written c.loop-tag.invariant.0,
  omega (arith, ap length c.in-Some.ensures.some, c.loop-tag.invariant.1),
  search rules,
)
