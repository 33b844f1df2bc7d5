-- `versioned_group_data::update::writes_outside` meets its contract.
-- Assumes nothing.
use Rattle.versioned_group_data.proofs.UpdateReports.{outside_there, outside_absent}
use Rattle.versioned_group_data.proofs.update.writes_outside.Goals as goal

pub returns-then-is_err : goal.returns-then-is_err
returns-then-is_err c =
    record { outside = outside_absent _ _ _ _ _ _ c.in-Some.ensures.some _ c.find_member.ensures.found _ _ c.is_err.ensures.value c.loop-tag.invariant c.if-is_err.true }

pub loop-tag-preserved : goal.loop-tag-preserved
loop-tag-preserved c = outside_there _ _ _ _ _ _ c.in-Some.ensures.some _ c.find_member.ensures.found _ _ c.is_err.ensures.value c.loop-tag.invariant c.if-is_err.false
