-- `versioned_group_data::base::all_agree` meets its contract.
-- Assumes nothing.
use Rattle.versioned_group_data.proofs.BaseAgreeing.{agree_stop, agree_again}
use Rattle.versioned_group_data.proofs.base.all_agree.Goals as goal

pub returns-then-not-tag_agrees : goal.returns-then-not-tag_agrees
returns-then-not-tag_agrees c =
    record { agree = agree_stop _ _ _ _ c.in-Some.ensures.some _ c.loop-tag.invariant _ c.tag_agrees.ensures.agree c.if-not-tag_agrees.true }

pub loop-tag-preserved : goal.loop-tag-preserved
loop-tag-preserved c = agree_again _ _ _ _ c.in-Some.ensures.some _ c.loop-tag.invariant _ c.tag_agrees.ensures.agree c.if-not-tag_agrees.false
