-- `versioned_group_data::commit::Growth::of` meets its contract.
-- Assumes nothing.
use Rattle.versioned_group_data.proofs.MembersHanded.{handed_rest}
use Rattle.versioned_group_data.proofs.CommitSteps.{counted_none, counted_few, counted_more}
use Rattle.versioned_group_data.proofs.commit.Growth.+of.Goals as goal

pub returns-in_default : goal.returns-in_default
returns-in_default t c =
    let none = counted_none _ c.in_default.ensures.none in
    record { creations = none.0; deletions = none.1 }

pub with-requires : goal.with-requires
with-requires t c =
    let few = counted_few _ _ c.of.ensures.creations c.of.ensures.deletions (handed_rest _ _ c.args.members c.in-Some.ensures.some) in
    record { creations = few.0; deletions = few.1 }

pub returns : goal.returns
returns t c =
    let more = counted_more _ _ c.of.ensures.creations c.of.ensures.deletions _ _ c.in-Some.ensures.some _ c.with.ensures.grown in
    record { creations = more.0; deletions = more.1 }
