-- `versioned_group_data::commit::Growth::with` meets its contract.
-- Assumes nothing.
use Rattle.versioned_group_data.proofs.CommitSteps.{with_grown}
use Rattle.versioned_group_data.proofs.commit.Growth.with.Goals as goal

pub returns : goal.returns
returns c =
    record { grown = with_grown _ _ _ _ c.is_creation.ensures.creation c.is_deletion.ensures.deletion }
