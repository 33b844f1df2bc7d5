-- `versioned_data::walk::dependency` meets its contract.
-- Assumes nothing.
use Rattle.versioned_data.proofs.WalkAnswers.{waits}
use Rattle.versioned_data.proofs.walk.dependency.Goals as goal

pub returns : goal.returns
returns c =
    record { waits = waits _ _ _ c.idx.ensures.unshifted c.unwrap_or.ensures }
