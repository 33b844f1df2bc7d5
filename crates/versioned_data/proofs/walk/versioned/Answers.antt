-- `versioned_data::walk::versioned` meets its contract.
-- Assumes nothing.
use Rattle.versioned_data.proofs.WalkSteps.{versioned_is}
use Rattle.versioned_data.proofs.walk.versioned.Goals as goal

pub returns : goal.returns
returns c =
    record { write = versioned_is _ _ _ _ c.read-value.ensures.value }
