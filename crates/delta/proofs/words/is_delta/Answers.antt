-- `delta::words::is_delta` meets its contract.
-- Assumes nothing.
use Rattle.delta.proofs.DeltaPlaces.{checked_op}
use Rattle.delta.proofs.words.is_delta.Goals as goal

pub returns : goal.returns
returns c =
    record { checked = checked_op c.args.s.now c.args.at _ _ c.read.ensures.value c.is_valid.ensures.valid }
