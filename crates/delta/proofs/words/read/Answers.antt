-- `delta::words::read` meets its contract.
-- Assumes nothing.
use Rattle.delta.proofs.DeltaPlaces.{op_is}
use Rattle.delta.proofs.words.read.Goals as goal

pub returns : goal.returns
returns c =
    record { value = rw c.from-sign.ensures (op_is c.args.s.now c.args.at _ _ _ _ c.read-limit.ensures.value c.read-high.ensures.value c.read-low.ensures.value c.read-update.ensures.value) }
