-- `versioned_data::walk::read_op` meets its contract.
-- Assumes nothing.
use Rattle.versioned_data.proofs.ContentWords.{op_read}
use Rattle.versioned_data.proofs.walk.read_op.Goals as goal

pub returns : goal.returns
returns c =
    record { op = op_read c.args.s.now _ _ c.requires.inside _ _ _ _ c.read-limit.ensures.value c.read-high.ensures.value c.read-low.ensures.value c.read-update.ensures.value }
