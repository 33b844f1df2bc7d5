-- `store::payloads::drop_payload` meets its contract.
-- Assumes nothing.
use Rattle.store.proofs.Erasing.{dropped_words}
use Rattle.store.proofs.payloads.drop_payload.Goals as goal

pub returns : goal.returns
returns c =
    record { dropped = dropped_words _ _ _ _ _ c.requires.low c.requires.inside c.clear.ensures.cleared }
