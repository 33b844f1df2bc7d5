-- `store::payloads::open_payload` meets its contract.
-- Assumes nothing.
use Rattle.store.proofs.Inserting.{opened_words}
use Rattle.store.proofs.payloads.open_payload.Goals as goal

pub returns : goal.returns
returns c =
    record { opened = opened_words _ _ _ _ _ c.requires.low c.requires.inside }
