-- `mvhashmap::data::data_call` meets its contract.
-- Assumes nothing.
use Rattle.mvhashmap.proofs.CallFront.{data_front}
use Rattle.mvhashmap.proofs.data.data_call.Goals as goal

pub returns : goal.returns
returns c =
    let x = rw c.unwrap-front.ensures at c.first_chunk_mut.ensures.cases in
    record { served = data_front _ _ _ c.requires.room x.same c.front_call.ensures.size _ _ _ _ c.front_call.ensures.served }
