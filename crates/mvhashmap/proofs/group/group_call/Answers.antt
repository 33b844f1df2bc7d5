-- `mvhashmap::group::group_call` meets its contract.
-- Assumes nothing.
use Rattle.mvhashmap.proofs.CallFront.{group_front}
use Rattle.mvhashmap.proofs.group.group_call.Goals as goal

pub returns : goal.returns
returns c =
    let x = rw c.unwrap-front.ensures at c.first_chunk_mut.ensures.cases in
    record { served = group_front _ _ _ c.requires.room x.same c.front_call.ensures.size _ _ _ _ c.front_call.ensures.served }
