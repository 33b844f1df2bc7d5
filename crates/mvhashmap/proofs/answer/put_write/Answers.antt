-- `mvhashmap::answer::put_write` meets its contract.
-- Assumes nothing.
use Rattle.mvhashmap.proofs.CallFront.{answer_front, versioned_size}
use Rattle.mvhashmap.proofs.answer.put_write.Goals as goal

pub returns : goal.returns
returns c =
    let x = rw c.unwrap.ensures at c.first_chunk_mut.ensures.cases in
    record { put = answer_front _ _ _ c.requires.room x.same (versioned_size _ _ _ c.requires.room x.same _ _ _ c.put_write.ensures.put) _ c.put_write.ensures.put }
