-- `mvhashmap::answer::put_group_output` meets its contract.
-- Assumes nothing.
use Rattle.mvhashmap.proofs.AnswerPuts.{group_put}
use Rattle.mvhashmap.proofs.CallFront.{answer_front}
use Rattle.mvhashmap.proofs.answer.put_group_output.Goals as goal

pub returns : goal.returns
returns c =
    let x = rw c.unwrap.ensures at c.first_chunk_mut.ensures.cases in
    record { put = group_put _ _ _ (answer_front _ _ _ c.requires.room x.same c.put_group_output.ensures.size _ c.put_group_output.ensures.put) }
