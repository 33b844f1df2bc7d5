-- `mvhashmap::front::answer::put_delta` meets its contract.
-- Assumes nothing.
use Rattle.mvhashmap.proofs.AnswerPuts.{put_response}
use Rattle.delta.proofs.DeltaFormat.{length_delta_words}
use native.Mathlib.Omega.{arith}
use Rattle.mvhashmap.proofs.front.answer.put_delta.Goals as goal

pub returns : goal.returns
returns c =
    record { put = put_response 3 17 _ _ _ _ (length_delta_words _) (omega arith) (omega arith) c.put_head.ensures.put c.write.ensures.written }
