-- `mvhashmap::front::answer::put_number` meets its contract.
-- Assumes nothing.
use Rattle.number.specs.Words.{digits}
use Rattle.mvhashmap.proofs.AnswerPuts.{put_response}
use mathlib.Core.Path.{refl}
use native.Mathlib.Omega.{arith}
use Rattle.mvhashmap.proofs.front.answer.put_number.Goals as goal

pub returns : goal.returns
unfolding digits
returns c =
    record { put = put_response 2 4 _ _ _ _ refl (omega arith) (omega arith) c.put_head.ensures.put c.write.ensures.written }
