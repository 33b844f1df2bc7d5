-- `mvhashmap::front::answer::put_dependency` meets its contract.
-- Assumes nothing.
use Rattle.mvhashmap.proofs.AnswerPuts.{put_response}
use mathlib.Core.Path.{refl}
use native.Mathlib.Omega.{arith}
use Rattle.mvhashmap.proofs.front.answer.put_dependency.Goals as goal

pub returns : goal.returns
returns c =
    record { put = put_response 6 1 _ _ _ _ refl (omega arith) (omega arith) c.put_head.ensures.put refl }
