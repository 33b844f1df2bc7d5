-- `mvhashmap::front::answer::put_bare` meets its contract.
-- Assumes nothing.
use native.Mathlib.Omega.{arith}
use Rattle.mvhashmap.proofs.AnswerPuts.{put_bare_lem}
use Rattle.mvhashmap.proofs.front.answer.put_bare.Goals as goal

pub returns : goal.returns
returns c =
    record { put = put_bare_lem _ _ _ (omega arith) c.put_head.ensures.put }
