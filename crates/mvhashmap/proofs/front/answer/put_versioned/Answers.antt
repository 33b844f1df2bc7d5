-- `mvhashmap::front::answer::put_versioned` meets its contract.
-- Assumes nothing.
use Rattle.mvhashmap.proofs.AnswerPuts.{versioned_at_base, versioned_at_index}
use native.Mathlib.Omega.{arith}
use Rattle.mvhashmap.proofs.front.answer.put_versioned.Goals as goal

pub returns-in-Err : goal.returns-in-Err
returns-in-Err c =
    record { put = versioned_at_base _ _ _ _ _ _ (omega arith) _ c.idx.ensures.unshifted _ c.in-Err.is c.put_head-in-Err.ensures.put c.write-in-Err.ensures.written }

pub returns-in-Ok : goal.returns-in-Ok
returns-in-Ok c =
    record { put = versioned_at_index _ _ _ _ _ _ (omega arith) _ c.idx.ensures.unshifted _ c.in-Ok.is c.put_head.ensures.put c.write.ensures.written }
