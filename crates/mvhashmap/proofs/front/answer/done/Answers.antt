-- `mvhashmap::front::answer::done` meets its contract.
-- Assumes nothing.
use Rattle.versioned_data.proofs.Passed.{passed}
use Rattle.mvhashmap.proofs.AnswerPuts.{done_put, done_refused}
use Rattle.mvhashmap.proofs.front.answer.done.Goals as goal

pub returns-in_err-r : goal.returns-in_err-r
returns-in_err-r c = record { put = rw (passed _ _ c.from_residual.ensures.1) (done_refused _ _ _ c.in_err-r.was) }

pub returns : goal.returns
returns c = record { put = done_put _ _ _ c.in_ok-r.was _ c.put_bare.ensures.put }
