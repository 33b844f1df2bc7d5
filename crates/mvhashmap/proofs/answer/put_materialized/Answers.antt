-- `mvhashmap::answer::put_materialized` meets its contract.
-- Assumes nothing.
use Rattle.versioned_data.proofs.Passed.{passed}
use Rattle.mvhashmap.proofs.AnswerPuts.{materialized_put, materialized_refused}
use Rattle.mvhashmap.proofs.CallFront.{answer_front}
use Rattle.mvhashmap.proofs.answer.put_materialized.Goals as goal

pub returns-in_err-number : goal.returns-in_err-number
returns-in_err-number c = record { put = rw (passed _ _ c.from_residual.ensures.1) (materialized_refused _ _ _ c.in_err-number.was) }

pub returns : goal.returns
returns c =
    let x = rw c.unwrap.ensures at c.first_chunk_mut.ensures.cases in
    record {
      put = materialized_put _ _ _ c.in_ok-number.was _
          (answer_front _ _ _ c.requires.room x.same c.put_materialized.ensures.size _ c.put_materialized.ensures.put);
    }
