-- `mvhashmap::answer::put_data_output` meets its contract.
-- Assumes nothing.
use Rattle.versioned_data.proofs.Passed.{passed}
use Rattle.mvhashmap.proofs.AnswerPuts.{data_put, data_refused}
use Rattle.mvhashmap.proofs.CallFront.{answer_front}
use Rattle.mvhashmap.proofs.answer.put_data_output.Goals as goal

pub returns-in_err-found : goal.returns-in_err-found
returns-in_err-found c = record { put = rw (passed _ _ c.from_residual.ensures.1) (data_refused _ _ _ c.in_err-found.was) }

pub returns : goal.returns
returns c =
    let x = rw c.unwrap.ensures at c.first_chunk_mut.ensures.cases in
    record {
      put = data_put _ _ _ c.in_ok-found.was _
          (answer_front _ _ _ c.requires.room x.same c.put_data_output.ensures.size _ c.put_data_output.ensures.put);
    }
