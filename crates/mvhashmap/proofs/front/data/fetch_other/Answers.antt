-- `mvhashmap::front::data::fetch_other` meets its contract.
-- Assumes nothing.
use native.Mathlib.Omega.{arith}
use Rattle.versioned_data.proofs.Passed.{passed}
use Rattle.mvhashmap.proofs.AnswerPuts.{data_put, data_refused}
use Rattle.mvhashmap.proofs.ServedData.{serves_fetch}
use Rattle.mvhashmap.proofs.AskedData.{words_inside, data_served, asks_fetch}
use Rattle.mvhashmap.proofs.front.data.fetch_other.Goals as goal

pub bounds-t-1 : goal.bounds-t-1
bounds-t-1 c = omega (arith, words_inside _ 6 c.requires.asked (omega arith) (omega arith))

pub bounds-t-2 : goal.bounds-t-2
bounds-t-2 c = omega (arith, words_inside _ 6 c.requires.asked (omega arith) (omega arith))

pub fetch_data-requires : goal.fetch_data-requires
fetch_data-requires c =
    record { store = c.requires.valid; served = data_served _ 6 c.requires.asked (omega arith) (omega arith) }

pub returns : goal.returns
returns c =
    record {
      served = serves_fetch _ _ _ _ _ c.requires.valid _ _ (asks_fetch _ c.requires.asked) _ c.fetch_data.ensures.read
          (data_put _ _ _ c.in_ok-o.was _ c.put_data_output.ensures.put);
    }

pub returns-in_err-o : goal.returns-in_err-o
returns-in_err-o c =
    record {
      served = serves_fetch _ _ _ _ _ c.requires.valid _ _ (asks_fetch _ c.requires.asked) _ c.fetch_data.ensures.read
          (rw (passed _ _ c.from_residual.ensures.1) (data_refused _ _ _ c.in_err-o.was));
    }
