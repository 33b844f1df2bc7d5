-- `mvhashmap::call::inner_call` meets its contract.
-- Assumes nothing.
use Rattle.mvhashmap.proofs.CallParts.{calls_short}
use Rattle.mvhashmap.proofs.CallFront.{calls_front}
use Rattle.mvhashmap.proofs.call.inner_call.Goals as goal

pub returns-in-None : goal.returns-in-None
returns-in-None c = record { called = calls_short _ _ c.in-None.ensures.cases }

pub returns-in-Some : goal.returns-in-Some
returns-in-Some c =
    let x = c.in-Some.ensures.cases in
    record { called = calls_front _ _ _ _ _ _ _ _ _ x.enough x.same c.call_into.ensures.size c.call_into.ensures.called }
