-- `mvhashmap::call::group_request` meets its contract.
-- Assumes nothing.
use native.Mathlib.Omega.{arith}
use Rattle.versioned_data.proofs.Passed.{passed}
use Rattle.mvhashmap.proofs.CallParts.{asked_accepted, group_kind, group_refused, group_served}
use Rattle.mvhashmap.proofs.call.group_request.Goals as goal

pub returns-in_err-request : goal.returns-in_err-request
returns-in_err-request c =
    record { called = rw (passed _ _ c.from_residual.ensures.1) (group_refused _ _ _ (omega arith) c.requires.valid _ c.check.ensures.checked _ c.in_err-request.was) }

pub group_call-requires : goal.group_call-requires
group_call-requires c =
    record { valid = c.requires.valid; asked = asked_accepted _ (λ i. (c.type_inv.t i).fits) _ c.check.ensures.checked _ c.in_ok-request.was; group = group_kind _ _ c.check.ensures.checked _ c.in_ok-request.was c.requires.kind }

pub returns : goal.returns
returns c =
    record {
      called = group_served _ _ _ (omega arith) c.requires.valid _
          (asked_accepted _ (λ i. (c.type_inv.t i).fits) _ c.check.ensures.checked _ c.in_ok-request.was)
          _ _ _ c.group_call.ensures.served;
    }
