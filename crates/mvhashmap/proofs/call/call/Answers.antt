-- `mvhashmap::call::call` meets its contract.
-- Assumes nothing.
use Rattle.mvhashmap.proofs.StoresSound.{sound_both}
use Rattle.versioned_data.proofs.Passed.{passed}
use Rattle.mvhashmap.proofs.CallParts.{calls_short, calls_refused, passed_told, valid_told, calls_data_invalid, calls_group_invalid}
use Rattle.mvhashmap.proofs.call.call.Goals as goal

pub returns-then-out-lt-ANSWER_WIDTH : goal.returns-then-out-lt-ANSWER_WIDTH
returns-then-out-lt-ANSWER_WIDTH c =
    record { called = calls_short _ _ c.if-out-lt-ANSWER_WIDTH.true }

pub returns-in_err-check : goal.returns-in_err-check
returns-in_err-check c =
    record { called = rw (passed _ _ c.from_residual.ensures.1) (calls_refused _ _ c.if-out-lt-ANSWER_WIDTH.false _ c.check.ensures.checked _ c.in_err-check.was) }

pub returns-then-not-is_valid : goal.returns-then-not-is_valid
returns-then-not-is_valid c =
    record {
      called = calls_data_invalid _ _ c.if-out-lt-ANSWER_WIDTH.false
          (passed_told _ _ c.check.ensures.checked _ c.in_ok-check.was) _
          c.is_valid.ensures.valid c.if-not-is_valid.true-raw;
    }

pub returns-then-not-is_valid-2 : goal.returns-then-not-is_valid-2
returns-then-not-is_valid-2 c =
    record {
      called = calls_group_invalid _ _ c.if-out-lt-ANSWER_WIDTH.false (passed_told _ _ c.check.ensures.checked _ c.in_ok-check.was)
          (valid_told _ _ c.is_valid.ensures.valid c.if-not-is_valid.false-raw) _ c.is_valid-2.ensures.valid
          c.if-not-is_valid-2.true-raw;
    }

pub inner_call-requires : goal.inner_call-requires
inner_call-requires c =
    record {
      sound = sound_both _ _ (valid_told _ _ c.is_valid.ensures.valid c.if-not-is_valid.false-raw)
          (valid_told _ _ c.is_valid-2.ensures.valid c.if-not-is_valid-2.false-raw);
    }
