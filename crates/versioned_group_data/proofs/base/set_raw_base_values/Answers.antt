-- `versioned_group_data::base::set_raw_base_values` meets its contract.
-- Assumes nothing.
use Rattle.std.proofs.lemmas.Result.{err_from_is_err_and}
use native.Mathlib.Omega.{arith}
use Rattle.types.proofs.IndexLaws.{base_word}
use Rattle.versioned_group_data.proofs.Results.{refusal_some, none_refused}
use Rattle.versioned_group_data.proofs.CommitSteps.{key_word}
use Rattle.versioned_group_data.proofs.BaseRecording.{base_agrees, base_differs_lem, base_refused, base_recorded}
use Rattle.versioned_group_data.proofs.base.set_raw_base_values.Goals as goal

pub returns-then-all_agree : goal.returns-then-all_agree
returns-then-all_agree c =
    record { ruled = base_agrees _ c.requires.valid _ _ (base_word _ c.zero_idx-place.ensures.base) _ c.find_update-run.ensures.run _ c.if-run-gt0.true _ c.all_agree.ensures.agree c.if-all_agree.true }

pub returns-then-run-gt0 : goal.returns-then-run-gt0
returns-then-run-gt0 c =
    record { ruled = base_differs_lem _ c.requires.valid _ _ (base_word _ c.zero_idx-place.ensures.base) _ c.find_update-run.ensures.run _ c.if-run-gt0.true _ c.all_agree.ensures.agree c.if-all_agree.false }

pub returns-in_err-try_commit : goal.returns-in_err-try_commit
returns-in_err-try_commit c =
    let p = err_from_is_err_and c.from_residual.result c.from_residual.ensures.1 in
    rw (p.1, p.2) (record { ruled = base_refused _ c.requires.valid _ _ (base_word _ c.zero_idx-place.ensures.base) _ c.find_update-run.ensures.run _ c.if-run-gt0.false (key_word _ c.ranges.key.fits) c.requires.members _ (omega (arith, c.len.ensures.counted)) _ _ (rw c.in_err-try_commit.was at c.try_commit.ensures.tried) (refusal_some _) })

pub returns : goal.returns
returns c =
    record { ruled = base_recorded _ c.requires.valid _ _ (base_word _ c.zero_idx-place.ensures.base) _ c.find_update-run.ensures.run _ c.if-run-gt0.false (key_word _ c.ranges.key.fits) c.requires.members _ (omega (arith, c.len.ensures.counted)) _ _ c.try_commit.ensures.tried (none_refused _ _ c.in_ok-try_commit.was) _ _ c.put.ensures.recorded }
