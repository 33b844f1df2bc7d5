-- `versioned_group_data::finalize::finalize_group` meets its contract.
-- Assumes nothing.
use Rattle.std.proofs.lemmas.Result.{err_from_is_err_and}
use Rattle.versioned_group_data.proofs.CommitSteps.{key_word}
use Rattle.versioned_group_data.proofs.GroupFinalizing.{answered_none, finalized_valid, finalized_answered}
use Rattle.versioned_group_data.proofs.Results.{refusal_some, none_refused}
use Rattle.versioned_group_data.proofs.finalize.finalize_group.Goals as goal

pub returns-in_err-commit_update : goal.returns-in_err-commit_update
returns-in_err-commit_update c =
    let p = err_from_is_err_and c.from_residual.result c.from_residual.ensures.1 in
    rw (p.1, p.2) (record { finalized = answered_none _ _ _ _ _ (rw c.in_err-commit_update.was at c.commit_update.ensures.committed) (refusal_some _) })

pub get_last_committed_group-requires : goal.get_last_committed_group-requires
get_last_committed_group-requires c =
    record {
      valid = finalized_valid _ c.requires.valid _ _ (key_word _ c.ranges.key.fits) _ _ c.commit_update.ensures.committed (none_refused _ _ c.in_ok-commit_update.was);
      room = c.requires.room;
    }

pub returns : goal.returns
returns c =
    record {
      finalized = finalized_answered _ c.requires.valid _ _ (key_word _ c.ranges.key.fits) _ _ c.commit_update.ensures.committed
          (none_refused _ _ c.in_ok-commit_update.was) _ _ c.get_last_committed_group.ensures.answered;
    }
