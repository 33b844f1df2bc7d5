-- `delta::lent::fold` meets its contract.
-- Assumes nothing.
use Rattle.delta.proofs.DeltaRuns.{fold_starts, fold_again, fold_ends}
use Rattle.delta.proofs.lent.fold.Goals as goal

pub loop-record-init : goal.loop-record-init
loop-record-init c = fold_starts c.args.records.now

pub loop-record-preserved : goal.loop-record-preserved
loop-record-preserved c =
    fold_again c.args.records.now c.loop-record.record-index _ _ _ c.loop-record-test.true c.loop-record.invariant c.accumulate_record-acc.ensures.accumulates

pub returns : goal.returns
returns c =
    record { folds = fold_ends _ _ _ c.loop-record-test.false c.loop-record.invariant }
