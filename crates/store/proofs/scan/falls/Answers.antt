-- `store::scan::falls` meets its contract.
-- Assumes nothing.
use Rattle.store.proofs.ScanCells.{by_spot, by_part}
use Rattle.store.proofs.scan.falls.Goals as goal

pub returns-then-x-y : goal.returns-then-x-y
returns-then-x-y c =
    record { below = by_spot _ _ _ _ _ c.pair-x.ensures.spot c.pair-y.ensures.spot c.if-x-y.true }

pub returns : goal.returns
returns c =
    record {
      below = by_part _ _ _ _ _ _ _ c.pair-x.ensures.spot c.pair-y.ensures.spot c.if-x-y.false c.word.ensures.same c.word-2.ensures.same
          c.word.ensures.small c.word-2.ensures.small;
    }
