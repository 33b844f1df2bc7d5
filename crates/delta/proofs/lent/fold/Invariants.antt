-- `delta::lent::fold`: what is gathered is the fold of the records met so far.
use Rattle.std.proofs.Common.{◌≡◌}
use Rattle.delta.proofs.DeltaRuns.{gathered_of}
use Rattle.delta.proofs.lent.fold.Given as goal

abbrev pub invariant-loop-record : goal.invariant-loop-record
invariant-loop-record l = l.acc ≡ gathered_of l.records l.record-index
