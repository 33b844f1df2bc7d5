use Rattle.std.proofs.Common.{take}
use Rattle.history.specs.Line.{spaced}
use Rattle.history.specs.Writing.{Puts}
use Rattle.history.proofs.output.Output.put_spaced.Given as goal

abbrev pub invariant-loop-w : goal.invariant-loop-w
invariant-loop-w g l = Puts l.initial.self l.self (spaced (take l.w-index l.words))
