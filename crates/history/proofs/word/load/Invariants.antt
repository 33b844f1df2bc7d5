use Rattle.std.proofs.Common.{◌≡◌, ◌++◌, length, drop}
use Rattle.history.specs.Input.{words_from}
use Rattle.history.proofs.word.load.Given as goal

abbrev pub invariant-loop-i : goal.invariant-loop-i
invariant-loop-i l = (length l.words ≡ length l.initial.words) × (l.words ≡ words_from l.i l.b ++ drop l.i l.initial.words)
