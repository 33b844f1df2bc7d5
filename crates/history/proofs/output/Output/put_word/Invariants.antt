use Rattle.std.proofs.Common.{◌≡◌, take}
use lib.Seq.{sets}
use Rattle.history.specs.Line.{hex_word}
use Rattle.history.proofs.output.Output.put_word.Given as goal

abbrev pub invariant-loop-k : goal.invariant-loop-k
invariant-loop-k g l =
    (l.self.bytes ≡ sets l.initial.self.bytes l.initial.self.put (take l.k (hex_word l.w))) × (l.self.put ≡ l.initial.self.put) × (l.self.sent ≡ l.initial.self.sent)
