use Rattle.std.proofs.Common.{refl, arith}
use Rattle.history.proofs.InputWords.{word_is}
use Rattle.history.proofs.word.word_at.Goals as goal

pub returns : goal.returns
returns c = record { word = omega (arith, c.from_le_bytes.ensures, word_is c.args.b.now c.args.at _ _ _ _ refl refl refl refl) }
