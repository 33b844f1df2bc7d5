use Rattle.std.proofs.Common.{refl, arith, length-set}
use Rattle.history.proofs.InputWords.{load_start, load_again}
use Rattle.history.proofs.word.load.Goals as goal

pub loop-i-init : goal.loop-i-init
loop-i-init c = (refl, load_start c.args.b.now c.args.words.now)

pub loop-i-preserved : goal.loop-i-preserved
loop-i-preserved c =
    (simp length-set c.loop-i.invariant.0, load_again c.args.b.now c.args.words.now _ c.loop-i.i _ c.loop-i.invariant.1 (omega arith) c.word_at.ensures.word)
