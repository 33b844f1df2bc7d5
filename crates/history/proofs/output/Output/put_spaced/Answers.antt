use Rattle.std.proofs.Common.{take, arith, rules, length-take-le}
use Rattle.history.specs.Line.{spaced}
use Rattle.history.proofs.LineLaws.{puts_none, spaced_next, length_spaced}
use Rattle.history.proofs.output.Output.put_spaced.Goals as goal

pub loop-w-init : goal.loop-w-init
unfolding spaced
loop-w-init g c = puts_none c.args.self.now

pub push-requires : goal.push-requires
push-requires g c =
    (search rules, omega (arith, c.requires.room, c.loop-w.invariant.put, length_spaced (take c.loop-w.w-index c.args.words.now), length-take-le c.loop-w.w-index c.args.words.now c.loop-w.auto.w-index-end))

pub put_word-requires : goal.put_word-requires
put_word-requires g c =
    (search rules, omega (arith, c.requires.room, c.push.ensures.puts.put, c.loop-w.invariant.put, length_spaced (take c.loop-w.w-index c.args.words.now), length-take-le c.loop-w.w-index c.args.words.now c.loop-w.auto.w-index-end))

pub loop-w-preserved : goal.loop-w-preserved
loop-w-preserved g c =
    spaced_next c.args.self.now c.loop-w.self c.push.new.self c.put_word.new.self c.args.words.now c.loop-w.w-index c.loop-w-test.true c.loop-w.invariant c.push.ensures.puts c.put_word.ensures.puts
