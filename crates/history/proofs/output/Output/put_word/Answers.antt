use Rattle.std.proofs.Common.{sym, ◌∙◌, refl, arith}
use Rattle.history.specs.Line.{hex_word}
use Rattle.history.proofs.LineLaws.{sets_next, hex_digit, hex_done, length_hex_word}
use Rattle.history.proofs.output.Output.put_word.Goals as goal

pub loop-k-preserved : goal.loop-k-preserved
loop-k-preserved g c = (
  sets_next c.args.self.now.bytes c.loop-k.self.bytes c.args.self.now.put (hex_word c.args.w) c.loop-k.k _ (omega (arith, length_hex_word c.args.w, c.loop-k-test.true))
      (hex_digit c.args.w c.loop-k.k c.loop-k-test.true ∙ sym c.digit.ensures.digit) c.loop-k.invariant.0,
  c.loop-k.invariant.1,
  c.loop-k.invariant.2,
)

pub returns : goal.returns
returns g c =
    record { puts = hex_done c.args.self.now _ c.args.w c.loop-k.k (omega (arith, c.loop-k-test.false, c.loop-k.auto.k-end)) c.loop-k.invariant.0 refl c.loop-k.invariant.2 }
