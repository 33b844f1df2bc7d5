use Rattle.std.proofs.Common.{arith, rules}
use Rattle.history.proofs.LineLaws.{length_decimal, refusal_line}
use Rattle.history.proofs.output.Output.put_refusal.Goals as goal

pub push-requires-4 : goal.push-requires-4
push-requires-4 g c =
    (search rules, omega (arith, c.requires.room, c.push.ensures.puts.put, c.push-2.ensures.puts.put, c.push-3.ensures.puts.put, c.put_decimal.ensures.puts.put, length_decimal c.args.n))

pub returns : goal.returns
returns g c =
    record {
      puts = refusal_line c.args.self.now c.push.new.self c.push-2.new.self c.push-3.new.self c.put_decimal.new.self c.push-4.new.self c.args.n c.push.ensures.puts
          c.push-2.ensures.puts c.push-3.ensures.puts c.put_decimal.ensures.puts c.push-4.ensures.puts;
    }
