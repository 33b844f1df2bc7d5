use Rattle.std.proofs.Common.{◌≡◌, get_or, length, take, drop, ◌-◌, arith, rules, length-take, length-drop}
use Rattle.history.proofs.LineLaws.{length_hex_word, length_spaced, answer_line}
use Rattle.history.proofs.output.Output.put_answer.Goals as goal

pub put_spaced-requires : goal.put_spaced-requires
put_spaced-requires g c =
    (search rules, simp (length-take, length-drop) (omega (arith, c.requires.some, c.requires.room, c.put_word.ensures.puts.put, length_hex_word (get_or c.args.words.now 0 0))))

pub push-requires : goal.push-requires
push-requires g c =
    let rest = take (length c.args.words.now - 1) (drop 1 c.args.words.now) in
    let short : length rest ≡ length c.args.words.now - 1 = simp (length-take, length-drop) (omega arith) in
    (search rules, omega (arith, short, c.requires.some, c.requires.room, c.put_word.ensures.puts.put, c.put_spaced.ensures.puts.put, length_spaced rest, length_hex_word (get_or c.args.words.now 0 0)))

pub returns : goal.returns
returns g c =
    record {
      puts = answer_line c.args.self.now c.put_word.new.self c.put_spaced.new.self c.push.new.self c.args.words.now c.requires.some c.put_word.ensures.puts
          c.put_spaced.ensures.puts c.push.ensures.puts;
    }
