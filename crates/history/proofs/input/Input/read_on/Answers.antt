use Rattle.std.proofs.Common.{length, sym, subst, arith, rules, length-append}
use Rattle.std.specs.Io.KnownBytes.{Consumes}
use lib.Seq.{take-append-le}
use Rattle.history.specs.State.{Within}
use Rattle.history.specs.Reading.{input_state}
use Rattle.history.proofs.StateLaws.{read_follows, read_gives}
use Rattle.history.proofs.input.Input.read_on.Goals as goal

pub returns : goal.returns
returns g c =
    let i = c.args.self.now in
    let read = c.read_some-n in
    let within : Within (length i.bytes) (input_state i) = record { from = i.from; to = i.to } in
    record {
      size = search rules;
      reads =
          read_follows (input_state i) i.bytes _ _ read.result within c.copy_within.ensures.after
          (simp length-append (omega (arith, read.ensures.count)));
      gave =
          read_gives (input_state i) i.bytes _ _ read.result within c.copy_within.ensures.after
          (simp length-append (omega (arith, read.ensures.count))) _ _
          (subst (Consumes _ _) (sym (take-append-le read.result read.new.room _ read.ensures.count)) read.ensures.gave);
    }
