use Rattle.std.proofs.Common.{false, refl}
use Rattle.history.specs.Writing.{output_state}
use Rattle.history.proofs.StateLaws.{written_is}
use Rattle.history.proofs.output.Output.write_waiting.Goals as goal

pub returns : goal.returns
returns g c =
    let o = c.args.self.now in
    record {
      written = written_is (output_state o false) o.bytes _ _ o.within refl;
      kept = refl;
      handed = c.write_all-written.ensures.handed;
    }
