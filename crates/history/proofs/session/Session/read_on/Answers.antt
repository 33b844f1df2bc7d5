use Rattle.std.proofs.Common.{false, refl}
use Rattle.history.proofs.SessionLaws.{gave_in, read_in}
use Rattle.history.proofs.session.Session.read_on.Goals as goal

pub returns : goal.returns
returns g c =
    let x = c.args.self.now in
    let j = c.read_on.new.self in
    record {
      size = c.read_on.ensures.size;
      kept = refl;
      view = refl;
      reads = read_in x.input x.output x.stopped false j x.input.bytes j.bytes c.read_on.ensures.reads;
      gave = gave_in j x.output x.stopped false (g.R.Read.remaining c.args.reader.now) (g.R.Read.remaining c.read_on.new.reader) _ j.bytes c.read_on.ensures.gave;
    }
