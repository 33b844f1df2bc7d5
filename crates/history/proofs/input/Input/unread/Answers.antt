use Rattle.std.proofs.Common.{refl}
use Rattle.history.specs.State.{unread}
use Rattle.history.proofs.input.Input.unread.Goals as goal

pub returns : goal.returns
unfolding unread
returns g c = record { unread = refl }
