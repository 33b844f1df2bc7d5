-- What a session holds, as the definitions speak of it.
use Rattle.std.specs.Prelude.{ℕ, Bool}
use Rattle.mvhashmap.specs.Call.{View, lent, view_of}
use Rattle.history.specs.State.{State}
use Rattle.history.specs.declared.session.Session.{Session}

-- Where it stands, as its last step failed or not.
abbrev pub state_of : {b w s : ℕ} → Session b w s → Bool → State
state_of x failed =
    record {
      at = x.input.at;
      end = x.input.end;
      put = x.output.put;
      got = x.input.got;
      sent = x.output.sent;
      over = x.input.over;
      stop = x.stopped;
      failed = failed;
    }

-- What is known of what it lends to its calls.
abbrev pub view_in : {b w s : ℕ} → Session b w s → View
view_in x = view_of (lent x.stores.«data» x.stores.group x.answer)
