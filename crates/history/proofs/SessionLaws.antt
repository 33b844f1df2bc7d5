-- Laws of a session's state: what its input and its output do, it does.
use Rattle.std.proofs.Common.{◌≡◌, ℕ, ◌+◌, Bool, false, List, drop, refl}
use Rattle.std.specs.declared.option.Option.{Option}
use Rattle.std.specs.Io.KnownBytes.{Consumes}
use Rattle.history.specs.State.{State, unread, wants_more, emptied, read_on, ReadOn}
use Rattle.history.specs.Reading.{input_state, Uses}
use Rattle.history.specs.Writing.{output_state, Puts}
use Rattle.history.specs.declared.input.Input.{Input}
use Rattle.history.specs.declared.output.Output.{Output}

-- The state of an input and an output, in a run that did not fail yet.
abbrev pub both : {n m : ℕ} → Input n → Output m → Bool → Bool → State
both i o stop failed =
    record { at = i.at; end = i.end; put = o.put; got = i.got; sent = o.sent; over = i.over; stop = stop; failed = failed }

module _ {n m : ℕ} (i : Input n) (o : Output m) (stop failed : Bool) where
  pub unread_in : (b : List ℕ) → unread (input_state i) b ≡ unread (both i o stop failed) b
  unfolding unread
  unread_in b = refl

  pub gave_in : (had has : Option (List ℕ)) (k : ℕ) (b : List ℕ) → Consumes had has (drop k (unread (input_state i) b))
      → Consumes had has (drop k (unread (both i o stop failed) b))
  unfolding unread
  gave_in had has k b h = h

  pub wants_in : (b : List ℕ) → wants_more (input_state i) b ≡ wants_more (both i o stop failed) b
  unfolding wants_more unread
  wants_in b = refl

  pub emptied_in : (p : Output m) → output_state p failed ≡ emptied (output_state o false) failed → both i p stop failed ≡ emptied (both i o stop false) failed
  unfolding emptied
  emptied_in p h =
      λ k. record { at = i.at; end = i.end; put = (h k).put; got = i.got; sent = (h k).sent; over = i.over; stop = stop; failed = failed }

  pub read_in : (j : Input n) (b c : List ℕ) → ReadOn (input_state i) b (input_state j) c → ReadOn (both i o stop failed) b (both j o stop failed) c
  unfolding unread read_on
  read_in j b c h =
      record {
        more = h.more;
        follows = h.follows;
        state =
            λ k.
            record {
              at = (h.state k).at;
              end = (h.state k).end;
              put = o.put;
              got = (h.state k).got;
              sent = o.sent;
              over = (h.state k).over;
              stop = stop;
              failed = failed;
            };
      }

  pub used_in : (j : Input n) (p : Output m) (line : List ℕ) (k : ℕ) → Uses i j k → Puts o p line
      → both j p stop failed
      ≡ record { at = i.at + k; end = i.end; put = p.put; got = i.got; sent = o.sent; over = i.over; stop = stop; failed = failed }
  used_in j p line k u q =
      λ e.
      record {
        at = (u.state e).at;
        end = (u.state e).end;
        put = p.put;
        got = (u.state e).got;
        sent = q.sent e;
        over = (u.state e).over;
        stop = stop;
        failed = failed;
      }
