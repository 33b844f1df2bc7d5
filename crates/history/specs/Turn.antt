-- One turn of the program: it writes what waits, or reads on, or calls with the next request of what is unread and puts the line of what that call
-- shows. The call is the definition's (`call_of`).
use Rattle.std.specs.Prelude.{◌≡◌, ℕ, ◌+◌, ◌*◌, ◌%◌, ◌^◌, ◌<◌, true, cond, List, [], ◌++◌, length, take, ◌==◌}
use Rattle.std.proofs.lemmas.List.Edits.{sets}
use Rattle.mvhashmap.specs.Call.{View, call_of}
use Rattle.mvhashmap.specs.Run.{seen_of}
use Rattle.history.specs.Input.{request_in}
use Rattle.history.specs.Line.{line_of}
use Rattle.history.specs.Whole.{requests_in, lines_of, view_after}
use Rattle.history.specs.State.{State, unread, MayFollow}

-- The line for the unread bytes u, by what is known of what is lent to the call. No input prints nothing.
unfoldable pub line_for : List ℕ → View → List ℕ
line_for u v = cond (length u == 0) [] (line_of (seen_of (call_of (request_in u) v)))

-- The state after that line.
unfoldable pub after : State → List ℕ → List ℕ → State
after s u line =
    record {
      at = s.at + 4 * length (request_in u);
      end = s.end;
      put = s.put + length line;
      got = s.got;
      sent = s.sent;
      over = s.over;
      stop = (length (request_in u) == 0);
      failed = s.failed;
    }

-- The request that the unread bytes u start with is answered.
pub record Answered (s : State) (u : List ℕ) (v : View) (o : List ℕ) (r : State) (v-after : View) (o-after : List ℕ) : Type 0 where
  pub view : v-after ≡ (call_of (request_in u) v).view
  pub line : o-after ≡ sets o s.put (line_for u v)
  pub state : r ≡ after s u (line_for u v)

-- What is yet to be written where `rest` is all that is yet to be read: the lines that wait, and those of the requests to come.
unfoldable pub lines_ahead : State → List ℕ → View → List ℕ → List ℕ → List ℕ
lines_ahead s b v o rest = take s.put o ++ cond s.stop [] (lines_of (requests_in (unread s b ++ rest)) v)

-- What is known of what is lent after the requests to come.
unfoldable pub view_ahead : State → List ℕ → View → List ℕ → View
view_ahead s b v rest = cond s.stop v (view_after (requests_in (unread s b ++ rest)) v)

-- Some turns, from a state, the bytes b and o of its buffers and what is known of what is lent: whatever is yet to be read, what was to be written is what was handed
-- to write and then what is yet to be written.
pub record Turned (s : State) (b : List ℕ) (v : View) (o : List ℕ) (r : State) (c : List ℕ) (v-after : View) (o-after : List ℕ) : Type 0 where
  -- the bytes that reads brought, and those that were handed to write
  pub read : List ℕ
  pub written : List ℕ
  pub got : r.got ≡ s.got + length read
  pub sent : s.sent < 2 ^ 64 → r.sent ≡ (s.sent + length written) % 2 ^ 64
  -- nothing is read where the input is over, and it stays over
  pub ended : s.over ≡ true → (read ≡ []) × (r.over ≡ true)
  pub lines : (rest : List ℕ) → MayFollow r rest → lines_ahead s b v o (read ++ rest) ≡ written ++ lines_ahead r c v-after o-after rest
  pub view : (rest : List ℕ) → MayFollow r rest → view_ahead s b v (read ++ rest) ≡ view_ahead r c v-after rest
