-- Where a run stands: the bytes that are read and not yet used, the bytes that wait to be written, and what reading and writing make of it.
use Rattle.std.specs.Prelude.{◌≡◌, ℕ, suc, ◌+◌, ◌-◌, ◌*◌, ◌%◌, ◌^◌, ◌≤◌, min, Bool, true, false, cond, not, List, [], ◌++◌, length, take, drop, ◌==◌}
use Rattle.types.specs.Response.{answer_width}
use Rattle.request.specs.Table.{longest_count}
use Rattle.history.specs.Input.{decided}

-- Where a run stands.
pub record State : Type 0 where
  -- the bytes that are read and not yet used lie from `at` to `end` of the input's buffer
  pub at : ℕ
  pub end : ℕ
  -- as many bytes wait in the output's buffer
  pub put : ℕ
  -- the bytes that were read, and those that were handed to write, modulo 2^64
  pub got : ℕ
  pub sent : ℕ
  -- no more input comes, or no more lines
  pub over : Bool
  pub stop : Bool
  -- a write failed, or `got` might not count what the next read brings
  pub failed : Bool

-- The bytes of the longest request, and of the longest line: 8 digits a word, and a space or the line's end.
abbrev pub longest_request : ℕ
longest_request = 4 * suc longest_count

abbrev pub longest_line : ℕ
longest_line = 9 * answer_width

-- The state's bytes lie within a buffer of n bytes.
pub record Within (n : ℕ) (s : State) : Type 0 where
  pub from : s.at ≤ s.end
  pub to : s.end ≤ n

-- The bytes that are read and not yet used.
unfoldable pub unread : State → List ℕ → List ℕ
unread s b = take (s.end - s.at) (drop s.at b)

-- What may follow the bytes that were read: nothing where the input is over.
abbrev pub MayFollow : State → List ℕ → Type 0
MayFollow s rest = s.over ≡ true → rest ≡ []

-- Whether more is read before the next answer: the input is not over, and what is unread does not decide the next request.
unfoldable pub wants_more : State → List ℕ → Bool
wants_more s b = cond s.over false (not (decided (unread s b)))

-- The state after all that waits was handed to write.
unfoldable pub emptied : State → Bool → State
emptied s failed =
    record {
      at = s.at;
      end = s.end;
      put = 0;
      got = s.got;
      sent = (s.sent + s.put) % 2 ^ 64;
      over = s.over;
      stop = s.stop;
      failed = failed;
    }

-- The state after a read that brought n bytes. The input is over where it brought none.
unfoldable pub read_on : State → ℕ → State
read_on s n =
    record {
      at = 0;
      end = s.end - s.at + n;
      put = s.put;
      got = s.got + n;
      sent = s.sent;
      over = (n == 0);
      stop = s.stop;
      failed = s.failed;
    }

-- Reading on, from the bytes b to the bytes c: what is unread is what was, and then what the read brought.
pub record ReadOn (s : State) (b : List ℕ) (r : State) (c : List ℕ) : Type 0 where
  pub more : List ℕ
  pub follows : unread r c ≡ unread s b ++ more
  pub state : r ≡ read_on s (length more)

-- The state of a run that has read as many bytes as it can count.
unfoldable pub gave_up : State → State
gave_up s =
    record {
      at = s.at;
      end = s.end;
      put = s.put;
      got = s.got;
      sent = s.sent;
      over = s.over;
      stop = s.stop;
      failed = true;
    }

-- It falls at each turn, so that a run ends: by the bytes that can yet be counted, those unread, and what has not happened yet.
unfoldable pub budget : State → ℕ
budget s = 2 * (2 ^ 64 - 1 - s.got) + (s.end - s.at) + min 1 s.put + cond s.over 0 1 + cond s.stop 0 2 + cond s.failed 0 1

-- Where every run starts.
abbrev pub start : State
start = record { at = 0; end = 0; put = 0; got = 0; sent = 0; over = false; stop = false; failed = false }
