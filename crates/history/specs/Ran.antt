-- What a whole run promises: it prints the lines of all that it read (`lines_of`, `requests_in`), each of them once and in their order.
use Rattle.std.specs.Prelude.{◌≡◌, ℕ, ◌%◌, ◌^◌, true, false, List, ◌++◌, length}
use Rattle.mvhashmap.specs.Call.{View}
use Rattle.history.specs.Whole.{requests_in, lines_of, view_after}
use Rattle.history.specs.State.{State, MayFollow}

-- A run, from what is known of what is lent first to the state r and to what is known of what it leaves. One that stopped at a head over the most may leave input that it has not read:
-- whatever that is, the lines are the same.
pub record Ran (first : View) (r : State) (last : View) : Type 0 where
  -- the bytes that reads brought, and those that were handed to write
  pub read : List ℕ
  pub written : List ℕ
  pub got : r.got ≡ length read
  pub sent : r.sent ≡ length written % 2 ^ 64
  -- it ends at the end of the input, after a request of no words, or where a write failed
  pub stop : r.failed ≡ false → r.stop ≡ true
  -- the lines of the whole input, and what is known of what its calls leave
  pub lines : r.failed ≡ false → (rest : List ℕ) → MayFollow r rest → lines_of (requests_in (read ++ rest)) first ≡ written
  pub view : r.failed ≡ false → (rest : List ℕ) → MayFollow r rest → view_after (requests_in (read ++ rest)) first ≡ last
  -- where a write failed: no other bytes than the first of these lines were handed to write
  pub front : (rest : List ℕ) → MayFollow r rest → (more : List ℕ) × (lines_of (requests_in (read ++ rest)) first ≡ written ++ more)
