-- What reads and writes do to a reader and a writer whose bytes are known (`R.remaining`, `W.contents`). Of standard input and output nothing is known.
use Rattle.std.specs.Prelude.{◌≡◌, ℕ, Bool, false, List, [], ◌++◌}
use Rattle.std.specs.Io.KnownBytes.{Consumes, Appends}
use Rattle.std.specs.declared.option.Option.{Option}
use Rattle.mvhashmap.specs.Call.{View}
use Rattle.history.specs.Turn.{Turned}
use Rattle.history.specs.Ran.{Ran}
use Rattle.history.specs.State.{State}

-- A writer that was handed bs took a front of them after what it held, and all of them unless a write failed.
pub record Handed (old new : Option (List ℕ)) (bs : List ℕ) (failed : Bool) : Type 0 where
  pub took : List ℕ
  pub left : List ℕ
  pub split : bs ≡ took ++ left
  pub takes : Appends old new took
  pub all : failed ≡ false → left ≡ []

-- The reader had what reads brought and then what it has left; the writer was handed what was written.
pub record Moved (had has held holds : Option (List ℕ)) (read written : List ℕ) (failed : Bool) : Type 0 where
  pub gave : Consumes had has read
  pub handed : Handed held holds written failed

-- Some turns, and what their reads and writes moved.
pub record TurnedBy (had has held holds : Option (List ℕ)) (s : State) (b : List ℕ) (v : View) (o : List ℕ) (r : State) (c : List ℕ) (v-after : View) (o-after : List ℕ) : Type 0 where
  pub turned : Turned s b v o r c v-after o-after
  pub moved : Moved had has held holds turned.read turned.written r.failed

-- A run, and what its reads and writes moved.
pub record RanBy (had has held holds : Option (List ℕ)) (first : View) (r : State) (last : View) : Type 0 where
  pub ran : Ran first r last
  pub moved : Moved had has held holds ran.read ran.written r.failed
