-- What the program's input holds, as the definitions speak of it.
use Rattle.std.specs.Prelude.{◌≡◌, ℕ, ◌+◌, false}
use Rattle.history.specs.State.{State}
use Rattle.history.specs.declared.input.Input.{Input}

-- The state of a run that only reads.
abbrev pub input_state : {n : ℕ} → Input n → State
input_state i =
    record { at = i.at; end = i.end; put = 0; got = i.got; sent = 0; over = i.over; stop = false; failed = false }

-- The next n bytes are used, and all else stays.
pub record Uses {m : ℕ} (i j : Input m) (n : ℕ) : Type 0 where
  pub bytes : j.bytes ≡ i.bytes
  pub state : input_state j ≡ record (input_state i) { at = i.at + n }
