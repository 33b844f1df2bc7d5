-- What the program's output holds, as the definitions speak of it.
use Rattle.std.specs.Prelude.{◌≡◌, ℕ, ◌+◌, Bool, false, List, length}
use Rattle.std.proofs.lemmas.List.Edits.{sets}
use Rattle.history.specs.State.{State}
use Rattle.history.specs.declared.output.Output.{Output}

-- The state of a run that only writes.
abbrev pub output_state : {n : ℕ} → Output n → Bool → State
output_state o failed =
    record { at = 0; end = 0; put = o.put; got = 0; sent = o.sent; over = false; stop = false; failed = failed }

-- A line is put after those that wait.
pub record Puts {m : ℕ} (o p : Output m) (line : List ℕ) : Type 0 where
  pub bytes : p.bytes ≡ sets o.bytes o.put line
  pub put : p.put ≡ o.put + length line
  pub sent : p.sent ≡ o.sent
