-- What an operation leaves of a store: a valid store of as many words that holds these rows, and the words past the last unit as they were.
use Rattle.std.specs.Prelude.{◌≡◌, Bool, true, List, ◌∷◌, ℕ, ◌+◌, ◌-◌, ◌*◌, ◌/◌, ◌≤◌, ◌<◌, length, get_or, replicate}
use Rattle.numbers.specs.Numbers.{Row}
use Rattle.store.specs.Held.{held}
use Rattle.store.specs.Valid.{Valid}

pub record Left (w : ℕ) (parted : Bool) (n : ℕ) (rows : List (Row (List ℕ))) (s t : List ℕ) : Type 0 where
  pub valid : Valid w parted n t
  pub holds : held w n t ≡ rows
  pub size : length t ≡ length s
  pub past : (k : ℕ) → 32 * n ≤ k → get_or t k 0 ≡ get_or s k 0

-- A row with other marks, and one with other content.
unfoldable pub marked : ℕ → Row (List ℕ) → Row (List ℕ)
marked m r = record { spot = r.spot; marks = m; payload = r.payload }

unfoldable pub filled : List ℕ → Row (List ℕ) → Row (List ℕ)
filled c r = record { spot = r.spot; marks = r.marks; payload = c }

-- A row put in: its content is its part, which is zero where a store has no parts, and zeros.
unfoldable pub fresh_row : ℕ → ℕ → ℕ → ℕ → Row (List ℕ)
fresh_row w place key marks = record { spot = place + 4294967296 * key; marks = marks; payload = marks / 256 ∷ replicate (w - 3) 0 }

-- Words of the content at c written, m of them, and nothing else. In a store of parts the first of them stays.
pub record Rewritten (parted : Bool) (c m : ℕ) (s t : List ℕ) : Type 0 where
  pub size : length t ≡ length s
  pub under : (k : ℕ) → k < c → get_or t k 0 ≡ get_or s k 0
  pub past : (k : ℕ) → c + m ≤ k → get_or t k 0 ≡ get_or s k 0
  pub part : parted ≡ true → get_or t c 0 ≡ get_or s c 0
