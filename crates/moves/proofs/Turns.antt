-- What a copy asks, and what a write of one word leaves.
-- Assumes nothing.
use mathlib.Core.Path.{◌≡◌}
use mathlib.Core.Logic.{inl, inr}
use mathlib.Core.List.{List}
use Prim.Native.Nat.{ℕ, ◌+◌, ◌≤◌, ◌<◌}
use lib.ListN.{length, get_or, set}
use lib.Seq.{get_or-set_same, get_or-set_other}
use Rattle.moves.specs.Moves.{Clear}

-- a copy to lower words, and one to others
pub clear_down : (to from n : ℕ) → to ≤ from → Clear to from n
unfolding Clear
clear_down to from n h = inl h

pub clear_else : (to from n : ℕ) → from + n ≤ to → Clear to from n
unfolding Clear
clear_else to from n h = inr h

-- a word of words with one written
pub set_here : (s : List ℕ) (i j v : ℕ) → j ≡ i → i < length s → get_or (set s i v) j 0 ≡ v
set_here s i j v e h = rw e (get_or-set_same s i v 0 h)

pub set_else : (s : List ℕ) (i j v : ℕ) → (j ≡ i → ⊥) → get_or (set s i v) j 0 ≡ get_or s j 0
set_else s i j v n = get_or-set_other s i j v 0 n
