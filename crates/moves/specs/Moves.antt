-- What a move of words leaves in each word.
use Rattle.std.specs.Prelude.{◌≡◌, ◌⊎◌, Bool, true, ◌&&◌, List, [], ◌∷◌, ℕ, ◌+◌, ◌≤◌, ◌<◌, eqb, length, get_or}

-- Words from `low` up to `end` moved up by a gap.
pub record Raised (gap low end : ℕ) (s t : List ℕ) : Type 0 where
  pub size : length t ≡ length s
  pub under : (k : ℕ) → k < low + gap → get_or t k 0 ≡ get_or s k 0
  pub within : (k : ℕ) → low ≤ k → k < end → get_or t (k + gap) 0 ≡ get_or s k 0
  pub past : (k : ℕ) → end + gap ≤ k → get_or t k 0 ≡ get_or s k 0

-- n words copied.
pub record Copied (to from n : ℕ) (s t : List ℕ) : Type 0 where
  pub size : length t ≡ length s
  pub under : (k : ℕ) → k < to → get_or t k 0 ≡ get_or s k 0
  pub within : (k : ℕ) → k < n → get_or t (to + k) 0 ≡ get_or s (from + k) 0
  pub past : (k : ℕ) → to + n ≤ k → get_or t k 0 ≡ get_or s k 0

-- A copy upward, word by word, reads what it has not written.
unfoldable pub Clear : ℕ → ℕ → ℕ → Type 0
Clear to from n = (to ≤ from) ⊎ (from + n ≤ to)

-- n words made zero.
pub record Cleared (at n : ℕ) (s t : List ℕ) : Type 0 where
  pub size : length t ≡ length s
  pub under : (k : ℕ) → k < at → get_or t k 0 ≡ get_or s k 0
  pub within : (k : ℕ) → k < n → get_or t (at + k) 0 ≡ 0
  pub past : (k : ℕ) → at + n ≤ k → get_or t k 0 ≡ get_or s k 0

unfoldable pub all_zero : List ℕ → Bool
all_zero [] = true
all_zero (w ∷ ws) = eqb w 0 && all_zero ws
