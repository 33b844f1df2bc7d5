-- Payloads put to use and given up, word by word.
use Rattle.std.specs.Prelude.{◌≡◌, List, ℕ, suc, ◌+◌, ◌≤◌, ◌<◌, length, get_or}

-- One payload more in use, at a word, with place, key and part of its cell.
pub record PayloadOpened (at x y z : ℕ) (s t : List ℕ) : Type 0 where
  pub size : length t ≡ length s
  pub head : get_or t 0 0 ≡ suc (get_or s 0 0)
  pub place : get_or t at 0 ≡ x
  pub key : get_or t (at + 1) 0 ≡ y
  pub part : get_or t (at + 2) 0 ≡ z
  pub under : (k : ℕ) → 0 < k → k < at → get_or t k 0 ≡ get_or s k 0
  pub past : (k : ℕ) → at + 3 ≤ k → get_or t k 0 ≡ get_or s k 0

-- The last payload, at `from`, made zero, and one payload less held.
pub record Dropped (from w l : ℕ) (s t : List ℕ) : Type 0 where
  pub size : length t ≡ length s
  pub head : get_or t 0 0 ≡ l
  pub under : (k : ℕ) → 0 < k → k < from → get_or t k 0 ≡ get_or s k 0
  pub zeros : (k : ℕ) → k < w → get_or t (from + k) 0 ≡ 0
  pub past : (k : ℕ) → from + w ≤ k → get_or t k 0 ≡ get_or s k 0
