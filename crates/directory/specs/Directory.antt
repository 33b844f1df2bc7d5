-- When words are a directory for n units, from the word `base` on.
use Rattle.std.specs.Prelude.{◌≡◌, cond, List, ℕ, suc, ◌+◌, ◌-◌, ◌*◌, ◌/◌, ◌≤◌, ◌<◌, ltb, length, get_or}
use Rattle.probe.specs.Cells.{spot_at}
use Rattle.numbers.specs.Numbers.{ranks, Drops}
use Rattle.directory.specs.Cells.{cells_in}

-- The cells that a page has room for, and the most pages: up to 64 units one page of n cells, above that n / 11 pages of 32.
unfoldable pub room_of : ℕ → ℕ
room_of n = cond (ltb n 65) n 32

unfoldable pub most_pages : ℕ → ℕ
most_pages n = cond (ltb n 65) 1 (n / 11)

pub record Directory (base n : ℕ) (s : List ℕ) : Type 0 where
  pub low : 6 ≤ base
  pub some : 0 < n
  -- all pages lie within the units' words
  pub space : base + 97 * (most_pages n - 1) + 1 + 3 * room_of n ≤ 32 * n
  pub size : 32 * n ≤ length s
  pub pages : get_or s 1 0 < most_pages n
  pub counts : (k : ℕ) → k ≤ get_or s 1 0 → get_or s (base + 97 * k) 0 ≤ room_of n
  -- no page is empty but the only one
  pub filled : (k : ℕ) → 0 < get_or s 1 0 → k ≤ get_or s 1 0 → 0 < get_or s (base + 97 * k) 0
  -- the words after a page's cells, up to the next page or, after the last, to the end of the units, are zero
  pub clean : (k j : ℕ) → k ≤ get_or s 1 0 → base + 97 * k + 1 + 3 * get_or s (base + 97 * k) 0 ≤ j → (k < get_or s 1 0 → j < base + 97 * suc k) →
      j < 32 * n → get_or s j 0 ≡ 0
  -- cells fall by spot and part
  pub order : Drops (ranks (cells_in base s))

-- Pages with room for r cells lie apart, within the words.
pub record Laid (base r : ℕ) (s : List ℕ) : Type 0 where
  pub low : 6 ≤ base
  pub some : 0 < r
  pub few : r ≤ 64
  pub inside : base + 97 * get_or s 1 0 + 1 + 3 * r ≤ length s
  pub apart : 0 < get_or s 1 0 → r ≤ 32
  pub counts : (k : ℕ) → k ≤ get_or s 1 0 → get_or s (base + 97 * k) 0 ≤ r

-- What a search asks: cells fall, only a single page may be empty, unused cells are zero.
pub record Sound (base r : ℕ) (s : List ℕ) : Type 0 where
  pub laid : Laid base r s
  pub order : Drops (ranks (cells_in base s))
  pub filled : (k : ℕ) → k < get_or s 1 0 → 0 < get_or s (base + 97 * suc k) 0
  pub zeros : (k i : ℕ) → k ≤ get_or s 1 0 → get_or s (base + 97 * k) 0 ≤ i → i < r → spot_at s (base + 97 * k + 1 + 3 * i) ≡ 0

-- A place among the cells: before cell i of a page, or at the end of its cells; and one where there is a cell.
pub record Stands (base : ℕ) (s : List ℕ) (page i : ℕ) : Type 0 where
  pub inside : page ≤ get_or s 1 0
  pub fits : i ≤ get_or s (base + 97 * page) 0

pub record There (base : ℕ) (s : List ℕ) (page i : ℕ) : Type 0 where
  pub inside : page ≤ get_or s 1 0
  pub fits : i < get_or s (base + 97 * page) 0
