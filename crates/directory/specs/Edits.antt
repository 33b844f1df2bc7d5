-- What an edit of a directory leaves.
use Rattle.std.specs.Prelude.{◌≡◌, List, ℕ, suc, ◌+◌, ◌*◌, ◌≤◌, ◌<◌, length, get_or}
use Rattle.probe.specs.Cells.{insert_at, erase_at}
use Rattle.pages.specs.Dir.{offset}
use Rattle.numbers.specs.Numbers.{Cell}
use Rattle.directory.specs.Cells.{dir_at, cells_in}
use Rattle.directory.specs.Directory.{Directory, Laid}

-- Nothing is touched but word 1 and the words from `base` on up to `end`.
pub record Kept (base end : ℕ) (s t : List ℕ) : Type 0 where
  pub size : length t ≡ length s
  pub under : (k : ℕ) → k < base → (k ≡ 1 → ⊥) → get_or t k 0 ≡ get_or s k 0
  pub past : (k : ℕ) → end ≤ k → get_or t k 0 ≡ get_or s k 0

-- A directory that holds these cells, left by an edit.
pub record Left (base n : ℕ) (cs : List Cell) (s t : List ℕ) : Type 0 where
  pub kept : Kept base (32 * n) s t
  pub directory : Directory base n t
  pub cells : cells_in base t ≡ cs

-- All words but those of one page stay.
pub record Edited (base r page : ℕ) (s t : List ℕ) : Type 0 where
  pub size : length t ≡ length s
  pub under : (k : ℕ) → k < base + 97 * page → get_or t k 0 ≡ get_or s k 0
  pub past : (k : ℕ) → base + 97 * page + 1 + 3 * r ≤ k → get_or t k 0 ≡ get_or s k 0

-- A cell put into a page, at cell i: all other words stay.
pub record CellOpened (base r page i : ℕ) (x : Cell) (s t : List ℕ) : Type 0 where
  pub edited : Edited base r page s t
  pub laid : Laid base r t
  pub count : get_or t (base + 97 * page) 0 ≡ suc (get_or s (base + 97 * page) 0)
  pub cells : cells_in base t ≡ insert_at (offset page (dir_at base s) + i) x (cells_in base s)
  pub unused : (k : ℕ) → base + 97 * page + 1 + 3 * get_or t (base + 97 * page) 0 ≤ k → get_or t k 0 ≡ get_or s k 0

-- Cell i of a page taken out.
pub record CellClosed (base r page i : ℕ) (s t : List ℕ) : Type 0 where
  pub edited : Edited base r page s t
  pub laid : Laid base r t
  pub count : suc (get_or t (base + 97 * page) 0) ≡ get_or s (base + 97 * page) 0
  pub cells : cells_in base t ≡ erase_at (offset page (dir_at base s) + i) (cells_in base s)
  pub unused : (k : ℕ) → base + 97 * page + 1 + 3 * get_or s (base + 97 * page) 0 ≤ k → get_or t k 0 ≡ get_or s k 0
  pub cleared : (k : ℕ) → k < 3 → get_or t (base + 97 * page + 1 + 3 * get_or t (base + 97 * page) 0 + k) 0 ≡ 0
