-- Pages of 32 cells, and what is left where one is taken out, split or joined to the next: the later pages move.
use Rattle.std.specs.Prelude.{◌≡◌, List, ◌++◌, ℕ, suc, ◌+◌, ◌-◌, ◌*◌, ◌/◌, ◌≤◌, ◌<◌, length, get_or, take, drop}
use Rattle.pages.specs.Dir.{offset}
use Rattle.directory.specs.Cells.{page_at, dir_at, cells_in, position_in}
use Rattle.directory.specs.Directory.{Stands}
use Rattle.directory.specs.Edits.{Kept, Left}

-- The page at a word: at most 32 cells, and zeros after them.
pub record Fine (s : List ℕ) (a : ℕ) : Type 0 where
  pub few : get_or s a 0 ≤ 32
  pub zeros : (i : ℕ) → 3 * get_or s a 0 ≤ i → i < 96 → get_or s (a + 1 + i) 0 ≡ 0

-- The page area of more than 64 units, whatever its cells are: one page after the other, then zeros.
pub record Wide (base n : ℕ) (s : List ℕ) : Type 0 where
  pub low : 6 ≤ base
  pub many : 64 < n
  pub space : base + 97 * (n / 11) ≤ 32 * n
  pub size : 32 * n ≤ length s
  pub pages : get_or s 1 0 < n / 11
  pub fine : (k : ℕ) → k ≤ get_or s 1 0 → Fine s (base + 97 * k)
  pub rest : (j : ℕ) → base + 97 * suc (get_or s 1 0) ≤ j → j < 32 * n → get_or s j 0 ≡ 0

-- Page k taken out.
pub record PageClosed (base n k : ℕ) (s t : List ℕ) : Type 0 where
  pub kept : Kept base (32 * n) s t
  pub wide : Wide base n t
  pub less : suc (get_or t 1 0) ≡ get_or s 1 0
  pub before : (j : ℕ) → j < k → page_at t (base + 97 * j) ≡ page_at s (base + 97 * j)
  pub after : (j : ℕ) → k ≤ j → j < get_or s 1 0 → page_at t (base + 97 * j) ≡ page_at s (base + 97 * suc j)

-- The pages after page k moved up by one, word by word; page k + 1 stays.
pub record PageOpened (base k : ℕ) (s t : List ℕ) : Type 0 where
  pub size : length t ≡ length s
  pub pages : get_or t 1 0 ≡ suc (get_or s 1 0)
  pub under : (j : ℕ) → (j ≡ 1 → ⊥) → j < base + 97 * suc k → get_or t j 0 ≡ get_or s j 0
  pub up : (j : ℕ) → base + 97 * suc k ≤ j → j < base + 97 * suc (get_or s 1 0) → get_or t (j + 97) 0 ≡ get_or s j 0
  pub past : (j : ℕ) → base + 97 * suc (suc (get_or s 1 0)) ≤ j → get_or t j 0 ≡ get_or s j 0

-- The full page at a cut into h cells and, in the next page, the rest, word by word.
pub record Cut (a h : ℕ) (s t : List ℕ) : Type 0 where
  pub size : length t ≡ length s
  pub under : (j : ℕ) → j < a → get_or t j 0 ≡ get_or s j 0
  pub here : get_or t a 0 ≡ h
  pub front : (j : ℕ) → j < 3 * h → get_or t (a + 1 + j) 0 ≡ get_or s (a + 1 + j) 0
  pub gap : (j : ℕ) → 3 * h ≤ j → j < 96 → get_or t (a + 1 + j) 0 ≡ 0
  pub next : get_or t (a + 97) 0 ≡ 32 - h
  pub back : (j : ℕ) → j < 3 * (32 - h) → get_or t (a + 97 + 1 + j) 0 ≡ get_or s (a + 1 + 3 * h + j) 0
  pub tail : (j : ℕ) → 3 * (32 - h) ≤ j → j < 96 → get_or t (a + 97 + 1 + j) 0 ≡ 0
  pub past : (j : ℕ) → a + 194 ≤ j → get_or t j 0 ≡ get_or s j 0

-- Page k, which is full, made two pages: h cells and the rest.
pub record PageSplit (base n k h : ℕ) (s t : List ℕ) : Type 0 where
  pub kept : Kept base (32 * n) s t
  pub wide : Wide base n t
  pub more : get_or t 1 0 ≡ suc (get_or s 1 0)
  pub before : (j : ℕ) → j < k → page_at t (base + 97 * j) ≡ page_at s (base + 97 * j)
  pub here : page_at t (base + 97 * k) ≡ take h (page_at s (base + 97 * k))
  pub next : page_at t (base + 97 * suc k) ≡ drop h (page_at s (base + 97 * k))
  pub after : (j : ℕ) → k < j → j ≤ get_or s 1 0 → page_at t (base + 97 * suc j) ≡ page_at s (base + 97 * j)

-- The cells of the next page, d of them, written after the c cells of the page at a, word by word.
pub record Merged (a c d : ℕ) (s t : List ℕ) : Type 0 where
  pub size : length t ≡ length s
  pub under : (j : ℕ) → j < a → get_or t j 0 ≡ get_or s j 0
  pub here : get_or t a 0 ≡ c + d
  pub front : (j : ℕ) → j < 3 * c → get_or t (a + 1 + j) 0 ≡ get_or s (a + 1 + j) 0
  pub back : (j : ℕ) → j < 3 * d → get_or t (a + 1 + 3 * c + j) 0 ≡ get_or s (a + 97 + 1 + j) 0
  pub past : (j : ℕ) → a + 1 + 3 * c + 3 * d ≤ j → get_or t j 0 ≡ get_or s j 0

-- Pages k and k + 1 made one.
pub record PagesJoined (base n k : ℕ) (s t : List ℕ) : Type 0 where
  pub kept : Kept base (32 * n) s t
  pub wide : Wide base n t
  pub less : suc (get_or t 1 0) ≡ get_or s 1 0
  pub before : (j : ℕ) → j < k → page_at t (base + 97 * j) ≡ page_at s (base + 97 * j)
  pub here : page_at t (base + 97 * k) ≡ page_at s (base + 97 * k) ++ page_at s (base + 97 * suc k)
  pub after : (j : ℕ) → k < j → j < get_or s 1 0 → page_at t (base + 97 * j) ≡ page_at s (base + 97 * suc j)

-- A page is free, and the full page that was p is k now: the same cells, as many before that page.
pub record Freed (base n p : ℕ) (s t : List ℕ) (k : ℕ) : Type 0 where
  pub left : Left base n (cells_in base s) s t
  pub free : get_or t 1 0 + 1 < n / 11
  pub inside : k ≤ get_or t 1 0
  pub full : get_or t (base + 97 * k) 0 ≡ 32
  pub position : offset k (dir_at base t) ≡ offset p (dir_at base s)

-- Room made for one more cell at a place, which is another place among the pages now, with the same cells before it.
-- The page of that place may be empty: it gets the cell.
pub record Roomy (base n p i : ℕ) (s t : List ℕ) (newPage newI : ℕ) : Type 0 where
  pub kept : Kept base (32 * n) s t
  pub wide : Wide base n t
  pub filled : (k : ℕ) → (k ≡ newPage → ⊥) → k ≤ get_or t 1 0 → 0 < get_or t (base + 97 * k) 0
  pub cells : cells_in base t ≡ cells_in base s
  pub stands : Stands base t newPage newI
  pub position : position_in base t newPage newI ≡ position_in base s p i
  pub room : get_or t (base + 97 * newPage) 0 < 32
