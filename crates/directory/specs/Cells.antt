-- The cells that a directory's words hold. Word 1: pages in use, less one. Page k at base + 97 k: how many cells it has, then its cells of three words.
use Rattle.std.specs.Prelude.{List, ℕ, suc, ◌+◌, ◌*◌, length, get_or, Option, Some, None}
use Rattle.probe.specs.Cells.{readings, spot_at}
use Rattle.pages.specs.Dir.{flat, offset}
use Rattle.numbers.specs.Numbers.{Cell}
use Rattle.directory.specs.declared.cells.Place.{Place}
use Rattle.directory.specs.declared.cells.CellWords.{CellWords}

unfoldable pub cell_at : List ℕ → ℕ → Cell
cell_at s a = record { spot = spot_at s a; word = get_or s (a + 2) 0 }

-- The cell that three words are.
abbrev pub cell_of : CellWords → Cell
cell_of x = record { spot = x.place + 4294967296 * x.key; word = x.word }

-- The cells of the page at a word.
unfoldable pub page_at : List ℕ → ℕ → List Cell
page_at s a = readings (λ i. cell_at s (a + 1 + 3 * i)) (get_or s a 0)

-- The directory, and its cells in order.
unfoldable pub dir_at : ℕ → List ℕ → List (List Cell)
dir_at base s = readings (λ k. page_at s (base + 97 * k)) (suc (get_or s 1 0))

unfoldable pub cells_in : ℕ → List ℕ → List Cell
cells_in base s = flat (dir_at base s)

-- The position among all cells of cell i of a page.
unfoldable pub position_in : ℕ → List ℕ → ℕ → ℕ → ℕ
position_in base s page i = offset page (dir_at base s) + i

-- The position of the cell at a place, or, where there is none, of the end.
unfoldable pub position_or_end : ℕ → List ℕ → Option Place → ℕ
position_or_end base s None = length (cells_in base s)
position_or_end base s (Some p) = position_in base s p.page p.cell
