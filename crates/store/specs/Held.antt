-- What the words of a store of n units hold: a list of rows in falling order. Word 0: units held; word 1: pages in use, less one; words 2 to 5: zero.
-- Payload q at 6 + w q: place and key of its cell, then its content of w - 2 words. The directory at 6 + w n.
-- Where a cell or a payload lies is left free: nothing above this crate names a word of it.
use Rattle.std.specs.Prelude.{Bool, cond, List, [], map, ℕ, ◌+◌, ◌-◌, ◌*◌, eqb, length, get_or, Option, Some, None}
use Rattle.probe.specs.Cells.{readings, spot_at}
use Rattle.types.specs.Units.{units_in}
use Rattle.numbers.specs.Numbers.{Cell, Row, rows, number_of}
use Rattle.directory.specs.Cells.{cells_in, position_in}
use Rattle.directory.specs.declared.cells.Place.{Place}

-- Where the directory begins.
unfoldable pub base_of : ℕ → ℕ → ℕ
base_of w n = 6 + w * n

-- The content of payload q, and the rank that it carries: place and key, and, in a store of parts, its first word of content, the part.
unfoldable pub payload_at : ℕ → List ℕ → ℕ → List ℕ
payload_at w s q = readings (λ i. get_or s (6 + w * q + 2 + i) 0) (w - 2)

unfoldable pub carried_at : ℕ → Bool → List ℕ → ℕ → ℕ
carried_at w parted s q = 4294967296 * spot_at s (6 + w * q) + cond parted (get_or s (6 + w * q + 2) 0) 0

unfoldable pub held : ℕ → ℕ → List ℕ → List (Row (List ℕ))
held w n s = rows (payload_at w s) (cells_in (base_of w n) s)

-- The rows of a store; one of no units holds none.
unfoldable pub held_in : ℕ → List ℕ → List (Row (List ℕ))
held_in w s = cond (eqb (units_in (length s)) 0) [] (held w (units_in (length s)) s)

abbrev pub row_spots : List (Row (List ℕ)) → List ℕ
row_spots rs = map (λ r. r.spot) rs

-- The row that is read where there is none.
abbrev pub no_row : Row (List ℕ)
no_row = record { spot = 0; marks = 0; payload = [] }

abbrev pub no_cell : Cell
no_cell = record { spot = 0; word = 0 }

-- The position among the rows of cell i of a page.
unfoldable pub position_of : ℕ → ℕ → List ℕ → ℕ → ℕ → ℕ
position_of w n s page i = position_in (base_of w n) s page i

-- The position of the row at a place, or, where there is none, of the end.
unfoldable pub position_or_end : ℕ → ℕ → List ℕ → Option Place → ℕ
position_or_end w n s None = length (held w n s)
position_or_end w n s (Some p) = position_of w n s p.page p.cell

-- The word at which the content of the row at a position begins.
unfoldable pub content_of : ℕ → ℕ → List ℕ → ℕ → ℕ
content_of w n s i = 6 + w * number_of (get_or (cells_in (base_of w n) s) i no_cell) + 2
