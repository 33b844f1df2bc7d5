-- How the data store keeps an entry in a row of its store (`Rattle.store`): 22 words a payload, one row a key and shifted index.
--
--   spot      shifted index + 2 ^ 32 * key
--   marks     0 a write, 1 a delta, 2 a delta with a shortcut; 4 more: an estimate; 8 more: the delta subtracts
--   content   20 words. A write: its incarnation, then the value. A delta: four numbers (M, H, L and the size of u), then the shortcut, low word first
--
-- All other words of the content are 0. Rows fall by key and shifted index.
use Rattle.std.specs.Prelude.{Bool, true, false, ◌&&◌, List, [], ◌∷◌, ◌++◌, map, reverse, ℕ, zero, suc, ◌+◌, ◌-◌, ◌*◌, ◌/◌, ◌%◌, eqb, length, get_or, take, drop, replicate}
use Rattle.std.proofs.Math.Option.{none, some}
use Rattle.lists.specs.Lists.{every}
use Rattle.number.specs.Words.{digits, value_of_words}
use Rattle.delta.specs.Delta.{Delta, delta_at, delta_words, sign_word}
use Rattle.types.specs.Flag.{flag_of}
use Rattle.types.specs.Units.{lack_of, units_in}
use Rattle.types.specs.Value.{value_at}
use Rattle.numbers.specs.Numbers as Numbers
use Rattle.store.specs.Held.{held_in}
use Rattle.store.specs.Scan.{is_store}
use Rattle.model.specs.Rows.{Row, Edit, edited}
use Rattle.model.specs.Data.{Cell, write, delta, Entry, Ruling, refuse, accept}
use Rattle.model.specs.Fine.{fine_entry}

-- The words of a payload, and of its content.
abbrev pub payload_width : ℕ
payload_width = 22

abbrev pub content_width : ℕ
content_width = 20

-- A row of the store.
abbrev pub StoreRow : Type 0
StoreRow = Numbers.Row (List ℕ)

unfoldable pub form_of : Cell → ℕ
form_of (write incarnation v) = 0
form_of (delta d none) = 1
form_of (delta d (some n)) = 2

unfoldable pub sign_of : Cell → ℕ
sign_of (write incarnation v) = 0
sign_of (delta d shortcut) = sign_word d.update

unfoldable pub marks_of : Entry → ℕ
marks_of e = form_of e.cell + 4 * flag_of e.estimate + 8 * sign_of e.cell

-- A delta's words without the last, which is its sign.
unfoldable pub body_of : Cell → List ℕ
body_of (write incarnation v) = incarnation ∷ v
body_of (delta d none) = take 16 (delta_words d)
body_of (delta d (some n)) = take 16 (delta_words d) ++ digits 4 n

-- Words with zeros after them, as many as a content has.
unfoldable pub padded : List ℕ → List ℕ
padded ws = ws ++ replicate (content_width - length ws) 0

unfoldable pub spot_of : ℕ → ℕ → ℕ
spot_of key place = place + 4294967296 * key

-- The row of an entry.
unfoldable pub row_of : Row Entry → StoreRow
row_of r = record { spot = spot_of r.key r.place; marks = marks_of r.held; payload = padded (body_of r.held.cell) }

-- The entry of a row.
unfoldable pub delta_in : StoreRow → Delta
delta_in u = delta_at (take 16 u.payload ++ (u.marks / 8 ∷ []))

unfoldable pub cell_of : ℕ → StoreRow → Cell
cell_of zero u = write (get_or u.payload 0 0) (value_at 1 u.payload)
cell_of (suc zero) u = delta (delta_in u) none
cell_of (suc (suc n)) u = delta (delta_in u) (some (value_of_words (take 4 (drop 16 u.payload))))

unfoldable pub entry_of : StoreRow → Row Entry
entry_of u =
    record {
      key = u.spot / 4294967296;
      place = u.spot % 4294967296;
      held = record { cell = cell_of (u.marks % 4) u; estimate = eqb (u.marks / 4 % 2) 1 };
    }

-- The entries that a store's words hold, rising.
unfoldable pub rows_in : List ℕ → List StoreRow
rows_in s = held_in payload_width s

unfoldable pub entries_in : List ℕ → List (Row Entry)
entries_in s = map entry_of (reverse (rows_in s))

unfoldable pub same_words : List ℕ → List ℕ → Bool
same_words [] [] = true
same_words [] (y ∷ ys) = false
same_words (x ∷ xs) [] = false
same_words (x ∷ xs) (y ∷ ys) = eqb x y && same_words xs ys

unfoldable pub same_row : StoreRow → StoreRow → Bool
same_row u v = eqb u.spot v.spot && eqb u.marks v.marks && same_words u.payload v.payload

-- A row is that of a fine entry.
unfoldable pub row_ok : StoreRow → Bool
row_ok u = fine_entry (entry_of u) && same_row (row_of (entry_of u)) u

-- Rule 5 for this store: its words are those of a store, and each row is that of a fine entry.
unfoldable pub data_valid : List ℕ → Bool
data_valid s = is_store payload_width false s && every row_ok (rows_in s)

-- "more units after the ticket than the store has": the refusal of rows that a store like `s` has no units for, 0 of those that it has.
unfoldable pub lack_in : List ℕ → List (Row Entry) → ℕ
lack_in s rows = lack_of (length rows) (units_in (length s))

unfoldable pub fits_in : List ℕ → List (Row Entry) → Bool
fits_in s rows = eqb (lack_in s rows) 0

-- The number that an operation at a key and place answers, 0 where it is accepted.
unfoldable pub result_of : List ℕ → ℕ → ℕ → Ruling (Edit Entry) → ℕ
result_of s key place (refuse n) = n
result_of s key place (accept answer e) = lack_in s (edited key place e (entries_in s))
