-- Places among the rows, and the words of a row's cell.
-- Assumes nothing.
use mathlib.Core.Path.{◌≡◌, refl, sym, ◌∙◌, ap}
use mathlib.Core.Bool.{Bool, true}
use Rattle.std.specs.Prelude.{Option, Some, None, IfSome, is_some}
use mathlib.Core.List.{List}
use Prim.Native.Nat.{ℕ, ◌+◌, ◌*◌, ◌/◌, ◌%◌, ◌≤◌, ◌<◌}
use native.Mathlib.Omega.{arith}
use lib.Dec.{ltb}
use lib.ListN.{length, get_or}
use Rattle.probe.specs.Cells.{spot_at, count_above}
use Rattle.numbers.specs.Numbers.{Cell, Row, number_of, spots, row_of}
use Rattle.directory.specs.Cells as Dir
use Rattle.directory.specs.Cells.{cell_at, cells_in, position_in}
use Rattle.directory.specs.declared.cells.Place.{Place}
use Rattle.directory.specs.Directory as Laid
use Rattle.directory.proofs.Positions.{position_in_lem, position_fits, cell_in, there_stands}
use Rattle.directory.proofs.Directories.{cell_inside}
use Rattle.store.specs.Held.{base_of, payload_at, held, row_spots, position_of, position_or_end, content_of, no_row, no_cell}
use Rattle.store.specs.Valid.{Valid, Stands, There}
use Rattle.store.proofs.Contents.{number_at, content_is, held_length, held_spots, row_at, number_below, payload_in, units_in_lem, base_in}

module _ (w n : ℕ) (s : List ℕ) where
  pub position_held : (p i : ℕ) → There w n s p i → position_of w n s p i < length (held w n s)
  unfolding There position_of
  position_held p i t = omega (arith, position_in_lem (base_of w n) s p i t, held_length w n s)

  pub place_held : (p i : ℕ) → Stands w n s p i → position_of w n s p i ≤ length (held w n s)
  unfolding Stands position_of
  place_held p i t = omega (arith, position_fits (base_of w n) s p i t, held_length w n s)

  pub row_stands : (p i : ℕ) → Stands w n s p i → (is : Bool) → is ≡ ltb i (get_or s (base_of w n + 97 * p) 0) → is ≡ true → There w n s p i
  unfolding Stands There
  row_stands p i t is e f = there_stands (base_of w n) s p i is t e f

  -- what the search in the directory tells
  pub found_place : (y p i : ℕ) → Laid.Stands (base_of w n) s p i → position_in (base_of w n) s p i ≡ count_above y (spots (cells_in (base_of w n) s)) →
      Stands w n s p i × (position_of w n s p i ≡ count_above y (row_spots (held w n s)))
  unfolding Stands position_of
  found_place y p i t f = (t, rw (held_spots w n s) f)

  pub found_after : (position : ℕ) (r : Option Place) → IfSome r (λ p. Laid.There (base_of w n) s p.page p.cell) →
      Dir.position_or_end (base_of w n) s r ≡ position → is_some r ≡ ltb position (length (cells_in (base_of w n) s)) →
      IfSome r (λ p. There w n s p.page p.cell) × ((position_or_end w n s r ≡ position) × (is_some r ≡ ltb position (length (held w n s))))
  unfolding There Dir.position_or_end position_or_end position_of
  found_after position None t f g = (tt, (held_length w n s ∙ f, rw (held_length w n s) g))
  found_after position (Some p) t f g = (t, (f, rw (held_length w n s) g))

module _ (w n p i : ℕ) (s : List ℕ) (there : There w n s p i) where
  abbrev at : ℕ
  at = base_of w n + 97 * p + 1 + 3 * i

  abbrev row : Row (List ℕ)
  row = get_or (held w n s) (position_of w n s p i) no_row

  pub cell_is : get_or (cells_in (base_of w n) s) (position_of w n s p i) no_cell ≡ cell_at s at
  unfolding There position_of
  cell_is = cell_in (base_of w n) s p i there no_cell

  row_is : row ≡ row_of (cell_at s at) (payload_at w s (number_at w n s (position_of w n s p i)))
  row_is =
      row_at w n s (position_of w n s p i) (position_held w n s p i there)
      ∙ ap (λ (c : Cell). row_of c (payload_at w s (number_at w n s (position_of w n s p i)))) cell_is

  pub row_spot : row.spot ≡ spot_at s at
  unfolding row_of cell_at
  row_spot = ap (λ (r : Row (List ℕ)). r.spot) row_is

  pub row_marks : row.marks ≡ get_or s (at + 2) 0 / 65536
  unfolding row_of cell_at
  row_marks = ap (λ (r : Row (List ℕ)). r.marks) row_is

  pub row_number : number_at w n s (position_of w n s p i) ≡ get_or s (at + 2) 0 % 65536
  unfolding number_at number_of cell_at
  row_number = ap number_of cell_is

  pub row_content : 6 + w * (get_or s (at + 2) 0 % 65536) + 2 ≡ content_of w n s (position_of w n s p i)
  row_content = sym (content_is w n s (position_of w n s p i) ∙ ap (λ (q : ℕ). 6 + w * q + 2) row_number)

  module _ (parted : Bool) (valid : Valid w parted n s) where
    pub cell_room : at + 2 < length s
    unfolding There
    cell_room = omega (arith, cell_inside (base_of w n) n s valid.directory p i there, valid.directory.size)

    pub number_used : get_or s (at + 2) 0 % 65536 < get_or s 0 0
    number_used = rw (← row_number) (number_below w n parted s valid (position_of w n s p i) (position_held w n s p i there))

    pub number_room : 6 + w * (get_or s (at + 2) 0 % 65536) + w ≤ length s
    number_room =
        omega (
          arith,
          payload_in w n parted s valid (get_or s (at + 2) 0 % 65536) number_used,
          units_in_lem w n parted s valid,
          (base_in w n parted s valid).0,
          (base_in w n parted s valid).1,
        )

    -- the words of the cell, read from a on
    module _ (a : ℕ) (here : a ≡ at) where
      pub read_spot : (r : ℕ) → r ≡ spot_at s a → r ≡ row.spot
      read_spot r e = e ∙ ap (spot_at s) here ∙ sym row_spot

      pub read_place : (r : ℕ) → r ≡ spot_at s a % 4294967296 → r ≡ row.spot % 4294967296
      read_place r e = e ∙ ap (λ (k : ℕ). k % 4294967296) (read_spot (spot_at s a) refl)

      pub read_key : (r : ℕ) → r ≡ spot_at s a / 4294967296 → r ≡ row.spot / 4294967296
      read_key r e = e ∙ ap (λ (k : ℕ). k / 4294967296) (read_spot (spot_at s a) refl)

      pub read_marks : get_or s (a + 2) 0 / 65536 ≡ row.marks
      read_marks = rw here (sym row_marks)

      pub read_number : (6 + w * (get_or s (a + 2) 0 % 65536) + 2 ≡ content_of w n s (position_of w n s p i))
          × ((get_or s (a + 2) 0 % 65536 ≡ get_or s (at + 2) 0 % 65536)
          × ((get_or s (a + 2) 0 % 65536 < get_or s 0 0) × (6 + w * (get_or s (a + 2) 0 % 65536) + w ≤ length s)))
      read_number = rw here (row_content, (refl, (number_used, number_room)))
