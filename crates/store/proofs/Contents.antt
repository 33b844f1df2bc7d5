-- What a valid store tells of its rows, their contents and where these lie.
-- Assumes nothing.
use mathlib.Core.Path.{◌≡◌, refl, sym, ◌∙◌, ap}
use mathlib.Core.Bool.{Bool, true, false}
use mathlib.Core.List.{List, map}
use Prim.Native.Nat.{ℕ, ◌+◌, ◌-◌, ◌*◌, ◌≤◌, ◌<◌}
use native.Mathlib.Omega.{arith}
use lib.ListN.{length, get_or, length-map}
use Rattle.probe.specs.Cells.{spot_at}
use Rattle.probe.proofs.Probe.{readings_at}
use Rattle.probe.proofs.Readings.{readings_same}
use Rattle.pages.specs.Dir.{flat}
use Rattle.numbers.specs.Numbers.{Row, number_of, numbers, spots, ranks, row_of, row_rank, Distinct}
use Rattle.numbers.proofs.Distinct.{distinct}
use Rattle.directory.specs.Cells.{cells_in}
use Rattle.directory.specs.Directory.{Directory}
use Rattle.directory.proofs.Frames.{dir_frame}
use Rattle.store.specs.Held.{base_of, payload_at, carried_at, held, content_of, row_spots, no_row, no_cell}
use Rattle.store.specs.Valid.{Valid}
use Rattle.store.proofs.Listed.{up_to, up_to_most, get_d_map, below_at, row_spots_lem, row_ranks, rows_at, rows_length}

pub base_is : (w n : ℕ) → base_of w n ≡ 6 + w * n
unfolding base_of
base_is w n = refl

-- the payload that the row at a position names
unfoldable pub number_at : ℕ → ℕ → List ℕ → ℕ → ℕ
number_at w n s i = number_of (get_or (cells_in (base_of w n) s) i no_cell)

pub content_is : (w n : ℕ) (s : List ℕ) (i : ℕ) → content_of w n s i ≡ 6 + w * number_at w n s i + 2
unfolding content_of number_at
content_is w n s i = refl

module _ (w n : ℕ) (s : List ℕ) where
  pub held_length : length (held w n s) ≡ length (cells_in (base_of w n) s)
  unfolding held
  held_length = rows_length (payload_at w s) (cells_in (base_of w n) s)

  pub row_at : (i : ℕ) → i < length (held w n s) →
      get_or (held w n s) i no_row ≡ row_of (get_or (cells_in (base_of w n) s) i no_cell) (payload_at w s (number_at w n s i))
  unfolding held number_at
  row_at i h = rows_at (payload_at w s) (cells_in (base_of w n) s) i no_row no_cell (omega (arith, held_length))

  pub held_spots : row_spots (held w n s) ≡ spots (cells_in (base_of w n) s)
  unfolding held
  held_spots = row_spots_lem (payload_at w s) (cells_in (base_of w n) s)

  pub held_ranks : map row_rank (held w n s) ≡ ranks (cells_in (base_of w n) s)
  unfolding held
  held_ranks = row_ranks (payload_at w s) (cells_in (base_of w n) s)

  pub row_payload : (i : ℕ) → i < length (held w n s) → (get_or (held w n s) i no_row).payload ≡ payload_at w s (number_at w n s i)
  unfolding row_of
  row_payload i h = ap (λ (r : Row (List ℕ)). r.payload) (row_at i h)

module _ (w n : ℕ) (parted : Bool) (s : List ℕ) (valid : Valid w parted n s) where
  pub base_in : (base_of w n ≤ 32 * n) × (32 * n ≤ length s)
  base_in = (omega (arith, valid.directory.space), valid.directory.size)

  pub held_units : length (held w n s) ≡ get_or s 0 0
  held_units = held_length w n s ∙ valid.all

  pub number_below : (i : ℕ) → i < length (held w n s) → number_at w n s i < get_or s 0 0
  unfolding number_at
  number_below i h =
      omega (
        arith,
        get_d_map number_of (cells_in (base_of w n) s) i no_cell 0 (omega (arith, held_length w n s)),
        below_at (get_or s 0 0) (numbers (cells_in (base_of w n) s)) i valid.below
            (omega (arith, held_length w n s, length-map (cells_in (base_of w n) s) number_of)),
      )

  -- a payload in use ends before the directory
  pub payload_in : (q : ℕ) → q < get_or s 0 0 → 6 + w * q + w ≤ 6 + w * get_or s 0 0
  payload_in q h = omega (arith, up_to w q (get_or s 0 0) h)

  pub units_in_lem : 6 + w * get_or s 0 0 ≤ base_of w n
  units_in_lem = rw (base_is w n) (omega (arith, up_to_most w (get_or s 0 0) n valid.units))

  pub apart : Distinct (numbers (cells_in (base_of w n) s))
  apart = distinct (carried_at w parted s) (cells_in (base_of w n) s) valid.tied valid.directory.order

  module _ (i : ℕ) (inside : i < length (held w n s)) where
    pub content_low : 8 ≤ content_of w n s i
    content_low = omega (arith, content_is w n s i)

    pub content_in : content_of w n s i + (w - 2) ≤ base_of w n
    content_in =
        omega (arith, content_is w n s i, valid.wide, payload_in (number_at w n s i) (number_below i inside), units_in_lem)

    pub content_word : (j : ℕ) → j < w - 2 → get_or s (content_of w n s i + j) 0 ≡ get_or (get_or (held w n s) i no_row).payload j 0
    unfolding payload_at
    content_word j h =
        rw (row_payload w n s i inside, content_is w n s i)
        (sym (readings_at (w - 2) (λ k. get_or s (6 + w * number_at w n s i + 2 + k) 0) j 0 h))

-- a directory whose words stay
pub cells_frame : (base : ℕ) (s t : List ℕ) → get_or t 1 0 ≡ get_or s 1 0 → ((k : ℕ) → base ≤ k → get_or t k 0 ≡ get_or s k 0) → cells_in base t ≡ cells_in base s
unfolding cells_in
cells_frame base s t e h = ap flat (dir_frame base s t e h)

pub directory_frame : (base n : ℕ) (s t : List ℕ) → Directory base n s → length t ≡ length s → get_or t 1 0 ≡ get_or s 1 0 →
    ((k : ℕ) → base ≤ k → get_or t k 0 ≡ get_or s k 0) → Directory base n t
directory_frame base n s t ok l e h =
    record {
      low = ok.low;
      some = ok.some;
      space = ok.space;
      size = omega (arith, ok.size);
      pages = rw e ok.pages;
      counts = λ k m. rw (h (base + 97 * k) (omega arith)) (ok.counts k (omega arith));
      filled = λ k o m. rw (h (base + 97 * k) (omega arith)) (ok.filled k (omega arith) (omega arith));
      clean = λ k j m o p r.
          h j (omega arith) ∙ ok.clean k j (omega arith) (omega (arith, h (base + 97 * k) (omega arith))) (λ q. p (omega arith)) r;
      order = rw (cells_frame base s t e h) ok.order;
    }

-- what a payload carries, and its content, by its words
pub carried_same : (w : ℕ) (parted : Bool) (s t : List ℕ) (p q : ℕ) → get_or t (6 + w * p) 0 ≡ get_or s (6 + w * q) 0 →
    get_or t (6 + w * p + 1) 0 ≡ get_or s (6 + w * q + 1) 0 → (parted ≡ true → get_or t (6 + w * p + 2) 0 ≡ get_or s (6 + w * q + 2) 0) →
    carried_at w parted t p ≡ carried_at w parted s q
unfolding carried_at spot_at
carried_same w true s t p q e f g = rw (e, f, g refl)
carried_same w false s t p q e f g = rw (e, f)

pub payload_same : (w : ℕ) (s t : List ℕ) (p q : ℕ) → ((i : ℕ) → i < w → get_or t (6 + w * q + i) 0 ≡ get_or s (6 + w * p + i) 0) →
    payload_at w t q ≡ payload_at w s p
unfolding payload_at
payload_same w s t p q h =
    readings_same (w - 2) (λ i. get_or t (6 + w * q + 2 + i) 0) (λ i. get_or s (6 + w * p + 2 + i) 0) (λ i l.
    let f : 6 + w * q + 2 + i ≡ 6 + w * q + (2 + i) = omega arith in
    let g : 6 + w * p + 2 + i ≡ 6 + w * p + (2 + i) = omega arith in
    rw (f, g) (h (2 + i) (omega arith)))

-- a payload whose words stay, or are another's
pub carried_words : (w : ℕ) (parted : Bool) (s t : List ℕ) (p q : ℕ) → 3 ≤ w → ((i : ℕ) → i < w → get_or t (6 + w * q + i) 0 ≡ get_or s (6 + w * p + i) 0) →
    carried_at w parted t q ≡ carried_at w parted s p
carried_words w parted s t p q wide h =
    let e : 6 + w * q ≡ 6 + w * q + 0 = omega arith in
    let f : 6 + w * p ≡ 6 + w * p + 0 = omega arith in
    let g : get_or t (6 + w * q) 0 ≡ get_or s (6 + w * p) 0 = ap (λ (n : ℕ). get_or t n 0) e ∙ h 0 (omega arith) ∙ ap (λ (n : ℕ). get_or s n 0) (sym f) in
    carried_same w parted s t q p g (h 1 (omega arith)) (λ d. h 2 (omega arith))
