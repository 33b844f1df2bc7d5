-- Words of one row's content written: no other row changes.
-- Assumes nothing.
use mathlib.Core.Path.{◌≡◌, refl, sym, ◌∙◌, ap}
use mathlib.Core.Bool.{Bool, true}
use mathlib.Core.List.{List}
use Prim.Native.Nat.{ℕ, ◌+◌, ◌-◌, ◌*◌, ◌≤◌, ◌<◌}
use native.Mathlib.Omega.{arith}
use native.Mathlib.Decide.{ℕ_discrete, dec_lt}
use lib.ListN.{length, get_or, set, length-set}
use Rattle.probe.specs.Cells.{readings}
use Rattle.moves.proofs.Turns.{set_else}
use Rattle.numbers.specs.Numbers.{Cell, row_of, rows}
use Rattle.directory.specs.Cells.{cells_in, position_in}
use Rattle.directory.proofs.Frames.{dir_frame}
use Rattle.store.specs.Held.{base_of, payload_at, carried_at, held, position_of, content_of, no_row, no_cell}
use Rattle.store.specs.Valid.{Valid, Stands, There}
use Rattle.store.specs.Edits.{Left, Rewritten, filled}
use Rattle.store.proofs.Listed.{up_to, tied_same, rows_set}
use Rattle.store.proofs.Contents.{number_at, content_is, held_length, row_at, number_below, payload_in, units_in_lem, base_in, apart, cells_frame, directory_frame, carried_same, payload_same}

module _ (w n i : ℕ) (parted : Bool) (s t : List ℕ) (valid : Valid w parted n s) (inside : i < length (held w n s))
    (written : Rewritten parted (content_of w n s i) (w - 2) s t) where
  abbrev base : ℕ
  base = base_of w n

  abbrev q : ℕ
  q = number_at w n s i

  under : (k : ℕ) → k < 6 + w * q + 2 → get_or t k 0 ≡ get_or s k 0
  under k h = written.under k (omega (arith, content_is w n s i))

  past : (k : ℕ) → 6 + w * q + w ≤ k → get_or t k 0 ≡ get_or s k 0
  past k h = written.past k (omega (arith, content_is w n s i, valid.wide))

  end : 6 + w * q + w ≤ 6 + w * get_or s 0 0
  end = payload_in w n parted s valid q (number_below w n parted s valid i inside)

  pages : get_or t 1 0 ≡ get_or s 1 0
  pages = under 1 (omega arith)

  directory_kept : (k : ℕ) → base ≤ k → get_or t k 0 ≡ get_or s k 0
  directory_kept k h = past k (omega (arith, end, units_in_lem w n parted s valid))

  other : (p : ℕ) → (q ≡ p → ⊥) → (j : ℕ) → j < w → get_or t (6 + w * p + j) 0 ≡ get_or s (6 + w * p + j) 0
  other p d j h = go (dec_lt p q) (ℕ_discrete q p)
    where
      go : Dec (p < q) → Dec (q ≡ p) → get_or t (6 + w * p + j) 0 ≡ get_or s (6 + w * p + j) 0
      go (yes l) e = under (6 + w * p + j) (omega (arith, up_to w p q l))
      go (no l) (yes e) = absurd (d e)
      go (no l) (no e) = past (6 + w * p + j) (omega (arith, up_to w q p (omega arith)))

  carried_kept : (p : ℕ) → carried_at w parted t p ≡ carried_at w parted s p
  carried_kept p = go (ℕ_discrete q p)
    where
      go : Dec (q ≡ p) → carried_at w parted t p ≡ carried_at w parted s p
      go (yes e) =
          rw (← e)
          (carried_same w parted s t q q (under (6 + w * q) (omega arith)) (under (6 + w * q + 1) (omega arith)) (λ d.
          rw (content_is w n s i) at (written.part d)))
      go (no e) =
          let z : 6 + w * p ≡ 6 + w * p + 0 = omega arith in
          let f : get_or t (6 + w * p) 0 ≡ get_or s (6 + w * p) 0 = rw z (other p e 0 (omega (arith, valid.wide))) in
          carried_same w parted s t p p f (other p e 1 (omega (arith, valid.wide))) (λ d. other p e 2 (omega (arith, valid.wide)))

  cells_kept : cells_in base t ≡ cells_in base s
  cells_kept = cells_frame base s t pages directory_kept

  valid_written : Valid w parted n t
  valid_written =
      record {
        wide = valid.wide;
        narrow = valid.narrow;
        few = valid.few;
        directory = directory_frame base n s t valid.directory written.size pages directory_kept;
        units = rw units valid.units;
        all = rw (cells_kept, units) valid.all;
        below = rw (cells_kept, units) valid.below;
        tied = rw cells_kept
            (tied_same (carried_at w parted s) (carried_at w parted t) (get_or s 0 0) (cells_in base s) (λ p h. carried_kept p) valid.below valid.tied);
        heads = λ k h l. under k (omega arith) ∙ valid.heads k h l;
        spare = λ k h l. past k (omega (arith, units, end, ap (λ (m : ℕ). w * m) units)) ∙ valid.spare k (omega (arith, ap (λ (m : ℕ). w * m) units)) l;
      }
    where
      units : get_or t 0 0 ≡ get_or s 0 0
      units = under 0 (omega arith)

  -- every place among the rows, and where each content lies, stays
  pub content_kept : (k : ℕ) → content_of w n t k ≡ content_of w n s k
  unfolding content_of
  content_kept k = rw cells_kept

  pub position_kept : (p j : ℕ) → position_of w n t p j ≡ position_of w n s p j
  unfolding position_of position_in
  position_kept p j = rw (dir_frame base s t pages directory_kept)

  pub there_kept : (p j : ℕ) → There w n s p j → There w n t p j
  unfolding There
  there_kept p j h =
      record { inside = omega (arith, pages, h.inside); fits = omega (arith, directory_kept (base + 97 * p) (omega arith), h.fits) }

  pub stands_kept : (p j : ℕ) → Stands w n s p j → Stands w n t p j
  unfolding Stands
  stands_kept p j h =
      record { inside = omega (arith, pages, h.inside); fits = omega (arith, directory_kept (base + 97 * p) (omega arith), h.fits) }

  abbrev cell : Cell
  cell = get_or (cells_in base s) i no_cell

  rows_now : held w n t ≡ set (held w n s) i (row_of cell (payload_at w t q))
  unfolding held number_at
  rows_now =
      ap (rows (payload_at w t)) cells_kept
      ∙ rows_set (payload_at w s) (payload_at w t) (cells_in base s) i no_cell (apart w n parted s valid) (omega (arith, held_length w n s)) (λ p d.
      payload_same w s t p p (other p d))

  row_now : row_of cell (payload_at w t q) ≡ filled (readings (λ j. get_or t (content_of w n s i + j) 0) (w - 2)) (row_of cell (payload_at w s q))
  unfolding filled row_of payload_at content_of number_at
  row_now = refl

  holds_written : held w n t ≡ set (held w n s) i (filled (readings (λ j. get_or t (content_of w n s i + j) 0) (w - 2)) (get_or (held w n s) i no_row))
  holds_written =
      rows_now
      ∙ ap (set (held w n s) i) (row_now ∙ ap (filled (readings (λ j. get_or t (content_of w n s i + j) 0) (w - 2))) (sym (row_at w n s i inside)))

  pub rewritten : Left w parted n (set (held w n s) i (filled (readings (λ j. get_or t (content_of w n s i + j) 0) (w - 2)) (get_or (held w n s) i no_row))) s t
      × (content_of w n t i ≡ content_of w n s i)
  rewritten = (
    record {
      valid = valid_written;
      holds = holds_written;
      size = written.size;
      past = λ k h. directory_kept k (omega (arith, (base_in w n parted s valid).0));
    },
    content_kept i,
  )

-- words of a content written one after the other
pub rewritten_none : (parted : Bool) (c m : ℕ) (s : List ℕ) → Rewritten parted c m s s
rewritten_none parted c m s = record { size = refl; under = λ k h. refl; past = λ k h. refl; part = λ e. refl }

pub rewritten_more : (parted : Bool) (c m : ℕ) (s t : List ℕ) (k v : ℕ) → Rewritten parted c m s t → c ≤ k → k < c + m → (parted ≡ true → c < k) →
    Rewritten parted c m s (set t k v)
rewritten_more parted c m s t k v r low high part =
    record {
      size = length-set t k v ∙ r.size;
      under = λ j h. set_else t k j v (λ e. omega arith) ∙ r.under j h;
      past = λ j h. set_else t k j v (λ e. omega arith) ∙ r.past j h;
      part = λ e. set_else t k c v (λ d. omega (arith, part e)) ∙ r.part e;
    }
