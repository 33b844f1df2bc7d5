-- One page of a directory edited in place: what is left is a directory.
-- Assumes nothing.
use mathlib.Core.Path.{◌≡◌, refl, sym, ◌∙◌, ap}
use mathlib.Core.List.{List, [], ◌∷◌}
use Prim.Native.Nat.{ℕ, zero, suc, ◌+◌, ◌-◌, ◌*◌, ◌/◌, ◌%◌, ◌≤◌, ◌<◌}
use native.Mathlib.Omega.{arith}
use native.Mathlib.Decide.{dec_lt, ℕ_discrete}
use lib.ListN.{length, get_or, set, length-set}
use Rattle.probe.specs.Cells.{spot_at, insert_at, erase_at}
use Rattle.probe.proofs.Readings.{readings_set}
use Rattle.moves.proofs.Turns.{set_here, set_else}
use Rattle.pages.specs.Dir.{flat}
use Rattle.pages.proofs.Edits.{set_cell}
use Rattle.numbers.specs.Numbers.{Cell, part_of, rank_of, ranks, Below, Drops}
use Rattle.directory.specs.Cells.{cell_at, page_at, dir_at, cells_in, position_in}
use Rattle.directory.specs.Directory.{room_of, Directory, There}
use Rattle.directory.specs.Edits.{Kept, Left, Edited, CellOpened, CellClosed}
use Rattle.directory.proofs.Frames.{cell_same, dir_length, dir_page, dir_edited, pages_same, else_word}
use Rattle.directory.proofs.Directories.{sizes, laid_of, cell_inside, page_clean}
use Rattle.directory.proofs.Positions.{page_size, position_in_lem, cell_in}

-- order after an erasure
below_erase : (n : ℕ) (cs : List Cell) (i : ℕ) → Below n (ranks cs) → Below n (ranks (erase_at i cs))
unfolding Below erase_at
below_erase n [] zero b = b
below_erase n [] (suc i) b = b
below_erase n (c ∷ cs) zero b = b.1
below_erase n (c ∷ cs) (suc i) b = (b.0, below_erase n cs i b.1)

pub drops_erase : (cs : List Cell) (i : ℕ) → Drops (ranks cs) → Drops (ranks (erase_at i cs))
unfolding Drops erase_at
drops_erase [] zero d = d
drops_erase [] (suc i) d = d
drops_erase (c ∷ cs) zero d = d.1
drops_erase (c ∷ cs) (suc i) d = (below_erase (rank_of c) cs i d.0, drops_erase cs i d.1)

-- and after a cell is replaced by one of the same rank
pub ranks_set : (cs : List Cell) (i : ℕ) (x nil : Cell) → i < length cs → rank_of x ≡ rank_of (get_or cs i nil) → ranks (set cs i x) ≡ ranks cs
ranks_set [] i x nil h e = refl
ranks_set (c ∷ cs) zero x nil h e = rw e
ranks_set (c ∷ cs) (suc i) x nil h e = rw (ranks_set cs i x nil (omega arith) e)

-- page p edited
module _ (base n p : ℕ) (s t : List ℕ) (ok : Directory base n s) (inside : p ≤ get_or s 1 0) (ed : Edited base (room_of n) p s t) where
  kept_edited : Kept base (32 * n) s t
  kept_edited =
      record {
        size = ed.size;
        under = λ k h m. ed.under k (omega arith);
        past = λ k h. ed.past k (omega (arith, ok.space, ok.pages));
      }

  same_pages : get_or t 1 0 ≡ get_or s 1 0
  same_pages = pages_same base (room_of n) p s t (laid_of base n s ok) inside ed

  else_count : (k : ℕ) → k ≤ get_or s 1 0 → (k ≡ p → ⊥) → get_or t (base + 97 * k) 0 ≡ get_or s (base + 97 * k) 0
  else_count k h m =
      let f : base + 97 * k ≡ base + 97 * k + 0 = omega arith in
      rw f (else_word base (room_of n) p s t (laid_of base n s ok) inside ed k 0 h m (omega arith))

  module _ (count : get_or t (base + 97 * p) 0 ≤ room_of n) (some : 0 < get_or s 1 0 → 0 < get_or t (base + 97 * p) 0)
      (clean : (j : ℕ) → base + 97 * p + 1 + 3 * get_or t (base + 97 * p) 0 ≤ j → j < base + 97 * p + 1 + 3 * room_of n → get_or t j 0 ≡ 0)
      (order : Drops (ranks (cells_in base t))) where
    counts : (k : ℕ) → k ≤ get_or s 1 0 → Dec (k ≡ p) → get_or t (base + 97 * k) 0 ≤ room_of n
    counts k h (yes e) = rw e count
    counts k h (no e) = omega (arith, else_count k h e, ok.counts k h)

    filled : (k : ℕ) → 0 < get_or s 1 0 → k ≤ get_or s 1 0 → Dec (k ≡ p) → 0 < get_or t (base + 97 * k) 0
    filled k l h (yes e) = rw e (some l)
    filled k l h (no e) = omega (arith, else_count k h e, ok.filled k l h)

    apart : p < get_or s 1 0 → room_of n ≡ 32
    apart h = (sizes n).apart (omega (arith, ok.pages))

    -- in the page itself, and after it up to the next
    here : (j : ℕ) → base + 97 * p + 1 + 3 * get_or t (base + 97 * p) 0 ≤ j → (p < get_or s 1 0 → j < base + 97 * suc p) → j < 32 * n →
        Dec (j < base + 97 * p + 1 + 3 * room_of n) → get_or t j 0 ≡ 0
    here j l m o (yes h) = clean j l h
    here j l m o (no h) = ed.past j (omega arith) ∙ ok.clean p j inside (omega (arith, ok.counts p inside)) m o

    other : (k j : ℕ) → k ≤ get_or s 1 0 → base + 97 * k + 1 + 3 * get_or t (base + 97 * k) 0 ≤ j → (k < get_or s 1 0 → j < base + 97 * suc k) → j < 32 * n →
        (k ≡ p → ⊥) → Dec (k < p) → get_or t j 0 ≡ 0
    other k j h l m o ne (yes b) =
        let c = else_count k h ne in
        ed.under j (omega (arith, m (omega arith))) ∙ ok.clean k j h (omega arith) m o
    other k j h l m o ne (no b) =
        let c = else_count k h ne in
        ed.past j (omega (arith, apart (omega arith))) ∙ ok.clean k j h (omega arith) m o

    cleans : (k j : ℕ) → k ≤ get_or s 1 0 → base + 97 * k + 1 + 3 * get_or t (base + 97 * k) 0 ≤ j → (k < get_or s 1 0 → j < base + 97 * suc k) → j < 32 * n →
        Dec (k ≡ p) → get_or t j 0 ≡ 0
    cleans k j h l m o (yes e) = here j (rw e at l) (rw e at m) o (dec_lt j (base + 97 * p + 1 + 3 * room_of n))
    cleans k j h l m o (no e) = other k j h l m o e (dec_lt k p)

    pub directory_edited : Directory base n t
    directory_edited =
        record {
          low = ok.low;
          some = ok.some;
          space = ok.space;
          size = omega (arith, ok.size, ed.size);
          pages = omega (arith, ok.pages, same_pages);
          counts = λ k h. counts k (omega (arith, same_pages)) (ℕ_discrete k p);
          filled = λ k l h. filled k (omega (arith, same_pages)) (omega (arith, same_pages)) (ℕ_discrete k p);
          clean = λ k j h l m o. cleans k j (omega (arith, same_pages)) l (λ q. m (omega (arith, same_pages))) o (ℕ_discrete k p);
          order = order;
        }

-- a cell put in
module _ (base n p i : ℕ) (x : Cell) (s t : List ℕ) (ok : Directory base n s) (inside : p ≤ get_or s 1 0) (op : CellOpened base (room_of n) p i x s t)
    (order : Drops (ranks (insert_at (position_in base s p i) x (cells_in base s)))) where
  opened_cells : cells_in base t ≡ insert_at (position_in base s p i) x (cells_in base s)
  unfolding position_in
  opened_cells = op.cells

  pub left_opened : Left base n (insert_at (position_in base s p i) x (cells_in base s)) s t
  left_opened =
      let e = opened_cells in
      record {
        kept = kept_edited base n p s t ok inside op.edited;
        directory = directory_edited base n p s t ok inside op.edited (omega (arith, op.laid.counts p (omega (arith, same_pages base n p s t ok inside op.edited))))
            (λ h. omega (arith, op.count))
            (λ j h l. op.unused j h ∙ page_clean base n s ok p j inside (omega (arith, op.count)) l) (rw e order);
        cells = e;
      }

-- a cell taken out, where the page keeps one or is the only page
module _ (base n p i : ℕ) (s t : List ℕ) (ok : Directory base n s) (inside : p ≤ get_or s 1 0) (keeps : 0 < get_or s 1 0 → 1 < get_or s (base + 97 * p) 0)
    (cl : CellClosed base (room_of n) p i s t) where
  closed_cells : cells_in base t ≡ erase_at (position_in base s p i) (cells_in base s)
  unfolding position_in
  closed_cells = cl.cells

  closed_clean : (j : ℕ) → base + 97 * p + 1 + 3 * get_or t (base + 97 * p) 0 ≤ j → j < base + 97 * p + 1 + 3 * room_of n → get_or t j 0 ≡ 0
  closed_clean j h l = go (dec_lt j (base + 97 * p + 1 + 3 * get_or s (base + 97 * p) 0))
    where
      go : Dec (j < base + 97 * p + 1 + 3 * get_or s (base + 97 * p) 0) → get_or t j 0 ≡ 0
      go (yes m) =
          let e : j ≡ base + 97 * p + 1 + 3 * get_or t (base + 97 * p) 0 + (j - (base + 97 * p + 1 + 3 * get_or t (base + 97 * p) 0)) = omega arith in
          ap (λ (k : ℕ). get_or t k 0) e ∙ cl.cleared (j - (base + 97 * p + 1 + 3 * get_or t (base + 97 * p) 0)) (omega (arith, cl.count))
      go (no m) = cl.unused j (omega arith) ∙ page_clean base n s ok p j inside (omega arith) l

  pub left_closed : Left base n (erase_at (position_in base s p i) (cells_in base s)) s t
  left_closed =
      let e = closed_cells in
      record {
        kept = kept_edited base n p s t ok inside cl.edited;
        directory = directory_edited base n p s t ok inside cl.edited (omega (arith, cl.count, ok.counts p inside)) (λ h. omega (arith, cl.count, keeps h)) closed_clean
            (rw e (drops_erase (cells_in base s) (position_in base s p i) ok.order));
        cells = e;
      }

-- the third word of a cell replaced
cell_written : (s : List ℕ) (at v : ℕ) → at + 2 < length s → cell_at (set s (at + 2) v) at ≡ record { spot = spot_at s at; word = v }
unfolding cell_at spot_at
cell_written s at v h =
    let e : get_or (set s (at + 2) v) at 0 ≡ get_or s at 0 = set_else s (at + 2) at v (λ d. omega arith) in
    let f : get_or (set s (at + 2) v) (at + 1) 0 ≡ get_or s (at + 1) 0 = set_else s (at + 2) (at + 1) v (λ d. omega arith) in
    let g : get_or (set s (at + 2) v) (at + 2) 0 ≡ v = set_here s (at + 2) (at + 2) v refl h in
    rw (e, f, g)

rank_written : (s : List ℕ) (at v : ℕ) → v / 16777216 % 256 ≡ get_or s (at + 2) 0 / 16777216 % 256 →
    ◌≡◌ {A = ℕ} (rank_of (record { spot = spot_at s at; word = v })) (rank_of (cell_at s at))
unfolding rank_of part_of cell_at
rank_written s at v e = rw e

module _ (base n p i v : ℕ) (s : List ℕ) (ok : Directory base n s) (there : There base s p i) where
  abbrev at : ℕ
  at = base + 97 * p + 1 + 3 * i

  abbrev t : List ℕ
  t = set s (at + 2) v

  abbrev x : Cell
  x = record { spot = spot_at s at; word = v }

  room : at + 2 < length s
  room = omega (arith, cell_inside base n s ok p i there, ok.size)

  rest : (k : ℕ) → (k ≡ at + 2 → ⊥) → get_or t k 0 ≡ get_or s k 0
  rest k h = set_else s (at + 2) k v h

  word_edited : Edited base (room_of n) p s t
  word_edited =
      record {
        size = length-set s (at + 2) v;
        under = λ k h. rest k (λ e. omega arith);
        past = λ k h. rest k (λ e. omega (arith, there.fits, ok.counts p there.inside));
      }

  word_count : get_or t (base + 97 * p) 0 ≡ get_or s (base + 97 * p) 0
  word_count = rest (base + 97 * p) (λ d. omega arith)

  word_page : page_at t (base + 97 * p) ≡ set (page_at s (base + 97 * p)) i x
  unfolding page_at
  word_page =
      rw word_count
      (readings_set (get_or s (base + 97 * p) 0) (λ j. cell_at t (base + 97 * p + 1 + 3 * j)) (λ j. cell_at s (base + 97 * p + 1 + 3 * j)) i x there.fits
      (cell_written s at v room) (λ j h m.
      cell_same s t (base + 97 * p + 1 + 3 * j) (base + 97 * p + 1 + 3 * j)
      (rest (base + 97 * p + 1 + 3 * j) (λ d. omega arith))
      (rest (base + 97 * p + 1 + 3 * j + 1) (λ d. omega arith))
      (rest (base + 97 * p + 1 + 3 * j + 2) (λ d. m (omega arith)))))

  word_cells : cells_in base t ≡ set (cells_in base s) (position_in base s p i) x
  unfolding cells_in position_in
  word_cells =
      ap flat
      (dir_edited base (room_of n) p s t (laid_of base n s ok) there.inside word_edited
      ∙ ap (set (dir_at base s) p) (word_page ∙ ap (λ (c : List Cell). set c i x) (sym (dir_page base s p there.inside))))
      ∙ set_cell (dir_at base s) p (omega (arith, dir_length base s, there.inside)) i x (omega (arith, page_size base s p there.inside, there.fits))

  pub left_word : v / 16777216 % 256 ≡ get_or s (at + 2) 0 / 16777216 % 256 →
      Left base n (set (cells_in base s) (position_in base s p i) x) s t × ((k : ℕ) → (k ≡ at + 2 → ⊥) → get_or t k 0 ≡ get_or s k 0)
  left_word part = (record { kept = kept_edited base n p s t ok there.inside word_edited; directory = dir; cells = word_cells }, rest)
    where
      nil : Cell
      nil = record { spot = 0; word = 0 }

      same : ranks (cells_in base t) ≡ ranks (cells_in base s)
      same =
          ap (λ (c : List Cell). ranks c) word_cells
          ∙ ranks_set (cells_in base s) (position_in base s p i) x nil (position_in_lem base s p i there) (rank_written s at v part ∙ ap rank_of (sym (cell_in base s p i there nil)))

      dir : Directory base n t
      dir =
          directory_edited base n p s t ok there.inside word_edited (omega (arith, word_count, ok.counts p there.inside)) (λ h. omega (arith, word_count, there.fits))
          (λ j h l. rest j (λ e. omega (arith, word_count, there.fits)) ∙ page_clean base n s ok p j there.inside (omega (arith, word_count)) l)
          (rw same ok.order)
