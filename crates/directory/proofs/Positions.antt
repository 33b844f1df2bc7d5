-- Places among the cells, and positions in the list of them.
-- Assumes nothing.
use mathlib.Core.Path.{◌≡◌, refl, sym, ◌∙◌, ap}
use mathlib.Core.Bool.{Bool, true}
use Rattle.std.specs.Prelude.{Option, Some, None, IfSome, is_some}
use mathlib.Core.List.{List, ◌++◌}
use Prim.Native.Nat.{ℕ, suc, ◌+◌, ◌*◌, ◌≤◌, ◌<◌}
use native.Mathlib.Omega.{arith}
use lib.Dec.{ltb}
use lib.ListN.{length, get_or, take, drop, length-append, get_or-append}
use lib.Seq.{get_or-append-add, take_all}
use borrow.Author.Tests.{ltb-true, lt-ltb, le-ltb}
use Rattle.probe.proofs.Probe.{readings_at}
use Rattle.pages.specs.Dir.{flat, page, offset}
use Rattle.pages.proofs.Edits.{around, offset_next}
use Rattle.numbers.specs.Numbers.{Cell}
use Rattle.directory.specs.Cells.{cell_at, page_at, dir_at, cells_in, position_in, position_or_end}
use Rattle.directory.specs.declared.cells.Place.{Place}
use Rattle.directory.specs.Directory.{Directory, Stands, There}
use Rattle.directory.proofs.Frames.{dir_length, dir_page, page_length}

-- a cell of a list of pages
pub get_d_flat : {A : Type 0} (d : List (List A)) (j i : ℕ) (nil : A) → j < length d → i < length (page j d) → get_or (flat d) (offset j d + i) nil ≡ get_or (page j d) i nil
unfolding offset
get_d_flat d j i nil h l =
    rw (around d j h)
    (get_or-append-add (flat (take j d)) (page j d ++ flat (drop (suc j) d)) i nil ∙ get_or-append (page j d) (flat (drop (suc j) d)) nil i l)

pub offset_all : {A : Type 0} (d : List (List A)) (n : ℕ) → length d ≤ n → offset n d ≡ length (flat d)
unfolding offset
offset_all d n h = rw (take_all n d h)

pub flat_size : {A : Type 0} (d : List (List A)) (j : ℕ) → j < length d → offset j d + length (page j d) ≤ length (flat d)
unfolding offset
flat_size d j h =
    rw (around d j h)
    (omega (arith, length-append (flat (take j d)) (page j d ++ flat (drop (suc j) d)), length-append (page j d) (flat (drop (suc j) d))))

page_cell : (s : List ℕ) (a i : ℕ) (nil : Cell) → i < get_or s a 0 → get_or (page_at s a) i nil ≡ cell_at s (a + 1 + 3 * i)
unfolding page_at
page_cell s a i nil h = readings_at (get_or s a 0) (λ j. cell_at s (a + 1 + 3 * j)) i nil h

module _ (base : ℕ) (s : List ℕ) (p : ℕ) (inside : p ≤ get_or s 1 0) where
  pub page_size : length (page p (dir_at base s)) ≡ get_or s (base + 97 * p) 0
  page_size = ap (λ (c : List Cell). length c) (dir_page base s p inside) ∙ page_length s (base + 97 * p)

  -- the next page's first place is this one's end
  pub position_next : position_in base s (suc p) 0 ≡ position_in base s p (get_or s (base + 97 * p) 0)
  unfolding position_in
  position_next = omega (arith, offset_next (dir_at base s) p (omega (arith, dir_length base s)), page_size)

module _ (base : ℕ) (s : List ℕ) (p i : ℕ) where
  -- where there is a cell
  pub position_in_lem : There base s p i → position_in base s p i < length (cells_in base s)
  unfolding cells_in position_in
  position_in_lem t = omega (arith, flat_size (dir_at base s) p (omega (arith, dir_length base s, t.inside)), page_size base s p t.inside, t.fits)

  pub cell_in : There base s p i → (nil : Cell) → get_or (cells_in base s) (position_in base s p i) nil ≡ cell_at s (base + 97 * p + 1 + 3 * i)
  unfolding cells_in position_in
  cell_in t nil =
      get_d_flat (dir_at base s) p i nil (omega (arith, dir_length base s, t.inside)) (omega (arith, page_size base s p t.inside, t.fits))
      ∙ ap (λ (c : List Cell). get_or c i nil) (dir_page base s p t.inside) ∙ page_cell s (base + 97 * p) i nil t.fits

  -- any place
  pub position_fits : Stands base s p i → position_in base s p i ≤ length (cells_in base s)
  unfolding cells_in position_in
  position_fits t = omega (arith, flat_size (dir_at base s) p (omega (arith, dir_length base s, t.inside)), page_size base s p t.inside, t.fits)

  pub stands_there : There base s p i → Stands base s p i
  stands_there t = record { inside = t.inside; fits = omega (arith, t.fits) }

  pub there_stands : (is : Bool) → Stands base s p i → is ≡ ltb i (get_or s (base + 97 * p) 0) → is ≡ true → There base s p i
  there_stands is t e f = record { inside = t.inside; fits = ltb-true i (get_or s (base + 97 * p) 0) (sym e ∙ f) }

  pub stands_after : There base s p i → Stands base s p (i + 1)
  stands_after t = record { inside = t.inside; fits = omega (arith, t.fits) }

  pub position_after : position_in base s p (i + 1) ≡ suc (position_in base s p i)
  unfolding position_in
  position_after = omega arith

-- the first place
pub stands_first : (base : ℕ) (s : List ℕ) → Stands base s 0 0
stands_first base s = record { inside = omega arith; fits = omega arith }

pub position_first : (base : ℕ) (s : List ℕ) → position_in base s 0 0 ≡ 0
unfolding position_in offset flat
position_first base s = refl

-- what the first cell at or after a place is
abbrev pub After : ℕ → List ℕ → ℕ → Option Place → Type 0
After base s position r =
    IfSome r (λ p. There base s p.page p.cell)
    × ((position_or_end base s r ≡ position) × (is_some r ≡ ltb position (length (cells_in base s))))

module _ (base n : ℕ) (s : List ℕ) (ok : Directory base n s) (at : Place) (stands : Stands base s at.page at.cell) where
  pub after_here : (c : ℕ) → c ≡ get_or s (base + 97 * at.page) 0 → at.cell < c → After base s (position_in base s at.page at.cell) (Some at)
  unfolding position_or_end
  after_here c e h =
      (there, (refl, sym (lt-ltb (position_in base s at.page at.cell) (length (cells_in base s)) (position_in_lem base s at.page at.cell there))))
    where
      there : There base s at.page at.cell
      there = record { inside = stands.inside; fits = omega arith }

  end : get_or s (base + 97 * at.page) 0 ≤ at.cell → get_or s 1 0 ≤ at.page → position_in base s at.page at.cell ≡ length (cells_in base s)
  unfolding cells_in position_in
  end h l =
      omega (
        arith,
        stands.fits,
        offset_next (dir_at base s) at.page (omega (arith, dir_length base s, stands.inside)),
        page_size base s at.page stands.inside,
        offset_all (dir_at base s) (suc at.page) (omega (arith, dir_length base s)),
      )

  pub after_none : (c m : ℕ) → c ≡ get_or s (base + 97 * at.page) 0 → c ≤ at.cell → m ≡ get_or s 1 0 → m ≤ at.page →
      After base s (position_in base s at.page at.cell) None
  unfolding position_or_end
  after_none c m e h f l =
      let d = end (omega arith) (omega arith) in
      (tt, (sym d, sym (le-ltb (position_in base s at.page at.cell) (length (cells_in base s)) (omega (arith, d)))))

  pub after_page : (c m : ℕ) → c ≡ get_or s (base + 97 * at.page) 0 → c ≤ at.cell → m ≡ get_or s 1 0 → at.page < m →
      After base s (position_in base s at.page at.cell) (Some (record { page = at.page + 1; cell = 0 }))
  unfolding position_or_end
  after_page c m e h f l =
      let g : at.page + 1 ≡ suc at.page = omega arith in
      let some : 0 < get_or s (base + 97 * suc at.page) 0 = ok.filled (suc at.page) (omega arith) (omega arith) in
      let d : at.cell ≡ get_or s (base + 97 * at.page) 0 = omega (arith, stands.fits) in
      let q : position_in base s (suc at.page) 0 ≡ position_in base s at.page at.cell =
      position_next base s at.page stands.inside ∙ ap (position_in base s at.page) (sym d) in
      rw g (
        there some,
        (q, sym (lt-ltb (position_in base s at.page at.cell) (length (cells_in base s)) (rw (← q) (position_in_lem base s (suc at.page) 0 (there some))))),
      )
    where
      there : 0 < get_or s (base + 97 * suc at.page) 0 → There base s (suc at.page) 0
      there some = record { inside = omega arith; fits = some }

-- the same from the cell before
pub after_next : (base : ℕ) (s : List ℕ) (p i : ℕ) (r : Option Place) → After base s (position_in base s p (i + 1)) r → After base s (suc (position_in base s p i)) r
after_next base s p i r a = rw (← position_after base s p i) a
