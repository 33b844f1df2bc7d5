-- A cell put into a page and one taken out, word by word, as edits of the page's cells and of the directory.
-- Assumes nothing.
use mathlib.Core.Path.{◌≡◌, refl, sym, ◌∙◌, ap}
use mathlib.Core.List.{List}
use Prim.Native.Nat.{ℕ, zero, suc, ◌+◌, ◌-◌, ◌*◌, ◌≤◌, ◌<◌}
use native.Mathlib.Omega.{arith}
use lib.ListN.{length, get_or, set, length-set}
use Rattle.probe.specs.Cells.{spot_at, insert_at, erase_at}
use Rattle.probe.proofs.Readings.{readings_insert, readings_erase}
use Rattle.moves.specs.Moves.{Raised, Copied}
use Rattle.moves.proofs.Turns.{set_here, set_else}
use Rattle.pages.specs.Dir.{flat, page}
use Rattle.pages.proofs.Edits.{insert_cell, erase_cell}
use Rattle.numbers.specs.Numbers.{Cell}
use Rattle.directory.specs.Cells.{cell_at, page_at, dir_at, cells_in}
use Rattle.directory.specs.Directory.{Laid}
use Rattle.directory.specs.Edits.{Edited, CellOpened, CellClosed}
use Rattle.directory.proofs.Frames.{cell_same, dir_length, dir_page, page_length, dir_edited, laid_edited}

-- three words and then another written
abbrev pub write : List ℕ → ℕ → ℕ → ℕ → ℕ → ℕ → ℕ → List ℕ
write u at x y w a c = set (set (set (set u at x) (at + 1) y) (at + 2) w) a c

module _ (u : List ℕ) (at x y w a c : ℕ) (low : a < at) (room : at + 2 < length u) where
  pub write_length : length (write u at x y w a c) ≡ length u
  write_length = simp length-set refl

  pub write_else : (k : ℕ) → (k ≡ a → ⊥) → (k ≡ at → ⊥) → (k ≡ at + 1 → ⊥) → (k ≡ at + 2 → ⊥) → get_or (write u at x y w a c) k 0 ≡ get_or u k 0
  write_else k n₁ n₂ n₃ n₄ =
      set_else (set (set (set u at x) (at + 1) y) (at + 2) w) a k c n₁ ∙ set_else (set (set u at x) (at + 1) y) (at + 2) k w n₄
      ∙ set_else (set u at x) (at + 1) k y n₃ ∙ set_else u at k x n₂

  pub write_count : get_or (write u at x y w a c) a 0 ≡ c
  write_count = set_here (set (set (set u at x) (at + 1) y) (at + 2) w) a a c refl (simp length-set (omega arith))

  pub write_cell : (cell_at (write u at x y w a c) at) ≡ record { spot = x + 4294967296 * y; word = w }
  unfolding cell_at spot_at
  write_cell = rw (one, two, three)
    where
      one : get_or (write u at x y w a c) at 0 ≡ x
      one =
          set_else (set (set (set u at x) (at + 1) y) (at + 2) w) a at c (λ e. omega arith) ∙ set_else (set (set u at x) (at + 1) y) (at + 2) at w (λ e. omega arith)
          ∙ set_else (set u at x) (at + 1) at y (λ e. omega arith) ∙ set_here u at at x refl (omega arith)

      two : get_or (write u at x y w a c) (at + 1) 0 ≡ y
      two =
          set_else (set (set (set u at x) (at + 1) y) (at + 2) w) a (at + 1) c (λ e. omega arith)
          ∙ set_else (set (set u at x) (at + 1) y) (at + 2) (at + 1) w (λ e. omega arith)
          ∙ set_here (set u at x) (at + 1) (at + 1) y refl (simp length-set (omega arith))

      three : get_or (write u at x y w a c) (at + 2) 0 ≡ w
      three =
          set_else (set (set (set u at x) (at + 1) y) (at + 2) w) a (at + 2) c (λ e. omega arith)
          ∙ set_here (set (set u at x) (at + 1) y) (at + 2) (at + 2) w refl (simp length-set (omega arith))

pub write_zero : (u : List ℕ) (at a c : ℕ) → a < at → at + 2 < length u → (k : ℕ) → k < 3 → get_or (write u at 0 0 0 a c) (at + k) 0 ≡ 0
write_zero u at a c low room zero h =
    let e : at + 0 ≡ at = omega arith in
    rw e
    (set_else (set (set (set u at 0) (at + 1) 0) (at + 2) 0) a at c (λ d. omega arith) ∙ set_else (set (set u at 0) (at + 1) 0) (at + 2) at 0 (λ d. omega arith)
    ∙ set_else (set u at 0) (at + 1) at 0 (λ d. omega arith) ∙ set_here u at at 0 refl (omega arith))
write_zero u at a c low room (suc zero) h =
    set_else (set (set (set u at 0) (at + 1) 0) (at + 2) 0) a (at + 1) c (λ d. omega arith)
    ∙ set_else (set (set u at 0) (at + 1) 0) (at + 2) (at + 1) 0 (λ d. omega arith)
    ∙ set_here (set u at 0) (at + 1) (at + 1) 0 refl (simp length-set (omega arith))
write_zero u at a c low room (suc (suc zero)) h =
    set_else (set (set (set u at 0) (at + 1) 0) (at + 2) 0) a (at + 2) c (λ d. omega arith)
    ∙ set_here (set (set u at 0) (at + 1) 0) (at + 2) (at + 2) 0 refl (simp length-set (omega arith))
write_zero u at a c low room (suc (suc (suc k))) h = absurd (omega arith)

-- cells read three words apart
cells_moved : (s t : List ℕ) (a b : ℕ) → ((k : ℕ) → k < 3 → get_or t (b + k) 0 ≡ get_or s (a + k) 0) → cell_at t b ≡ cell_at s a
cells_moved s t a b h =
    let e : b ≡ b + 0 = omega arith in
    let f : a ≡ a + 0 = omega arith in
    let g : get_or t b 0 ≡ get_or s a 0 = ap (λ (n : ℕ). get_or t n 0) e ∙ h 0 (omega arith) ∙ ap (λ (n : ℕ). get_or s n 0) (sym f) in
    cell_same s t a b g (h 1 (omega arith)) (h 2 (omega arith))

module _ (s u : List ℕ) (a i c r x y w : ℕ) (count : c ≡ get_or s a 0) (fits : i ≤ c) (free : c < r) (room : a + 1 + 3 * r ≤ length s)
    (up : Raised 3 (a + 1 + 3 * i) (a + 1 + 3 * c) s u) where
  abbrev t : List ℕ
  t = write u (a + 1 + 3 * i) x y w a (c + 1)

  wide : a + 1 + 3 * i + 2 < length u
  wide = omega (arith, up.size)

  below_open : (k : ℕ) → (k ≡ a → ⊥) → k < a + 1 + 3 * i → get_or t k 0 ≡ get_or s k 0
  below_open k n h =
      write_else u (a + 1 + 3 * i) x y w a (c + 1) (omega arith) wide k n (λ e. omega arith) (λ e. omega arith) (λ e. omega arith)
      ∙ up.under k (omega arith)

  moved_open : (k : ℕ) → a + 1 + 3 * i ≤ k → k < a + 1 + 3 * c → get_or t (k + 3) 0 ≡ get_or s k 0
  moved_open k h l =
      write_else u (a + 1 + 3 * i) x y w a (c + 1) (omega arith) wide (k + 3) (λ e. omega arith) (λ e. omega arith) (λ e. omega arith) (λ e. omega arith)
      ∙ up.within k h l

  pub past_open : (k : ℕ) → a + 1 + 3 * (c + 1) ≤ k → get_or t k 0 ≡ get_or s k 0
  past_open k h =
      write_else u (a + 1 + 3 * i) x y w a (c + 1) (omega arith) wide k (λ e. omega arith) (λ e. omega arith) (λ e. omega arith) (λ e. omega arith)
      ∙ up.past k (omega arith)

  pub count_open : get_or t a 0 ≡ suc c
  count_open = write_count u (a + 1 + 3 * i) x y w a (c + 1) (omega arith) wide ∙ omega arith

  pub page_open : page_at t a ≡ insert_at i (record { spot = x + 4294967296 * y; word = w }) (page_at s a)
  unfolding page_at
  page_open =
      rw (count_open, ← count)
      (readings_insert c (λ j. cell_at t (a + 1 + 3 * j)) (λ j. cell_at s (a + 1 + 3 * j)) i (record { spot = x + 4294967296 * y; word = w }) fits
      (write_cell u (a + 1 + 3 * i) x y w a (c + 1) (omega arith) wide)
      (λ j h. cells_moved s t (a + 1 + 3 * j) (a + 1 + 3 * j) (λ k l. below_open (a + 1 + 3 * j + k) (λ e. omega arith) (omega arith)))
      (λ j h l. cells_moved s t (a + 1 + 3 * j) (a + 1 + 3 * suc j) (λ k m. moved j k h l m)))
    where
      moved : (j k : ℕ) → i ≤ j → j < c → k < 3 → get_or t (a + 1 + 3 * suc j + k) 0 ≡ get_or s (a + 1 + 3 * j + k) 0
      moved j k h l m =
          let e : a + 1 + 3 * suc j + k ≡ a + 1 + 3 * j + k + 3 = omega arith in
          ap (λ (n : ℕ). get_or t n 0) e ∙ moved_open (a + 1 + 3 * j + k) (omega arith) (omega arith)

  pub under_open : (k : ℕ) → k < a → get_or t k 0 ≡ get_or s k 0
  under_open k h = below_open k (λ e. omega arith) (omega arith)

  pub size_open : length t ≡ length s
  size_open = write_length u (a + 1 + 3 * i) x y w a (c + 1) (omega arith) wide ∙ up.size

-- in the directory
module _ (base r p i x y w c : ℕ) (s u : List ℕ) (laid : Laid base r s) (inside : p ≤ get_or s 1 0) (count : c ≡ get_or s (base + 97 * p) 0) (fits : i ≤ get_or s (base + 97 * p) 0)
    (free : get_or s (base + 97 * p) 0 < r) (up : Raised 3 (base + 97 * p + 1 + 3 * i) (base + 97 * p + 1 + 3 * c) s u) where
  pub opened : CellOpened base r p i (record { spot = x + 4294967296 * y; word = w }) s (write u (base + 97 * p + 1 + 3 * i) x y w (base + 97 * p) (c + 1))
  unfolding cells_in
  opened =
      let a : ℕ = base + 97 * p in
      let v : List ℕ = write u (a + 1 + 3 * i) x y w a (c + 1) in
      let new : Cell = record { spot = x + 4294967296 * y; word = w } in
      let room : a + 1 + 3 * r ≤ length s = omega (arith, laid.inside) in
      let f : i ≤ c = omega arith in
      let g : c < r = omega arith in
      let n : get_or v a 0 ≡ suc c = count_open s u a i c r x y w count f g room up in
      let ed : Edited base r p s v = record {
        size = size_open s u a i c r x y w count f g room up;
        under = under_open s u a i c r x y w count f g room up;
        past = λ k h. past_open s u a i c r x y w count f g room up k (omega arith);
      } in
      let d : page_at v a ≡ insert_at i new (page p (dir_at base s)) =
      page_open s u a i c r x y w count f g room up ∙ ap (insert_at i new) (sym (dir_page base s p inside)) in
      let l : i ≤ length (page p (dir_at base s)) = rw (dir_page base s p inside) (omega (arith, page_length s a)) in
      record {
        edited = ed;
        laid = laid_edited base r p s v laid inside ed (omega arith);
        count = n ∙ ap suc count;
        cells = ap flat (dir_edited base r p s v laid inside ed ∙ ap (set (dir_at base s) p) d)
            ∙ insert_cell (dir_at base s) p (omega (arith, dir_length base s)) i new l;
        unused = λ k h. past_open s u a i c r x y w count f g room up k (omega arith);
      }

-- a cell taken out
module _ (s u : List ℕ) (a i e r : ℕ) (count : suc e ≡ get_or s a 0) (fits : i ≤ e) (few : suc e ≤ r) (room : a + 1 + 3 * r ≤ length s)
    (down : Copied (a + 1 + 3 * i) (a + 1 + 3 * i + 3) (a + 1 + 3 * e - (a + 1 + 3 * i)) s u) where
  abbrev t' : List ℕ
  t' = write u (a + 1 + 3 * e) 0 0 0 a e

  wide' : a + 1 + 3 * e + 2 < length u
  wide' = omega (arith, down.size)

  below_close : (k : ℕ) → (k ≡ a → ⊥) → k < a + 1 + 3 * i → get_or t' k 0 ≡ get_or s k 0
  below_close k n h =
      write_else u (a + 1 + 3 * e) 0 0 0 a e (omega arith) wide' k n (λ d. omega arith) (λ d. omega arith) (λ d. omega arith)
      ∙ down.under k h

  moved_close : (k : ℕ) → k < 3 * e - 3 * i → get_or t' (a + 1 + 3 * i + k) 0 ≡ get_or s (a + 1 + 3 * i + 3 + k) 0
  moved_close k h =
      write_else u (a + 1 + 3 * e) 0 0 0 a e (omega arith) wide' (a + 1 + 3 * i + k) (λ d. omega arith) (λ d. omega arith) (λ d. omega arith) (λ d. omega arith)
      ∙ down.within k (omega arith)

  pub past_close : (k : ℕ) → a + 1 + 3 * suc e ≤ k → get_or t' k 0 ≡ get_or s k 0
  past_close k h =
      write_else u (a + 1 + 3 * e) 0 0 0 a e (omega arith) wide' k (λ d. omega arith) (λ d. omega arith) (λ d. omega arith) (λ d. omega arith)
      ∙ down.past k (omega arith)

  pub count_close : get_or t' a 0 ≡ e
  count_close = write_count u (a + 1 + 3 * e) 0 0 0 a e (omega arith) wide'

  pub zero_close : (k : ℕ) → k < 3 → get_or t' (a + 1 + 3 * e + k) 0 ≡ 0
  zero_close k h = write_zero u (a + 1 + 3 * e) a e (omega arith) wide' k h

  pub page_close : page_at t' a ≡ erase_at i (page_at s a)
  unfolding page_at
  page_close =
      rw (count_close, ← count)
      (readings_erase e (λ j. cell_at t' (a + 1 + 3 * j)) (λ j. cell_at s (a + 1 + 3 * j)) i fits
      (λ j h. cells_moved s t' (a + 1 + 3 * j) (a + 1 + 3 * j) (λ k l. below_close (a + 1 + 3 * j + k) (λ d. omega arith) (omega arith)))
      (λ j h l. cells_moved s t' (a + 1 + 3 * suc j) (a + 1 + 3 * j) (λ k m. moved j k h l m)))
    where
      moved : (j k : ℕ) → i ≤ j → j < e → k < 3 → get_or t' (a + 1 + 3 * j + k) 0 ≡ get_or s (a + 1 + 3 * suc j + k) 0
      moved j k h l m =
          let f : a + 1 + 3 * j + k ≡ a + 1 + 3 * i + (3 * j - 3 * i + k) = omega arith in
          let g : a + 1 + 3 * i + 3 + (3 * j - 3 * i + k) ≡ a + 1 + 3 * suc j + k = omega arith in
          ap (λ (n : ℕ). get_or t' n 0) f ∙ moved_close (3 * j - 3 * i + k) (omega arith) ∙ ap (λ (n : ℕ). get_or s n 0) g

  pub under_close : (k : ℕ) → k < a → get_or t' k 0 ≡ get_or s k 0
  under_close k h = below_close k (λ d. omega arith) (omega arith)

  pub size_close : length t' ≡ length s
  size_close = write_length u (a + 1 + 3 * e) 0 0 0 a e (omega arith) wide' ∙ down.size

module _ (base r p i e : ℕ) (s u : List ℕ) (laid : Laid base r s) (inside : p ≤ get_or s 1 0) (count : suc e ≡ get_or s (base + 97 * p) 0) (fits : i < get_or s (base + 97 * p) 0)
    (down : Copied (base + 97 * p + 1 + 3 * i) (base + 97 * p + 1 + 3 * i + 3) (base + 97 * p + 1 + 3 * e - (base + 97 * p + 1 + 3 * i)) s u) where
  pub closed : CellClosed base r p i s (write u (base + 97 * p + 1 + 3 * e) 0 0 0 (base + 97 * p) e)
  unfolding cells_in
  closed =
      let a : ℕ = base + 97 * p in
      let v : List ℕ = write u (a + 1 + 3 * e) 0 0 0 a e in
      let room : a + 1 + 3 * r ≤ length s = omega (arith, laid.inside) in
      let f : i ≤ e = omega arith in
      let g : suc e ≤ r = omega (arith, laid.counts p inside) in
      let n : get_or v a 0 ≡ e = count_close s u a i e r count f g room down in
      let ed : Edited base r p s v = record {
        size = size_close s u a i e r count f g room down;
        under = under_close s u a i e r count f g room down;
        past = λ k h. past_close s u a i e r count f g room down k (omega arith);
      } in
      let d : page_at v a ≡ erase_at i (page p (dir_at base s)) =
      page_close s u a i e r count f g room down ∙ ap (erase_at i) (sym (dir_page base s p inside)) in
      let l : i < length (page p (dir_at base s)) = rw (dir_page base s p inside) (omega (arith, page_length s a)) in
      record {
        edited = ed;
        laid = laid_edited base r p s v laid inside ed (omega arith);
        count = ap suc n ∙ count;
        cells = ap flat (dir_edited base r p s v laid inside ed ∙ ap (set (dir_at base s) p) d)
            ∙ erase_cell (dir_at base s) p (omega (arith, dir_length base s)) i l;
        unused = λ k h. past_close s u a i e r count f g room down k (omega arith);
        cleared = λ k h. ap (λ (m : ℕ). get_or v (a + 1 + 3 * m + k) 0) n ∙ zero_close s u a i e r count f g room down k h;
      }
