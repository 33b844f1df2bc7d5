-- The turns of a scan: through a page's cells, and through the pages. What is left decides.
-- Assumes nothing.
use mathlib.Core.Path.{◌≡◌, refl, sym, ◌∙◌, ap}
use mathlib.Core.Bool.{Bool, true, false, ◌&&◌}
use Rattle.std.specs.Prelude.{Option, Some, None}
use Rattle.std.specs.Option.{ForSome}
use mathlib.Core.List.{List, [], ◌∷◌, ◌++◌, append-nil}
use Prim.Native.Nat.{ℕ, zero, suc, ◌+◌, ◌-◌, ◌*◌, ◌≤◌, ◌<◌}
use native.Mathlib.Omega.{arith}
use native.Mathlib.Decide.{ℕ_discrete}
use lib.Dec.{eqb}
use lib.ListN.{length, get_or, length-append}
use Rattle.lists.proofs.Bools.{and_swap, and_assoc}
use Rattle.probe.specs.Cells.{readings}
use Rattle.probe.proofs.Readings.{readings_same}
use Rattle.pages.specs.Dir.{flat}
use Rattle.numbers.specs.Numbers.{Cell, rank_of, fine, scans}
use Rattle.directory.specs.Cells.{cell_at, page_at, dir_at, cells_in}
use Rattle.directory.proofs.Frames.{page_length}
use Rattle.store.specs.Held.{base_of, carried_at, no_cell}
use Rattle.store.specs.Scan.{page_test, each_below, cells_test, limit_at}
use Rattle.store.proofs.Scanning.{PageFine, page_told}

-- the cell before lies within the words
pub none_inside : (n : ℕ) → ForSome None (λ x. x + 3 ≤ n)
none_inside n x e = cc

pub some_inside : (b n : ℕ) → b + 3 ≤ n → ForSome (Some b) (λ x. x + 3 ≤ n)
some_inside b n h x e = let i : b ≡ x = cc in omega arith

and-false : (a : Bool) → (a && false) ≡ false
and-false true = refl
and-false false = refl

-- The cells of a page.
module _ (carried : ℕ → ℕ) (h : ℕ) (s : List ℕ) (a c : ℕ) where
  unfoldable pub cells_left : ℕ → Option ℕ → Bool
  cells_left j last = scans carried h (limit_at s last (a + 1 + 3 * j)) (readings (λ i. cell_at s (a + 1 + 3 * (j + i))) (c - j))

  pub cells_turn : (j : ℕ) (last : Option ℕ) → j < c →
      cells_left j last ≡ (fine carried h (limit_at s last (a + 1 + 3 * j)) (cell_at s (a + 1 + 3 * j)) && cells_left (j + 1) (Some (a + 1 + 3 * j)))
  unfolding cells_left scans readings limit_at
  cells_turn j last l =
      let e : c - j ≡ suc (c - (j + 1)) = omega arith in
      let f : a + 1 + 3 * (j + 0) ≡ a + 1 + 3 * j = omega arith in
      let t : readings (λ i. cell_at s (a + 1 + 3 * (j + suc i))) (c - (j + 1)) ≡ readings (λ i. cell_at s (a + 1 + 3 * (j + 1 + i))) (c - (j + 1)) =
      readings_same (c - (j + 1)) (λ i. cell_at s (a + 1 + 3 * (j + suc i))) (λ i. cell_at s (a + 1 + 3 * (j + 1 + i))) (λ i k.
      let d : a + 1 + 3 * (j + suc i) ≡ a + 1 + 3 * (j + 1 + i) = omega arith in ap (cell_at s) d) in
      rw (e, f, t)

  pub cells_done : (j : ℕ) (last : Option ℕ) → c ≤ j → cells_left j last ≡ true
  unfolding cells_left scans readings
  cells_done j last l = let e : c - j ≡ 0 = omega arith in rw e

pub cells_start : (carried : ℕ → ℕ) (h : ℕ) (s : List ℕ) (a : ℕ) (last : Option ℕ) →
    cells_left carried h s a (get_or s a 0) 0 last ≡ scans carried h (limit_at s last (a + 1)) (page_at s a)
unfolding cells_left page_at
cells_start carried h s a last =
    let f : a + 1 + 3 * 0 ≡ a + 1 = omega arith in
    let g : get_or s a 0 - 0 ≡ get_or s a 0 = omega arith in
    let t : readings (λ i. cell_at s (a + 1 + 3 * (0 + i))) (get_or s a 0) ≡ readings (λ i. cell_at s (a + 1 + 3 * i)) (get_or s a 0) =
    readings_same (get_or s a 0) (λ i. cell_at s (a + 1 + 3 * (0 + i))) (λ i. cell_at s (a + 1 + 3 * i)) (λ i k.
    let d : a + 1 + 3 * (0 + i) ≡ a + 1 + 3 * i = omega arith in ap (cell_at s) d) in
    rw (f, g, t)

-- the ways into, on and out of the loop
pub cells_begin : (carried : ℕ → ℕ) (h : ℕ) (s : List ℕ) (a : ℕ) (last : Option ℕ) (c : ℕ) → c ≡ get_or s a 0 →
    cells_left carried h s a c 0 last ≡ scans carried h (limit_at s last (a + 1)) (page_at s a)
cells_begin carried h s a last c e = ap (λ (n : ℕ). cells_left carried h s a n 0 last) e ∙ cells_start carried h s a last

module _ (carried : ℕ → ℕ) (h : ℕ) (s : List ℕ) (a c j : ℕ) (last : Option ℕ) (all : Bool) (left : cells_left carried h s a c j last ≡ all) where
  module _ (l : j < c) (r : Bool) (told : r ≡ fine carried h (limit_at s last (a + 1 + 3 * j)) (cell_at s (a + 1 + 3 * j))) where
    pub cells_stop : r ≡ false → false ≡ all
    cells_stop e =
        let f : fine carried h (limit_at s last (a + 1 + 3 * j)) (cell_at s (a + 1 + 3 * j)) ≡ false = sym told ∙ e in
        sym (sym left ∙ cells_turn carried h s a c j last l ∙ rw f)

    pub cells_on : r ≡ true → cells_left carried h s a c (j + 1) (Some (a + 1 + 3 * j)) ≡ all
    cells_on e =
        let f : fine carried h (limit_at s last (a + 1 + 3 * j)) (cell_at s (a + 1 + 3 * j)) ≡ true = sym told ∙ e in
        sym (sym left ∙ cells_turn carried h s a c j last l ∙ rw f)

  pub cells_end : c ≤ j → true ≡ all
  cells_end l = sym (cells_done carried h s a c j last l) ∙ left

-- A scan of one list after the other.
last_rank : ℕ → List Cell → ℕ
last_rank limit [] = limit
last_rank limit (c ∷ cs) = last_rank (rank_of c) cs

scans_append : (carried : ℕ → ℕ) (h limit : ℕ) (xs ys : List Cell) →
    scans carried h limit (xs ++ ys) ≡ (scans carried h limit xs && scans carried h (last_rank limit xs) ys)
unfolding scans last_rank
scans_append carried h limit [] ys = refl
scans_append carried h limit (x ∷ xs) ys =
    rw (scans_append carried h (rank_of x) xs ys)
    (sym (and_assoc (fine carried h limit x) (scans carried h (rank_of x) xs) (scans carried h (last_rank (rank_of x) xs) ys)))

last_readings : (limit n : ℕ) (f : ℕ → Cell) → last_rank limit (readings f (suc n)) ≡ rank_of (f n)
unfolding last_rank readings
last_readings limit zero f = refl
last_readings limit (suc n) f = last_readings (rank_of (f 0)) n (λ i. f (suc i))

last_page : (limit : ℕ) (s : List ℕ) (a : ℕ) → 0 < get_or s a 0 → last_rank limit (page_at s a) ≡ rank_of (cell_at s (a + 1 + 3 * get_or s a 0 - 3))
unfolding page_at
last_page limit s a some =
    let e : get_or s a 0 ≡ suc (get_or s a 0 - 1) = omega arith in
    let f : a + 1 + 3 * (get_or s a 0 - 1) ≡ a + 1 + 3 * get_or s a 0 - 3 = omega arith in
    ap (λ (n : ℕ). last_rank limit (readings (λ i. cell_at s (a + 1 + 3 * i)) n)) e
    ∙ last_readings limit (get_or s a 0 - 1) (λ i. cell_at s (a + 1 + 3 * i))
    ∙ ap (λ (n : ℕ). rank_of (cell_at s n)) f

-- an empty page is the only one
only : (s : List ℕ) (base k : ℕ) → get_or s (base + 97 * k) 0 ≡ 0 → (0 < get_or s 1 0 → 0 < get_or s (base + 97 * k) 0) → get_or s 1 0 ≡ 0
only s base k z g = go (get_or s 1 0) refl
  where
    go : (m : ℕ) → get_or s 1 0 ≡ m → get_or s 1 0 ≡ 0
    go zero q = q
    go (suc m) q = absurd (omega (arith, g (omega arith)))

-- The pages.
module _ (carried : ℕ → ℕ) (h base n : ℕ) (s : List ℕ) where
  unfoldable pub pages_from : ℕ → List (List Cell)
  pages_from k = readings (λ j. page_at s (base + 97 * (k + j))) (suc (get_or s 1 0) - k)

  from_more : (k : ℕ) → k ≤ get_or s 1 0 → pages_from k ≡ page_at s (base + 97 * k) ∷ pages_from (k + 1)
  unfolding pages_from readings
  from_more k l =
      let e : suc (get_or s 1 0) - k ≡ suc (suc (get_or s 1 0) - (k + 1)) = omega arith in
      let f : base + 97 * (k + 0) ≡ base + 97 * k = omega arith in
      let t : readings (λ j. page_at s (base + 97 * (k + suc j))) (suc (get_or s 1 0) - (k + 1))
      ≡ readings (λ j. page_at s (base + 97 * (k + 1 + j))) (suc (get_or s 1 0) - (k + 1)) =
      readings_same (suc (get_or s 1 0) - (k + 1)) (λ j. page_at s (base + 97 * (k + suc j))) (λ j. page_at s (base + 97 * (k + 1 + j))) (λ j o.
      let d : base + 97 * (k + suc j) ≡ base + 97 * (k + 1 + j) = omega arith in ap (page_at s) d) in
      rw (e, f, t)

  from_none : (k : ℕ) → get_or s 1 0 < k → pages_from k ≡ []
  unfolding pages_from readings
  from_none k l = let e : suc (get_or s 1 0) - k ≡ 0 = omega arith in rw e

  unfoldable pub tests_from : ℕ → Bool
  tests_from k = each_below (suc (get_or s 1 0) - k) (λ j. page_test base n s (k + j))

  each_same : (m : ℕ) (p q : ℕ → Bool) → ((i : ℕ) → p i ≡ q i) → each_below m p ≡ each_below m q
  unfolding each_below
  each_same zero p q f = refl
  each_same (suc m) p q f = rw (f 0, each_same m (λ i. p (suc i)) (λ i. q (suc i)) (λ i. f (suc i)))

  tests_more : (k : ℕ) → k ≤ get_or s 1 0 → tests_from k ≡ (page_test base n s k && tests_from (k + 1))
  unfolding tests_from each_below
  tests_more k l =
      let e : suc (get_or s 1 0) - k ≡ suc (suc (get_or s 1 0) - (k + 1)) = omega arith in
      let f : k + 0 ≡ k = omega arith in
      let t : each_below (suc (get_or s 1 0) - (k + 1)) (λ j. page_test base n s (k + suc j)) ≡ each_below (suc (get_or s 1 0) - (k + 1)) (λ j. page_test base n s (k + 1 + j)) =
      each_same (suc (get_or s 1 0) - (k + 1)) (λ j. page_test base n s (k + suc j)) (λ j. page_test base n s (k + 1 + j)) (λ j.
      let d : k + suc j ≡ k + 1 + j = omega arith in ap (page_test base n s) d) in
      rw (e, f, t)

  tests_none : (k : ℕ) → get_or s 1 0 < k → tests_from k ≡ true
  unfolding tests_from each_below
  tests_none k l = let e : suc (get_or s 1 0) - k ≡ 0 = omega arith in rw e

  unfoldable pub pages_left : ℕ → Option ℕ → ℕ → Bool
  pages_left k last sum =
      tests_from k && eqb (sum + length (flat (pages_from k))) h && scans carried h (limit_at s last (base + 97 * k + 1)) (flat (pages_from k))

  pub pages_done : (k : ℕ) (last : Option ℕ) (sum : ℕ) → get_or s 1 0 < k → pages_left k last sum ≡ eqb sum h
  unfolding pages_left flat scans
  pages_done k last sum l =
      let e : sum + 0 ≡ sum = omega arith in
      rw (tests_none k l, from_none k l, e) (and_swap (eqb sum h) true)

  pub pages_page : (k : ℕ) (last : Option ℕ) (sum : ℕ) → k ≤ get_or s 1 0 → page_test base n s k ≡ false → pages_left k last sum ≡ false
  unfolding pages_left
  pages_page k last sum l e = rw (tests_more k l, e)

  flat_more : (k : ℕ) → k ≤ get_or s 1 0 → flat (pages_from k) ≡ page_at s (base + 97 * k) ++ flat (pages_from (k + 1))
  unfolding flat
  flat_more k l = rw (from_more k l)

  pub pages_cells : (k : ℕ) (last : Option ℕ) (sum : ℕ) → k ≤ get_or s 1 0 → scans carried h (limit_at s last (base + 97 * k + 1)) (page_at s (base + 97 * k)) ≡ false →
      pages_left k last sum ≡ false
  unfolding pages_left
  pages_cells k last sum l e =
      rw (flat_more k l, scans_append carried h (limit_at s last (base + 97 * k + 1)) (page_at s (base + 97 * k)) (flat (pages_from (k + 1))), e)
      (and-false (tests_from k && eqb (sum + length (page_at s (base + 97 * k) ++ flat (pages_from (k + 1)))) h))

  sum_more : (k sum : ℕ) → k ≤ get_or s 1 0 →
      sum + length (flat (pages_from k)) ≡ sum + get_or s (base + 97 * k) 0 + length (flat (pages_from (k + 1)))
  sum_more k sum l =
      let e : length (flat (pages_from k)) ≡ length (page_at s (base + 97 * k)) + length (flat (pages_from (k + 1))) =
      ap length (flat_more k l) ∙ length-append (page_at s (base + 97 * k)) (flat (pages_from (k + 1))) in
      omega (arith, e, page_length s (base + 97 * k))

  -- the rank before the next page's cells; after an empty page, which is the only one, there are none
  scan_more : (k : ℕ) (last : Option ℕ) → k ≤ get_or s 1 0 → page_test base n s k ≡ true →
      scans carried h (limit_at s last (base + 97 * k + 1)) (page_at s (base + 97 * k)) ≡ true →
      scans carried h (limit_at s last (base + 97 * k + 1)) (flat (pages_from k))
      ≡ scans carried h (limit_at s (Some (base + 97 * k + 1 + 3 * get_or s (base + 97 * k) 0 - 3)) (base + 97 * (k + 1) + 1)) (flat (pages_from (k + 1)))
  unfolding scans flat limit_at
  scan_more k last l e f = go (ℕ_discrete (get_or s (base + 97 * k) 0) 0) (page_told base n s k e)
    where
      split : scans carried h (limit_at s last (base + 97 * k + 1)) (flat (pages_from k))
          ≡ scans carried h (last_rank (limit_at s last (base + 97 * k + 1)) (page_at s (base + 97 * k))) (flat (pages_from (k + 1)))
      split = rw (flat_more k l, scans_append carried h (limit_at s last (base + 97 * k + 1)) (page_at s (base + 97 * k)) (flat (pages_from (k + 1))), f)

      go : Dec (get_or s (base + 97 * k) 0 ≡ 0) → PageFine base n s k →
          scans carried h (limit_at s last (base + 97 * k + 1)) (flat (pages_from k))
          ≡ scans carried h (limit_at s (Some (base + 97 * k + 1 + 3 * get_or s (base + 97 * k) 0 - 3)) (base + 97 * (k + 1) + 1)) (flat (pages_from (k + 1)))
      go (yes z) p = let o = only s base k z p.filled in split ∙ rw (from_none (k + 1) (omega arith))
      go (no z) p =
          split
          ∙ rw (last_page (limit_at s last (base + 97 * k + 1)) s (base + 97 * k) (omega arith))

  pub pages_on : (k : ℕ) (last : Option ℕ) (sum : ℕ) → k ≤ get_or s 1 0 → page_test base n s k ≡ true →
      scans carried h (limit_at s last (base + 97 * k + 1)) (page_at s (base + 97 * k)) ≡ true →
      pages_left k last sum ≡ pages_left (k + 1) (Some (base + 97 * k + 1 + 3 * get_or s (base + 97 * k) 0 - 3)) (sum + get_or s (base + 97 * k) 0)
  unfolding pages_left
  pages_on k last sum l e f = rw (tests_more k l, e, sum_more k sum l, scan_more k last l e f)

  -- the start: all pages are left
  from_all : flat (pages_from 0) ≡ cells_in base s
  unfolding pages_from cells_in dir_at
  from_all =
      let g : suc (get_or s 1 0) - 0 ≡ suc (get_or s 1 0) = omega arith in
      rw g
      (ap flat (readings_same (suc (get_or s 1 0)) (λ j. page_at s (base + 97 * (0 + j))) (λ k. page_at s (base + 97 * k)) (λ j l.
      let d : base + 97 * (0 + j) ≡ base + 97 * j = omega arith in ap (page_at s) d)))

  tests_all : tests_from 0 ≡ each_below (suc (get_or s 1 0)) (page_test base n s)
  unfolding tests_from
  tests_all =
      let g : suc (get_or s 1 0) - 0 ≡ suc (get_or s 1 0) = omega arith in
      rw g
      (each_same (suc (get_or s 1 0)) (λ j. page_test base n s (0 + j)) (page_test base n s) (λ j.
      let d : 0 + j ≡ j = omega arith in ap (page_test base n s) d))

  empty_page : (a : ℕ) → get_or s a 0 ≡ 0 → page_at s a ≡ []
  unfolding page_at readings
  empty_page a z = rw z

  head_page : (a : ℕ) (ys : List Cell) → 0 < get_or s a 0 → get_or (page_at s a ++ ys) 0 no_cell ≡ cell_at s (a + 1)
  unfolding page_at readings
  head_page a ys some =
      let e : get_or s a 0 ≡ suc (get_or s a 0 - 1) = omega arith in
      let f : a + 1 + 3 * 0 ≡ a + 1 = omega arith in
      ap (λ (c : ℕ). get_or (readings (λ i. cell_at s (a + 1 + 3 * i)) c ++ ys) 0 no_cell) e ∙ ap (cell_at s) f

  scan_all : page_test base n s 0 ≡ true →
      scans carried h (limit_at s None (base + 97 * 0 + 1)) (cells_in base s) ≡ scans carried h (suc (rank_of (get_or (cells_in base s) 0 no_cell))) (cells_in base s)
  unfolding scans flat limit_at
  scan_all e = go (ℕ_discrete (get_or s (base + 97 * 0) 0) 0) (page_told base n s 0 e)
    where
      go : Dec (get_or s (base + 97 * 0) 0 ≡ 0) → PageFine base n s 0 →
          scans carried h (limit_at s None (base + 97 * 0 + 1)) (cells_in base s)
          ≡ scans carried h (suc (rank_of (get_or (cells_in base s) 0 no_cell))) (cells_in base s)
      go (yes z) p =
          let o = only s base 0 z p.filled in
          let f : cells_in base s ≡ [] =
          sym from_all ∙ flat_more 0 (omega arith)
          ∙ rw (from_none (0 + 1) (omega arith)) (append-nil (page_at s (base + 97 * 0))) ∙ empty_page (base + 97 * 0) z in
          rw f
      go (no z) p =
          let f : get_or (cells_in base s) 0 no_cell ≡ cell_at s (base + 97 * 0 + 1) =
          ap (λ (l : List Cell). get_or l 0 no_cell) (sym from_all ∙ flat_more 0 (omega arith))
          ∙ head_page (base + 97 * 0) (flat (pages_from (0 + 1))) (omega arith) in
          rw f

  pub pages_start : pages_left 0 None 0
      ≡ (each_below (suc (get_or s 1 0)) (page_test base n s) && eqb (length (cells_in base s)) h
      && scans carried h (suc (rank_of (get_or (cells_in base s) 0 no_cell))) (cells_in base s))
  unfolding pages_left
  pages_start = go (page_test base n s 0) refl
    where
      go : (b : Bool) → page_test base n s 0 ≡ b → pages_left 0 None 0
          ≡ (each_below (suc (get_or s 1 0)) (page_test base n s) && eqb (length (cells_in base s)) h
          && scans carried h (suc (rank_of (get_or (cells_in base s) 0 no_cell))) (cells_in base s))
      go true e = let z : 0 + length (cells_in base s) ≡ length (cells_in base s) = omega arith in rw (from_all, tests_all, z, scan_all e)
      go false e =
          let f : each_below (suc (get_or s 1 0)) (page_test base n s) ≡ false = sym tests_all ∙ tests_more 0 (omega arith) ∙ rw e in
          rw (tests_all, f)

-- the ways on and out of the loop
pub pages_begin : (w : ℕ) (parted : Bool) (n : ℕ) (s : List ℕ) → pages_left (carried_at w parted s) (get_or s 0 0) (base_of w n) n s 0 None 0 ≡ cells_test w parted n s
unfolding cells_test
pages_begin w parted n s = pages_start (carried_at w parted s) (get_or s 0 0) (base_of w n) n s

module _ (w : ℕ) (parted : Bool) (n : ℕ) (s : List ℕ) (base k : ℕ) (last : Option ℕ) (sum : ℕ) (start : base ≡ base_of w n)
    (left : pages_left (carried_at w parted s) (get_or s 0 0) (base_of w n) n s k last sum ≡ cells_test w parted n s) where
  pub pages_end : (m h : ℕ) → m ≡ get_or s 1 0 → h ≡ get_or s 0 0 → m < k → eqb sum h ≡ cells_test w parted n s
  pages_end m h e f l = rw f (sym (pages_done (carried_at w parted s) (get_or s 0 0) (base_of w n) n s k last sum (omega arith)) ∙ left)

  module _ (m : ℕ) (pages : m ≡ get_or s 1 0) (l : k ≤ m) (r : Bool) (page : r ≡ page_test base n s k) where
    page_is : r ≡ page_test (base_of w n) n s k
    page_is = page ∙ ap (λ (b : ℕ). page_test b n s k) start

    pub pages_stop : r ≡ false → false ≡ cells_test w parted n s
    pages_stop e =
        sym (pages_page (carried_at w parted s) (get_or s 0 0) (base_of w n) n s k last sum (omega arith) (sym page_is ∙ e)) ∙ left

    module _ (e : r ≡ true) (t : Bool) (cells : t ≡ scans (carried_at w parted s) (get_or s 0 0) (limit_at s last (base + 97 * k + 1)) (page_at s (base + 97 * k))) where
      cells_is : t ≡ scans (carried_at w parted s) (get_or s 0 0) (limit_at s last (base_of w n + 97 * k + 1)) (page_at s (base_of w n + 97 * k))
      cells_is = cells ∙ ap (λ (b : ℕ). scans (carried_at w parted s) (get_or s 0 0) (limit_at s last (b + 97 * k + 1)) (page_at s (b + 97 * k))) start

      pub pages_cut : t ≡ false → false ≡ cells_test w parted n s
      pages_cut f =
          sym (pages_cells (carried_at w parted s) (get_or s 0 0) (base_of w n) n s k last sum (omega arith) (sym cells_is ∙ f)) ∙ left

      pub pages_next : t ≡ true → (c : ℕ) → c ≡ get_or s (base + 97 * k) 0 →
          pages_left (carried_at w parted s) (get_or s 0 0) (base_of w n) n s (k + 1) (Some (base + 97 * k + 1 + 3 * c - 3)) (sum + c) ≡ cells_test w parted n s
      pages_next f c g =
          rw (g, start)
          (sym (pages_on (carried_at w parted s) (get_or s 0 0) (base_of w n) n s k last sum (omega arith) (sym page_is ∙ e) (sym cells_is ∙ f)) ∙ left)
