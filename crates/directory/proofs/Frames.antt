-- Words that stay, and what is read from them.
-- Assumes nothing.
use mathlib.Core.Path.{◌≡◌, refl}
use mathlib.Core.List.{List, []}
use Prim.Native.Nat.{ℕ, suc, ◌+◌, ◌*◌, ◌≤◌, ◌<◌}
use native.Mathlib.Omega.{arith}
use native.Mathlib.Decide.{dec_lt, ℕ_discrete}
use lib.ListN.{length, get_or, set}
use Rattle.probe.specs.Cells.{spot_at}
use Rattle.probe.proofs.Probe.{readings_at, length_readings}
use Rattle.probe.proofs.Readings.{readings_same, readings_set}
use Rattle.pages.specs.Dir.{page}
use Rattle.directory.specs.Cells.{cell_at, page_at, dir_at}
use Rattle.directory.specs.Directory.{Laid}
use Rattle.directory.specs.Edits.{Edited}

-- a cell moved: its three words are the same
pub cell_same : (s t : List ℕ) (a b : ℕ) → get_or t b 0 ≡ get_or s a 0 → get_or t (b + 1) 0 ≡ get_or s (a + 1) 0 → get_or t (b + 2) 0 ≡ get_or s (a + 2) 0 →
    cell_at t b ≡ cell_at s a
unfolding cell_at spot_at
cell_same s t a b e f g = rw (e, f, g)

-- a page none of whose words changed
pub page_same : (s t : List ℕ) (a b : ℕ) → get_or t b 0 ≡ get_or s a 0 →
    ((i : ℕ) → i < 3 * get_or s a 0 → get_or t (b + 1 + i) 0 ≡ get_or s (a + 1 + i) 0) → page_at t b ≡ page_at s a
unfolding page_at
page_same s t a b e h =
    rw e
    (readings_same (get_or s a 0) (λ i. cell_at t (b + 1 + 3 * i)) (λ i. cell_at s (a + 1 + 3 * i)) (λ i l.
    cell_same s t (a + 1 + 3 * i) (b + 1 + 3 * i) (h (3 * i) (omega arith)) (word i 1 l (omega arith)) (word i 2 l (omega arith))))
  where
    word : (i k : ℕ) → i < get_or s a 0 → k < 3 → get_or t (b + 1 + 3 * i + k) 0 ≡ get_or s (a + 1 + 3 * i + k) 0
    word i k l m =
        let f : b + 1 + 3 * i + k ≡ b + 1 + (3 * i + k) = omega arith in
        let g : a + 1 + 3 * i + k ≡ a + 1 + (3 * i + k) = omega arith in
        rw (f, g) (h (3 * i + k) (omega arith))

pub dir_length : (base : ℕ) (s : List ℕ) → length (dir_at base s) ≡ suc (get_or s 1 0)
unfolding dir_at
dir_length base s = length_readings (suc (get_or s 1 0)) (λ k. page_at s (base + 97 * k))

pub dir_page : (base : ℕ) (s : List ℕ) (k : ℕ) → k ≤ get_or s 1 0 → page k (dir_at base s) ≡ page_at s (base + 97 * k)
unfolding dir_at page
dir_page base s k h = readings_at (suc (get_or s 1 0)) (λ j. page_at s (base + 97 * j)) k [] (omega arith)

pub page_length : (s : List ℕ) (a : ℕ) → length (page_at s a) ≡ get_or s a 0
unfolding page_at
page_length s a = length_readings (get_or s a 0) (λ i. cell_at s (a + 1 + 3 * i))

-- words before the pages
pub dir_frame : (base : ℕ) (s t : List ℕ) → get_or t 1 0 ≡ get_or s 1 0 → ((k : ℕ) → base ≤ k → get_or t k 0 ≡ get_or s k 0) → dir_at base t ≡ dir_at base s
unfolding dir_at
dir_frame base s t e h =
    rw e
    (readings_same (suc (get_or s 1 0)) (λ k. page_at t (base + 97 * k)) (λ k. page_at s (base + 97 * k)) (λ k l.
    page_same s t (base + 97 * k) (base + 97 * k) (h (base + 97 * k) (omega arith)) (λ i m. h (base + 97 * k + 1 + i) (omega arith))))

module _ (base r p : ℕ) (s t : List ℕ) (laid : Laid base r s) (inside : p ≤ get_or s 1 0) (ed : Edited base r p s t) where
  pub pages_same : get_or t 1 0 ≡ get_or s 1 0
  pages_same = ed.under 1 (omega (arith, laid.low))

  pub else_word : (k j : ℕ) → k ≤ get_or s 1 0 → (k ≡ p → ⊥) → j < 1 + 3 * r → get_or t (base + 97 * k + j) 0 ≡ get_or s (base + 97 * k + j) 0
  else_word k j h n l = go (dec_lt k p)
    where
      go : Dec (k < p) → get_or t (base + 97 * k + j) 0 ≡ get_or s (base + 97 * k + j) 0
      go (yes m) = ed.under (base + 97 * k + j) (omega (arith, laid.apart (omega arith)))
      go (no m) = ed.past (base + 97 * k + j) (omega (arith, laid.apart (omega arith)))

  else_page : (k : ℕ) → k ≤ get_or s 1 0 → (k ≡ p → ⊥) → page_at t (base + 97 * k) ≡ page_at s (base + 97 * k)
  else_page k h n =
      page_same s t (base + 97 * k) (base + 97 * k) (count k h n) (λ i l.
      let f : base + 97 * k + 1 + i ≡ base + 97 * k + (1 + i) = omega arith in
      rw f (else_word k (1 + i) h n (omega (arith, laid.counts k h))))
    where
      count : (k : ℕ) → k ≤ get_or s 1 0 → (k ≡ p → ⊥) → get_or t (base + 97 * k) 0 ≡ get_or s (base + 97 * k) 0
      count k h n = let f : base + 97 * k ≡ base + 97 * k + 0 = omega arith in rw f (else_word k 0 h n (omega arith))

  -- an edit of one page is an element replaced
  pub dir_edited : dir_at base t ≡ set (dir_at base s) p (page_at t (base + 97 * p))
  unfolding dir_at
  dir_edited =
      rw pages_same
      (readings_set (suc (get_or s 1 0)) (λ k. page_at t (base + 97 * k)) (λ k. page_at s (base + 97 * k)) p (page_at t (base + 97 * p))
      (omega arith) refl (λ k h n. else_page k (omega arith) n))

  pub laid_edited : get_or t (base + 97 * p) 0 ≤ r → Laid base r t
  laid_edited h =
      record {
        low = laid.low;
        some = laid.some;
        few = laid.few;
        inside = omega (arith, laid.inside, ed.size, pages_same);
        apart = λ l. laid.apart (omega (arith, pages_same));
        counts = λ k l. count k (omega (arith, pages_same)) (ℕ_discrete k p);
      }
    where
      count : (k : ℕ) → k ≤ get_or s 1 0 → Dec (k ≡ p) → get_or t (base + 97 * k) 0 ≤ r
      count k l (yes e) = rw e h
      count k l (no e) =
          let f : base + 97 * k ≡ base + 97 * k + 0 = omega arith in
          let g : get_or t (base + 97 * k + 0) 0 ≡ get_or s (base + 97 * k + 0) 0 = else_word k 0 l e (omega arith) in
          let i : get_or t (base + 97 * k) 0 ≡ get_or s (base + 97 * k) 0 = rw f g in
          omega (arith, laid.counts k l)
