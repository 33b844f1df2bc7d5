-- A page split in the page area, and one joined to the next.
-- Assumes nothing.
use mathlib.Core.Path.{◌≡◌, refl, ◌∙◌, ap}
use mathlib.Core.List.{List, ◌++◌}
use Prim.Native.Nat.{ℕ, suc, ◌+◌, ◌-◌, ◌*◌, ◌/◌, ◌≤◌, ◌<◌}
use native.Mathlib.Omega.{arith}
use native.Mathlib.Decide.{dec_lt, ℕ_discrete}
use lib.ListN.{length, get_or}
use Rattle.directory.specs.Cells.{page_at}
use Rattle.directory.specs.Edits.{Kept}
use Rattle.directory.specs.Pages.{Fine, Wide, PageClosed, PageOpened, Cut, PageSplit, Merged, PagesJoined}
use Rattle.directory.proofs.Shifting.{fine_moved, page_moved, front_page, back_page, both_page, kept_through}

-- page k, which is full, made two
module _ (base n k h : ℕ) (s u t : List ℕ) (ok : Wide base n s) (inside : k ≤ get_or s 1 0) (less : get_or s 1 0 + 1 < n / 11) (full : get_or s (base + 97 * k) 0 ≡ 32)
    (fits : h ≤ 32) (opened : PageOpened base k s u) (cut : Cut (base + 97 * k) h u t) where
  split_one : get_or t 1 0 ≡ suc (get_or s 1 0)
  split_one = cut.under 1 (omega (arith, ok.low)) ∙ opened.pages

  split_low : (j : ℕ) → (j ≡ 1 → ⊥) → j < base + 97 * k → get_or t j 0 ≡ get_or s j 0
  split_low j d l = cut.under j l ∙ opened.under j d (omega arith)

  split_up : (i j : ℕ) → base + 97 * suc k ≤ j → j < base + 97 * suc (get_or s 1 0) → i ≡ j + 97 → get_or t i 0 ≡ get_or s j 0
  split_up i j l m e = cut.past i (omega arith) ∙ ap (λ (z : ℕ). get_or u z 0) e ∙ opened.up j l m

  split_past : (j : ℕ) → base + 97 * suc (suc (get_or s 1 0)) ≤ j → get_or t j 0 ≡ get_or s j 0
  split_past j l = cut.past j (omega arith) ∙ opened.past j l

  split_size : length t ≡ length s
  split_size = cut.size ∙ opened.size

  here_fine : Fine t (base + 97 * k)
  here_fine = record { few = omega (arith, cut.here); zeros = λ i l m. cut.gap i (omega (arith, cut.here)) m }

  next_count : get_or t (base + 97 * suc k) 0 ≡ 32 - h
  next_count = let e : base + 97 * suc k ≡ base + 97 * k + 97 = omega arith in ap (λ (z : ℕ). get_or t z 0) e ∙ cut.next

  next_fine : Fine t (base + 97 * suc k)
  next_fine =
      record {
        few = omega (arith, next_count);
        zeros = λ i l m.
            let e : base + 97 * suc k + 1 + i ≡ base + 97 * k + 97 + 1 + i = omega arith in
            ap (λ (z : ℕ). get_or t z 0) e ∙ cut.tail i (omega (arith, next_count)) m;
      }

  low_fine : (j : ℕ) → j < k → Fine t (base + 97 * j)
  low_fine j l =
      fine_moved s t (base + 97 * j) (base + 97 * j) (split_low (base + 97 * j) (λ d. omega (arith, ok.low)) (omega arith))
      (λ i m. split_low (base + 97 * j + 1 + i) (λ d. omega (arith, ok.low)) (omega arith)) (ok.fine j (omega arith))

  up_fine : (j : ℕ) → k < j → j ≤ get_or s 1 0 → Fine t (base + 97 * suc j)
  up_fine j l m =
      fine_moved s t (base + 97 * j) (base + 97 * suc j) (split_up (base + 97 * suc j) (base + 97 * j) (omega arith) (omega arith) (omega arith))
      (λ i o. split_up (base + 97 * suc j + 1 + i) (base + 97 * j + 1 + i) (omega arith) (omega arith) (omega arith)) (ok.fine j m)

  split_fine : (j : ℕ) → j ≤ suc (get_or s 1 0) → Fine t (base + 97 * j)
  split_fine j l = go (dec_lt j k) (ℕ_discrete j k) (ℕ_discrete j (suc k))
    where
      go : Dec (j < k) → Dec (j ≡ k) → Dec (j ≡ suc k) → Fine t (base + 97 * j)
      go (yes m) d e = low_fine j m
      go (no m) (yes d) e = rw d here_fine
      go (no m) (no d) (yes e) = rw e next_fine
      go (no m) (no d) (no e) =
          let f : j ≡ suc (j - 1) = omega arith in
          rw f (up_fine (j - 1) (omega arith) (omega arith))

  pub split_done : PageSplit base n k h s t
  split_done =
      record {
        kept = record {
          size = split_size;
          under = λ j l d. split_low j d (omega arith);
          past = λ j l. split_past j (omega (arith, ok.space));
        };
        wide = record {
          low = ok.low;
          many = ok.many;
          space = ok.space;
          size = omega (arith, ok.size, split_size);
          pages = omega (arith, split_one);
          fine = λ j l. split_fine j (omega (arith, split_one));
          rest = λ j l m. split_past j (omega (arith, split_one)) ∙ ok.rest j (omega (arith, split_one)) m;
        };
        more = split_one;
        before = λ j l. page_moved s t (base + 97 * j) (base + 97 * j) (split_low (base + 97 * j) (λ d. omega (arith, ok.low)) (omega arith))
            (λ i m. split_low (base + 97 * j + 1 + i) (λ d. omega (arith, ok.low)) (omega arith)) (ok.fine j (omega arith));
        here = front_page s t (base + 97 * k) (base + 97 * k) h cut.here (omega arith)
            (λ i l. cut.front i l ∙ opened.under (base + 97 * k + 1 + i) (λ d. omega (arith, ok.low)) (omega arith));
        next = back_page s t (base + 97 * k) (base + 97 * suc k) h (32 - h) next_count (omega arith)
            (λ i l.
            let e : base + 97 * suc k + 1 + i ≡ base + 97 * k + 97 + 1 + i = omega arith in
            ap (λ (z : ℕ). get_or t z 0) e ∙ cut.back i l ∙ opened.under (base + 97 * k + 1 + 3 * h + i) (λ d. omega (arith, ok.low)) (omega arith));
        after = λ j l m.
            page_moved s t (base + 97 * j) (base + 97 * suc j) (split_up (base + 97 * suc j) (base + 97 * j) (omega arith) (omega arith) (omega arith))
            (λ i o. split_up (base + 97 * suc j + 1 + i) (base + 97 * j + 1 + i) (omega arith) (omega arith) (omega arith)) (ok.fine j m);
      }

-- the cells of page k + 1 written after those of page k
module _ (base n k : ℕ) (s u : List ℕ) (ok : Wide base n s) (inside : k < get_or s 1 0) (fits : get_or s (base + 97 * k) 0 + get_or s (base + 97 * k + 97) 0 ≤ 32)
    (merged : Merged (base + 97 * k) (get_or s (base + 97 * k) 0) (get_or s (base + 97 * k + 97) 0) s u) where
  merged_one : get_or u 1 0 ≡ get_or s 1 0
  merged_one = merged.under 1 (omega (arith, ok.low))

  merged_else : (j : ℕ) → base + 97 * suc k ≤ j → get_or u j 0 ≡ get_or s j 0
  merged_else j l = merged.past j (omega arith)

  merged_fine : (j : ℕ) → j ≤ get_or s 1 0 → Fine u (base + 97 * j)
  merged_fine j l = go (dec_lt j k) (ℕ_discrete j k)
    where
      go : Dec (j < k) → Dec (j ≡ k) → Fine u (base + 97 * j)
      go (yes m) d =
          fine_moved s u (base + 97 * j) (base + 97 * j) (merged.under (base + 97 * j) (omega arith))
          (λ i o. merged.under (base + 97 * j + 1 + i) (omega arith)) (ok.fine j l)
      go (no m) (yes d) =
          rw d
          (record {
            few = omega (arith, merged.here);
            zeros = λ i o p. merged.past (base + 97 * k + 1 + i) (omega (arith, merged.here)) ∙ (ok.fine k (omega arith)).zeros i (omega (arith, merged.here)) p;
          })
      go (no m) (no d) =
          fine_moved s u (base + 97 * j) (base + 97 * j) (merged_else (base + 97 * j) (omega arith))
          (λ i o. merged_else (base + 97 * j + 1 + i) (omega arith)) (ok.fine j l)

  pub merged_wide : Wide base n u
  merged_wide =
      record {
        low = ok.low;
        many = ok.many;
        space = ok.space;
        size = omega (arith, ok.size, merged.size);
        pages = omega (arith, ok.pages, merged_one);
        fine = λ j l. merged_fine j (omega (arith, merged_one));
        rest = λ j l m. merged_else j (omega (arith, merged_one)) ∙ ok.rest j (omega (arith, merged_one)) m;
      }

  pub merged_pages : (k + 1 ≤ get_or u 1 0) × (0 < get_or u 1 0)
  merged_pages = (omega (arith, merged_one), omega (arith, merged_one))

  merged_kept : Kept base (32 * n) s u
  merged_kept =
      record {
        size = merged.size;
        under = λ j l d. merged.under j (omega arith);
        past = λ j l. merged_else j (omega (arith, ok.space, ok.pages));
      }

  merged_page : page_at u (base + 97 * k) ≡ page_at s (base + 97 * k) ++ page_at s (base + 97 * suc k)
  merged_page =
      let e : base + 97 * k + 97 ≡ base + 97 * suc k = omega arith in
      both_page s u (base + 97 * k) (base + 97 * k + 97) (base + 97 * k) (get_or s (base + 97 * k) 0) (get_or s (base + 97 * k + 97) 0)
      merged.here refl refl merged.front merged.back
      ∙ ap (λ (z : ℕ). page_at s (base + 97 * k) ++ page_at s z) e

  -- and page k + 1 taken out
  pub joined_done : (t : List ℕ) → PageClosed base n (k + 1) u t → PagesJoined base n k s t
  joined_done t closed =
      record {
        kept = kept_through base (32 * n) s u t merged_kept closed.kept;
        wide = closed.wide;
        less = closed.less ∙ merged_one;
        before = λ j l. closed.before j (omega arith)
            ∙ page_moved s u (base + 97 * j) (base + 97 * j) (merged.under (base + 97 * j) (omega arith))
            (λ i o. merged.under (base + 97 * j + 1 + i) (omega arith)) (ok.fine j (omega arith));
        here = closed.before k (omega arith) ∙ merged_page;
        after = λ j l m. closed.after j (omega arith) (omega (arith, merged_one))
            ∙ page_moved s u (base + 97 * suc j) (base + 97 * suc j) (merged_else (base + 97 * suc j) (omega arith))
            (λ i o. merged_else (base + 97 * suc j + 1 + i) (omega arith)) (ok.fine (suc j) (omega arith));
      }
