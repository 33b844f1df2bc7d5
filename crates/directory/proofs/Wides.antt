-- A directory of more than 64 units, page by page.
-- Assumes nothing.
use mathlib.Core.Path.{◌≡◌, ◌∙◌, ap}
use mathlib.Core.List.{List}
use Prim.Native.Nat.{ℕ, suc, ◌+◌, ◌-◌, ◌*◌, ◌≤◌, ◌<◌}
use native.Mathlib.Omega.{arith}
use native.Mathlib.Decide.{dec_lt, ℕ_discrete}
use lib.ListN.{get_or}
use Rattle.numbers.specs.Numbers.{ranks, Drops}
use Rattle.directory.specs.Cells.{cells_in}
use Rattle.directory.specs.Directory.{Directory, Laid}
use Rattle.directory.specs.Edits.{Kept, Edited}
use Rattle.directory.specs.Pages.{Fine, Wide}
use Rattle.directory.proofs.Directories.{room_large, most_large}

pub wide_of : (base n : ℕ) (s : List ℕ) → Directory base n s → 64 < n → Wide base n s
wide_of base n s ok many =
    let r = room_large n many in
    let m = most_large n many in
    record {
      low = ok.low;
      many = many;
      space = omega (arith, ok.space, r, m, ok.pages);
      size = ok.size;
      pages = omega (arith, ok.pages, m);
      fine = λ k h. record {
        few = omega (arith, ok.counts k h, r);
        zeros = λ i l o. ok.clean k (base + 97 * k + 1 + i) h (omega arith) (λ p. omega arith) (omega (arith, ok.space, r, ok.pages));
      };
      rest = λ j h l. ok.clean (get_or s 1 0) j (omega arith) (omega (arith, ok.counts (get_or s 1 0) (omega arith), r)) (λ p. absurd (omega arith)) l;
    }

module _ (base n : ℕ) (s : List ℕ) (ok : Wide base n s) where
  wide_clean : (k j : ℕ) → k ≤ get_or s 1 0 → base + 97 * k + 1 + 3 * get_or s (base + 97 * k) 0 ≤ j → (k < get_or s 1 0 → j < base + 97 * suc k) → j < 32 * n →
      Dec (j < base + 97 * suc k) → get_or s j 0 ≡ 0
  wide_clean k j h l m o (yes p) =
      let e : j ≡ base + 97 * k + 1 + (j - (base + 97 * k + 1)) = omega arith in
      ap (λ (z : ℕ). get_or s z 0) e ∙ (ok.fine k h).zeros (j - (base + 97 * k + 1)) (omega arith) (omega arith)
  wide_clean k j h l m o (no p) = ok.rest j (go (dec_lt k (get_or s 1 0))) o
    where
      go : Dec (k < get_or s 1 0) → base + 97 * suc (get_or s 1 0) ≤ j
      go (yes q) = absurd (p (m q))
      go (no q) = omega arith

  pub directory_of : ((k : ℕ) → 0 < get_or s 1 0 → k ≤ get_or s 1 0 → 0 < get_or s (base + 97 * k) 0) → Drops (ranks (cells_in base s)) → Directory base n s
  directory_of filled order =
      let r = room_large n ok.many in
      let m = most_large n ok.many in
      record {
        low = ok.low;
        some = omega (arith, ok.many);
        space = omega (arith, ok.space, r, m, ok.pages);
        size = ok.size;
        pages = omega (arith, ok.pages, m);
        counts = λ k h. omega (arith, (ok.fine k h).few, r);
        filled = filled;
        clean = λ k j h l o p. wide_clean k j h l o p (dec_lt j (base + 97 * suc k));
        order = order;
      }

  pub laid_wide : Laid base 32 s
  laid_wide =
      record {
        low = ok.low;
        some = omega arith;
        few = omega arith;
        inside = omega (arith, ok.space, ok.size, ok.pages);
        apart = λ h. omega arith;
        counts = λ k h. (ok.fine k h).few;
      }

  -- one page edited
  module _ (p : ℕ) (t : List ℕ) (inside : p ≤ get_or s 1 0) (ed : Edited base 32 p s t) where
    pub edited_one : get_or t 1 0 ≡ get_or s 1 0
    edited_one = ed.under 1 (omega (arith, ok.low))

    edited_else : (k i : ℕ) → (k ≡ p → ⊥) → i < 97 → get_or t (base + 97 * k + i) 0 ≡ get_or s (base + 97 * k + i) 0
    edited_else k i d h = go (dec_lt k p)
      where
        go : Dec (k < p) → get_or t (base + 97 * k + i) 0 ≡ get_or s (base + 97 * k + i) 0
        go (yes m) = ed.under (base + 97 * k + i) (omega arith)
        go (no m) = ed.past (base + 97 * k + i) (omega arith)

    pub edited_count : (k : ℕ) → (k ≡ p → ⊥) → get_or t (base + 97 * k) 0 ≡ get_or s (base + 97 * k) 0
    edited_count k d = let f : base + 97 * k ≡ base + 97 * k + 0 = omega arith in rw f (edited_else k 0 d (omega arith))

    edited_fine : Fine t (base + 97 * p) → (k : ℕ) → k ≤ get_or s 1 0 → Dec (k ≡ p) → Fine t (base + 97 * k)
    edited_fine f k h (yes e) = rw e f
    edited_fine f k h (no e) =
        record {
          few = omega (arith, edited_count k e, (ok.fine k h).few);
          zeros = λ i l m.
              let g : base + 97 * k + 1 + i ≡ base + 97 * k + (1 + i) = omega arith in
              let w : get_or t (base + 97 * k + 1 + i) 0 ≡ get_or s (base + 97 * k + 1 + i) 0 = rw g (edited_else k (1 + i) e (omega arith)) in
              w ∙ (ok.fine k h).zeros i (omega (arith, edited_count k e)) m;
        }

    pub wide_edited : Fine t (base + 97 * p) → Wide base n t
    wide_edited f =
        record {
          low = ok.low;
          many = ok.many;
          space = ok.space;
          size = omega (arith, ok.size, ed.size);
          pages = omega (arith, ok.pages, edited_one);
          fine = λ k h. edited_fine f k (omega (arith, edited_one)) (ℕ_discrete k p);
          rest = λ j h l. ed.past j (omega (arith, edited_one)) ∙ ok.rest j (omega (arith, edited_one)) l;
        }

    pub kept_wide : Kept base (32 * n) s t
    kept_wide =
        record {
          size = ed.size;
          under = λ k h d. ed.under k (omega arith);
          past = λ k h. ed.past k (omega (arith, ok.space, ok.pages));
        }
