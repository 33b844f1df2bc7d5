-- A store's words, from its length: rule 5 both ways, and all zero is empty.
-- Assumes nothing.
use mathlib.Core.Path.{◌≡◌, refl, sym, ◌∙◌, ap}
use mathlib.Core.Bool.{Bool, true, false, cond}
use mathlib.Core.List.{List, []}
use Prim.Native.Nat.{ℕ, zero, suc, ◌+◌, ◌*◌, ◌≤◌, ◌<◌}
use native.Mathlib.Omega.{arith}
use native.Mathlib.Decide.{dec_lt}
use lib.Dec.{eqb}
use lib.ListN.{length, get_or, replicate}
use borrow.Author.Tests.{le-leb, lt-ltb, eq-eqb, ne_eqb}
use Rattle.probe.specs.Cells.{readings}
use Rattle.pages.specs.Dir.{flat}
use Rattle.types.specs.Units.{units_in}
use Rattle.numbers.specs.Numbers.{rows, scans}
use Rattle.directory.specs.Cells.{page_at, dir_at, cells_in}
use Rattle.directory.specs.Directory.{most_pages}
use Rattle.directory.proofs.Directories.{most_small, most_large}
use Rattle.store.specs.Held.{base_of, held, held_in}
use Rattle.store.specs.Valid.{Valid}
use Rattle.store.specs.Scan.{page_test, cells_test, valid_test, is_store}
use Rattle.store.proofs.Scanning.{PageFine, page_tell, zeros_tell, each_tell, valid_told, valid_tell}

-- the units' words are within the store's, and they are few
pub units_inside : (m : ℕ) → (32 * units_in m ≤ m) × (units_in m ≤ 4096)
unfolding units_in
units_inside m = (omega arith, omega arith)

module _ (w : ℕ) (parted : Bool) (s : List ℕ) where
  -- rule 5
  pub store_told : 3 ≤ w → w ≤ 22 → is_store w parted s ≡ true → 0 < units_in (length s) → Valid w parted (units_in (length s)) s
  unfolding is_store
  store_told wide narrow e some =
      let h = units_inside (length s) in
      valid_told w parted (units_in (length s)) s wide narrow some h.1 h.0 (rw (ne_eqb (units_in (length s)) 0 (λ z. omega arith)) at e)

  pub store_tell : (0 < units_in (length s) → Valid w parted (units_in (length s)) s) → is_store w parted s ≡ true
  unfolding is_store
  store_tell v = go (dec_lt 0 (units_in (length s)))
    where
      go : Dec (0 < units_in (length s)) → cond (eqb (units_in (length s)) 0) true (valid_test w parted (units_in (length s)) s) ≡ true
      go (yes h) = rw (ne_eqb (units_in (length s)) 0 (λ z. omega arith)) (valid_tell w parted (units_in (length s)) s (v h))
      go (no h) = rw (eq-eqb (units_in (length s)) 0 (omega arith))

-- a store of no units is one, and any other is by its words
pub store_none : (w : ℕ) (parted : Bool) (s : List ℕ) → units_in (length s) ≡ 0 → true ≡ is_store w parted s
unfolding is_store
store_none w parted s e = rw (eq-eqb (units_in (length s)) 0 e)

pub store_valid : (w : ℕ) (parted : Bool) (s : List ℕ) (n : ℕ) → n ≡ units_in (length s) → (n ≡ 0 → ⊥) → (r : Bool) → r ≡ valid_test w parted n s →
    r ≡ is_store w parted s
unfolding is_store
store_valid w parted s n e z r f =
    let g : valid_test w parted n s ≡ valid_test w parted (units_in (length s)) s = ap (λ (k : ℕ). valid_test w parted k s) e in
    f ∙ g ∙ sym (rw (ne_eqb (units_in (length s)) 0 (λ y. z (e ∙ y))))

most_some : (n : ℕ) → 0 < n → 0 < most_pages n
most_some n h = go (dec_lt 64 n)
  where
    go : Dec (64 < n) → 0 < most_pages n
    go (yes l) = omega (arith, most_large n l)
    go (no l) = omega (arith, most_small n (omega arith))

-- Words that are all zero.
module _ (s : List ℕ) (zeros : (k : ℕ) → get_or s k 0 ≡ 0) where
  pub no_cells : (base : ℕ) → cells_in base s ≡ []
  unfolding cells_in dir_at page_at flat readings
  no_cells base = rw (zeros 1, zeros (base + 0))

  zeros_valid : (w : ℕ) (parted : Bool) (n : ℕ) → 0 < n → valid_test w parted n s ≡ true
  unfolding valid_test cells_test scans
  zeros_valid w parted n h =
      rw (
        zeros 0,
        zeros 1,
        le-leb 0 n (omega arith),
        lt-ltb 0 (most_pages n) (most_some n h),
        zeros_tell 2 6 s (λ k l m. zeros k),
        zeros_tell (6 + w * 0) (base_of w n) s (λ k l m. zeros k),
        each_tell 1 (page_test (base_of w n) n s) (λ k l. page_tell (base_of w n) n s k (page k)),
        no_cells (base_of w n),
      )
    where
      page : (k : ℕ) → PageFine (base_of w n) n s k
      page k =
          record {
            count = omega (arith, zeros (base_of w n + 97 * k));
            filled = λ o. absurd (omega (arith, zeros 1));
            clean = λ j l m. zeros j;
          }

  pub zeros_store : (w : ℕ) (parted : Bool) → is_store w parted s ≡ true
  unfolding is_store
  zeros_store w parted = go (dec_lt 0 (units_in (length s)))
    where
      go : Dec (0 < units_in (length s)) → cond (eqb (units_in (length s)) 0) true (valid_test w parted (units_in (length s)) s) ≡ true
      go (yes h) = rw (ne_eqb (units_in (length s)) 0 (λ z. omega arith)) (zeros_valid w parted (units_in (length s)) h)
      go (no h) = rw (eq-eqb (units_in (length s)) 0 (omega arith))

  pub zeros_hold : (w : ℕ) → held_in w s ≡ []
  unfolding held_in held rows
  zeros_hold w = go (eqb (units_in (length s)) 0) refl
    where
      go : (b : Bool) → eqb (units_in (length s)) 0 ≡ b → held_in w s ≡ []
      go true e = rw e
      go false e = rw (e, no_cells (base_of w (units_in (length s))))

zero_word : (m k : ℕ) → ◌≡◌ {A = ℕ} (get_or (replicate m 0) k 0) 0
zero_word zero zero = refl
zero_word zero (suc k) = refl
zero_word (suc m) zero = refl
zero_word (suc m) (suc k) = zero_word m k

-- all zero is empty
pub zeros_empty : (w : ℕ) (parted : Bool) (m : ℕ) → (is_store w parted (replicate m 0) ≡ true) × (held_in w (replicate m 0) ≡ [])
zeros_empty w parted m = (zeros_store (replicate m 0) (zero_word m) w parted, zeros_hold (replicate m 0) (zero_word m) w)
