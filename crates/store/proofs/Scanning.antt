-- The scan's tests are what a store has to be, both ways.
-- Assumes nothing.
use mathlib.Core.Path.{◌≡◌, refl}
use mathlib.Core.Bool.{Bool, true, cond, ◌&&◌, not}
use mathlib.Core.List.{List, [], ◌∷◌}
use Prim.Native.Nat.{ℕ, zero, suc, ◌+◌, ◌-◌, ◌*◌, ◌≤◌, ◌<◌}
use native.Mathlib.Omega.{arith}
use native.Mathlib.Nat.{mul-le-mul_right}
use native.Mathlib.Decide.{dec_lt}
use lib.Dec.{leb, ltb, eqb}
use lib.ListN.{length, get_or}
use borrow.Author.Tests.{leb-true, ltb-true, eqb-true, le-leb, lt-ltb, le-ltb, eq-eqb, ne_eqb}
use Rattle.lists.proofs.Bools.{and_left, and_right, and_both, and_three, and_five}
use Rattle.moves.proofs.Zeros.{zero_told, zero_tell}
use Rattle.numbers.specs.Numbers.{Cell, rank_of, number_of, ranks, numbers, Below, Drops, Tied, fine, scans}
use Rattle.numbers.proofs.Distinct.{scanned}
use Rattle.directory.specs.Cells.{cells_in}
use Rattle.directory.specs.Directory.{room_of, most_pages}
use Rattle.directory.proofs.Directories.{room_small, room_large, most_small, most_large}
use Rattle.store.specs.Held.{base_of, carried_at, no_cell}
use Rattle.store.specs.Valid.{Valid}
use Rattle.store.specs.Scan.{zero_from, page_test, each_below, cells_test, valid_test}

-- payloads and pages fit into the units' words
pub layout_fits : (w n : ℕ) → w ≤ 22 → 0 < n → base_of w n + 97 * (most_pages n - 1) + 1 + 3 * room_of n ≤ 32 * n
unfolding base_of
layout_fits w n narrow some = go (dec_lt 64 n) (mul-le-mul_right n narrow)
  where
    go : Dec (64 < n) → w * n ≤ 22 * n → 6 + w * n + 97 * (most_pages n - 1) + 1 + 3 * room_of n ≤ 32 * n
    go (yes h) m = omega (arith, m, most_large n h, room_large n h)
    go (no h) m = omega (arith, m, most_small n (omega arith), room_small n (omega arith))

-- each of the first m
pub each_told : (m : ℕ) (p : ℕ → Bool) → each_below m p ≡ true → (k : ℕ) → k < m → p k ≡ true
unfolding each_below
each_told zero p e k h = absurd (omega arith)
each_told (suc m) p e zero h = and_left (p 0) (each_below m (λ j. p (suc j))) e
each_told (suc m) p e (suc k) h = each_told m (λ j. p (suc j)) (and_right (p 0) (each_below m (λ j. p (suc j))) e) k (omega arith)

pub each_tell : (m : ℕ) (p : ℕ → Bool) → ((k : ℕ) → k < m → p k ≡ true) → each_below m p ≡ true
unfolding each_below
each_tell zero p f = refl
each_tell (suc m) p f =
    and_both (p 0) (each_below m (λ j. p (suc j))) (f 0 (omega arith)) (each_tell m (λ j. p (suc j)) (λ k h. f (suc k) (omega arith)))

-- words that are zero
pub zeros_told : (from to : ℕ) (s : List ℕ) → zero_from from to s ≡ true → (k : ℕ) → from ≤ k → k < to → get_or s k 0 ≡ 0
unfolding zero_from
zeros_told from to s e k h l = zero_told (to - from) from s e k h (omega arith)

pub zeros_tell : (from to : ℕ) (s : List ℕ) → ((k : ℕ) → from ≤ k → k < to → get_or s k 0 ≡ 0) → zero_from from to s ≡ true
unfolding zero_from
zeros_tell from to s f = zero_tell (to - from) from s (λ k h l. f k h (omega arith))

-- a page's emptiness
empty_told : (c m : ℕ) → not (eqb c 0 && ltb 0 m) ≡ true → 0 < m → 0 < c
empty_told zero m e h = absurd (let z : ltb 0 m ≡ true = lt-ltb 0 m h in let f : not (ltb 0 m) ≡ true = e in let y : ◌≡◌ {A = ℕ} 0 1 = cc in omega arith)
empty_told (suc c) m e h = omega arith

empty_tell : (c m : ℕ) → (0 < m → 0 < c) → not (eqb c 0 && ltb 0 m) ≡ true
empty_tell zero zero f = refl
empty_tell zero (suc m) f = absurd (omega (arith, f (omega arith)))
empty_tell (suc c) m f = rw (ne_eqb (suc c) 0 (omega arith))

-- what a page's test tells
pub record PageFine (base n : ℕ) (s : List ℕ) (k : ℕ) : Type 0 where
  pub count : get_or s (base + 97 * k) 0 ≤ room_of n
  pub filled : 0 < get_or s 1 0 → 0 < get_or s (base + 97 * k) 0
  pub clean : (j : ℕ) → base + 97 * k + 1 + 3 * get_or s (base + 97 * k) 0 ≤ j → j < cond (ltb k (get_or s 1 0)) (base + 97 * suc k) (32 * n) → get_or s j 0 ≡ 0

module _ (base n : ℕ) (s : List ℕ) (k : ℕ) where
  pub page_told : page_test base n s k ≡ true → PageFine base n s k
  unfolding page_test
  page_told e =
      let a =
      and_three (leb (get_or s (base + 97 * k) 0) (room_of n)) (not (eqb (get_or s (base + 97 * k) 0) 0 && ltb 0 (get_or s 1 0)))
      (zero_from (base + 97 * k + 1 + 3 * get_or s (base + 97 * k) 0) (cond (ltb k (get_or s 1 0)) (base + 97 * suc k) (32 * n)) s) e in
      record {
        count = leb-true (get_or s (base + 97 * k) 0) (room_of n) a.0;
        filled = empty_told (get_or s (base + 97 * k) 0) (get_or s 1 0) a.1;
        clean =
            zeros_told (base + 97 * k + 1 + 3 * get_or s (base + 97 * k) 0) (cond (ltb k (get_or s 1 0)) (base + 97 * suc k) (32 * n)) s a.2;
      }

  pub page_tell : PageFine base n s k → page_test base n s k ≡ true
  unfolding page_test
  page_tell f =
      rw (
        le-leb (get_or s (base + 97 * k) 0) (room_of n) f.count,
        empty_tell (get_or s (base + 97 * k) 0) (get_or s 1 0) f.filled,
      )
      (zeros_tell (base + 97 * k + 1 + 3 * get_or s (base + 97 * k) 0) (cond (ltb k (get_or s 1 0)) (base + 97 * suc k) (32 * n)) s f.clean)

raise : (x y : ℕ) (xs : List ℕ) → x < y → Below x xs → Below y xs
unfolding Below
raise x y [] h b = b
raise x y (z ∷ xs) h b = (omega (arith, b.0), raise x y xs h b.1)

-- a scan passes what it is to pass
pub scans_tell : (carried : ℕ → ℕ) (h limit : ℕ) (cs : List Cell) → Below h (numbers cs) → Tied carried cs → Drops (ranks cs) → Below limit (ranks cs) →
    scans carried h limit cs ≡ true
unfolding scans fine Below Tied Drops
scans_tell carried h limit [] b t d u = refl
scans_tell carried h limit (c ∷ cs) b t d u =
    rw (
      lt-ltb (number_of c) h b.0,
      eq-eqb (carried (number_of c)) (rank_of c) t.0,
      lt-ltb (rank_of c) limit u.0,
    )
    (scans_tell carried h (rank_of c) cs b.1 t.1 d.1 d.0)

first_under : (cs : List Cell) → Drops (ranks cs) → Below (suc (rank_of (get_or cs 0 no_cell))) (ranks cs)
unfolding Below Drops
first_under [] d = d
first_under (c ∷ cs) d = (omega arith, raise (rank_of c) (suc (rank_of c)) (ranks cs) (omega arith) d.0)

module _ (w : ℕ) (parted : Bool) (n : ℕ) (s : List ℕ) where
  abbrev base : ℕ
  base = base_of w n

  abbrev cells : List Cell
  cells = cells_in (base_of w n) s

  -- where the words after a page's cells end
  end_of : (k j : ℕ) → k ≤ get_or s 1 0 → (k < get_or s 1 0 → j < base + 97 * suc k) → j < 32 * n →
      j < cond (ltb k (get_or s 1 0)) (base + 97 * suc k) (32 * n)
  end_of k j h f l = go (dec_lt k (get_or s 1 0))
    where
      go : Dec (k < get_or s 1 0) → j < cond (ltb k (get_or s 1 0)) (base + 97 * suc k) (32 * n)
      go (yes m) = rw (lt-ltb k (get_or s 1 0) m) (f m)
      go (no m) = rw (le-ltb k (get_or s 1 0) (omega arith)) l

  end_told : (k j : ℕ) → 97 * get_or s 1 0 + base ≤ 32 * n → j < cond (ltb k (get_or s 1 0)) (base + 97 * suc k) (32 * n) →
      (k < get_or s 1 0 → j < base + 97 * suc k) × (j < 32 * n)
  end_told k j fits l = go (dec_lt k (get_or s 1 0))
    where
      go : Dec (k < get_or s 1 0) → (k < get_or s 1 0 → j < base + 97 * suc k) × (j < 32 * n)
      go (yes m) = let h : j < base + 97 * suc k = rw (lt-ltb k (get_or s 1 0) m) at l in (λ o. h, omega arith)
      go (no m) = let h : j < 32 * n = rw (le-ltb k (get_or s 1 0) (omega arith)) at l in (λ o. absurd (omega arith), h)

  module _ (wide : 3 ≤ w) (narrow : w ≤ 22) (some : 0 < n) (few : n ≤ 4096) (size : 32 * n ≤ length s) where
    pub valid_told : valid_test w parted n s ≡ true → Valid w parted n s
    unfolding valid_test cells_test base_of
    valid_told e =
        let a =
        and_five (leb (get_or s 0 0) n) (ltb (get_or s 1 0) (most_pages n)) (zero_from 2 6 s) (zero_from (6 + w * get_or s 0 0) base s)
        (cells_test w parted n s) e in
        let b =
        and_three (each_below (suc (get_or s 1 0)) (page_test base n s)) (eqb (length cells) (get_or s 0 0))
        (scans (carried_at w parted s) (get_or s 0 0) (suc (rank_of (get_or cells 0 no_cell))) cells) a.4 in
        let c = scanned (carried_at w parted s) (get_or s 0 0) (suc (rank_of (get_or cells 0 no_cell))) cells b.2 in
        let fine : (k : ℕ) → k ≤ get_or s 1 0 → PageFine base n s k = λ k h. page_told base n s k (each_told (suc (get_or s 1 0)) (page_test base n s) b.0 k (omega arith)) in
        record {
          wide = wide;
          narrow = narrow;
          few = few;
          directory =
              record {
                low = omega arith;
                some = some;
                space = layout_fits w n narrow some;
                size = size;
                pages = ltb-true (get_or s 1 0) (most_pages n) a.1;
                counts = λ k h. (fine k h).count;
                filled = λ k o h. (fine k h).filled o;
                clean = λ k j h l f m. (fine k h).clean j l (end_of k j h f m);
                order = c.drops;
              };
          units = leb-true (get_or s 0 0) n a.0;
          all = eqb-true (length cells) (get_or s 0 0) b.1;
          below = c.below;
          tied = c.tied;
          heads = zeros_told 2 6 s a.2;
          spare = zeros_told (6 + w * get_or s 0 0) base s a.3;
        }

  pub valid_tell : Valid w parted n s → valid_test w parted n s ≡ true
  unfolding valid_test cells_test
  valid_tell v =
      let d = v.directory in
      rw (
        le-leb (get_or s 0 0) n v.units,
        lt-ltb (get_or s 1 0) (most_pages n) d.pages,
        zeros_tell 2 6 s v.heads,
        zeros_tell (6 + w * get_or s 0 0) base s v.spare,
        each_tell (suc (get_or s 1 0)) (page_test base n s) (λ k h. page_tell base n s k (page k (omega arith))),
        eq-eqb (length cells) (get_or s 0 0) v.all,
      )
      (scans_tell (carried_at w parted s) (get_or s 0 0) (suc (rank_of (get_or cells 0 no_cell))) cells v.below v.tied d.order
      (first_under cells d.order))
    where
      page : (k : ℕ) → k ≤ get_or s 1 0 → PageFine base n s k
      page k h =
          let d = v.directory in
          record {
            count = d.counts k h;
            filled = λ o. d.filled k o h;
            clean = λ j l m. let t = end_told k j (omega (arith, d.space, d.pages)) m in d.clean k j h l t.0 t.1;
          }
