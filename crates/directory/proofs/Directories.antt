-- What a directory tells of its pages.
-- Assumes nothing.
use mathlib.Core.Path.{◌≡◌}
use mathlib.Core.List.{List}
use Prim.Native.Nat.{ℕ, suc, ◌+◌, ◌*◌, ◌/◌, ◌≤◌, ◌<◌}
use native.Mathlib.Omega.{arith}
use native.Mathlib.Decide.{dec_lt}
use lib.ListN.{get_or}
use borrow.Author.Tests.{lt-ltb, le-ltb}
use Rattle.probe.specs.Cells.{spot_at}
use Rattle.directory.specs.Directory.{room_of, most_pages, Directory, Laid, Sound, There}

-- up to 64 units one page, above that pages of 32
pub room_small : (n : ℕ) → n ≤ 64 → room_of n ≡ n
unfolding room_of
room_small n h = rw (lt-ltb n 65 (omega arith))

pub room_large : (n : ℕ) → 64 < n → room_of n ≡ 32
unfolding room_of
room_large n h = rw (le-ltb n 65 (omega arith))

pub most_small : (n : ℕ) → n ≤ 64 → most_pages n ≡ 1
unfolding most_pages
most_small n h = rw (lt-ltb n 65 (omega arith))

pub most_large : (n : ℕ) → 64 < n → most_pages n ≡ n / 11
unfolding most_pages
most_large n h = rw (le-ltb n 65 (omega arith))

-- what n tells of the room and the pages
pub record Sizes (n : ℕ) : Type 0 where
  pub some : 0 < n → 0 < room_of n
  pub few : room_of n ≤ 64
  pub apart : 1 < most_pages n → room_of n ≡ 32

pub sizes : (n : ℕ) → Sizes n
sizes n = go (dec_lt 64 n)
  where
    go : Dec (64 < n) → Sizes n
    go (yes h) =
        let e = room_large n h in
        record { some = λ l. omega (arith, e); few = omega (arith, e); apart = λ l. e }
    go (no h) =
        let e = room_small n (omega arith) in
        let f = most_small n (omega arith) in
        record { some = λ l. omega (arith, e); few = omega (arith, e); apart = λ l. absurd (omega (arith, f)) }

module _ (base n : ℕ) (s : List ℕ) (ok : Directory base n s) where
  pub laid_of : Laid base (room_of n) s
  laid_of =
      record {
        low = ok.low;
        some = (sizes n).some ok.some;
        few = (sizes n).few;
        inside = omega (arith, ok.space, ok.size, ok.pages);
        apart = λ h. omega (arith, (sizes n).apart (omega (arith, ok.pages)));
        counts = ok.counts;
      }

  -- a cell's words lie within the units' words
  pub cell_inside : (p i : ℕ) → There base s p i → base + 97 * p + 1 + 3 * i + 2 < 32 * n
  cell_inside p i there = omega (arith, ok.space, ok.pages, there.inside, there.fits, ok.counts p there.inside)

  -- the words of a page after its cells are zero
  pub page_clean : (k j : ℕ) → k ≤ get_or s 1 0 → base + 97 * k + 1 + 3 * get_or s (base + 97 * k) 0 ≤ j → j < base + 97 * k + 1 + 3 * room_of n → get_or s j 0 ≡ 0
  page_clean k j h l m =
      ok.clean k j h l (λ o. omega (arith, (sizes n).apart (omega (arith, ok.pages)))) (omega (arith, ok.space, ok.pages))

  zeros_of : (k i : ℕ) → k ≤ get_or s 1 0 → get_or s (base + 97 * k) 0 ≤ i → i < room_of n → spot_at s (base + 97 * k + 1 + 3 * i) ≡ 0
  unfolding spot_at
  zeros_of k i h l m =
      let e : get_or s (base + 97 * k + 1 + 3 * i) 0 ≡ 0 = page_clean k (base + 97 * k + 1 + 3 * i) h (omega arith) (omega arith) in
      let f : get_or s (base + 97 * k + 1 + 3 * i + 1) 0 ≡ 0 = page_clean k (base + 97 * k + 1 + 3 * i + 1) h (omega arith) (omega arith) in
      rw (e, f)

  pub sound_of : Sound base (room_of n) s
  sound_of = record { laid = laid_of; order = ok.order; filled = λ k h. ok.filled (suc k) (omega arith) (omega arith); zeros = zeros_of }
