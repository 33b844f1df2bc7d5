-- A cell put in and one taken out: each way through the code.
-- Assumes nothing.
use mathlib.Core.Path.{◌≡◌}
use mathlib.Core.List.{List, [], ◌++◌, append-nil}
use Prim.Native.Nat.{ℕ, ◌+◌, ◌-◌, ◌*◌, ◌≤◌, ◌<◌}
use native.Mathlib.Omega.{arith}
use native.Mathlib.Decide.{dec_lt}
use lib.ListN.{length, get_or, take, drop, drop_of_length-le}
use lib.Seq.{take_all}
use Rattle.probe.specs.Cells.{insert_at, erase_at}
use Rattle.numbers.specs.Numbers.{Cell, ranks, Drops}
use Rattle.directory.specs.Cells.{dir_at, cells_in, position_in}
use Rattle.directory.specs.Directory.{room_of, Directory, Laid, Stands, There}
use Rattle.directory.specs.Edits.{Left, CellOpened, CellClosed}
use Rattle.directory.specs.Pages.{Wide, PageClosed}
use Rattle.directory.proofs.Directories.{laid_of, room_large, room_small}
use Rattle.directory.proofs.Frames.{dir_length}
use Rattle.directory.proofs.Positions.{flat_size, page_size}
use Rattle.directory.proofs.CellsLeft.{left_opened, left_closed}
use Rattle.directory.proofs.Rooms.{taken_wide, taken_inside, page_taken}

-- a whole slice lent as a part
whole : (t : List ℕ) → take (length t - 0) t ≡ t
whole t = take_all (length t - 0) t (omega arith)

whole_after : (t u : List ℕ) → u ++ drop (length t - 0) t ≡ u
whole_after t u = let e : drop (length t - 0) t ≡ [] = drop_of_length-le t {i = length t - 0} (omega arith) in rw e (append-nil u)

-- a cell taken out
module _ (base n p i r : ℕ) (s : List ℕ) (ok : Directory base n s) (there : There base s p i) (e : r ≡ room_of n) where
  pub close_ready : Laid base r s × ((p ≤ get_or s 1 0) × ((i < get_or s (base + 97 * p) 0) × (get_or s (base + 97 * p) 0 ≤ r)))
  close_ready = (rw e (laid_of base n s ok), (there.inside, (there.fits, omega (arith, ok.counts p there.inside))))

  module _ (t : List ℕ) (cl : CellClosed base r p i s t) where
    closed : CellClosed base (room_of n) p i s t
    closed = rw (← e) cl

    pub take_kept : 0 < get_or t (base + 97 * p) 0 → Left base n (erase_at (position_in base s p i) (cells_in base s)) s t
    take_kept h = left_closed base n p i s t ok there.inside (λ l. omega (arith, cl.count)) closed

    pub take_only : get_or t 1 0 ≡ 0 → Left base n (erase_at (position_in base s p i) (cells_in base s)) s t
    take_only h = left_closed base n p i s t ok there.inside (λ l. absurd (omega (arith, cl.edited.under 1 (omega (arith, ok.low))))) closed

    module _ (none : get_or t (base + 97 * p) 0 ≡ 0) (more : 0 < get_or t 1 0) where
      abbrev lent : List ℕ
      lent = take (length t - 0) t

      pub out_ready : Wide base n lent × ((p ≤ get_or lent 1 0) × (0 < get_or lent 1 0))
      out_ready = rw (whole t) (taken_wide base n p i s t ok there closed none more, (taken_inside base n p i s t ok there closed none more, more))

      pub take_out : (u : List ℕ) → PageClosed base n p lent u → Left base n (erase_at (position_in base s p i) (cells_in base s)) s (u ++ drop (length t - 0) t)
      take_out u out =
          let f : PageClosed base n p t u = rw (← whole t) out in
          rw (whole_after t u) (page_taken base n p i s t ok there closed none more u f)

-- a cell put in
module _ (base n p i r : ℕ) (x : Cell) (s : List ℕ) (ok : Directory base n s) (stands : Stands base s p i) (free : length (cells_in base s) < n)
    (order : Drops (ranks (insert_at (position_in base s p i) x (cells_in base s)))) (few : n ≤ 4096) (e : r ≡ room_of n) where
  held : get_or s (base + 97 * p) 0 ≤ length (cells_in base s)
  unfolding cells_in
  held = omega (arith, flat_size (dir_at base s) p (omega (arith, dir_length base s, stands.inside)), page_size base s p stands.inside)

  many : r ≤ get_or s (base + 97 * p) 0 → 64 < n
  many h = go (dec_lt 64 n)
    where
      go : Dec (64 < n) → 64 < n
      go (yes l) = l
      go (no l) = absurd (omega (arith, room_small n (omega arith), held))

  -- into a full page
  pub full_ready : r ≤ get_or s (base + 97 * p) 0 →
      Directory base n (take (length s - 0) s)
      × ((64 < n)
      × ((n ≤ 4096)
      × (Stands base (take (length s - 0) s) p i
      × ((get_or (take (length s - 0) s) (base + 97 * p) 0 ≡ 32)
      × ((length (cells_in base (take (length s - 0) s)) < n)
      × Drops (ranks (insert_at (position_in base (take (length s - 0) s) p i) x (cells_in base (take (length s - 0) s)))))))))
  full_ready h =
      let m = many h in
      rw (whole s) (ok, (m, (few, (stands, (omega (arith, room_large n m, ok.counts p stands.inside), (free, order))))))

  pub full_done : (u : List ℕ) →
      Left base n (insert_at (position_in base (take (length s - 0) s) p i) x (cells_in base (take (length s - 0) s))) (take (length s - 0) s) u →
      Left base n (insert_at (position_in base s p i) x (cells_in base s)) s (u ++ drop (length s - 0) s)
  full_done u l =
      let f : Left base n (insert_at (position_in base s p i) x (cells_in base s)) s u = rw (← whole s) l in
      rw (whole_after s u) f

  -- into a page with room
  pub put_ready : get_or s (base + 97 * p) 0 < r →
      Laid base r s × ((p ≤ get_or s 1 0) × ((i ≤ get_or s (base + 97 * p) 0) × (get_or s (base + 97 * p) 0 < r)))
  put_ready h = (rw e (laid_of base n s ok), (stands.inside, (stands.fits, h)))

  pub put_done : (t : List ℕ) → CellOpened base r p i x s t → Left base n (insert_at (position_in base s p i) x (cells_in base s)) s t
  put_done t op = let f : CellOpened base (room_of n) p i x s t = rw (← e) op in left_opened base n p i x s t ok stands.inside f order
