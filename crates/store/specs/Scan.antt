-- Rule 5 for a store's words, whatever its rows mean: the tests that a scan makes, and the whole of them (`Valid`, by the laws of Scanning).
use Rattle.std.specs.Prelude.{Bool, true, cond, ◌&&◌, not, List, ℕ, zero, suc, ◌+◌, ◌-◌, ◌*◌, leb, ltb, eqb, length, get_or, take, drop, Option, Some, None}
use Rattle.types.specs.Units.{units_in}
use Rattle.moves.specs.Moves.{all_zero}
use Rattle.numbers.specs.Numbers.{rank_of, scans}
use Rattle.directory.specs.Cells.{cell_at, cells_in}
use Rattle.directory.specs.Directory.{room_of, most_pages}
use Rattle.store.specs.Held.{base_of, carried_at, no_cell}

-- The words from `from` up to `to` are zero.
unfoldable pub zero_from : ℕ → ℕ → List ℕ → Bool
zero_from from to s = all_zero (take (to - from) (drop from s))

-- Page k of m + 1: it has room for its cells, is not empty unless it is the only one, and zeros follow its cells.
unfoldable pub page_test : ℕ → ℕ → List ℕ → ℕ → Bool
page_test base n s k =
    leb (get_or s (base + 97 * k) 0) (room_of n)
    && not (eqb (get_or s (base + 97 * k) 0) 0 && ltb 0 (get_or s 1 0))
    && zero_from (base + 97 * k + 1 + 3 * get_or s (base + 97 * k) 0) (cond (ltb k (get_or s 1 0)) (base + 97 * suc k) (32 * n)) s

-- The first m pass a test.
unfoldable pub each_below : ℕ → (ℕ → Bool) → Bool
each_below zero p = true
each_below (suc m) p = p 0 && each_below m (λ k. p (suc k))

-- The pages pass, there are as many cells as payloads in use, and the cells pass one after the other: each names a payload in use, which carries its
-- rank, and ranks fall. The first cell's rank is below itself and one.
unfoldable pub cells_test : ℕ → Bool → ℕ → List ℕ → Bool
cells_test w parted n s =
    each_below (suc (get_or s 1 0)) (page_test (base_of w n) n s) && eqb (length (cells_in (base_of w n) s)) (get_or s 0 0)
    && scans (carried_at w parted s) (get_or s 0 0) (suc (rank_of (get_or (cells_in (base_of w n) s) 0 no_cell))) (cells_in (base_of w n) s)

unfoldable pub valid_test : ℕ → Bool → ℕ → List ℕ → Bool
valid_test w parted n s =
    leb (get_or s 0 0) n && ltb (get_or s 1 0) (most_pages n) && zero_from 2 6 s && zero_from (6 + w * get_or s 0 0) (base_of w n) s && cells_test w parted n s

-- A store of no units is one.
unfoldable pub is_store : ℕ → Bool → List ℕ → Bool
is_store w parted s = cond (eqb (units_in (length s)) 0) true (valid_test w parted (units_in (length s)) s)

-- What a scan on its way knows: the rank that the next cell's must be below, that of the cell before it, if there is one.
unfoldable pub limit_at : List ℕ → Option ℕ → ℕ → ℕ
limit_at s None at = suc (rank_of (cell_at s at))
limit_at s (Some last) at = rank_of (cell_at s last)
