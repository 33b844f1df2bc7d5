-- When the words of n units are a store: a directory whose cells name the payloads in use, each its own, and zeros in all other words.
use Rattle.std.specs.Prelude.{◌≡◌, Bool, List, ℕ, ◌+◌, ◌*◌, ◌≤◌, ◌<◌, length, get_or}
use Rattle.numbers.specs.Numbers.{numbers, Below, Tied}
use Rattle.directory.specs.Cells.{cells_in}
use Rattle.directory.specs.Directory as Dir
use Rattle.directory.specs.Directory.{Directory}
use Rattle.store.specs.Held.{base_of, carried_at}

-- `parted`: a spot may have several rows, one for each part, which is then the first word of their content.
pub record Valid (w : ℕ) (parted : Bool) (n : ℕ) (s : List ℕ) : Type 0 where
  pub wide : 3 ≤ w
  pub narrow : w ≤ 22
  pub few : n ≤ 4096
  pub directory : Directory (base_of w n) n s
  pub units : get_or s 0 0 ≤ n
  -- as many cells as payloads in use, each names one of them, which carries its rank: so no two name the same
  pub all : length (cells_in (base_of w n) s) ≡ get_or s 0 0
  pub below : Below (get_or s 0 0) (numbers (cells_in (base_of w n) s))
  pub tied : Tied (carried_at w parted s) (cells_in (base_of w n) s)
  pub heads : (k : ℕ) → 2 ≤ k → k < 6 → get_or s k 0 ≡ 0
  pub spare : (k : ℕ) → 6 + w * get_or s 0 0 ≤ k → k < base_of w n → get_or s k 0 ≡ 0

-- A place among the rows: before cell i of a page, or at the end of its cells; and one where there is a cell.
unfoldable pub Stands : ℕ → ℕ → List ℕ → ℕ → ℕ → Type 0
Stands w n s page i = Dir.Stands (base_of w n) s page i

unfoldable pub There : ℕ → ℕ → List ℕ → ℕ → ℕ → Type 0
There w n s page i = Dir.There (base_of w n) s page i
