-- Cells that name payloads by number, where each payload carries its cell's rank.
use Rattle.std.specs.Prelude.{◌≡◌, refl, Bool, true, false, cond, ◌&&◌, ◌||◌, List, [], ◌∷◌, map, ℕ, ◌+◌, ◌-◌, ◌*◌, ◌/◌, ◌%◌, ◌<◌, ltb, eqb}
use mathlib.Core.HLevel.{×_prop}
use native.Mathlib.Nat.{ℕ_set}
use native.Mathlib.Bridge.{le_prop}

-- A cell: its spot (place and key as one value) and a word with the number of its payload and, above it, marks.
pub record Cell : Type 0 where
  pub spot : ℕ
  pub word : ℕ

unfoldable pub spot_of : Cell → ℕ
spot_of c = c.spot

unfoldable pub number_of : Cell → ℕ
number_of c = c.word % 65536

-- The part of a spot that a cell is of: the top eight of 32 bits. A spot has up to 256 cells, one for each part.
unfoldable pub part_of : Cell → ℕ
part_of c = c.word / 16777216 % 256

-- Cells are in order of their ranks: by spot, then by part. A payload carries its part in a word of its own, whatever that holds: so a part weighs as a word.
unfoldable pub rank_of : Cell → ℕ
rank_of c = 4294967296 * c.spot + part_of c

abbrev pub spots : List Cell → List ℕ
spots cs = map spot_of cs

abbrev pub ranks : List Cell → List ℕ
ranks cs = map rank_of cs

abbrev pub numbers : List Cell → List ℕ
numbers cs = map number_of cs

unfoldable pub has : ℕ → List ℕ → Bool
has q [] = false
has q (x ∷ xs) = eqb q x || has q xs

unfoldable pub Below : ℕ → List ℕ → Type 0
Below n [] = Unit
Below n (x ∷ xs) = (x < n) × Below n xs

unfoldable pub Distinct : List ℕ → Type 0
Distinct [] = Unit
Distinct (x ∷ xs) = (has x xs ≡ false) × Distinct xs

-- Each value is above all later ones.
unfoldable pub Drops : List ℕ → Type 0
Drops [] = Unit
Drops (x ∷ xs) = Below x xs × Drops xs

-- Each cell's payload carries the cell's rank.
unfoldable pub Tied : (ℕ → ℕ) → List Cell → Type 0
Tied carried [] = Unit
Tied carried (c ∷ cs) = (carried (number_of c) ≡ rank_of c) × Tied carried cs

-- Each of these has one proof at most, so a struct may carry them.
pub Below-prop : (n : ℕ) (xs : List ℕ) → IsProp (Below n xs)
unfolding Below
Below-prop n [] = λ p q. refl
Below-prop n (x ∷ xs) = ×_prop le_prop (Below-prop n xs)

pub Drops-prop : (xs : List ℕ) → IsProp (Drops xs)
unfolding Drops
Drops-prop [] = λ p q. refl
Drops-prop (x ∷ xs) = ×_prop (Below-prop x xs) (Drops-prop xs)

pub Tied-prop : (carried : ℕ → ℕ) (cs : List Cell) → IsProp (Tied carried cs)
unfolding Tied
Tied-prop carried [] = λ p q. refl
Tied-prop carried (c ∷ cs) = ×_prop (ℕ_set (carried (number_of c)) (rank_of c)) (Tied-prop carried cs)

pub ruleset props = (Below-prop, Drops-prop, Tied-prop, le_prop, ℕ_set)

-- What a scan asks of one cell: its number is below h, its payload carries its rank, and its rank is below the one before it.
unfoldable pub fine : (ℕ → ℕ) → ℕ → ℕ → Cell → Bool
fine carried h limit c = ltb (number_of c) h && eqb (carried (number_of c)) (rank_of c) && ltb (rank_of c) limit

unfoldable pub scans : (ℕ → ℕ) → ℕ → ℕ → List Cell → Bool
scans carried h limit [] = true
scans carried h limit (c ∷ cs) = fine carried h limit c && scans carried h (rank_of c) cs

-- A row: a cell's spot and marks, and the payload that it names.
pub record Row (P : Type 0) : Type 0 where
  pub spot : ℕ
  pub marks : ℕ
  pub payload : P

unfoldable pub row_of : {P : Type 0} → Cell → P → Row P
row_of c p = record { spot = c.spot; marks = c.word / 65536; payload = p }

-- The rank of a row is that of its cell: the part is the upper half of the marks.
unfoldable pub row_rank : {P : Type 0} → Row P → ℕ
row_rank r = 4294967296 * r.spot + r.marks / 256 % 256

-- What cells and payloads hold.
unfoldable pub rows : {P : Type 0} → (ℕ → P) → List Cell → List (Row P)
rows pay cs = map (λ c. row_of c (pay (number_of c))) cs

-- A cell that named l names q.
unfoldable pub give_number : ℕ → ℕ → Cell → Cell
give_number l q c = record { spot = c.spot; word = c.word - (l - q) }

unfoldable pub renamed : ℕ → ℕ → Cell → Cell
renamed l q c = cond (eqb (number_of c) l) (give_number l q c) c
