-- A 128-bit number in two 64-bit halves, and what is exact about it.
-- 01: "u128 becomes two halves"; "Sums are exact, never modulo 2^128, though halves are added with carry".
-- Assumes nothing.
use Rattle.std.specs.Prelude.{ℕ, ◌+◌, ◌-◌, ◌*◌, ◌/◌, ◌%◌, ◌^◌, ◌<◌, cond, nat_lt, Option, Some, None}
use Rattle.number.specs.declared.Number.{Number}

-- each half is a 64-bit number: what a value of the code's type always is
pub record Halves (n : Number) : Type 0 where
  pub low : n.lo < 2 ^ 64
  pub high : n.hi < 2 ^ 64

-- what 128 bits hold is below this
unfoldable pub range : ℕ
range = 2 ^ 128

-- the exact number that the halves stand for
unfoldable pub value_of : Number → ℕ
value_of n = n.lo + n.hi * 2 ^ 64

-- the halves of a number below `range`
unfoldable pub number_of : ℕ → Number
number_of v = record { lo = v % 2 ^ 64; hi = v / 2 ^ 64 }

-- what one half hands to the next in a sum: 1 or 0
unfoldable pub carry_of : ℕ → ℕ → ℕ
carry_of a b = (a + b) / 2 ^ 64

-- what one half takes from the next in a difference: 1 or 0
unfoldable pub borrow_of : ℕ → ℕ → ℕ
borrow_of a b = cond (nat_lt a b) 1 0

-- the exact sum, or none where 128 bits do not hold it
unfoldable pub sum_of : Number → Number → Option Number
sum_of a b = cond (nat_lt (value_of a + value_of b) range) (Some (number_of (value_of a + value_of b))) None

-- the exact difference, or none where it is less than zero
unfoldable pub difference_of : Number → Number → Option Number
difference_of a b = cond (nat_lt (value_of a) (value_of b)) None (Some (number_of (value_of a - value_of b)))
