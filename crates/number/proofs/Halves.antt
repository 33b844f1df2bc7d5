-- Laws of 128-bit numbers in two halves.
-- Assumes nothing.
use Rattle.std.proofs.Common.{◌≡◌, ℕ, ◌+◌, ◌-◌, ◌*◌, ◌^◌, ◌<◌, ◌≤◌, max, true, false, not, ◌==◌, Some, None, ltb, leb, arith}
use Rattle.std.specs.Ordering.{nat_cmp, is_lt, is_le, on, ord_max}
use native.Mathlib.Nat.{mod-add-div'}
use Rattle.number.specs.declared.Number.{Number}
use Rattle.number.specs.Number.{Halves, range, value_of, number_of, sum_of, difference_of}

-- ---- halves and values

pub value_of_number_of : (v : ℕ) → value_of (number_of v) ≡ v
unfolding value_of number_of
value_of_number_of v = mod-add-div' v (2 ^ 64)

pub number_of_halves : (lo hi : ℕ) → lo < 2 ^ 64 → ◌≡◌ {A = Number} (number_of (lo + hi * 2 ^ 64)) (record { lo = lo; hi = hi })
unfolding number_of
number_of_halves lo hi h = grind arith

pub number_of_value_of : (n : Number) → Halves n → number_of (value_of n) ≡ n
unfolding value_of
number_of_value_of n g = number_of_halves n.lo n.hi g.low

pub value_below : (n : Number) → Halves n → value_of n < range
unfolding value_of range
value_below n g = omega (arith, g.low, g.high)

-- ---- what a caller learns of a sum and of a difference

pub record IsSum (a b n : Number) : Type 0 where
  pub is : n ≡ number_of (value_of a + value_of b)
  pub value : value_of n ≡ value_of a + value_of b
  pub fits : value_of a + value_of b < range

pub record IsDifference (a b n : Number) : Type 0 where
  pub is : n ≡ number_of (value_of a - value_of b)
  pub value : value_of n + value_of b ≡ value_of a

module _ (a b : Number) where
  pub some_sum : (n : Number) → sum_of a b ≡ Some n → IsSum a b n
  unfolding sum_of
  some_sum n e = grind (arith, value_of_number_of)

  pub no_sum : sum_of a b ≡ None → range ≤ value_of a + value_of b
  unfolding sum_of
  no_sum e = grind arith

  pub some_difference : (n : Number) → difference_of a b ≡ Some n → IsDifference a b n
  unfolding difference_of
  some_difference n e = grind (arith, value_of_number_of)

  pub no_difference : difference_of a b ≡ None → value_of a < value_of b
  unfolding difference_of
  no_difference e = grind arith

-- ---- what a caller learns of an order

pub less_is : (a b : ℕ) → is_lt (nat_cmp a b) ≡ ltb a b
less_is a b = grind arith

pub at_most_is : (a b : ℕ) → is_le (nat_cmp a b) ≡ leb a b
at_most_is a b = grind arith

pub max_is : (a b : Number) → Halves a → Halves b → ord_max (on value_of nat_cmp) a b ≡ number_of (max (value_of a) (value_of b))
max_is a b g h = grind (arith, number_of_value_of)

module _ (a b : ℕ) where
  pub less : true ≡ is_lt (nat_cmp a b) → a < b
  less e = grind arith

  pub not_less : false ≡ is_lt (nat_cmp a b) → b ≤ a
  not_less e = grind arith

  pub equal : false ≡ not (a == b) → a ≡ b
  equal e = grind arith

  pub not_equal : true ≡ not (a == b) → a ≡ b → ⊥
  not_equal e k = grind arith
