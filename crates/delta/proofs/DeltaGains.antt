-- An integer as a pair of naturals, what it adds and what it takes, one of them zero. Truncated differences are exact on such pairs, so that sums of
-- integers become facts that `omega` reads.
-- Assumes nothing.
use mathlib.Core.Path.{◌≡◌, refl, sym, ap, ◌∙◌}
use mathlib.Core.Bool.{Bool, true, false, cond}
use Prim.Native.Nat.{ℕ, zero, suc, ◌+◌, ◌-◌, max, min}
use native.Mathlib.Nat.{zero-min, min-zero, max-zero}
use native.Mathlib.Omega.{arith}
use lib.Dec.{leb, ltb, leb-zero, leb-suc-zero, leb-suc-suc}
use lib.IntN.{ℤ, pos, negsuc, neg_ℤ, nat_abs, sub_ℕ, ◌+ℤ◌}
use lib.Signed.{le_z}
use Rattle.delta.specs.Delta.{greater, signed, is_minus}

unfoldable pub gain : ℤ → ℕ
gain (pos n) = n
gain (negsuc n) = 0

unfoldable pub loss : ℤ → ℕ
loss (pos n) = 0
loss (negsuc n) = suc n

pub one_side : (z : ℤ) → min (gain z) (loss z) ≡ 0
unfolding gain loss
one_side (pos n) = min-zero n
one_side (negsuc n) = zero-min (suc n)

pub from_sides : (a b : ℤ) → gain a ≡ gain b → loss a ≡ loss b → a ≡ b
unfolding gain loss
from_sides (pos a) (pos b) p q = ap pos p
from_sides (pos a) (negsuc b) p q = absurd (omega arith)
from_sides (negsuc a) (pos b) p q = absurd (omega arith)
from_sides (negsuc a) (negsuc b) p q = ap negsuc (omega arith)

pub size_sides : (z : ℤ) → nat_abs z ≡ gain z + loss z
unfolding gain loss
size_sides (pos n) = omega arith
size_sides (negsuc n) = omega arith

gain_difference : (a b : ℕ) → gain (sub_ℕ a b) ≡ a - b
unfolding gain
gain_difference a b = grind arith

loss_difference : (a b : ℕ) → loss (sub_ℕ a b) ≡ b - a
unfolding loss
loss_difference a b = grind arith

pub gain_sum : (a b : ℤ) → gain (a +ℤ b) ≡ (gain a + gain b) - (loss a + loss b)
unfolding gain loss
gain_sum (pos a) (pos b) = omega arith
gain_sum (pos a) (negsuc b) = omega (arith, gain_difference a (suc b))
gain_sum (negsuc a) (pos b) = omega (arith, gain_difference b (suc a))
gain_sum (negsuc a) (negsuc b) = omega arith

pub loss_sum : (a b : ℤ) → loss (a +ℤ b) ≡ (loss a + loss b) - (gain a + gain b)
unfolding gain loss
loss_sum (pos a) (pos b) = omega arith
loss_sum (pos a) (negsuc b) = omega (arith, loss_difference a (suc b))
loss_sum (negsuc a) (pos b) = omega (arith, loss_difference b (suc a))
loss_sum (negsuc a) (negsuc b) = omega arith

pub gain_neg : (z : ℤ) → gain (neg_ℤ z) ≡ loss z
unfolding gain loss
gain_neg (pos zero) = refl
gain_neg (pos (suc n)) = refl
gain_neg (negsuc n) = refl

pub loss_neg : (z : ℤ) → loss (neg_ℤ z) ≡ gain z
unfolding gain loss
loss_neg (pos zero) = refl
loss_neg (pos (suc n)) = refl
loss_neg (negsuc n) = refl

pub gain_pos : (n : ℕ) → gain (pos n) ≡ n
unfolding gain
gain_pos n = refl

pub loss_pos : (n : ℕ) → loss (pos n) ≡ 0
unfolding loss
loss_pos n = refl

pub greater_is : (n : ℕ) (z : ℤ) → greater n z ≡ max n (gain z)
unfolding gain greater
greater_is n (pos m) = refl
greater_is n (negsuc m) = sym (max-zero n)

-- −l ≤ z, and z ≤ h
pub above_is : (l : ℕ) (z : ℤ) → le_z (neg_ℤ (pos l)) z ≡ leb (loss z) l
unfolding loss
above_is zero (pos n) = leb-zero n
above_is zero (negsuc n) = sym (leb-suc-zero n)
above_is (suc l) (pos n) = sym (leb-zero (suc l))
above_is (suc l) (negsuc n) = sym (leb-suc-suc n l)

pub below_is : (h : ℕ) (z : ℤ) → le_z z (pos h) ≡ leb (gain z) h
unfolding gain
below_is h (pos n) = refl
below_is h (negsuc n) = sym (leb-zero h)

pub gain_signed : (m : Bool) (n : ℕ) → gain (signed m n) ≡ cond m 0 n
unfolding signed
gain_signed true n = gain_neg (pos n) ∙ loss_pos n
gain_signed false n = gain_pos n

pub loss_signed : (m : Bool) (n : ℕ) → loss (signed m n) ≡ cond m n 0
unfolding signed
loss_signed true n = loss_neg (pos n) ∙ gain_pos n
loss_signed false n = loss_pos n

pub minus_is : (z : ℤ) → is_minus z ≡ ltb 0 (loss z)
unfolding is_minus loss
minus_is (pos n) = grind arith
minus_is (negsuc n) = grind arith

-- an integer's sides, and what is said of it by them
pub ruleset sides = (gain_sum, loss_sum, gain_neg, loss_neg, gain_pos, loss_pos, gain_signed, loss_signed, greater_is, above_is, below_is)
