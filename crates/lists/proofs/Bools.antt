-- Laws of conjunctions, and of tests that say one thing and its contrary.
-- Assumes nothing.
use mathlib.Core.Path.{◌≡◌, refl, sym}
use mathlib.Core.Bool.{Bool, true, false, ◌&&◌}
use Prim.Native.Nat.{ℕ}
use native.Mathlib.Omega.{arith}

-- a conjunction's two parts
pub and_left : (a b : Bool) → (a && b) ≡ true → a ≡ true
and_left true b e = refl
and_left false b e = e

pub and_right : (a b : Bool) → (a && b) ≡ true → b ≡ true
and_right true b e = e
and_right false b e = absurd (let z : ◌≡◌ {A = Bool} true false = cc in let y : ◌≡◌ {A = ℕ} 0 1 = cc in omega arith)

pub and_both : (a b : Bool) → a ≡ true → b ≡ true → (a && b) ≡ true
and_both true b e f = f
and_both false b e f = e

-- the parts of a longer one
pub and_three : (a b c : Bool) → (a && b && c) ≡ true → (a ≡ true) × (b ≡ true) × (c ≡ true)
and_three true b c e = (refl, and_left b c e, and_right b c e)
and_three false b c e = absurd (let y : ◌≡◌ {A = ℕ} 0 1 = cc in omega arith)

pub and_four : (a b c d : Bool) → (a && b && c && d) ≡ true → (a ≡ true) × (b ≡ true) × (c ≡ true) × (d ≡ true)
and_four true b c d e = let r = and_three b c d e in (refl, r.0, r.1, r.2)
and_four false b c d e = absurd (let y : ◌≡◌ {A = ℕ} 0 1 = cc in omega arith)

pub and_five : (a b c d x : Bool) → (a && b && c && d && x) ≡ true → (a ≡ true) × (b ≡ true) × (c ≡ true) × (d ≡ true) × (x ≡ true)
and_five true b c d x e = let r = and_four b c d x e in (refl, r.0, r.1, r.2, r.3)
and_five false b c d x e = absurd (let y : ◌≡◌ {A = ℕ} 0 1 = cc in omega arith)

pub and_assoc : (a b c : Bool) → ((a && b) && c) ≡ (a && (b && c))
and_assoc true b c = refl
and_assoc false b c = refl

pub and_swap : (a b : Bool) → (a && b) ≡ (b && a)
and_swap true true = refl
and_swap true false = refl
and_swap false true = refl
and_swap false false = refl

pub true_not_false : {A : Type 0} (b : Bool) → b ≡ true → b ≡ false → A
true_not_false b e f = absurd (let z : ◌≡◌ {A = ℕ} 0 1 = cc in omega arith)

-- two tests are equal where each implies the other
pub same_test : (a b : Bool) → (a ≡ true → b ≡ true) → (b ≡ true → a ≡ true) → a ≡ b
same_test true b f g = sym (f refl)
same_test false true f g = g refl
same_test false false f g = refl

pub never : {A : Type 0} → ◌≡◌ {A = Bool} true false → A
never e = absurd (let y : ◌≡◌ {A = ℕ} 0 1 = cc in omega arith)
