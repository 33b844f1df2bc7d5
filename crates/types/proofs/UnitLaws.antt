-- Laws of lack of units.
-- Assumes nothing.
use mathlib.Core.Path.{◌≡◌, refl}
use mathlib.Core.Bool.{Bool, true, false, cond}
use Prim.Native.Nat.{ℕ, ◌≤◌, ◌<◌}
use native.Mathlib.Omega.{arith}
use lib.Dec.{leb, eqb}
use borrow.Author.Tests.{le-leb, lt-leb, leb-true}
use Rattle.types.specs.Refusal.{units_exhausted, of_units, is_in}
use Rattle.types.specs.Units.{lack_of}

pub lack_none : (held slots : ℕ) → held ≤ slots → lack_of held slots ≡ 0
unfolding lack_of
lack_none held slots h = rw (le-leb held slots h) refl

pub lack_some : (held slots : ℕ) → slots < held → lack_of held slots ≡ units_exhausted
unfolding lack_of
lack_some held slots h = rw (lt-leb held slots h) refl

-- what is told by a lack of nothing
pub lack_told : (held slots : ℕ) → lack_of held slots ≡ 0 → held ≤ slots
unfolding lack_of
lack_told held slots h = go (leb held slots) refl h
  where
    go : (b : Bool) → leb held slots ≡ b → cond {A = ℕ} b 0 units_exhausted ≡ 0 → held ≤ slots
    go true e f = leb-true held slots e
    go false e f = absurd (omega arith)

-- "no unit lacks" as a test is the comparison
pub lack_test : (held slots : ℕ) → eqb (lack_of held slots) 0 ≡ leb held slots
unfolding lack_of
lack_test held slots = go (leb held slots)
  where
    go : (b : Bool) → eqb (cond b 0 units_exhausted) 0 ≡ b
    go true = refl
    go false = refl

-- a lack is refused by a number of the table's last part
pub lack_units : (held slots : ℕ) → eqb (lack_of held slots) 0 ≡ false → is_in (lack_of held slots) of_units ≡ true
unfolding lack_of is_in of_units
lack_units held slots h = go (leb held slots) refl h
  where
    go : (b : Bool) → leb held slots ≡ b → eqb (cond b 0 units_exhausted) 0 ≡ false → is_in (cond b 0 units_exhausted) of_units ≡ true
    go true e f = absurd (let z : ◌≡◌ {A = ℕ} 0 1 = cc in omega arith)
    go false e f = refl
