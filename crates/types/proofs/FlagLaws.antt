-- Flags and the words that they are stored as.
-- Assumes nothing.
use mathlib.Core.Path.{◌≡◌, refl}
use mathlib.Core.Bool.{Bool, true, false, not}
use Prim.Native.Nat.{ℕ, zero, suc, ◌≤◌}
use native.Mathlib.Omega.{arith}
use lib.Dec.{leb, eqb}
use borrow.Author.Tests.{eqb-true, ne_eqb}
use Rattle.types.specs.Flag.{flag_of}

-- a flag is read back from its word
pub flag_back : (b : Bool) → eqb (flag_of b) 1 ≡ b
unfolding flag_of
flag_back true = refl
flag_back false = refl

pub flag_word_lem : (f : ℕ) → f ≤ 1 → flag_of (eqb f 1) ≡ f
unfolding flag_of
flag_word_lem zero h = refl
flag_word_lem (suc zero) h = refl
flag_word_lem (suc (suc f)) h = absurd (let g : 2 ≤ 1 = omega arith in omega arith)

pub flag_small : (b : Bool) → leb (flag_of b) 1 ≡ true
unfolding flag_of
flag_small true = refl
flag_small false = refl

pub flag_done : (b : Bool) → not b ≡ true → eqb (flag_of b) 0 ≡ true
unfolding flag_of
flag_done true h = absurd (let y : ◌≡◌ {A = ℕ} 0 1 = cc in omega arith)
flag_done false h = refl

-- a word that is not the flag of an estimate
pub not_flag : (f : ℕ) → eqb f 0 ≡ true → not (eqb f 1) ≡ true
not_flag f e = rw (ne_eqb f 1 (omega (arith, eqb-true f 0 e)))
