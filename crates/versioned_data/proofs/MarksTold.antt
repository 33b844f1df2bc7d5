-- What the methods of a row's marks tell.
-- Assumes nothing.
use mathlib.Core.Path.{◌≡◌, refl, sym, ap, ◌∙◌}
use mathlib.Core.Bool.{Bool, true, false, not}
use Prim.Native.Nat.{ℕ}
use native.Mathlib.Omega.{arith}
use mathlib.Core.List.{List, [], ◌∷◌, ◌++◌}
use lib.Dec.{eqb}
use lib.ListN.{take, drop}
use borrow.Author.Tests.{eqb-true, eq-eqb}
use Rattle.std.specs.Prelude.{Option}
use Rattle.delta.specs.declared.DeltaOp.{DeltaOp}
use Rattle.delta.specs.Op.{op_at}
use Rattle.versioned_data.specs.declared.marks.Form.{Form}
use Rattle.versioned_data.specs.Marks.{form_number}

module _ (a b : ℕ) (t : Bool) (test : t ≡ eqb a b) where
  pub told : t ≡ true → a ≡ b
  told e = eqb-true a b (sym test ∙ e)

  pub told_not : t ≡ false → a ≡ b → ⊥
  told_not e f = let h : eqb a b ≡ true = eq-eqb a b f in let z : ◌≡◌ {A = ℕ} 0 1 = cc in omega arith

pub told_ne : (a b : ℕ) (t : Bool) → t ≡ not (eqb a b) → t ≡ false → a ≡ b
told_ne a b t test e = go (eqb a b) refl
  where
    go : (x : Bool) → eqb a b ≡ x → a ≡ b
    go true f = eqb-true a b f
    go false f = let z : ◌≡◌ {A = ℕ} 0 1 = cc in absurd (omega arith)

pub form_told : (o p : Option Form) (m : ℕ) → form_number o ≡ m → o ≡ p → m ≡ form_number p
form_told o p m e f = sym e ∙ ap form_number f

-- a delta read with a sign that is another number's
pub op_told : (s : List ℕ) (b x y : ℕ) (r : DeltaOp) → r ≡ op_at (take 16 (drop b s) ++ (x ∷ [])) → x ≡ y → r ≡ op_at (take 16 (drop b s) ++ (y ∷ []))
op_told s b x y r e f = e ∙ ap (λ (k : ℕ). op_at (take 16 (drop b s) ++ (k ∷ []))) f
