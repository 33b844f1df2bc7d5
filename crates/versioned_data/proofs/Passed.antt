-- A result and its number: what `?` passes up is the error that it met.
-- Assumes nothing.
use mathlib.Core.Path.{◌≡◌, sym, ◌∙◌, ap}
use mathlib.Core.Bool.{Bool, true, false}
use Prim.Native.Nat.{ℕ}
use native.Mathlib.Omega.{arith}
use Rattle.std.specs.Prelude.{Result, Ok, Err, IsErrAnd}
use Rattle.std.specs.Result.{is_ok}
use Rattle.types.specs.Refusal.{refusal_number, result_number}
use Rattle.types.specs.declared.refusal.Refusal.{Refusal}
use Rattle.types.specs.declared.refusal.Refusal.TheVariants.{AnswerTooShort, WrongCount, BadField, IndexTooHigh, DamagedStore, NothingThere, IncarnationNotHigher, BaseDiffers, LayoutUnderDelta, NoNumberUnderDelta, CommitRule, NothingToExchange, NotMaterializable, UnitsExhausted}

pub passed : {B : Type 0} (r : Result B Refusal) (e : Refusal) → IsErrAnd r (λ y. y ≡ e) → r ≡ Err e
passed (Ok x) e h = elim h [ ]
passed (Err y) e h = ap (λ (x : Refusal). Err x) h

-- no refusal has the number 0
no_zero : (e : Refusal) → refusal_number e ≡ 0 → ⊥
no_zero AnswerTooShort h = omega arith
no_zero WrongCount h = omega arith
no_zero BadField h = omega arith
no_zero IndexTooHigh h = omega arith
no_zero DamagedStore h = omega arith
no_zero NothingThere h = omega arith
no_zero IncarnationNotHigher h = omega arith
no_zero BaseDiffers h = omega arith
no_zero LayoutUnderDelta h = omega arith
no_zero NoNumberUnderDelta h = omega arith
no_zero CommitRule h = omega arith
no_zero NothingToExchange h = omega arith
no_zero NotMaterializable h = omega arith
no_zero UnitsExhausted h = omega arith

module _ {A : Type 0} (r : Result A Refusal) where
  pub done_zero : (x : A) → r ≡ Ok x → result_number r ≡ 0
  done_zero x e = ap (λ (q : Result A Refusal). result_number q) e

  pub refused_some : (e : Refusal) → r ≡ Err e → result_number r ≡ 0 → ⊥
  refused_some e f h = no_zero e (sym (ap (λ (q : Result A Refusal). result_number q) f) ∙ h)

pub ok_zero : {A : Type 0} (r : Result A Refusal) (b : Bool) → b ≡ is_ok r → b ≡ true → result_number r ≡ 0
ok_zero (Ok x) b e f = ap (λ (q : ℕ). q) (let z : ◌≡◌ {A = ℕ} 0 0 = omega arith in z)
ok_zero (Err x) b e f = absurd (let z : ◌≡◌ {A = ℕ} 0 1 = cc in omega arith)

pub not_ok_some : {A : Type 0} (r : Result A Refusal) (b : Bool) → b ≡ is_ok r → b ≡ false → result_number r ≡ 0 → ⊥
not_ok_some (Ok x) b e f h = let z : ◌≡◌ {A = ℕ} 0 1 = cc in omega arith
not_ok_some (Err x) b e f h = no_zero x h
