-- The number of a result: 0 where nothing is refused, and that of no refusal is 0.
-- Assumes nothing.
use mathlib.Core.Path.{◌≡◌, refl, sym, ap}
use mathlib.Core.Bool.{true, false}
use Rattle.std.specs.Result.{is_err}
use Rattle.lists.proofs.Bools.{never}
use native.Mathlib.Omega.{arith}
use Rattle.std.proofs.Common.{Result, Ok, Err}
use Rattle.types.specs.Refusal.{refusal_number, result_number}
use Rattle.types.specs.declared.refusal.Refusal.{Refusal}
use Rattle.types.specs.declared.refusal.Refusal.TheVariants.{AnswerTooShort, WrongCount, BadField, IndexTooHigh, DamagedStore, NothingThere, IncarnationNotHigher, BaseDiffers, LayoutUnderDelta, NoNumberUnderDelta, CommitRule, NothingToExchange, NotMaterializable, UnitsExhausted}

pub refusal_some : (e : Refusal) → refusal_number e ≡ 0 → ⊥
refusal_some AnswerTooShort z = omega arith
refusal_some WrongCount z = omega arith
refusal_some BadField z = omega arith
refusal_some IndexTooHigh z = omega arith
refusal_some DamagedStore z = omega arith
refusal_some NothingThere z = omega arith
refusal_some IncarnationNotHigher z = omega arith
refusal_some BaseDiffers z = omega arith
refusal_some LayoutUnderDelta z = omega arith
refusal_some NoNumberUnderDelta z = omega arith
refusal_some CommitRule z = omega arith
refusal_some NothingToExchange z = omega arith
refusal_some NotMaterializable z = omega arith
refusal_some UnitsExhausted z = omega arith

module _ {A : Type 0} (r : Result A Refusal) where
  pub none_refused : (v : A) → r ≡ Ok v → result_number r ≡ 0
  none_refused v e = ap result_number e

  pub number_refused : (e : Refusal) → r ≡ Err e → refusal_number e ≡ result_number r
  number_refused e h = sym (ap result_number h)

pub err_refused : {A : Type 0} (r : Result A Refusal) → is_err r ≡ true → result_number r ≡ 0 → ⊥
err_refused (Ok v) h z = never (sym h)
err_refused (Err e) h z = refusal_some e z

pub ok_done : {A : Type 0} (r : Result A Refusal) → is_err r ≡ false → result_number r ≡ 0
ok_done (Ok v) h = refl
ok_done (Err e) h = never h
