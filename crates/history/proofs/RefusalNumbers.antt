-- The number of a refusal is one of two digits, and not 0.
-- Assumes nothing.
use Rattle.std.proofs.Common.{ℕ, ◌≡◌, ◌<◌, arith}
use Rattle.types.specs.Refusal.{refusal_number}
use Rattle.types.specs.declared.refusal.Refusal.{Refusal}
use Rattle.types.specs.declared.refusal.Refusal.TheVariants.{AnswerTooShort, WrongCount, BadField, IndexTooHigh, DamagedStore, NothingThere, IncarnationNotHigher, BaseDiffers, LayoutUnderDelta, NoNumberUnderDelta, CommitRule, NothingToExchange, NotMaterializable, UnitsExhausted}

pub record TwoDigits (n : ℕ) : Type 0 where
  pub some : n ≡ 0 → ⊥
  pub few : n < 100

two_digits : (n : ℕ) → 0 < n → n < 100 → TwoDigits n
two_digits n some few = record { some = λ z. omega arith; few = few }

pub refusal_two_digits : (r : Refusal) → TwoDigits (refusal_number r)
refusal_two_digits AnswerTooShort = two_digits 1 (omega arith) (omega arith)
refusal_two_digits WrongCount = two_digits 2 (omega arith) (omega arith)
refusal_two_digits BadField = two_digits 3 (omega arith) (omega arith)
refusal_two_digits IndexTooHigh = two_digits 4 (omega arith) (omega arith)
refusal_two_digits DamagedStore = two_digits 5 (omega arith) (omega arith)
refusal_two_digits NothingThere = two_digits 6 (omega arith) (omega arith)
refusal_two_digits IncarnationNotHigher = two_digits 7 (omega arith) (omega arith)
refusal_two_digits BaseDiffers = two_digits 8 (omega arith) (omega arith)
refusal_two_digits LayoutUnderDelta = two_digits 9 (omega arith) (omega arith)
refusal_two_digits NoNumberUnderDelta = two_digits 10 (omega arith) (omega arith)
refusal_two_digits CommitRule = two_digits 11 (omega arith) (omega arith)
refusal_two_digits NothingToExchange = two_digits 12 (omega arith) (omega arith)
refusal_two_digits NotMaterializable = two_digits 13 (omega arith) (omega arith)
refusal_two_digits UnitsExhausted = two_digits 14 (omega arith) (omega arith)
