-- A record and the exact delta that it stands for: there and back.
-- Assumes nothing.
use mathlib.Core.Path.{◌≡◌, sym, ap, ap₂, ◌∙◌}
use mathlib.Core.Bool.{true, not, ◌&&◌}
use mathlib.Core.List.{List}
use Prim.Native.Nat.{ℕ, ◌≤◌}
use native.Mathlib.Omega.{arith}
use lib.Dec.{leb}
use lib.IntN.{nat_abs}
use lib.ListN.{get_or}
use Rattle.number.specs.Number.{value_of}
use Rattle.number.proofs.Halves.{value_of_number_of, number_of_value_of}
use Rattle.delta.specs.declared.DeltaOp.{DeltaOp}
use Rattle.delta.specs.Delta.{Delta, valid, is_negative, signed, sign_word, number_at, minus_zero, minus_at, delta_at, delta_ok}
use Rattle.delta.specs.Record.{AllHalves, exact, op_of, valid_op, op_at, IsDelta}
use Rattle.delta.proofs.DeltaFormat.{size_signed, signed_back, minus_word, word_signed, no_minus_zero, sign_small}

pub exact_op_of : (d : Delta) → exact (op_of d) ≡ d
unfolding exact op_of
exact_op_of d = grind (arith, value_of_number_of, minus_word, signed_back)

valid_op_sign : (o : DeltaOp) → valid_op o ≡ true → o.sign ≤ 1
unfolding valid_op
valid_op_sign o v = grind arith

valid_op_zero : (o : DeltaOp) → valid_op o ≡ true → not (minus_zero (is_negative o.sign) (value_of o.update)) ≡ true
unfolding valid_op
valid_op_zero o v = grind arith

pub valid_op_valid : (o : DeltaOp) → valid_op o ≡ true → valid (exact o) ≡ true
unfolding valid_op
valid_op_valid o v = grind arith

pub op_of_exact : (o : DeltaOp) → AllHalves o → valid_op o ≡ true → op_of (exact o) ≡ o
unfolding exact op_of
op_of_exact o g v =
    let s = word_signed o.sign (value_of o.update) (valid_op_sign o v) (valid_op_zero o v) in
    grind (arith, number_of_value_of, size_signed)

pub exact_op_at : (ws : List ℕ) → exact (op_at ws) ≡ delta_at ws
unfolding exact op_at delta_at minus_at
exact_op_at ws = grind (arith, value_of_number_of)

pub valid_op_op_of : (d : Delta) → valid d ≡ true → valid_op (op_of d) ≡ true
unfolding valid_op op_of
valid_op_op_of d v = rw (exact_op_of d, v, sign_small d.update, minus_word d.update, value_of_number_of (nat_abs d.update), no_minus_zero d.update)

-- what is read is valid exactly if the words are a delta
pub valid_op_op_at : (ws : List ℕ) → valid_op (op_at ws) ≡ delta_ok ws
unfolding valid_op delta_ok op_at minus_at
valid_op_op_at ws =
    ap₂ (λ (x : ℕ) (d : Delta). leb (get_or ws 16 0) 1 && not (minus_zero (is_negative (get_or ws 16 0)) x) && valid d) (value_of_number_of (number_at ws 12)) (exact_op_at ws)

-- a record with the sign that words have stands for the same delta
pub resigned : (o : DeltaOp) → exact (record o { sign = sign_word (exact o).update }) ≡ exact o
unfolding exact
resigned o = λ i. record { limit = value_of o.limit; high = value_of o.high; low = value_of o.low; update = update i }
  where
    update : signed (is_negative (sign_word (signed (is_negative o.sign) (value_of o.update)))) (value_of o.update) ≡ signed (is_negative o.sign) (value_of o.update)
    update =
        ap₂ signed (minus_word (signed (is_negative o.sign) (value_of o.update))) (sym (size_signed (is_negative o.sign) (value_of o.update)))
        ∙ signed_back (signed (is_negative o.sign) (value_of o.update))

pub op_of_resigned : (o : DeltaOp) → AllHalves o → op_of (exact o) ≡ record o { sign = sign_word (exact o).update }
unfolding exact op_of
op_of_resigned o g = grind (arith, number_of_value_of, size_signed)

-- ---- what a `ValidDelta` holds

pub checked_is : (o : DeltaOp) → AllHalves o → valid_op o ≡ true → IsDelta o
checked_is o g v = record { valid = valid_op_valid o v; canonical = op_of_exact o g v }

pub resigned_is : (o : DeltaOp) → AllHalves o → valid (exact o) ≡ true → IsDelta (record o { sign = sign_word (exact o).update })
resigned_is o g v = record { valid = ap valid (resigned o) ∙ v; canonical = ap op_of (resigned o) ∙ op_of_resigned o g }

pub op_of_is : (d : Delta) → valid d ≡ true → IsDelta (op_of d)
op_of_is d v = record { valid = ap valid (exact_op_of d) ∙ v; canonical = ap op_of (exact_op_of d) }
