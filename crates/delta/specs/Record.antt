-- The code's `DeltaOp`, tied to the exact deltas of `Delta`.
-- Assumes nothing.
use Rattle.std.specs.Prelude.{◌≡◌, Bool, true, not, ◌&&◌, List, ℕ, leb, nat_abs, get_or}
use Rattle.number.specs.Number.{Halves, value_of, number_of}
use Rattle.delta.specs.Delta.{Delta, valid, is_negative, signed, sign_word, number_at, minus_zero}
use Rattle.delta.specs.declared.DeltaOp.{DeltaOp}

-- each number of the struct is two 64-bit halves: what a value of the code's type always is
pub record AllHalves (o : DeltaOp) : Type 0 where
  pub limit : Halves o.limit
  pub high : Halves o.high
  pub low : Halves o.low
  pub update : Halves o.update

-- the exact delta that a struct stands for
unfoldable pub exact : DeltaOp → Delta
exact o =
    record {
      limit = value_of o.limit;
      high = value_of o.high;
      low = value_of o.low;
      update = signed (is_negative o.sign) (value_of o.update);
    }

-- the struct of a delta below `range`
unfoldable pub op_of : Delta → DeltaOp
op_of d =
    record {
      limit = number_of d.limit;
      high = number_of d.high;
      low = number_of d.low;
      update = number_of (nat_abs d.update);
      sign = sign_word d.update;
    }

-- the struct holds a delta, as `delta_ok` says it of words: the sign is 0 or 1, "minus zero is bad", and the delta is valid
unfoldable pub valid_op : DeltaOp → Bool
valid_op o = leb o.sign 1 && not (minus_zero (is_negative o.sign) (value_of o.update)) && valid (exact o)

-- the struct that 17 words hold, whatever they are
unfoldable pub op_at : List ℕ → DeltaOp
op_at ws =
    record {
      limit = number_of (number_at ws 0);
      high = number_of (number_at ws 4);
      low = number_of (number_at ws 8);
      update = number_of (number_at ws 12);
      sign = get_or ws 16 0;
    }

-- what a `ValidDelta` holds: the record of a valid delta
pub record IsDelta (o : DeltaOp) : Type 0 where
  pub valid : valid (exact o) ≡ true
  pub canonical : op_of (exact o) ≡ o
