-- `mvhashmap::call::is_data` meets its contract.
-- Assumes nothing.
use Rattle.mvhashmap.proofs.CallParts.{data_not, data_one}
use Rattle.mvhashmap.proofs.call.is_data.Goals as goal

pub returns-in-Base : goal.returns-in-Base
returns-in-Base c = record { «data» = data_one _ c.in-Base.is }

pub returns-in_default : goal.returns-in_default
returns-in_default c =
    record {
      «data» = data_not _ c.in_default.not-Base c.in_default.not-Write c.in_default.not-AddDelta c.in_default.not-Estimate
          c.in_default.not-Remove c.in_default.not-Fetch c.in_default.not-Materialize;
    }
