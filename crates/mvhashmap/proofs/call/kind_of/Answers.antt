-- `mvhashmap::call::kind_of` meets its contract.
-- Assumes nothing.
use Rattle.mvhashmap.proofs.CallParts.{kind_told}
use Rattle.mvhashmap.proofs.call.kind_of.Goals as goal

pub returns : goal.returns
returns c = record { kind = kind_told _ (c.type_inv.t 0).fits _ c.kind_in.ensures.kind _ c.of.ensures.kind }
