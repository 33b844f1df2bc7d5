-- `versioned_data::put::put` meets its contract.
-- Assumes nothing.
use Rattle.versioned_data.proofs.EntryOperations.{found_row_lem, found_gone, put_there, put_absent}
use Rattle.versioned_data.proofs.put.put.Goals as goal

pub put_over-requires : goal.put_over-requires
put_over-requires g c =
    record { valid = c.requires.valid; row = found_row_lem _ _ _ _ c.requires.found _ c.in-Ok.is }

pub returns-in-Ok : goal.returns-in-Ok
returns-in-Ok g c =
    record { put = put_there _ _ _ _ _ _ c.in-Ok.is _ c.put_over.ensures.put }

pub put_in-requires : goal.put_in-requires
put_in-requires g c =
    record { valid = c.requires.valid; gone = found_gone _ _ _ _ c.requires.found _ c.in-Err.is }

pub returns-in-Err : goal.returns-in-Err
returns-in-Err g c =
    record { put = put_absent _ _ _ _ _ _ c.in-Err.is _ _ c.put_in.ensures.put }
