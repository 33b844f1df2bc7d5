-- `versioned_group_data::commit::erase_committed` meets its contract.
-- Assumes nothing.
use native.Mathlib.Omega.{arith}
use Rattle.versioned_group_data.proofs.CommittedEdits.{erase_room, erase_some}
use Rattle.versioned_group_data.proofs.commit.erase_committed.Goals as goal

pub close_slots-requires : goal.close_slots-requires
close_slots-requires c =
    let h = erase_room _ c.requires.valid _ _ _ c.find_committed-found.ensures.found _ c.in-Ok.is _ c.used-n.ensures.used in
    record { order = omega (arith, h.0); inside = omega (arith, h.1) }

pub returns-in-Ok : goal.returns-in-Ok
returns-in-Ok c =
    record { erased = erase_some _ c.requires.valid _ _ _ c.find_committed-found.ensures.found _ c.in-Ok.is _ c.used-n.ensures.used _ c.close_slots.ensures.closed }
