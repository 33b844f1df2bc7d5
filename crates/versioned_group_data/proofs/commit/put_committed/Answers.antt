-- `versioned_group_data::commit::put_committed` meets its contract.
-- Assumes nothing.
use native.Mathlib.Omega.{arith}
use Rattle.versioned_group_data.proofs.CommittedEdits.{put_over, open_room, put_new}
use Rattle.versioned_group_data.proofs.commit.put_committed.Goals as goal

pub returns-in-Ok : goal.returns-in-Ok
returns-in-Ok c =
    record { put = put_over _ c.requires.valid _ _ _ c.find_committed-found.ensures.found _ c.in-Ok.is _ _ c.new_committed-u.ensures.slot _ c.write_slot.ensures.written }

pub open_slots-requires : goal.open_slots-requires
open_slots-requires c =
    let h = open_room _ c.requires.valid _ _ _ c.find_committed-found.ensures.found _ c.in-Err.is _ c.requires.fits _ c.used-n.ensures.used in
    record { order = omega (arith, h.0); room = omega (arith, h.1) }

pub returns-in-Err : goal.returns-in-Err
returns-in-Err c =
    record { put = put_new _ c.requires.valid _ _ _ c.find_committed-found.ensures.found _ c.in-Err.is _ c.requires.fits _ c.used-n.ensures.used _ c.open_slots.ensures.opened _ c.new_committed-u.ensures.slot _ c.write_slot-in-Err.ensures.written }
