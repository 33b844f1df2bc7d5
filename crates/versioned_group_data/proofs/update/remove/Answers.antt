-- `versioned_group_data::update::remove` meets its contract.
-- Assumes nothing.
use mathlib.Core.Path.{refl}
use native.Mathlib.Omega.{arith}
use Rattle.types.proofs.IndexLaws.{shifted_word}
use Rattle.versioned_group_data.proofs.UpdateEdits.{run_room, remove_done}
use Rattle.versioned_group_data.proofs.update.remove.Goals as goal

pub close_slots-requires : goal.close_slots-requires
close_slots-requires c =
    let room = run_room _ c.requires.valid _ _ _ refl _ c.find_update-run.ensures.run _ c.used-n.ensures.used in
    record { order = omega (arith, room.0); inside = room.1 }

pub returns : goal.returns
returns c =
    record { edited = remove_done _ c.requires.valid _ _ _ (shifted_word _ _ c.new.ensures.shifted) _ c.find_update-run.ensures.run _ c.used-n.ensures.used _ c.close_slots.ensures.closed }
