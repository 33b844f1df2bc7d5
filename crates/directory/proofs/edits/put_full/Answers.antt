-- `directory::edits::put_full` meets its contract.
-- Assumes nothing.
use Rattle.directory.proofs.Rooms.{room_put}
use Rattle.directory.proofs.edits.put_full.Goals as goal

pub returns : goal.returns
returns c =
    record { put = room_put _ _ _ _ _ _ _ _ _ _ c.make_room-to.ensures.room c.open_cell.ensures.opened c.requires.order }
