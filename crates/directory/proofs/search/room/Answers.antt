-- `directory::search::room` meets its contract.
-- Assumes nothing.
use mathlib.Core.Path.{sym}
use Rattle.directory.proofs.Directories.{room_small, room_large}
use Rattle.directory.proofs.search.room.Goals as goal

pub returns-then-n-gt64 : goal.returns-then-n-gt64
returns-then-n-gt64 c =
    record { room = sym (room_large _ c.if-n-gt64.true) }

pub returns : goal.returns
returns c =
    record { room = sym (room_small _ c.if-n-gt64.false) }
