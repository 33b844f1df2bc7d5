-- `directory::shifts::make_room` meets its contract.
-- Assumes nothing.
use native.Mathlib.Omega.{arith}
use Rattle.directory.proofs.Rooms.{split_ready, room_first, room_second}
use Rattle.directory.proofs.shifts.make_room.Goals as goal

pub split-requires : goal.split-requires
split-requires c =
    let r = split_ready _ _ _ _ 0 _ _ c.free_page-j.ensures.freed c.requires.many c.requires.few (omega arith) in
    record { wide = r.0; inside = r.1.0; less = r.1.1.0; few = r.1.1.1.0; full = r.1.1.1.1.0; fits = r.1.1.1.1.1 }

pub returns-then-i-eq0 : goal.returns-then-i-eq0
returns-then-i-eq0 c =
    record { room = room_first _ _ _ _ _ _ _ _ _ c.free_page-j.ensures.freed c.split.ensures.split (omega arith) (omega arith) (omega arith) }

pub split-requires-2 : goal.split-requires-2
split-requires-2 c =
    let r = split_ready _ _ _ _ 16 _ _ c.free_page-j.ensures.freed c.requires.many c.requires.few (omega arith) in
    record { wide = r.0; inside = r.1.0; less = r.1.1.0; few = r.1.1.1.0; full = r.1.1.1.1.0; fits = r.1.1.1.1.1 }

pub returns-then-i-gt16 : goal.returns-then-i-gt16
returns-then-i-gt16 c =
    record { room = room_second _ _ _ _ _ _ _ _ _ c.free_page-j.ensures.freed c.split-2.ensures.split (omega arith) (omega arith) c.requires.fits (omega arith) }

pub returns : goal.returns
returns c =
    record { room = room_first _ _ _ _ _ _ _ _ _ c.free_page-j.ensures.freed c.split-2.ensures.split (omega arith) (omega arith) (omega arith) }
