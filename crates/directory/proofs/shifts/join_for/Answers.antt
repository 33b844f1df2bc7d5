-- `directory::shifts::join_for` meets its contract.
-- Assumes nothing.
use native.Mathlib.Omega.{arith}
use Rattle.directory.proofs.Wides.{wide_of}
use Rattle.directory.proofs.Rooms.{freed_up, freed_low}
use Rattle.directory.proofs.shifts.join_for.Goals as goal

pub join-requires : goal.join-requires
join-requires c =
    record { wide = wide_of _ _ _ c.requires.directory c.requires.many; inside = c.find_pair-j.ensures.low; fits = c.find_pair-j.ensures.fits }

pub returns-then-j-k : goal.returns-then-j-k
returns-then-j-k c =
    record { freed = freed_up _ _ _ _ _ _ c.requires.directory c.requires.many c.requires.inside c.requires.page c.find_pair-j.ensures.low c.find_pair-j.ensures.fits c.join.ensures.joined (omega arith) }

pub returns : goal.returns
returns c =
    record { freed = freed_low _ _ _ _ _ _ c.requires.directory c.requires.many c.requires.inside c.requires.page c.find_pair-j.ensures.low c.find_pair-j.ensures.fits c.join.ensures.joined (omega arith) }
