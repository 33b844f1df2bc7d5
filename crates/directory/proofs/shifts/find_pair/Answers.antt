-- `directory::shifts::find_pair` meets its contract.
-- Assumes nothing.
use native.Mathlib.Omega.{arith}
use Rattle.directory.proofs.Rooms.{pair_found}
use Rattle.directory.proofs.shifts.find_pair.Goals as goal

pub unreachable-requires : goal.unreachable-requires
unreachable-requires c = pair_found _ _ _ _ c.requires.directory c.requires.many c.requires.free c.requires.full c.loop-k.invariant (omega arith)
