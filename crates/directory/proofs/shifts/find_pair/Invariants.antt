-- `directory::shifts::find_pair` meets its contract.
-- Assumes nothing.
use Rattle.directory.proofs.Rooms.{Pairs}
use Rattle.directory.proofs.shifts.find_pair.Given as goal

abbrev pub invariant-loop-k : goal.invariant-loop-k
invariant-loop-k l = Pairs l.base l.s l.k
