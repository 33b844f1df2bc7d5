-- `delta::words::write` meets its contract.
-- Assumes nothing.
use native.Mathlib.Omega.{arith}
use lib.ListN.{length-set}
use Rattle.delta.proofs.DeltaPlaces.{delta_put}
use Rattle.delta.proofs.words.write.Goals as goal

pub shape_of-s : goal.shape_of-s
shape_of-s c = simp length-set (omega arith)

pub returns : goal.returns
returns c =
    record { written = delta_put _ _ _ _ _ _ _ _ c.write.ensures.written c.write-2.ensures.written c.write-3.ensures.written c.write-4.ensures.written c.sign_word.ensures.sign }
