-- `directory::shifts::merge` meets its contract.
-- Assumes nothing.
use native.Mathlib.Omega.{arith}
use Rattle.moves.proofs.Turns.{clear_down}
use Rattle.directory.proofs.shifts.merge.Goals as goal

pub copy_within-requires : goal.copy_within-requires
copy_within-requires c =
    record { into = omega arith; inside = omega arith; clear = clear_down _ _ _ (omega arith) }
