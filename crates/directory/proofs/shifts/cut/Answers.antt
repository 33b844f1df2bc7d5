-- `directory::shifts::cut` meets its contract.
-- Assumes nothing.
use native.Mathlib.Omega.{arith}
use Rattle.moves.proofs.Turns.{clear_else}
use Rattle.directory.proofs.Shifting.{page_cut}
use Rattle.directory.proofs.shifts.cut.Goals as goal

pub copy_within-requires : goal.copy_within-requires
copy_within-requires c =
    record { into = omega arith; inside = omega arith; clear = clear_else _ _ _ (omega arith) }

pub returns : goal.returns
returns c =
    record { cut = page_cut _ _ _ _ _ _ c.requires.inside c.requires.fits c.copy_within.ensures.copied c.clear.ensures.cleared c.clear-2.ensures.cleared }
