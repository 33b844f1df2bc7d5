-- `directory::shifts::close_page` meets its contract.
-- Assumes nothing.
use native.Mathlib.Omega.{arith}
use Rattle.moves.proofs.Turns.{clear_down}
use Rattle.directory.proofs.Shifting.{page_out}
use Rattle.directory.proofs.shifts.close_page.Goals as goal

pub copy_within-requires : goal.copy_within-requires
copy_within-requires c =
    record { into = omega arith; inside = omega arith; clear = clear_down _ _ _ (omega arith) }

pub returns : goal.returns
returns c =
    record { out = page_out _ _ _ _ _ _ _ c.requires.wide (omega arith) (omega arith) c.copy_within.ensures.copied c.clear.ensures.cleared }
