-- `directory::cells::close_cell` meets its contract: words moved down, then four written.
-- Assumes nothing.
use native.Mathlib.Omega.{arith}
use Rattle.moves.proofs.Turns.{clear_down}
use Rattle.directory.proofs.Editing.{closed}
use Rattle.directory.proofs.cells.close_cell.Goals as goal

pub copy_within-requires : goal.copy_within-requires
copy_within-requires c =
    record { into = omega arith; inside = omega arith; clear = clear_down _ _ _ (omega arith) }

pub returns : goal.returns
returns c =
    record {
      closed = closed _ _ _ _ _ _ _ c.requires.laid c.requires.page (omega arith) c.requires.fits
          c.copy_within.ensures.copied;
    }
