-- `directory::cells::open_cell` meets its contract: words moved up, then four written.
-- Assumes nothing.
use mathlib.Core.Path.{refl}
use Rattle.directory.proofs.Editing.{opened}
use Rattle.directory.proofs.cells.open_cell.Goals as goal

pub returns : goal.returns
returns c =
    record {
      opened = opened _ _ _ _ _ _ _ _ _ _ c.requires.laid c.requires.page refl c.requires.fits c.requires.free
          c.move_up.ensures.raised;
    }
