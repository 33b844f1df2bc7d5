-- `directory::shifts::split` meets its contract.
-- Assumes nothing.
use Rattle.directory.proofs.Splitting.{split_done}
use Rattle.directory.proofs.shifts.split.Goals as goal

pub returns : goal.returns
returns c =
    record { split = split_done _ _ _ _ _ _ _ c.requires.wide c.requires.inside c.requires.less c.requires.full c.requires.fits c.open_page.ensures.opened c.cut.ensures.cut }
