-- `directory::shifts::join` meets its contract.
-- Assumes nothing.
use Rattle.directory.proofs.Splitting.{joined_done}
use Rattle.directory.proofs.shifts.join.Goals as goal

pub returns : goal.returns
returns c =
    record { joined = joined_done _ _ _ _ _ c.requires.wide c.requires.inside c.requires.fits c.merge.ensures.merged _ c.close_page.ensures.out }
