-- `store::scan::most_pages` meets its contract.
-- Assumes nothing.
use mathlib.Core.Path.{sym}
use Rattle.directory.proofs.Directories.{most_small, most_large}
use Rattle.store.proofs.scan.most_pages.Goals as goal

pub returns-then-n-gt64 : goal.returns-then-n-gt64
returns-then-n-gt64 c =
    record { most = sym (most_large _ c.if-n-gt64.true) }

pub returns : goal.returns
returns c =
    record { most = sym (most_small _ c.if-n-gt64.false) }
