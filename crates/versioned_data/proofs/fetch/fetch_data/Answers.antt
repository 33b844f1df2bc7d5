-- `versioned_data::fetch::fetch_data` meets its contract.
-- Assumes nothing.
use Rattle.versioned_data.proofs.WalkBounds.{bound_above, read_by}
use Rattle.versioned_data.proofs.fetch.fetch_data.Goals as goal

pub read_at-requires : goal.read_at-requires
read_at-requires c =
    record { store = c.requires.store; above_base = bound_above _ _ c.new.ensures.shifted }

pub returns : goal.returns
returns c =
    record { read = read_by _ c.requires.store _ _ _ c.new.ensures.shifted _ c.read_at.ensures.read }
