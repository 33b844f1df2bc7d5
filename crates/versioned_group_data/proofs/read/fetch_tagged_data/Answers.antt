-- `versioned_group_data::read::fetch_tagged_data` meets its contract.
-- Assumes nothing.
use Rattle.versioned_group_data.proofs.ReadStarts.{start_readable}
use Rattle.versioned_group_data.proofs.read.fetch_tagged_data.Goals as goal

pub fetch_from-requires : goal.fetch_from-requires
fetch_from-requires c =
    record { readable = start_readable _ c.requires.valid _ _ _ c.below-i.ensures.start }
