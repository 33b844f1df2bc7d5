-- `versioned_group_data::read::get_group_size` meets its contract.
-- Assumes nothing.
use Rattle.versioned_group_data.proofs.ReadStarts.{start_readable}
use Rattle.versioned_group_data.proofs.read.get_group_size.Goals as goal

pub size_from-requires : goal.size_from-requires
size_from-requires c =
    record { readable = start_readable _ c.requires.valid _ _ _ c.below-i.ensures.start }
