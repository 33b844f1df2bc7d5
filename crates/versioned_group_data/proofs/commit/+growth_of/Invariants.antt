-- The members get fewer.
-- Assumes nothing.
use Rattle.std.proofs.Common.{length}
use Rattle.request.specs.Members.{members_in}
use Rattle.versioned_group_data.proofs.commit.+growth_of.Given as goal

abbrev pub decreases-growth_of : goal.decreases-growth_of
decreases-growth_of l = length (members_in l.members)
