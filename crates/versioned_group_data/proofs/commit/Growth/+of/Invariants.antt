-- The members get fewer.
-- Assumes nothing.
use Rattle.std.proofs.Common.{length}
use Rattle.request.specs.Members.{members_in}
use Rattle.versioned_group_data.proofs.commit.Growth.+of.Given as goal

abbrev pub decreases-of : goal.decreases-of
decreases-of l = length (members_in l.members)
