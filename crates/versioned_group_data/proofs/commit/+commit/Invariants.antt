-- The members get fewer.
-- Assumes nothing.
use Rattle.std.proofs.Common.{length}
use Rattle.request.specs.Members.{members_in}
use Rattle.versioned_group_data.proofs.commit.+commit.Given as goal

abbrev pub decreases-commit : goal.decreases-commit
decreases-commit l = length (members_in l.members)
