-- `mvhashmap::front::group::members_at` meets its contract.
-- Assumes nothing.
use mathlib.Core.Path.{refl}
use Rattle.request.proofs.MemberViews.{members_sliced}
use Rattle.mvhashmap.proofs.front.group.members_at.Goals as goal

pub returns : goal.returns
returns c = record { members = members_sliced _ _ _ refl }
