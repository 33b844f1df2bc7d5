-- What is left decides.
-- Assumes nothing.
use Rattle.std.proofs.Common.{◌≡◌, length}
use Rattle.request.specs.Members as Handed
use Rattle.model.specs.Rows.{find}
use Rattle.model.specs.Group.{all_agree, members_in}
use Rattle.group_slots.specs.Layout.{groups_in}
use Rattle.versioned_group_data.proofs.base.all_agree.Given as goal

abbrev pub invariant-loop-tag : goal.invariant-loop-tag
invariant-loop-tag l =
    all_agree (Handed.members_in l.rest) (members_in (find l.key 0 (groups_in l.store.words.now).updates))
    ≡ all_agree (Handed.members_in l.fn.members) (members_in (find l.key 0 (groups_in l.store.words.now).updates))

abbrev pub decreases-loop-tag : goal.decreases-loop-tag
decreases-loop-tag l = length (Handed.members_in l.rest)
