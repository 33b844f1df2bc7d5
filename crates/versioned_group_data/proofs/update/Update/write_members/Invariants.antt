-- What is left to write decides, and there is room for it.
-- Assumes nothing.
use Rattle.std.proofs.Common.{◌≡◌, ◌+◌, ◌≤◌, [], length}
use Rattle.types.specs.Index.{word_of}
use Rattle.types.specs.Units.{units_in}
use Rattle.request.specs.Members.{members_in}
use Rattle.model.specs.Rows.{row_at}
use Rattle.versioned_group_data.specs.Members.{done_update}
use Rattle.versioned_group_data.proofs.UpdateBuilding.{write_rest}
use Rattle.versioned_group_data.proofs.update.Update.write_members.Given as goal

abbrev pub invariant-loop-tag : goal.invariant-loop-tag
invariant-loop-tag l =
    (write_rest (row_at l.self.key (word_of l.self.place) (done_update l.self.incarnation [])) l.j (members_in l.rest) l.s
    ≡ write_rest (row_at l.self.key (word_of l.self.place) (done_update l.self.incarnation [])) l.i (members_in l.self.members) l.initial.s)
    × (l.j + length (members_in l.rest) ≤ units_in (length l.initial.s))
    × (length l.s ≡ length l.initial.s)

abbrev pub decreases-loop-tag : goal.decreases-loop-tag
decreases-loop-tag l = length (members_in l.rest)
