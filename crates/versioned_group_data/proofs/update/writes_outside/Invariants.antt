-- What is left decides.
-- Assumes nothing.
use mathlib.Core.Path.{◌≡◌}
use mathlib.Core.List.{[]}
use lib.ListN.{length}
use Rattle.types.specs.Index.{word_of}
use Rattle.request.specs.Set.{tags_of, members_of}
use Rattle.model.specs.Rows.{find}
use Rattle.model.specs.Group.{outside, members_in}
use Rattle.group_slots.specs.Layout.{groups_in}
use Rattle.versioned_group_data.proofs.update.writes_outside.Given as goal

abbrev pub invariant-loop-tag : goal.invariant-loop-tag
invariant-loop-tag l =
    outside (members_of (tags_of l.rest.low l.rest.high) []) (members_in (find l.key (word_of l.place) (groups_in l.store.words.now).updates))
    ≡ outside (members_of (tags_of l.fn.set.low l.fn.set.high) []) (members_in (find l.key (word_of l.place) (groups_in l.store.words.now).updates))

abbrev pub decreases-loop-tag : goal.decreases-loop-tag
decreases-loop-tag l = length (tags_of l.rest.low l.rest.high)
