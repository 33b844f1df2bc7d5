-- Where updates, members and committed values stand among the slots of a group store, as the code learns it.
use Rattle.std.specs.Prelude.{Bool, ℕ, suc, ◌+◌, ltb, length, Result}
use Rattle.std.proofs.Math.Option.{Option, none, some}
use Rattle.lists.specs.Lists.{keep}
use Rattle.request.specs.Set.{Member}
use Rattle.slots.specs.Found.{found_of}
use Rattle.model.specs.Rows.{is_below, find, rank}
use Rattle.model.specs.Group.{Update, member_value, members_in}
use Rattle.model.specs.Model.{updates_held}
use Rattle.group_slots.specs.Layout.{Groups}
use Rattle.group_slots.specs.declared.find.Run.{Run}

-- How many slots stand before those of an update.
unfoldable pub start_of : ℕ → ℕ → Groups → ℕ
start_of key place g = updates_held (keep (is_below key place) g.updates)

-- "a group update 1 plus 1 a tag"
unfoldable pub slots_taken : Option Update → ℕ
slots_taken none = 0
slots_taken (some u) = suc (length u.members)

-- The slots of an update.
unfoldable pub run_of : ℕ → ℕ → Groups → Run
run_of key place g = record { at = start_of key place g; len = slots_taken (find key place g.updates) }

unfoldable pub is_lower : ℕ → Member → Bool
is_lower tag m = ltb m.tag tag

-- How many slots of an update stand before a member of it.
unfoldable pub lower_in : ℕ → Option Update → ℕ
lower_in tag none = 0
lower_in tag (some u) = suc (length (keep (is_lower tag) u.members))

unfoldable pub member_found : ℕ → ℕ → ℕ → Groups → Result ℕ ℕ
member_found key place tag g =
    found_of (start_of key place g + lower_in tag (find key place g.updates)) (member_value tag (members_in (find key place g.updates)))

unfoldable pub committed_found : ℕ → ℕ → Groups → Result ℕ ℕ
committed_found key tag g = found_of (updates_held g.updates + rank key tag g.committed) (find key tag g.committed)
