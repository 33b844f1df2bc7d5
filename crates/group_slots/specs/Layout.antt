-- How the group store keeps updates and committed values in slots of 32 words, and what a store's words hold.
--
--   an update: one slot for itself, and after it one for each member
--     word 0   1                    word 5   0 done, 1 an estimate
--     word 1   key                  word 6   incarnation
--     word 2   shifted index        words 7 to 13   a member's value
--     word 3   0 the update itself, 1 + tag a member
--   a committed value
--     word 0   2     word 1   key     word 2   tag     words 7 to 13   the value
--
-- All other words are 0. Slots rise by words 0 to 3: the updates by key and shifted index, each followed by its members by tag; then the
-- committed values by key and tag.
use Rattle.std.specs.Prelude.{Bool, cond, ◌&&◌, List, [], ◌∷◌, ◌++◌, map, ℕ, suc, ◌+◌, ◌-◌, eqb, length, get_or}
use Rattle.types.specs.Value.{value_at}
use Rattle.types.specs.Flag.{flag_of}
use Rattle.types.specs.Units.{lack_of, units_in}
use Rattle.request.specs.Set.{Member}
use Rattle.slots.specs.declared.slot.Place.{Place}
use Rattle.slots.specs.Slots.{Slot, encode, held, padded, same_words}
use Rattle.model.specs.Rows.{Row}
use Rattle.model.specs.Group.{Update, Committed}
use Rattle.model.specs.Model.{updates_held}
use Rattle.model.specs.Fine.{fine_updates, fine_group}

-- What the group store holds.
pub record Groups : Type 0 where
  pub updates : List (Row Update)
  pub committed : Committed

-- The places of a part of an update, and of a committed value.
abbrev pub update_place : ℕ → ℕ → ℕ → Place
update_place key place part = record { kind = 1; key = key; index = place; part = part }

abbrev pub committed_place : ℕ → ℕ → Place
committed_place key tag = record { kind = 2; key = key; index = tag; part = 0 }

-- The slots of an update: the same but for word 3 and the value.
unfoldable pub part_slot : Row Update → ℕ → List ℕ → Slot
part_slot r part v =
    padded (1 ∷ r.key ∷ r.place ∷ part ∷ 0 ∷ flag_of r.held.estimate ∷ r.held.incarnation ∷ v)

unfoldable pub member_slot : Row Update → Member → Slot
member_slot r m = part_slot r (suc m.tag) m.value

unfoldable pub update_slots : Row Update → List Slot
update_slots r = part_slot r 0 [] ∷ map (member_slot r) r.held.members

unfoldable pub updates_slots : List (Row Update) → List Slot
updates_slots [] = []
updates_slots (r ∷ rs) = update_slots r ++ updates_slots rs

unfoldable pub committed_slot : Row (List ℕ) → Slot
committed_slot r = padded (2 ∷ r.key ∷ r.place ∷ 0 ∷ 0 ∷ 0 ∷ 0 ∷ r.held)

unfoldable pub group_slots : Groups → List Slot
group_slots g = updates_slots g.updates ++ map committed_slot g.committed

-- Slots are read from the last to the first: members wait for the update that they belong to.
pub record Gathered : Type 0 where
  pub waiting : List Member
  pub updates : List (Row Update)
  pub committed : Committed

unfoldable pub member_of : Slot → Member
member_of u = record { tag = get_or u 3 0 - 1; value = value_at 7 u }

unfoldable pub update_of : Slot → List Member → Row Update
update_of u ms =
    record {
      key = get_or u 1 0;
      place = get_or u 2 0;
      held = record { incarnation = get_or u 6 0; estimate = eqb (get_or u 5 0) 1; members = ms };
    }

unfoldable pub committed_of : Slot → Row (List ℕ)
committed_of u = record { key = get_or u 1 0; place = get_or u 2 0; held = value_at 7 u }

unfoldable pub with_member : Slot → Gathered → Gathered
with_member u g = record { waiting = member_of u ∷ g.waiting; updates = g.updates; committed = g.committed }

unfoldable pub with_update : Slot → Gathered → Gathered
with_update u g = record { waiting = []; updates = update_of u g.waiting ∷ g.updates; committed = g.committed }

unfoldable pub with_committed : Slot → Gathered → Gathered
with_committed u g = record { waiting = g.waiting; updates = g.updates; committed = committed_of u ∷ g.committed }

unfoldable pub with_slot : Slot → Gathered → Gathered
with_slot u g = cond (eqb (get_or u 0 0) 2) (with_committed u g) (cond (eqb (get_or u 3 0) 0) (with_update u g) (with_member u g))

unfoldable pub gathered : List Slot → Gathered
gathered [] = record { waiting = []; updates = []; committed = [] }
gathered (u ∷ us) = with_slot u (gathered us)

-- What a store's words hold, and the words of a store like `s` that holds it.
unfoldable pub groups_in : List ℕ → Groups
groups_in s = record { updates = (gathered (held s)).updates; committed = (gathered (held s)).committed }

unfoldable pub holding : List ℕ → Groups → List ℕ
holding s g = encode s (group_slots g)

unfoldable pub fine_groups : Groups → Bool
fine_groups g = fine_updates g.updates && fine_group g.committed

-- Rule 5 for this store: its words are those of a store that holds fine updates and fine committed values. The copies of incarnation and flag in
-- an update's slots then agree, and a member stands after its update.
unfoldable pub group_valid : List ℕ → Bool
group_valid s = same_words (holding s (groups_in s)) s && fine_groups (groups_in s)

-- "a group update 1 plus 1 a tag; a committed tag 1"
unfoldable pub held_by : Groups → ℕ
held_by g = updates_held g.updates + length g.committed

-- "more units after the ticket than the store has": the refusal of what a store like `s` cannot hold, 0 of what it can.
unfoldable pub lack_in : List ℕ → Groups → ℕ
lack_in s g = lack_of (held_by g) (units_in (length s))

unfoldable pub fits_in : List ℕ → Groups → Bool
fits_in s g = eqb (lack_in s g) 0

-- The same with other updates, and with other committed values.
unfoldable pub with_group_updates : Groups → List (Row Update) → Groups
with_group_updates g rows = record { updates = rows; committed = g.committed }

unfoldable pub with_group : Groups → Committed → Groups
with_group g rows = record { updates = g.updates; committed = rows }
