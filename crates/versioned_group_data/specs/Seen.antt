-- What the walks of the two reads carry from slot to slot.
use Rattle.std.specs.Prelude.{◌≡◌, Bool, true, false, ◌||◌, List, [], ◌∷◌, ◌++◌, map, ℕ, ◌+◌, ◌≤◌, eqb, length, get_or, take}
use Rattle.lists.specs.Lists.{every, keep}
use Rattle.slots.specs.Slots.{Slot}
use Rattle.versioned_group_data.specs.Sizes.{Item, fine_item, Tally, tally, Bounded}
use Rattle.versioned_group_data.specs.Down.{is_tagged, item_in, slots_down, items_at}
use Rattle.versioned_group_data.specs.declared.read.Counts.{Counts}

unfoldable pub is_update : Slot → Bool
is_update u = eqb (get_or u 0 0) 1

-- Some slot is one of a base.
unfoldable pub any_base : List Slot → Bool
any_base [] = false
any_base (u ∷ us) = eqb (get_or u 2 0) 0 || any_base us

-- A walk down the slots of a key from slot i meets its base.
unfoldable pub meets_base : ℕ → ℕ → List Slot → Bool
meets_base key i us = any_base (slots_down key i us)

-- The slots before i are of updates, and what a walk down meets there is fine.
pub record Readable (key i : ℕ) (us : List Slot) : Type 0 where
  pub inside : i ≤ length us
  pub updates : every is_update (take i us) ≡ true
  pub fine : every fine_item (items_at key i us) ≡ true

unfoldable pub tally_of : Counts → Tally
tally_of t = record { members = t.members; sum = t.sum; lowest = t.lowest; waits_at = t.place }

unfoldable pub added : ℕ → ℕ → Tally → Tally
added members bytes t = record { members = t.members + members; sum = t.sum + bytes; lowest = t.lowest; waits_at = t.waits_at }

unfoldable pub items_of : Slot → List Item
items_of u = map item_in (keep is_tagged (u ∷ []))

-- What was seen and counted before a slot and what after it come to the same, whatever follows.
pub record Counted (u : Slot) (seen : List ℕ) (t : Tally) (seenAfter : List ℕ) (after : Tally) : Type 0 where
  pub rest : (xs : List Item) → tally seen t (items_of u ++ xs) ≡ tally seenAfter after xs
  pub bounded : Bounded seenAfter after
