-- What a walk down the slots of a key's updates meets.
use Rattle.std.specs.Prelude.{Bool, not, ◌&&◌, List, map, reverse, ℕ, ◌-◌, eqb, get_or, take}
use Rattle.lists.specs.Lists.{front, keep}
use Rattle.types.specs.Value.{value_at}
use Rattle.slots.specs.Slots.{Slot}
use Rattle.versioned_group_data.specs.Sizes.{Item}

unfoldable pub is_update_of : ℕ → Slot → Bool
is_update_of key u = eqb (get_or u 0 0) 1 && eqb (get_or u 1 0) key

unfoldable pub is_tagged : Slot → Bool
is_tagged u = not (eqb (get_or u 3 0) 0)

unfoldable pub item_in : Slot → Item
item_in u =
    record {
      tag = get_or u 3 0 - 1;
      place = get_or u 2 0;
      incarnation = get_or u 6 0;
      estimate = eqb (get_or u 5 0) 1;
      value = value_at 7 u;
    }

-- The slots of a key's updates before slot i, the highest first.
unfoldable pub slots_down : ℕ → ℕ → List Slot → List Slot
slots_down key i us = front (is_update_of key) (reverse (take i us))

-- The members among them.
unfoldable pub items_at : ℕ → ℕ → List Slot → List Item
items_at key i us = map item_in (keep is_tagged (slots_down key i us))
