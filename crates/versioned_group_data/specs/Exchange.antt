-- What an exchange writes into a slot.
use Rattle.std.specs.Prelude.{List, ◌++◌, ℕ, take, drop}
use Rattle.slots.specs.Slots.{Slot}

-- A slot with another value.
unfoldable pub with_value : List ℕ → Slot → Slot
with_value v u = take 7 u ++ (v ++ drop 14 u)
