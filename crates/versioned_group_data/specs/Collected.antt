-- What stands in a run of slots, collected as a set and values: as a request hands members over, and as an answer gives a group.
use Rattle.std.specs.Prelude.{Bool, List, [], ◌∷◌, ◌++◌, ℕ, ◌+◌, ◌-◌, ◌/◌, ◌%◌, ◌^◌, leb, get_or}
use Rattle.types.specs.Value.{value_at}
use Rattle.request.specs.declared.set.Set.{Set}
use Rattle.slots.specs.Slots.{Slot}

-- Word j of a slot is a tag, plus `less`.
unfoldable pub is_from : ℕ → ℕ → Slot → Bool
is_from j less u = leb less (get_or u j 0)

unfoldable pub tag_bits : ℕ → ℕ → List Slot → ℕ
tag_bits j less [] = 0
tag_bits j less (u ∷ us) = 2 ^ (get_or u j 0 - less) + tag_bits j less us

unfoldable pub slot_values : List Slot → List ℕ
slot_values [] = []
slot_values (u ∷ us) = value_at 7 u ++ slot_values us

-- "A set is two words, bit n for tag n, low word first"
unfoldable pub set_words : ℕ → Set
set_words tags = record { low = tags % 2 ^ 32; high = tags / 2 ^ 32 % 2 ^ 32 }
