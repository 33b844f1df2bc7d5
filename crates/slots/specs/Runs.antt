-- A run of slots replaced by another, in a list of slots and in a store's words.
use Rattle.std.specs.Prelude.{cond, List, ◌++◌, ℕ, ◌+◌, ◌-◌, ◌*◌, leb, length, take, drop}
use Rattle.slots.specs.Slots.{Slot, slot_width, flat, opened, closed}

-- n elements from i on replaced by others.
unfoldable pub spliced : {A : Type 0} → ℕ → ℕ → List A → List A → List A
spliced i n new us = take i us ++ (new ++ drop (i + n) us)

-- The slots after the n from i on moved so that m have room there, for `used` in use.
unfoldable pub resized : ℕ → ℕ → ℕ → ℕ → List ℕ → List ℕ
resized i n m used s = cond (leb n m) (opened (m - n) (i + n) used s) (closed (n - m) (i + m) used s)

-- Slots written one after the other from slot i on.
unfoldable pub written_from : ℕ → List Slot → List ℕ → List ℕ
written_from i us s = take (slot_width * i) s ++ (flat us ++ drop (slot_width * (i + length us)) s)
