-- Where a slot stands among those in use, as a search learns it: its index, or else where it would be inserted.
use Rattle.std.specs.Prelude.{Bool, false, cond, ◌||◌, List, [], ◌∷◌, ℕ, leb, ltb, Result, Ok, Err}
use Rattle.std.proofs.Math.Option.{Option, none, some}
use Rattle.slots.specs.Slots.{Slot, is_at, place_of}

-- Some slot stands at the place that four words give.
unfoldable pub is_there : List ℕ → List Slot → Bool
is_there k [] = false
is_there k (u ∷ us) = is_at k u || is_there k us

unfoldable pub found_at : List ℕ → List Slot → Result ℕ ℕ
found_at k us = cond (is_there k us) (Ok (place_of k us)) (Err (place_of k us))

-- What a search answers of a place, where something or nothing is kept at it.
unfoldable pub found_of : {A : Type 0} → ℕ → Option A → Result ℕ ℕ
found_of i none = Err i
found_of i (some a) = Ok i

-- A place among n slots in use, or just after them.
unfoldable pub is_among : ℕ → Result ℕ ℕ → Bool
is_among n (Ok i) = ltb i n
is_among n (Err i) = leb i n
