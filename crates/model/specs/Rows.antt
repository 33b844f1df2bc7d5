-- Rows in rising order of key and place: what a store holds, seen as a finite map. The place is a shifted index, or the tag of a committed value.
use Rattle.std.specs.Prelude.{Bool, true, not, ◌&&◌, ◌||◌, List, [], ◌∷◌, ◌++◌, reverse, length, take, ℕ, leb, ltb, eqb}
use Rattle.std.proofs.Math.Option.{Option, none, some}
use Rattle.lists.specs.Lists.{every, front, keep}

pub record Row (A : Type 0) : Type 0 where
  pub key : ℕ
  pub place : ℕ
  pub held : A

-- Whether a row stands below a key and place, at them, or above them.
unfoldable pub is_below : {A : Type 0} → ℕ → ℕ → Row A → Bool
is_below k p r = ltb r.key k || eqb r.key k && ltb r.place p

unfoldable pub is_at : {A : Type 0} → ℕ → ℕ → Row A → Bool
is_at k p r = eqb r.key k && eqb r.place p

unfoldable pub is_above : {A : Type 0} → ℕ → ℕ → Row A → Bool
is_above k p r = ltb k r.key || eqb r.key k && ltb p r.place

-- Rows in rising order: each stands before all later ones, so no key and place comes twice.
unfoldable pub rising : {A : Type 0} → List (Row A) → Bool
rising [] = true
rising (r ∷ rs) = every (is_above r.key r.place) rs && rising rs

unfoldable pub held_first : {A : Type 0} → List (Row A) → Option A
held_first [] = none
held_first (r ∷ rs) = some r.held

-- What stands at a key and place.
unfoldable pub find : {A : Type 0} → ℕ → ℕ → List (Row A) → Option A
find k p rows = held_first (keep (is_at k p) rows)

-- Replaces what stands at a key and place, or inserts it.
unfoldable pub put : {A : Type 0} → ℕ → ℕ → A → List (Row A) → List (Row A)
put k p a rows = keep (is_below k p) rows ++ (record { key = k; place = p; held = a } ∷ keep (is_above k p) rows)

unfoldable pub erase : {A : Type 0} → ℕ → ℕ → List (Row A) → List (Row A)
erase k p rows = keep (λ r. not (is_at k p r)) rows

-- The rows of a key at places up to `reach`, the highest first: what a walk down from there meets.
unfoldable pub is_up_to : {A : Type 0} → ℕ → ℕ → Row A → Bool
is_up_to k reach r = eqb r.key k && leb r.place reach

unfoldable pub down_from : {A : Type 0} → ℕ → ℕ → List (Row A) → List (Row A)
down_from k reach rows = reverse (keep (is_up_to k reach) rows)

-- The rows of a key, rising.
unfoldable pub of_key : {A : Type 0} → ℕ → List (Row A) → List (Row A)
of_key k rows = keep (λ r. eqb r.key k) rows

-- What a rule does at its own key and place.
pub data Edit (A : Type 0) : Type 0 where
  leave : Edit A
  set : A → Edit A
  clear : Edit A

unfoldable pub edited : {A : Type 0} → ℕ → ℕ → Edit A → List (Row A) → List (Row A)
edited k p leave rows = rows
edited k p (set a) rows = put k p a rows
edited k p clear rows = erase k p rows

-- How many rows stand below a key and place: the position of the row there, or where it would be inserted.
unfoldable pub rank : {A : Type 0} → ℕ → ℕ → List (Row A) → ℕ
rank k p rs = length (keep (is_below k p) rs)

unfoldable pub row_at : {A : Type 0} → ℕ → ℕ → A → Row A
row_at k p a = record { key = k; place = p; held = a }

-- The walk down a key's rows from a position.
unfoldable pub down_at : {A : Type 0} → ℕ → ℕ → List (Row A) → List (Row A)
down_at k i rs = front (λ r. eqb r.key k) (reverse (take i rs))
