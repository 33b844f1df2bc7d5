-- 01, "Rule 5" for this store word by word, as a scan tests it: each slot by itself, each slot and the one before it, and the first one.
use Rattle.std.specs.Prelude.{Bool, true, cond, not, ◌&&◌, List, [], ◌∷◌, leb, eqb, get_or, take, drop}
use Rattle.types.specs.Response.{most_tags}
use Rattle.types.specs.Value.{value_at, value_ok, is_exchanged, is_deletion}
use Rattle.moves.specs.Moves.{all_zero}
use Rattle.slots.specs.Slots.{Slot, is_before}

-- "base entries are done writes of incarnation 0"
unfoldable pub base_test : Slot → Bool
base_test u = cond (eqb (get_or u 2 0) 0) (eqb (get_or u 6 0) 0 && eqb (get_or u 5 0) 0) true

-- "fields in range", of any slot of an update
unfoldable pub head_test : Slot → Bool
head_test u = leb (get_or u 3 0) most_tags && eqb (get_or u 4 0) 0 && leb (get_or u 5 0) 1 && base_test u

-- "only bases and committed values are raw"
unfoldable pub member_test : Slot → Bool
member_test u =
    value_ok (value_at 7 u) && cond (eqb (get_or u 2 0) 0) true (is_exchanged (value_at 7 u)) && all_zero (drop 14 u)

-- The slot of an update itself has no value.
unfoldable pub part_test : Slot → Bool
part_test u = head_test u && cond (eqb (get_or u 3 0) 0) (all_zero (drop 7 u)) (member_test u)

-- "no committed deletion"
unfoldable pub committed_test : Slot → Bool
committed_test u =
    leb (get_or u 2 0) 63 && all_zero (take 4 (drop 3 u)) && value_ok (value_at 7 u) && not (is_deletion (value_at 7 u))
    && all_zero (drop 14 u)

unfoldable pub slot_test : Slot → Bool
slot_test u = cond (eqb (get_or u 0 0) 1) (part_test u) (eqb (get_or u 0 0) 2 && committed_test u)

unfoldable pub is_member : Slot → Bool
is_member u = eqb (get_or u 0 0) 1 && not (eqb (get_or u 3 0) 0)

-- "update sets and tagged entries match, one incarnation and one mark to an update"
unfoldable pub same_update : Slot → Slot → Bool
same_update u v =
    eqb (get_or u 0 0) 1 && eqb (get_or u 1 0) (get_or v 1 0) && eqb (get_or u 2 0) (get_or v 2 0) && eqb (get_or u 5 0) (get_or v 5 0)
    && eqb (get_or u 6 0) (get_or v 6 0)

-- A member stands after its update or another member of it.
unfoldable pub belongs : Slot → Slot → Bool
belongs u v = cond (is_member v) (same_update u v) true

-- "no key and index (and tag) twice"
unfoldable pub follows : Slot → Slot → Bool
follows u v = is_before u v && belongs u v

-- Before the first slot there is no update.
unfoldable pub first_test : List Slot → Bool
first_test [] = true
first_test (u ∷ us) = not (is_member u)
