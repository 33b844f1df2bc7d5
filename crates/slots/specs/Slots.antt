-- A store in lent words: slots (01: units) of 32 words, those in use packed at the front in rising order, then zeros. Both stores are laid out so.
use Rattle.std.specs.Prelude.{Bool, true, false, not, ◌&&◌, ◌||◌, List, [], ◌∷◌, ◌++◌, ℕ, zero, suc, ◌+◌, ◌-◌, ◌*◌, ltb, eqb, length, get_or, take, drop, replicate}
use Rattle.lists.specs.Lists.{every, front}
use Rattle.moves.specs.Moves.{all_zero}
use Rattle.types.specs.Units.{units_in}

abbrev pub Slot : Type 0
Slot = List ℕ

abbrev pub slot_width : ℕ
slot_width = 32

-- The words of slots, one slot after the other.
unfoldable pub flat : List Slot → List ℕ
flat [] = []
flat (u ∷ us) = u ++ flat us

-- The words of a store that holds `us`, where `s` is any store of that length: the slots, zeros in the other slots, and the words past the last
-- slot, which are never touched.
unfoldable pub encode : List ℕ → List Slot → List ℕ
encode s us = flat us ++ (replicate (slot_width * (units_in (length s) - length us)) 0 ++ drop (slot_width * units_in (length s)) s)

-- The first n slots of a list of words.
unfoldable pub slots : ℕ → List ℕ → List Slot
slots zero s = []
slots (suc n) s = take slot_width s ∷ slots n (drop slot_width s)

-- The words of slot i.
unfoldable pub slot_at : ℕ → List ℕ → Slot
slot_at i s = take slot_width (drop (slot_width * i) s)

unfoldable pub is_whole : Slot → Bool
is_whole u = eqb (length u) slot_width

-- Words with zeros after them, as wide as a slot.
unfoldable pub padded : List ℕ → Slot
padded ws = ws ++ replicate (slot_width - length ws) 0

-- A slot is in use where its first word is not 0.
unfoldable pub is_used : Slot → Bool
is_used u = not (eqb (get_or u 0 0) 0)

-- The slots in use at the front of a store.
unfoldable pub held : List ℕ → List Slot
held s = front is_used (slots (units_in (length s)) s)

-- Slots are ordered by their first four words, the first of them first.
unfoldable pub before : List ℕ → List ℕ → Bool
before [] ys = false
before (x ∷ xs) [] = false
before (x ∷ xs) (y ∷ ys) = ltb x y || eqb x y && before xs ys

unfoldable pub is_before : Slot → Slot → Bool
is_before u v = before (take 4 u) (take 4 v)

unfoldable pub same_words : List ℕ → List ℕ → Bool
same_words [] [] = true
same_words [] (y ∷ ys) = false
same_words (x ∷ xs) [] = false
same_words (x ∷ xs) (y ∷ ys) = eqb x y && same_words xs ys

-- A slot stands at the place that its first four words give.
unfoldable pub is_at : List ℕ → Slot → Bool
is_at k u = same_words (take 4 u) k

-- Each slot stands before all later ones.
unfoldable pub ordered : List Slot → Bool
ordered [] = true
ordered (u ∷ us) = every (is_before u) us && ordered us

-- Each slot and the next one pass a test.
unfoldable pub neighbours : (Slot → Slot → Bool) → List Slot → Bool
neighbours q [] = true
neighbours q (u ∷ []) = true
neighbours q (u ∷ v ∷ us) = q u v && neighbours q (v ∷ us)

-- Slot i and the one before it pass a test; the first has none before it.
unfoldable pub joined : (Slot → Slot → Bool) → ℕ → List ℕ → Bool
joined q zero s = true
joined q (suc i) s = q (slot_at i s) (slot_at (suc i) s)

-- The slots from n on are zero.
unfoldable pub is_zero_from : ℕ → List ℕ → Bool
is_zero_from n s = all_zero (take (slot_width * (units_in (length s) - n)) (drop (slot_width * n) s))

-- What is not in use at the front is zero, and the slots in use are in order.
unfoldable pub packed : List ℕ → Bool
packed s = is_zero_from (length (held s)) s && ordered (held s)

-- What a scan of a store decides, for a test of one slot and a test of two neighbours.
unfoldable pub sound : (Slot → Bool) → (Slot → Slot → Bool) → List ℕ → Bool
sound ok pair s = is_zero_from (length (held s)) s && (every ok (held s) && neighbours pair (held s))

-- How many slots at the front stand before a place given by four words.
unfoldable pub place_of : List ℕ → List Slot → ℕ
place_of k us = length (front (λ u. before (take 4 u) k) us)

-- Slots from i on moved up by c, for n in use; the c slots from i on are left as they were, to be overwritten.
unfoldable pub opened : ℕ → ℕ → ℕ → List ℕ → List ℕ
opened c i n s = take (slot_width * (i + c)) s ++ (take (slot_width * (n - i)) (drop (slot_width * i) s) ++ drop (slot_width * (n + c)) s)

-- c slots from i on cleared.
unfoldable pub cleared : ℕ → ℕ → List ℕ → List ℕ
cleared c i s = take (slot_width * i) s ++ (replicate (slot_width * c) 0 ++ drop (slot_width * (i + c)) s)

-- Slots from i + c on moved down by c, for n in use, and the last c of them cleared.
unfoldable pub closed : ℕ → ℕ → ℕ → List ℕ → List ℕ
closed c i n s =
    take (slot_width * i) s
    ++ (take (slot_width * (n - (i + c))) (drop (slot_width * (i + c)) s) ++ (replicate (slot_width * c) 0 ++ drop (slot_width * n) s))

-- Slot i replaced.
unfoldable pub written : ℕ → Slot → List ℕ → List ℕ
written i u s = take (slot_width * i) s ++ (u ++ drop (slot_width * (i + 1)) s)
