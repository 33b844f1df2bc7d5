-- Slots whose flag is set to an estimate's, one after the other.
-- Assumes nothing.
use mathlib.Core.Path.{◌≡◌, refl, sym, ◌∙◌, ap}
use mathlib.Core.Bool.{true}
use mathlib.Core.List.{List, [], ◌∷◌, ◌++◌, map, map-append, append_assoc}
use Prim.Native.Nat.{ℕ, ◌+◌, ◌*◌, ◌≤◌, ◌<◌}
use native.Mathlib.Omega.{arith}
use lib.ListN.{length, take, drop, set, length-append, length-map, length-set, length-drop, take-append-drop}
use lib.Seq.{length-take-le, drop_at, drop-drop, set-append_left}
use Rattle.lists.specs.Lists.{every}
use Rattle.lists.proofs.Bools.{and_both, and_left, and_right}
use Rattle.lists.proofs.Lists.{set_append_add}
use Rattle.slots.specs.Slots.{Slot, slot_width, is_whole, flat, slots, slot_at, written}
use Rattle.types.specs.Units.{units_in}
use Rattle.slots.specs.Runs.{written_from}
use Rattle.slots.proofs.StoreWords.{slot_inside, slots_inside, length_flat, length_slots, every_whole, slots_more, length_slot_at}
use Rattle.slots.proofs.SlotSplices.{written_from_none, written_next}
use Rattle.versioned_group_data.specs.Members.{marked}

-- a word of a slot replaced
set_written : (s : List ℕ) (k j w : ℕ) → k < units_in (length s) → j < slot_width → set s (slot_width * k + j) w ≡ written k (set (slot_at k s) j w) s
unfolding written slot_at
set_written s k j w h g =
    let inside : slot_width * k + slot_width ≤ length s = slot_inside k (length s) h in
    let a : List ℕ = take (slot_width * k) s in
    let z : List ℕ = drop (slot_width * (k + 1)) s in
    let u : Slot = take slot_width (drop (slot_width * k) s) in
    let next : slot_width * (k + 1) ≡ slot_width * k + slot_width = omega arith in
    let last : z ≡ drop slot_width (drop (slot_width * k) s) = ap (λ (n : ℕ). drop n s) next ∙ sym (drop-drop slot_width (slot_width * k) s) in
    let rest : u ++ z ≡ drop (slot_width * k) s = ap (λ (l : List ℕ). u ++ l) last ∙ take-append-drop slot_width (drop (slot_width * k) s) in
    let whole : a ++ (u ++ z) ≡ s = ap (λ (l : List ℕ). a ++ l) rest ∙ take-append-drop (slot_width * k) s in
    let size : length a ≡ slot_width * k = length-take-le (slot_width * k) s (omega arith) in
    let room : length u ≡ slot_width = length_slot_at k s inside in
    ap (λ (l : List ℕ). set l (slot_width * k + j) w) (sym whole)
    ∙ ap (λ (n : ℕ). set (a ++ (u ++ z)) (n + j) w) (sym size)
    ∙ set_append_add a (u ++ z) j w
    ∙ ap (λ (l : List ℕ). a ++ l) (set-append_left u z j w (omega arith))

-- what stands after slots that are written
drop_written_from : (i : ℕ) (us : List Slot) (s : List ℕ) → every is_whole us ≡ true → i ≤ units_in (length s) →
    drop (slot_width * (i + length us)) (written_from i us s) ≡ drop (slot_width * (i + length us)) s
unfolding written_from
drop_written_from i us s e h =
    let k : ℕ = slot_width * (i + length us) in
    let a : List ℕ = take (slot_width * i) s in
    let size : length (a ++ flat us) ≡ k =
    length-append a (flat us)
    ∙ rw (length-take-le (slot_width * i) s (slots_inside i (length s) h), length_flat us e) (omega arith)
    in
    ap (λ (l : List ℕ). drop k l) (sym (append_assoc a (flat us) (drop k s))) ∙ drop_at (a ++ flat us) (drop k s) k size

slot_at_drop : (i j : ℕ) (s : List ℕ) → slot_at j (drop (slot_width * i) s) ≡ slot_at (i + j) s
unfolding slot_at
slot_at_drop i j s =
    let n : slot_width * i + slot_width * j ≡ slot_width * (i + j) = omega arith in
    ap (λ (l : List ℕ). take slot_width l) (drop-drop (slot_width * j) (slot_width * i) s ∙ ap (λ (m : ℕ). drop m s) n)

every_marked : (us : List Slot) → every is_whole us ≡ true → every is_whole (map marked us) ≡ true
unfolding every is_whole marked
every_marked [] e = refl
every_marked (u ∷ us) e =
    and_both (is_whole (marked u)) (every is_whole (map marked us)) (rw (length-set u 5 1) (and_left (is_whole u) (every is_whole us) e))
    (every_marked us (and_right (is_whole u) (every is_whole us) e))

-- The first j of the slots from i on marked.
unfoldable pub marked_to : ℕ → ℕ → List ℕ → List ℕ
marked_to i j s = written_from i (map marked (slots j (drop (slot_width * i) s))) s

pub marked_none : (i : ℕ) (s : List ℕ) → s ≡ marked_to i 0 s
unfolding marked_to slots
marked_none i s = sym (written_from_none i s)

pub marked_all : (i j n : ℕ) (s after : List ℕ) → j ≡ n → after ≡ marked_to i j s → after ≡ written_from i (map marked (slots n (drop (slot_width * i) s))) s
unfolding marked_to
marked_all i j n s after e f = f ∙ ap (λ (m : ℕ). marked_to i m s) e

module _ (i j : ℕ) (s : List ℕ) (h : i + j < units_in (length s)) where
  abbrev before : List Slot
  before = map marked (slots j (drop (slot_width * i) s))

  length_before : length before ≡ j
  length_before = length-map (slots j (drop (slot_width * i) s)) marked ∙ length_slots j (drop (slot_width * i) s)

  whole_before : every is_whole before ≡ true
  whole_before =
      every_marked (slots j (drop (slot_width * i) s))
      (every_whole j (drop (slot_width * i) s) (omega (arith, length-drop (slot_width * i) s, slot_inside (i + j) (length s) h)))

  slot_after : slot_at (i + j) (written_from i before s) ≡ slot_at (i + j) s
  unfolding slot_at
  slot_after =
      let e : drop (slot_width * (i + j)) (written_from i before s) ≡ drop (slot_width * (i + j)) s =
      rw length_before at (drop_written_from i before s whole_before (omega arith))
      in
      ap (λ (l : List ℕ). take slot_width l) e

  before_more : before ++ (marked (slot_at (i + j) s) ∷ []) ≡ map marked (slots (j + 1) (drop (slot_width * i) s))
  before_more =
      ap (λ (u : Slot). before ++ (marked u ∷ [])) (sym (slot_at_drop i j s))
      ∙ sym
      (ap (map marked) (slots_more j (drop (slot_width * i) s))
      ∙ map-append marked (slots j (drop (slot_width * i) s)) (slot_at j (drop (slot_width * i) s) ∷ []))

  written_before : written (i + j) (marked (slot_at (i + j) s)) (written_from i before s) ≡ written_from i (before ++ (marked (slot_at (i + j) s) ∷ [])) s
  written_before = rw length_before at (written_next i before (marked (slot_at (i + j) s)) s whole_before (omega arith))

  -- one turn of the loop
  pub mark_turn : (now after : List ℕ) (w : ℕ) → now ≡ marked_to i j s → length now ≡ length s → w ≡ 1 → after ≡ set now (slot_width * (i + j) + 5) w → after ≡ marked_to i (j + 1) s
  unfolding marked_to marked
  mark_turn now after w e same one f =
      f
      ∙ ap (λ (x : ℕ). set now (slot_width * (i + j) + 5) x) one
      ∙ set_written now (i + j) 5 1 (rw same h) (omega arith)
      ∙ ap (λ (l : List ℕ). written (i + j) (set (slot_at (i + j) l) 5 1) l) e
      ∙ ap (λ (u : Slot). written (i + j) (set u 5 1) (written_from i before s)) slot_after
      ∙ written_before
      ∙ ap (λ (us : List Slot). written_from i us s) before_more
