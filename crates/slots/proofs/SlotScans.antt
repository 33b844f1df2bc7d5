-- Scans: zeros in slots, and the turns of a loop that tests each slot and each two neighbours.
-- Assumes nothing.
use mathlib.Core.Path.{◌≡◌, refl, sym, ◌∙◌, ap}
use mathlib.Core.Bool.{Bool, true, false, ◌&&◌}
use mathlib.Core.List.{List, [], ◌∷◌, ◌++◌}
use Prim.Native.Nat.{ℕ, zero, suc, ◌+◌, ◌-◌, ◌*◌, ◌≤◌, ◌<◌}
use native.Mathlib.Omega.{arith}
use native.Mathlib.Numerals.{add-one}
use lib.ListN.{length, take, drop}
use lib.Seq.{append_snoc}
use Rattle.lists.specs.Lists.{every}
use Rattle.lists.proofs.Bools.{and_both, and_left, and_right, and_swap, true_not_false}
use Rattle.lists.proofs.Lists.{every_append, every_at}
use Rattle.moves.specs.Moves.{all_zero}
use Rattle.slots.specs.Slots.{Slot, slot_width, slots, slot_at, is_used, held, neighbours, joined, is_zero_from, sound}
use Rattle.types.specs.Units.{units_in}
use Rattle.slots.proofs.StoreWords.{length_slots, slots_more}
use Rattle.slots.proofs.StoreEncoding.{held_at, held_slots, held_long, held_stop, held_fits}
use Rattle.slots.proofs.SlotOrder.{neighbours_at, neighbours_snoc}

pub zero_slots : (s : List ℕ) (n m : ℕ) (r : Bool) → m ≡ units_in (length s) → r ≡ all_zero (take (slot_width * m - slot_width * n) (drop (slot_width * n) s)) → r ≡ is_zero_from n s
unfolding is_zero_from
zero_slots s n m r e f =
    let g : slot_width * units_in (length s) - slot_width * n ≡ slot_width * (units_in (length s) - n) = omega arith in
    f ∙ rw (e, g)

slots_suc : (i : ℕ) (s : List ℕ) → slots (suc i) s ≡ slots i s ++ (slot_at i s ∷ [])
slots_suc i s = ap (λ (k : ℕ). slots k s) (sym (add-one i)) ∙ slots_more i s

slots_two : (i : ℕ) (s : List ℕ) → slots (suc i + 1) s ≡ slots i s ++ (slot_at i s ∷ slot_at (suc i) s ∷ [])
slots_two i s = slots_more (suc i) s ∙ rw (slots_suc i s) (append_snoc (slots i s) (slot_at i s) (slot_at (suc i) s ∷ []))

joined_held : (pair : Slot → Slot → Bool) (s : List ℕ) (i : ℕ) → i < length (held s) → neighbours pair (held s) ≡ true → joined pair i s ≡ true
unfolding joined
joined_held pair s zero h e = refl
joined_held pair s (suc i) h e =
    rw (← held_at s i (omega arith), ← held_at s (suc i) h, ← add-one i) (neighbours_at pair (held s) i e (omega arith))

-- a slot and the one before it, as the code tests them
pub joined_first : (q : Slot → Slot → Bool) (s : List ℕ) (i : ℕ) → i ≡ 0 → true ≡ joined q i s
unfolding joined
joined_first q s i e = rw e

pub joined_next : (q : Slot → Slot → Bool) (s : List ℕ) (i : ℕ) (r : Bool) → (i ≡ 0 → ⊥) → r ≡ q (slot_at (i - 1) s) (slot_at i s) → r ≡ joined q i s
unfolding joined
joined_next q s zero r h e = absurd (h refl)
joined_next q s (suc i) r h e =
    let f : suc i - 1 ≡ i = omega arith in
    e ∙ rw f

-- nothing is left after the last slot
zero_none : (s : List ℕ) (i : ℕ) → i ≡ units_in (length s) → is_zero_from i s ≡ true
unfolding is_zero_from all_zero
zero_none s i e =
    let f : slot_width * (units_in (length s) - i) ≡ 0 = omega arith in
    rw f

held_all : (s : List ℕ) (i : ℕ) → i ≡ units_in (length s) → every is_used (slots i s) ≡ true → held s ≡ slots i s
held_all s i e f =
    let h : length (held s) ≡ i = omega (arith, held_long s i (omega arith) f, held_fits s) in
    held_slots s ∙ ap (λ (k : ℕ). slots k s) h

-- What a scan knows after i slots: each is in use and passes its test, and neighbours pass theirs.
unfoldable pub passed : (Slot → Bool) → (Slot → Slot → Bool) → ℕ → List ℕ → Bool
passed ok pair i s = every is_used (slots i s) && (every ok (slots i s) && neighbours pair (slots i s))

module _ (ok : Slot → Bool) (pair : Slot → Slot → Bool) (s : List ℕ) where
  pub passed_none : passed ok pair 0 s ≡ true
  unfolding passed slots every neighbours
  passed_none = refl

  used_so_far : (i : ℕ) → passed ok pair i s ≡ true → every is_used (slots i s) ≡ true
  unfolding passed
  used_so_far i e = and_left (every is_used (slots i s)) (every ok (slots i s) && neighbours pair (slots i s)) e

  ok_so_far : (i : ℕ) → passed ok pair i s ≡ true → every ok (slots i s) ≡ true
  unfolding passed
  ok_so_far i e =
      and_left (every ok (slots i s)) (neighbours pair (slots i s))
      (and_right (every is_used (slots i s)) (every ok (slots i s) && neighbours pair (slots i s)) e)

  pairs_so_far : (i : ℕ) → passed ok pair i s ≡ true → neighbours pair (slots i s) ≡ true
  unfolding passed
  pairs_so_far i e =
      and_right (every ok (slots i s)) (neighbours pair (slots i s))
      (and_right (every is_used (slots i s)) (every ok (slots i s) && neighbours pair (slots i s)) e)

  every_more : (p : Slot → Bool) (i : ℕ) → every p (slots i s) ≡ true → p (slot_at i s) ≡ true → every p (slots (i + 1) s) ≡ true
  unfolding every
  every_more p i e f =
      rw (slots_more i s)
      (every_append p (slots i s) (slot_at i s ∷ []) ∙ and_both (every p (slots i s)) (p (slot_at i s) && true) e (and_both (p (slot_at i s)) true f refl))

  neighbours_one : neighbours pair (slots (zero + 1) s) ≡ true
  unfolding neighbours slots
  neighbours_one = refl

  neighbours_more : (i : ℕ) → neighbours pair (slots i s) ≡ true → joined pair i s ≡ true → neighbours pair (slots (i + 1) s) ≡ true
  unfolding joined
  neighbours_more zero e f = neighbours_one
  neighbours_more (suc i) e f =
      rw (slots_two i s)
      (neighbours_snoc pair (slots i s) (slot_at i s) (slot_at (suc i) s)
      ∙ and_both (neighbours pair (slots i s ++ (slot_at i s ∷ []))) (pair (slot_at i s) (slot_at (suc i) s)) (rw (slots_suc i s) at e) f)

  -- a turn that goes on
  pub passed_more : (i : ℕ) → passed ok pair i s ≡ true → is_used (slot_at i s) ≡ true → ok (slot_at i s) ≡ true → joined pair i s ≡ true → passed ok pair (i + 1) s ≡ true
  unfolding passed
  passed_more i e f g h =
      and_both (every is_used (slots (i + 1) s)) (every ok (slots (i + 1) s) && neighbours pair (slots (i + 1) s))
      (every_more is_used i (used_so_far i e) f)
      (and_both (every ok (slots (i + 1) s)) (neighbours pair (slots (i + 1) s)) (every_more ok i (ok_so_far i e) g)
      (neighbours_more i (pairs_so_far i e) h))

  -- the ways out of a scan
  pub scan_done : (i : ℕ) → passed ok pair i s ≡ true → i ≡ units_in (length s) → true ≡ sound ok pair s
  unfolding sound
  scan_done i e f =
      let h : held s ≡ slots i s = held_all s i f (used_so_far i e) in
      rw (h, length_slots i s, zero_none s i f, ok_so_far i e, pairs_so_far i e)

  module _ (i : ℕ) (h : i < units_in (length s)) (e : passed ok pair i s ≡ true) where
    pub scan_stop : is_used (slot_at i s) ≡ false → is_zero_from i s ≡ sound ok pair s
    unfolding sound
    scan_stop f =
        let g : held s ≡ slots i s = held_stop s i h (used_so_far i e) f in
        rw (g, length_slots i s, ok_so_far i e, pairs_so_far i e) (and_swap true (is_zero_from i s))

    module _ (f : is_used (slot_at i s) ≡ true) where
      one_more : i + 1 ≤ length (held s)
      one_more = held_long s (i + 1) (omega arith) (every_more is_used i (used_so_far i e) f)

      pub scan_not_ok : ok (slot_at i s) ≡ false → false ≡ sound ok pair s
      unfolding sound
      scan_not_ok g = go (sound ok pair s) refl
        where
          go : (b : Bool) → sound ok pair s ≡ b → false ≡ sound ok pair s
          go true k =
              true_not_false (ok (slot_at i s))
              (rw (← held_at s i (omega (arith, one_more)))
              (every_at ok (held s) i [] (omega (arith, one_more))
              (and_left (every ok (held s)) (neighbours pair (held s))
              (and_right (is_zero_from (length (held s)) s) (every ok (held s) && neighbours pair (held s)) k))))
              g
          go false k = sym k

      pub scan_not_joined : joined pair i s ≡ false → false ≡ sound ok pair s
      unfolding sound
      scan_not_joined g = go (sound ok pair s) refl
        where
          go : (b : Bool) → sound ok pair s ≡ b → false ≡ sound ok pair s
          go true k =
              true_not_false (joined pair i s)
              (joined_held pair s i (omega (arith, one_more))
              (and_right (every ok (held s)) (neighbours pair (held s))
              (and_right (is_zero_from (length (held s)) s) (every ok (held s) && neighbours pair (held s)) k)))
              g
          go false k = sym k

-- what a sound store is
module _ (ok : Slot → Bool) (pair : Slot → Slot → Bool) (s : List ℕ) where
  pub sound_zero : sound ok pair s ≡ true → is_zero_from (length (held s)) s ≡ true
  unfolding sound
  sound_zero e = and_left (is_zero_from (length (held s)) s) (every ok (held s) && neighbours pair (held s)) e

  pub sound_every : sound ok pair s ≡ true → every ok (held s) ≡ true
  unfolding sound
  sound_every e =
      and_left (every ok (held s)) (neighbours pair (held s))
      (and_right (is_zero_from (length (held s)) s) (every ok (held s) && neighbours pair (held s)) e)

  pub sound_neighbours : sound ok pair s ≡ true → neighbours pair (held s) ≡ true
  unfolding sound
  sound_neighbours e =
      and_right (every ok (held s)) (neighbours pair (held s))
      (and_right (is_zero_from (length (held s)) s) (every ok (held s) && neighbours pair (held s)) e)
