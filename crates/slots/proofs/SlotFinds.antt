-- What a search for a slot finds: laws of `is_there` and `found_at`, for a list of slots in the parts that a caller has.
-- Assumes nothing.
use mathlib.Core.Path.{◌≡◌, refl, sym, ◌∙◌, ap}
use mathlib.Core.Bool.{Bool, true, false, not, ◌||◌}
use mathlib.Core.List.{List, [], ◌∷◌, ◌++◌}
use Prim.Native.Nat.{ℕ, zero, suc, ◌+◌, ◌≤◌, ◌<◌}
use native.Mathlib.Omega.{arith}
use native.Mathlib.Decide.{dec_lt}
use lib.ListN.{length, get_or, take, length-append, get_or-eq_default}
use borrow.Author.Tests.{not-true, lt-ltb, le-leb, le-ltb, ne_eqb}
use Rattle.lists.specs.Lists.{every, front}
use Rattle.lists.proofs.Bools.{and_left, and_right, true_not_false}
use Rattle.lists.proofs.Lists.{every_append, every_imp, front_append}
use Rattle.slots.specs.Slots.{Slot, slots, slot_at, held, is_used, packed, before, is_before, same_words, is_at, ordered, place_of}
use Rattle.types.specs.Units.{units_in}
use Rattle.slots.specs.Found.{is_there, found_at, is_among}
use Rattle.std.proofs.Common.{Ok, Err}
use Rattle.slots.proofs.StoreWords.{slots_many, slots_are}
use Rattle.slots.proofs.StoreEncoding.{held_fits, packed_ordered}
use Rattle.slots.proofs.SlotOrder.{before_irrefl, before_asym, ordered_across}
use Rattle.slots.proofs.SlotPlaces.{place_fits, nothing_at, at_level, absent_all, slot_at_held, used_test}

module _ (k : List ℕ) where
  -- the place among slots in two parts
  pub place_append : (us vs : List Slot) → every (λ u. before (take 4 u) k) us ≡ true → place_of k (us ++ vs) ≡ length us + place_of k vs
  unfolding place_of
  place_append us vs e =
      ap length (front_append (λ u. before (take 4 u) k) us vs e) ∙ length-append us (front (λ u. before (take 4 u) k) vs)

  pub place_first : (u : Slot) (us : List Slot) → before (take 4 u) k ≡ false → place_of k (u ∷ us) ≡ 0
  unfolding place_of front
  place_first u us e = rw e

  pub place_none : (us : List Slot) → every (λ u. not (before (take 4 u) k)) us ≡ true → place_of k us ≡ 0
  unfolding place_of front every
  place_none [] e = refl
  place_none (u ∷ us) e =
      rw (not-true (before (take 4 u) k) (and_left (not (before (take 4 u) k)) (every (λ v. not (before (take 4 v) k)) us) e))

  pub place_between : (us vs : List Slot) → every (λ u. before (take 4 u) k) us ≡ true → every (λ v. not (before (take 4 v) k)) vs ≡ true → place_of k (us ++ vs) ≡ length us
  place_between us vs e f = place_append us vs e ∙ omega (arith, place_none vs f)

  -- whether a slot is there
  pub is_there_here : (us vs : List Slot) (u : Slot) → is_at k u ≡ true → is_there k (us ++ (u ∷ vs)) ≡ true
  unfolding is_there
  is_there_here [] vs u e = rw e
  is_there_here (v ∷ us) vs u e = go (is_at k v) (is_there_here us vs u e)
    where
      go : (b : Bool) → is_there k (us ++ (u ∷ vs)) ≡ true → (b || is_there k (us ++ (u ∷ vs))) ≡ true
      go true ih = refl
      go false ih = ih

  pub is_there_none : (us : List Slot) → every (λ u. not (is_at k u)) us ≡ true → is_there k us ≡ false
  unfolding is_there every
  is_there_none [] e = refl
  is_there_none (u ∷ us) e =
      rw (not-true (is_at k u) (and_left (not (is_at k u)) (every (λ v. not (is_at k v)) us) e))
      (is_there_none us (and_right (not (is_at k u)) (every (λ v. not (is_at k v)) us) e))

  is_there_at : (us : List Slot) (i : ℕ) → i < length us → is_at k (get_or us i []) ≡ true → is_there k us ≡ true
  unfolding is_there
  is_there_at [] i h e = absurd (omega arith)
  is_there_at (u ∷ us) zero h e = rw e
  is_there_at (u ∷ us) (suc i) h e = go (is_at k u) (is_there_at us i (omega arith) e)
    where
      go : (b : Bool) → is_there k us ≡ true → (b || is_there k us) ≡ true
      go true ih = refl
      go false ih = ih

  -- a slot that stands before the four words, or after them, does not stand at them
  not_at : (u : Slot) → (take 4 u ≡ k → before k k ≡ true) → not (is_at k u) ≡ true
  not_at u h = go (is_at k u) refl
    where
      go : (b : Bool) → is_at k u ≡ b → not (is_at k u) ≡ true
      go true f = true_not_false (before k k) (h (at_level k u f)) (before_irrefl k)
      go false f = rw f

  before_not_at : (u : Slot) → before (take 4 u) k ≡ true → not (is_at k u) ≡ true
  before_not_at u e = not_at u (λ f. rw f at e)

  after_not_at : (u : Slot) → before k (take 4 u) ≡ true → not (is_at k u) ≡ true
  after_not_at u e = not_at u (λ f. rw f at e)

  after_not_before : (u : Slot) → before k (take 4 u) ≡ true → not (before (take 4 u) k) ≡ true
  after_not_before u e = rw (before_asym k (take 4 u) e)

  -- what is found where a slot stands, and where none does
  pub found_there : (us vs : List Slot) (u : Slot) → ordered (us ++ (u ∷ vs)) ≡ true → is_at k u ≡ true → found_at k (us ++ (u ∷ vs)) ≡ Ok (length us)
  unfolding found_at is_before every
  found_there us vs u e f =
      let here : take 4 u ≡ k = at_level k u f in
      let first : every (λ w. before (take 4 w) k) us ≡ true =
      every_imp (λ w. every (is_before w) (u ∷ vs)) (λ w. before (take 4 w) k)
      (λ w g. rw here at (and_left (is_before w u) (every (is_before w) vs) g)) us (ordered_across us (u ∷ vs) e)
      in
      let place : place_of k (us ++ (u ∷ vs)) ≡ length us =
      place_append us (u ∷ vs) first ∙ omega (arith, place_first u vs (rw here (before_irrefl k)))
      in
      rw (is_there_here us vs u f, place)

  pub found_absent : (us vs : List Slot) → every (λ u. before (take 4 u) k) us ≡ true → every (λ v. before k (take 4 v)) vs ≡ true → found_at k (us ++ vs) ≡ Err (length us)
  unfolding found_at
  found_absent us vs e f =
      let none : every (λ u. not (is_at k u)) (us ++ vs) ≡ true =
      every_append (λ u. not (is_at k u)) us vs
      ∙ rw (every_imp (λ u. before (take 4 u) k) (λ u. not (is_at k u)) before_not_at us e, every_imp (λ v. before k (take 4 v)) (λ v. not (is_at k v)) after_not_at vs f)
      in
      rw (is_there_none (us ++ vs) none, place_between us vs e (every_imp (λ v. before k (take 4 v)) (λ v. not (before (take 4 v) k)) after_not_before vs f))

  pub absent_told : (us : List Slot) (i : ℕ) → Err i ≡ found_at k us → (is_there k us ≡ false) × (i ≡ place_of k us)
  unfolding found_at
  absent_told us i e = go (is_there k us) refl
    where
      go : (b : Bool) → is_there k us ≡ b → (is_there k us ≡ false) × (i ≡ place_of k us)
      go true f = absurd (let g : Err i ≡ Ok (place_of k us) = rw f at e in let z : ◌≡◌ {A = ℕ} 0 1 = cc in omega arith)
      go false f = (f, let g : Err i ≡ Err (place_of k us) = rw f at e in cc)

  -- among slots in order one is there exactly where the one at the place is
  module _ (us : List Slot) (rising : ordered us ≡ true) (four : length k ≡ 4) where
    at_lt : is_at k (get_or us (place_of k us) []) ≡ true → place_of k us < length us
    at_lt e = go (dec_lt (place_of k us) (length us))
      where
        go : Dec (place_of k us < length us) → place_of k us < length us
        go (yes h) = h
        go (no h) =
            true_not_false (is_at k (get_or us (place_of k us) [])) e
            (rw (get_or-eq_default us [] {n = place_of k us} (omega arith)) (nothing_at k four))

    pub is_there_place : is_there k us ≡ is_at k (get_or us (place_of k us) [])
    is_there_place = go (is_at k (get_or us (place_of k us) [])) refl
      where
        go : (b : Bool) → is_at k (get_or us (place_of k us) []) ≡ b → is_there k us ≡ is_at k (get_or us (place_of k us) [])
        go true e = is_there_at us (place_of k us) (at_lt e) e ∙ sym e
        go false e = is_there_none us (absent_all k us rising e) ∙ sym e

    pub there_lt : is_there k us ≡ true → place_of k us < length us
    there_lt e = at_lt (sym is_there_place ∙ e)

    -- what is found stands among the slots
    pub found_among : is_among (length us) (found_at k us) ≡ true
    unfolding found_at is_among
    found_among = go (is_there k us) refl
      where
        go : (b : Bool) → is_there k us ≡ b → is_among (length us) (found_at k us) ≡ true
        go true e = rw e (lt-ltb (place_of k us) (length us) (there_lt e))
        go false e = rw e (le-leb (place_of k us) (length us) (place_fits k us))

-- a slot that is not in use does not stand where the first word is not 0
unused_not_at : (a : ℕ) (ks : List ℕ) (u : Slot) → 0 < a → is_used u ≡ false → is_at (a ∷ ks) u ≡ false
unfolding is_at same_words is_used
unused_not_at a ks [] h e = refl
unused_not_at a ks (zero ∷ u) h e = rw (ne_eqb zero a (λ f. omega arith))
unused_not_at a ks (suc x ∷ u) h e = absurd (let z : ◌≡◌ {A = ℕ} 0 1 = cc (ne_eqb (suc x) 0 (λ f. omega arith)) in omega arith)

-- a search of a packed store that came to slot i
module _ (s : List ℕ) (rising : packed s ≡ true) (a b c d : ℕ) (inUse : 0 < a) (i : ℕ) (search : i ≡ place_of (a ∷ b ∷ c ∷ d ∷ []) (held s)) (us : List Slot) (all : us ≡ slots (units_in (length s)) s) where
  many : length us ≡ units_in (length s)
  many = slots_many s us all

  there_slot : is_there (a ∷ b ∷ c ∷ d ∷ []) (held s) ≡ is_at (a ∷ b ∷ c ∷ d ∷ []) (get_or (held s) i [])
  there_slot =
      is_there_place (a ∷ b ∷ c ∷ d ∷ []) (held s) (packed_ordered s rising) refl
      ∙ ap (λ (j : ℕ). is_at (a ∷ b ∷ c ∷ d ∷ []) (get_or (held s) j [])) (sym search)

  past_not_at : length (held s) ≤ i → is_at (a ∷ b ∷ c ∷ d ∷ []) (get_or (held s) i []) ≡ false
  past_not_at h = rw (get_or-eq_default (held s) [] {n = i} h) (nothing_at (a ∷ b ∷ c ∷ d ∷ []) refl)

  at_slot : i < units_in (length s) → is_at (a ∷ b ∷ c ∷ d ∷ []) (slot_at i s) ≡ is_there (a ∷ b ∷ c ∷ d ∷ []) (held s)
  at_slot h = go (dec_lt i (length (held s)))
    where
      go : Dec (i < length (held s)) → is_at (a ∷ b ∷ c ∷ d ∷ []) (slot_at i s) ≡ is_there (a ∷ b ∷ c ∷ d ∷ []) (held s)
      go (yes l) = rw (slot_at_held s rising i h l) (sym there_slot)
      go (no l) =
          unused_not_at a (b ∷ c ∷ d ∷ []) (slot_at i s) inUse (used_test s rising i h ∙ le-ltb i (length (held s)) (omega arith))
          ∙ sym (there_slot ∙ past_not_at (omega arith))

  pub find_full : length us ≤ i → Err i ≡ found_at (a ∷ b ∷ c ∷ d ∷ []) (held s)
  unfolding found_at
  find_full h =
      rw (there_slot ∙ past_not_at (omega (arith, held_fits s, many)), ← search)

  module _ (h : i < length us) (r : Bool) (e : r ≡ is_at (a ∷ b ∷ c ∷ d ∷ []) (get_or us i [])) where
    tells : is_there (a ∷ b ∷ c ∷ d ∷ []) (held s) ≡ r
    tells =
        sym (at_slot (omega (arith, many)))
        ∙ ap (is_at (a ∷ b ∷ c ∷ d ∷ [])) (sym (slots_are s us all i [] h))
        ∙ sym e

    pub find_there : r ≡ true → Ok i ≡ found_at (a ∷ b ∷ c ∷ d ∷ []) (held s)
    unfolding found_at
    find_there f =
        let e : is_there (a ∷ b ∷ c ∷ d ∷ []) (held s) ≡ true = tells ∙ f in
        rw (e, ← search)

    pub find_absent : r ≡ false → Err i ≡ found_at (a ∷ b ∷ c ∷ d ∷ []) (held s)
    unfolding found_at
    find_absent f =
        let e : is_there (a ∷ b ∷ c ∷ d ∷ []) (held s) ≡ false = tells ∙ f in
        rw (e, ← search)
