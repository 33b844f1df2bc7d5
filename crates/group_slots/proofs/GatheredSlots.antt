-- Slots that pass the scan's tests are those of what is gathered from them, and that is fine.
-- Assumes nothing.
use mathlib.Core.Path.{◌≡◌, refl, sym, ◌∙◌, ap₂, subst}
use mathlib.Core.Bool.{Bool, true, cond, not, ◌&&◌}
use mathlib.Core.Logic.{inl, inr}
use mathlib.Core.List.{List, [], ◌∷◌, ◌++◌, map, append_assoc}
use Prim.Native.Nat.{ℕ, suc, ◌-◌, ◌≤◌, ◌<◌}
use native.Mathlib.Omega.{arith}
use lib.Dec.{eqb}
use lib.ListN.{length, get_or}
use borrow.Author.Tests.{eqb-true, le-leb, eq-eqb, ne_eqb}
use Rattle.lists.specs.Lists.{every}
use Rattle.lists.proofs.Bools.{and_both, and_five, and_left, and_right}
use Rattle.lists.proofs.Lists.{every_imp}
use Rattle.slots.specs.Slots.{Slot, slot_width, is_whole, before, is_before, neighbours}
use Rattle.slots.proofs.StoreWords.{whole_length}
use Rattle.slots.proofs.SlotOrder.{Earlier, before_told}
use Rattle.slots.proofs.SlotCompares.{first_four}
use Rattle.model.specs.Rows.{Row, rising, is_above}
use Rattle.model.specs.Group.{Update}
use Rattle.model.specs.Fine.{is_word, rising_from, fine_member, fine_update, fine_updates, fine_committed, fine_group}
use Rattle.model.proofs.Rows.{Over, above_tell, above_above}
use Rattle.model.proofs.FineParts.{every_words}
use Rattle.group_slots.specs.Layout.{member_slot, part_slot, update_slots, updates_slots, committed_slot, Gathered, member_of, update_of, committed_of, with_member, with_update, with_committed, with_slot, gathered}
use Rattle.group_slots.specs.Tests.{slot_test, is_member, same_update, belongs, follows}
use Rattle.group_slots.proofs.SlotWords.{head_fine_lem, Part, update, member, committed, part_of}

-- ---- a slot and the one before it

-- why four words come before four others
pub data Comes (a b c d x y z t : ℕ) : Type 0 where
  first : a < x → Comes a b c d x y z t
  second : a ≡ x → b < y → Comes a b c d x y z t
  third : a ≡ x → b ≡ y → c < z → Comes a b c d x y z t
  fourth : a ≡ x → b ≡ y → c ≡ z → d < t → Comes a b c d x y z t

before_none : before [] [] ≡ true → ⊥
unfolding before
before_none e = let z : ◌≡◌ {A = ℕ} 0 1 = cc in omega arith

comes : (a b c d x y z t : ℕ) → before (a ∷ b ∷ c ∷ d ∷ []) (x ∷ y ∷ z ∷ t ∷ []) ≡ true → Comes a b c d x y z t
unfolding Earlier
comes a b c d x y z t e = by_first (before_told a x (b ∷ c ∷ d ∷ []) (y ∷ z ∷ t ∷ []) e)
  where
    by_fourth : a ≡ x → b ≡ y → c ≡ z → Earlier d t [] [] → Comes a b c d x y z t
    by_fourth e f g (inl h) = fourth e f g h
    by_fourth e f g (inr h) = absurd (before_none h.1)

    by_third : a ≡ x → b ≡ y → Earlier c z (d ∷ []) (t ∷ []) → Comes a b c d x y z t
    by_third e f (inl h) = third e f h
    by_third e f (inr h) = by_fourth e f h.0 (before_told d t [] [] h.1)

    by_second : a ≡ x → Earlier b y (c ∷ d ∷ []) (z ∷ t ∷ []) → Comes a b c d x y z t
    by_second e (inl h) = second e h
    by_second e (inr h) = by_third e h.0 (before_told c z (d ∷ []) (t ∷ []) h.1)

    by_first : Earlier a x (b ∷ c ∷ d ∷ []) (y ∷ z ∷ t ∷ []) → Comes a b c d x y z t
    by_first (inl h) = first h
    by_first (inr h) = by_second h.0 (before_told b y (c ∷ d ∷ []) (z ∷ t ∷ []) h.1)

abbrev SlotComes : Slot → Slot → Type 0
SlotComes u v = Comes (get_or u 0 0) (get_or u 1 0) (get_or u 2 0) (get_or u 3 0) (get_or v 0 0) (get_or v 1 0) (get_or v 2 0) (get_or v 3 0)

-- the facts of a slot that follows another
module _ (u v : Slot) (f : follows u v ≡ true) where
  follows_before : is_before u v ≡ true
  unfolding follows
  follows_before = and_left (is_before u v) (belongs u v) f

  follows_comes : 4 ≤ length u → 4 ≤ length v → SlotComes u v
  unfolding is_before
  follows_comes h g =
      comes (get_or u 0 0) (get_or u 1 0) (get_or u 2 0) (get_or u 3 0) (get_or v 0 0) (get_or v 1 0) (get_or v 2 0) (get_or v 3 0)
      (rw (first_four u h, first_four v g) at follows_before)

  module _ (h0 : get_or v 0 0 ≡ 1) (tag : ℕ) (h3 : get_or v 3 0 ≡ suc tag) where
    member_there : is_member v ≡ true
    unfolding is_member
    member_there = and_both (eqb (get_or v 0 0) 1) (not (eqb (get_or v 3 0) 0)) (eq-eqb (get_or v 0 0) 1 h0) (rw (ne_eqb (get_or v 3 0) 0 (omega arith)))

    follows_same : same_update u v ≡ true
    unfolding follows belongs
    follows_same =
        let g : cond (is_member v) (same_update u v) true ≡ true = and_right (is_before u v) (belongs u v) f in
        rw member_there at g

    same_told : (get_or u 0 0 ≡ 1) × (get_or u 1 0 ≡ get_or v 1 0) × (get_or u 2 0 ≡ get_or v 2 0) × (get_or u 5 0 ≡ get_or v 5 0) × (get_or u 6 0 ≡ get_or v 6 0)
    unfolding same_update
    same_told =
        let p = and_five (eqb (get_or u 0 0) 1) (eqb (get_or u 1 0) (get_or v 1 0)) (eqb (get_or u 2 0) (get_or v 2 0)) (eqb (get_or u 5 0) (get_or v 5 0)) (eqb (get_or u 6 0) (get_or v 6 0)) follows_same in
        (eqb-true (get_or u 0 0) 1 p.0, eqb-true (get_or u 1 0) (get_or v 1 0) p.1, eqb-true (get_or u 2 0) (get_or v 2 0) p.2, eqb-true (get_or u 5 0) (get_or v 5 0) p.3, eqb-true (get_or u 6 0) (get_or v 6 0) p.4)

-- what comes next has a greater part, or a greater key and place
comes_part : (a b c d x y z t : ℕ) → Comes a b c d x y z t → a ≡ x → b ≡ y → c ≡ z → d < t
comes_part a b c d x y z t (first h) e f g = absurd (omega arith)
comes_part a b c d x y z t (second h k) e f g = absurd (omega arith)
comes_part a b c d x y z t (third h k m) e f g = absurd (omega arith)
comes_part a b c d x y z t (fourth h k m n) e f g = n

comes_over : (a b c d x y z t : ℕ) → Comes a b c d x y z t → a ≡ x → t ≡ 0 → Over b c y z
comes_over a b c d x y z t (first h) e f = absurd (omega arith)
comes_over a b c d x y z t (second h k) e f = inl k
comes_over a b c d x y z t (third h k m) e f = inr (k, m)
comes_over a b c d x y z t (fourth h k m n) e f = absurd (omega arith)

comes_kind : (a b c d x y z t : ℕ) → Comes a b c d x y z t → a ≤ x
comes_kind a b c d x y z t (first h) = omega arith
comes_kind a b c d x y z t (second h k) = omega arith
comes_kind a b c d x y z t (third h k m) = omega arith
comes_kind a b c d x y z t (fourth h k m n) = omega arith

-- ---- what is gathered, slot by slot

module _ (v : Slot) (vs : List Slot) where
  pub gathered_member : get_or v 0 0 ≡ 1 → (tag : ℕ) → get_or v 3 0 ≡ suc tag → gathered (v ∷ vs) ≡ with_member v (gathered vs)
  unfolding gathered with_slot
  gathered_member h tag k = rw (ne_eqb (get_or v 0 0) 2 (omega arith), ne_eqb (get_or v 3 0) 0 (omega arith))

  pub gathered_update : get_or v 0 0 ≡ 1 → get_or v 3 0 ≡ 0 → gathered (v ∷ vs) ≡ with_update v (gathered vs)
  unfolding gathered with_slot
  gathered_update h k = rw (ne_eqb (get_or v 0 0) 2 (omega arith), eq-eqb (get_or v 3 0) 0 k)

  pub gathered_committed : get_or v 0 0 ≡ 2 → gathered (v ∷ vs) ≡ with_committed v (gathered vs)
  unfolding gathered with_slot
  gathered_committed h = rw (eq-eqb (get_or v 0 0) 2 h)

-- What is gathered from slots that pass after a slot `u`: they are its slots again, and it is fine.
pub record Regathers (u : Slot) (us : List Slot) (g : Gathered) : Type 0 where
  pub again : map (member_slot (update_of u [])) g.waiting ++ (updates_slots g.updates ++ map committed_slot g.committed) ≡ us
  pub tags : rising_from (get_or u 3 0) g.waiting ≡ true
  pub members : every (fine_member (get_or u 2 0)) g.waiting ≡ true
  pub alone : (get_or u 0 0 ≡ 1 → ⊥) → g.waiting ≡ []
  pub updates : fine_updates g.updates ≡ true
  pub above : get_or u 0 0 ≡ 1 → every (is_above (get_or u 1 0) (get_or u 2 0)) g.updates ≡ true
  pub last : get_or u 0 0 ≡ 2 → g.updates ≡ []
  pub committed : fine_group g.committed ≡ true
  pub over : get_or u 0 0 ≡ 2 → every (is_above (get_or u 1 0) (get_or u 2 0)) g.committed ≡ true

none_left : (u : Slot) → Regathers u [] (gathered [])
unfolding gathered updates_slots rising_from every fine_updates fine_group rising
none_left u =
    record {
      again = refl;
      tags = refl;
      members = refl;
      alone = λ h. refl;
      updates = refl;
      above = λ h. refl;
      last = λ h. refl;
      committed = refl;
      over = λ h. refl;
    }

module _ (u v : Slot) (vs : List Slot) (g : Gathered) (c : SlotComes u v) (r : Regathers v vs g) where
  one_not_two : {A : Type 0} → get_or u 0 0 ≡ 1 → get_or u 0 0 ≡ 2 → A
  one_not_two e f = absurd (omega arith)

  -- a member of the update before it
  module _ (h0 : get_or v 0 0 ≡ 1) (tag : ℕ) (h3 : get_or v 3 0 ≡ suc tag) (few : tag ≤ 63) (fine : fine_member (get_or v 2 0) (member_of v) ≡ true)
      (same : member_slot (update_of v []) (member_of v) ≡ v) (u0 : get_or u 0 0 ≡ 1) (u1 : get_or u 1 0 ≡ get_or v 1 0) (u2 : get_or u 2 0 ≡ get_or v 2 0)
      (u5 : get_or u 5 0 ≡ get_or v 5 0) (u6 : get_or u 6 0 ≡ get_or v 6 0) where
    one_update : update_of u [] ≡ update_of v []
    unfolding update_of
    one_update i = record { key = u1 i; place = u2 i; held = record { incarnation = u6 i; estimate = eqb (u5 i) 1; members = [] } }

    member_tags : rising_from (get_or u 3 0) (with_member v g).waiting ≡ true
    unfolding with_member member_of rising_from
    member_tags =
        let t : get_or v 3 0 - 1 ≡ tag = omega arith in
        let lower : get_or u 3 0 ≤ tag = omega (arith, comes_part _ _ _ _ _ _ _ _ c (u0 ∙ sym h0) u1 u2) in
        let rest : rising_from (suc tag) g.waiting ≡ true = rw h3 at r.tags in
        rw (t, le-leb (get_or u 3 0) tag lower, le-leb tag 63 few) rest

    with_member_lem : Regathers u (v ∷ vs) (with_member v g)
    unfolding with_member every
    with_member_lem =
        record {
          again = subst (λ (x : Row Update). map (member_slot x) (member_of v ∷ g.waiting) ++ (updates_slots g.updates ++ map committed_slot g.committed) ≡ v ∷ vs) (sym one_update) (ap₂ (λ (x : Slot) (l : List Slot). x ∷ l) same r.again);
          tags = member_tags;
          members = subst (λ (k : ℕ). every (fine_member k) (member_of v ∷ g.waiting) ≡ true) (sym u2) (and_both (fine_member (get_or v 2 0) (member_of v)) (every (fine_member (get_or v 2 0)) g.waiting) fine r.members);
          alone = λ n. absurd (n u0);
          updates = r.updates;
          above = λ h. rw (u1, u2) (r.above h0);
          last = λ h. one_not_two u0 h;
          committed = r.committed;
          over = λ h. one_not_two u0 h;
        }

  -- an update, with the members that wait for it
  module _ (h0 : get_or v 0 0 ≡ 1) (h3 : get_or v 3 0 ≡ 0) (fine : head_fine_lem v ≡ true) (same : part_slot (update_of v []) 0 [] ≡ v) where
    first_kind : {A : Type 0} → get_or u 0 0 ≡ 2 → A
    first_kind h = absurd (omega (arith, comes_kind _ _ _ _ _ _ _ _ c))

    update_again : (update_slots (update_of v g.waiting) ++ updates_slots g.updates) ++ map committed_slot g.committed ≡ v ∷ vs
    unfolding update_slots update_of member_slot part_slot
    update_again =
        ap₂ (λ (x : Slot) (l : List Slot). x ∷ l) same
        (append_assoc (map (member_slot (update_of v g.waiting)) g.waiting) (updates_slots g.updates) (map committed_slot g.committed)
        ∙ r.again)

    update_fine : fine_update (update_of v g.waiting) ≡ true
    unfolding fine_update head_fine_lem update_of
    update_fine =
        and_both (head_fine_lem v && rising_from 0 g.waiting) (every (fine_member (get_or v 2 0)) g.waiting)
        (and_both (head_fine_lem v) (rising_from 0 g.waiting) fine (rw h3 at r.tags)) r.members

    updates_fine : fine_updates (update_of v g.waiting ∷ g.updates) ≡ true
    unfolding fine_updates rising every update_of
    updates_fine =
        and_both (every (is_above (get_or v 1 0) (get_or v 2 0)) g.updates && rising g.updates) (fine_update (update_of v g.waiting) && every fine_update g.updates)
        (and_both (every (is_above (get_or v 1 0) (get_or v 2 0)) g.updates) (rising g.updates) (r.above h0)
        (and_left (rising g.updates) (every fine_update g.updates) r.updates))
        (and_both (fine_update (update_of v g.waiting)) (every fine_update g.updates) update_fine
        (and_right (rising g.updates) (every fine_update g.updates) r.updates))

    update_above : get_or u 0 0 ≡ 1 → is_above (get_or u 1 0) (get_or u 2 0) (update_of v g.waiting) ≡ true
    unfolding update_of
    update_above h = above_tell (get_or u 1 0) (get_or u 2 0) (update_of v g.waiting) (comes_over _ _ _ _ _ _ _ _ c (h ∙ sym h0) h3)

    updates_above : get_or u 0 0 ≡ 1 → every (is_above (get_or u 1 0) (get_or u 2 0)) (update_of v g.waiting ∷ g.updates) ≡ true
    unfolding every update_of
    updates_above h =
        and_both (is_above (get_or u 1 0) (get_or u 2 0) (update_of v g.waiting)) (every (is_above (get_or u 1 0) (get_or u 2 0)) g.updates) (update_above h)
        (every_imp (is_above (get_or v 1 0) (get_or v 2 0)) (is_above (get_or u 1 0) (get_or u 2 0))
        (λ q k. above_above (get_or u 1 0) (get_or u 2 0) (update_of v g.waiting) q (update_above h) k) g.updates (r.above h0))

    with_update_lem : Regathers u (v ∷ vs) (with_update v g)
    unfolding with_update every rising_from updates_slots
    with_update_lem =
        record {
          again = update_again;
          tags = refl;
          members = refl;
          alone = λ n. refl;
          updates = updates_fine;
          above = λ h. updates_above h;
          last = λ h. first_kind h;
          committed = r.committed;
          over = λ h. first_kind h;
        }

  -- a committed value: no member waits, and no update comes after it
  module _ (h0 : get_or v 0 0 ≡ 2) (h3 : get_or v 3 0 ≡ 0) (fine : fine_committed (committed_of v) ≡ true) (same : committed_slot (committed_of v) ≡ v) where
    none_waits : g.waiting ≡ []
    none_waits = r.alone (λ h. absurd (omega arith))

    no_updates : g.updates ≡ []
    no_updates = r.last h0

    rest_again : map committed_slot g.committed ≡ vs
    unfolding updates_slots
    rest_again = rw (none_waits, no_updates) at r.again

    committed_again : map (member_slot (update_of u [])) g.waiting ++ (updates_slots g.updates ++ (committed_slot (committed_of v) ∷ map committed_slot g.committed)) ≡ v ∷ vs
    unfolding updates_slots
    committed_again = rw (none_waits, no_updates) (ap₂ (λ (x : Slot) (l : List Slot). x ∷ l) same rest_again)

    committed_fine : fine_group (committed_of v ∷ g.committed) ≡ true
    unfolding fine_group rising every committed_of
    committed_fine =
        and_both (every (is_above (get_or v 1 0) (get_or v 2 0)) g.committed && rising g.committed) (fine_committed (committed_of v) && every fine_committed g.committed)
        (and_both (every (is_above (get_or v 1 0) (get_or v 2 0)) g.committed) (rising g.committed) (r.over h0)
        (and_left (rising g.committed) (every fine_committed g.committed) r.committed))
        (and_both (fine_committed (committed_of v)) (every fine_committed g.committed) fine
        (and_right (rising g.committed) (every fine_committed g.committed) r.committed))

    committed_above : get_or u 0 0 ≡ 2 → is_above (get_or u 1 0) (get_or u 2 0) (committed_of v) ≡ true
    unfolding committed_of
    committed_above h = above_tell (get_or u 1 0) (get_or u 2 0) (committed_of v) (comes_over _ _ _ _ _ _ _ _ c (h ∙ sym h0) h3)

    committed_over : get_or u 0 0 ≡ 2 → every (is_above (get_or u 1 0) (get_or u 2 0)) (committed_of v ∷ g.committed) ≡ true
    unfolding every committed_of
    committed_over h =
        and_both (is_above (get_or u 1 0) (get_or u 2 0) (committed_of v)) (every (is_above (get_or u 1 0) (get_or u 2 0)) g.committed) (committed_above h)
        (every_imp (is_above (get_or v 1 0) (get_or v 2 0)) (is_above (get_or u 1 0) (get_or u 2 0))
        (λ q k. above_above (get_or u 1 0) (get_or u 2 0) (committed_of v) q (committed_above h) k) g.committed (r.over h0))

    with_committed_lem : Regathers u (v ∷ vs) (with_committed v g)
    unfolding with_committed every rising_from
    with_committed_lem =
        record {
          again = committed_again;
          tags = rw none_waits;
          members = rw none_waits;
          alone = λ n. none_waits;
          updates = r.updates;
          above = λ h. rw no_updates;
          last = λ h. no_updates;
          committed = committed_fine;
          over = λ h. committed_over h;
        }

-- one slot more
by_part : (u v : Slot) (vs : List Slot) → 4 ≤ length u → 4 ≤ length v → follows u v ≡ true → Part v → Regathers v vs (gathered vs) → Regathers u (v ∷ vs) (gathered (v ∷ vs))
by_part u v vs l m f (update h0 h3 fine same) r =
    rw (gathered_update v vs h0 h3) (with_update_lem u v vs (gathered vs) (follows_comes u v f l m) r h0 h3 fine same)
by_part u v vs l m f (member h0 tag h3 few fine same) r =
    let s = same_told u v f h0 tag h3 in
    rw (gathered_member v vs h0 tag h3)
    (with_member_lem u v vs (gathered vs) (follows_comes u v f l m) r h0 tag h3 few fine same s.0 s.1 s.2 s.3 s.4)
by_part u v vs l m f (committed h0 h3 fine same) r =
    rw (gathered_committed v vs h0) (with_committed_lem u v vs (gathered vs) (follows_comes u v f l m) r h0 h3 fine same)

unfoldable pub are_words : Slot → Bool
are_words u = every is_word u

pub regathers : (us : List Slot) (u : Slot) → 4 ≤ length u → every is_whole us ≡ true → every are_words us ≡ true → every slot_test us ≡ true →
    neighbours follows (u ∷ us) ≡ true → Regathers u us (gathered us)
unfolding every neighbours are_words
regathers [] u l w a t n = none_left u
regathers (v ∷ vs) u l w a t n =
    let whole : length v ≡ slot_width = whole_length v (and_left (is_whole v) (every is_whole vs) w) in
    by_part u v vs l (omega arith) (and_left (follows u v) (neighbours follows (v ∷ vs)) n)
    (part_of v whole (every_words v (and_left (are_words v) (every are_words vs) a)) (and_left (slot_test v) (every slot_test vs) t))
    (regathers vs v (omega arith) (and_right (is_whole v) (every is_whole vs) w) (and_right (are_words v) (every are_words vs) a)
    (and_right (slot_test v) (every slot_test vs) t) (and_right (follows u v) (neighbours follows (v ∷ vs)) n))
