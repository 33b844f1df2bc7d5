-- A slot that passes the scan's tests, word by word, is the slot of the update, the member or the committed value that is read from it.
-- Assumes nothing.
use mathlib.Core.Path.{◌≡◌, refl, ap}
use mathlib.Core.Bool.{Bool, true, false, cond, not, ◌&&◌}
use mathlib.Core.List.{List, [], ◌∷◌}
use Prim.Native.Nat.{ℕ, zero, suc, ◌-◌, ◌≤◌, ◌<◌, ◌^◌}
use native.Mathlib.Omega.{arith}
use lib.Dec.{leb, eqb}
use lib.ListN.{length, get_or, take, drop}
use lib.Seq.{length-take-le}
use borrow.Author.Tests.{leb-true, eqb-true, le-leb, eq-eqb, ne_eqb}
use Rattle.types.proofs.FlagLaws.{flag_word_lem, not_flag}
use Rattle.lists.specs.Lists.{every}
use Rattle.lists.proofs.Bools.{and_both, and_five, and_four, and_left, and_right, and_three}
use Rattle.number.specs.Words.{AreWords}
use Rattle.number.proofs.Digits.{words_take}
use Rattle.types.specs.Response.{most_tags}
use Rattle.types.specs.Value.{value_at, value_ok, is_exchanged, is_deletion}
use Rattle.moves.specs.Moves.{all_zero}
use Rattle.slots.specs.Slots.{Slot, slot_width, padded}
use Rattle.slots.proofs.ZeroWords.{zeros_after}
use Rattle.model.specs.Fine.{is_word, fine_value, fine_member, fine_committed}
use Rattle.model.proofs.FineParts.{word_tell, words_every}
use Rattle.group_slots.specs.Layout.{part_slot, member_slot, committed_slot, member_of, update_of, committed_of}
use Rattle.group_slots.specs.Tests.{base_test, head_test, member_test, part_test, committed_test, slot_test}

-- What the head of an update's slot gives its row.
unfoldable pub head_fine_lem : Slot → Bool
head_fine_lem u =
    is_word (get_or u 1 0) && is_word (get_or u 2 0) && is_word (get_or u 6 0)
    && cond (eqb (get_or u 2 0) 0) (eqb (get_or u 6 0) 0 && not (eqb (get_or u 5 0) 1)) true

-- What a slot that passes is.
pub data Part (u : Slot) : Type 0 where
  update : get_or u 0 0 ≡ 1 → get_or u 3 0 ≡ 0 → head_fine_lem u ≡ true → part_slot (update_of u []) 0 [] ≡ u → Part u
  member : get_or u 0 0 ≡ 1 → (tag : ℕ) → get_or u 3 0 ≡ suc tag → tag ≤ 63 → fine_member (get_or u 2 0) (member_of u) ≡ true →
      member_slot (update_of u []) (member_of u) ≡ u → Part u
  committed : get_or u 0 0 ≡ 2 → get_or u 3 0 ≡ 0 → fine_committed (committed_of u) ≡ true → committed_slot (committed_of u) ≡ u → Part u

-- A slot's seven head words, and the rest.
abbrev slot : ℕ → ℕ → ℕ → ℕ → ℕ → ℕ → ℕ → List ℕ → Slot
slot a b c d e f g ws = a ∷ b ∷ c ∷ d ∷ e ∷ f ∷ g ∷ ws

base_rule : (c f g : ℕ) → cond (eqb c 0) (eqb g 0 && eqb f 0) true ≡ true → cond (eqb c 0) (eqb g 0 && not (eqb f 1)) true ≡ true
base_rule c f g h = go (eqb c 0) refl
  where
    go : (q : Bool) → eqb c 0 ≡ q → cond (eqb c 0) (eqb g 0 && not (eqb f 1)) true ≡ true
    go true e =
        let k : (eqb g 0 && eqb f 0) ≡ true = rw e at h in
        rw e (and_both (eqb g 0) (not (eqb f 1)) (and_left (eqb g 0) (eqb f 0) k) (not_flag f (and_right (eqb g 0) (eqb f 0) k)))
    go false e = rw e

module _ (ws : List ℕ) (l : length ws ≡ 25) where
  value_whole : length (take 7 ws) ≡ 7
  value_whole = length-take-le 7 ws (omega arith)

  value_fine : AreWords ws → value_ok (take 7 ws) ≡ true → fine_value (take 7 ws) ≡ true
  unfolding fine_value
  value_fine w o =
      and_both (eqb (length (take 7 ws)) 7 && every is_word (take 7 ws)) (value_ok (take 7 ws))
      (and_both (eqb (length (take 7 ws)) 7) (every is_word (take 7 ws)) (eq-eqb (length (take 7 ws)) 7 value_whole) (words_every (take 7 ws) (words_take 7 ws w))) o

  module _ (b c d f g : ℕ) (small : f ≤ 1) where
    update_again : all_zero ws ≡ true → part_slot (update_of (slot 1 b c 0 0 f g ws) []) 0 [] ≡ slot 1 b c 0 0 f g ws
    unfolding part_slot update_of padded
    update_again z =
        rw (flag_word_lem f small) (ap (λ (x : List ℕ). slot 1 b c 0 0 f g x) (zeros_after 0 25 ws l z))

    member_again : all_zero (drop 7 ws) ≡ true →
        member_slot (update_of (slot 1 b c (suc d) 0 f g ws) []) (member_of (slot 1 b c (suc d) 0 f g ws)) ≡ slot 1 b c (suc d) 0 f g ws
    unfolding member_slot member_of part_slot update_of padded value_at
    member_again z =
        let t : suc d - 1 ≡ d = omega arith in
        rw (flag_word_lem f small, value_whole, t) (ap (λ (x : List ℕ). slot 1 b c (suc d) 0 f g x) (zeros_after 7 18 ws l z))

  committed_again : (b c : ℕ) → all_zero (drop 7 ws) ≡ true → committed_slot (committed_of (slot 2 b c 0 0 0 0 ws)) ≡ slot 2 b c 0 0 0 0 ws
  unfolding committed_slot committed_of padded value_at
  committed_again b c z = rw value_whole (ap (λ (x : List ℕ). slot 2 b c 0 0 0 0 x) (zeros_after 7 18 ws l z))

  module _ (b c f g : ℕ) (wb : b < 2 ^ 32) (wc : c < 2 ^ 32) (w : AreWords ws) where
    module _ (wg : g < 2 ^ 32) (small : f ≤ 1) (base : cond (eqb c 0) (eqb g 0 && eqb f 0) true ≡ true) where
      head_fine : (is_word b && is_word c && is_word g && cond (eqb c 0) (eqb g 0 && not (eqb f 1)) true) ≡ true
      head_fine =
          and_both (is_word b && is_word c && is_word g) (cond (eqb c 0) (eqb g 0 && not (eqb f 1)) true)
          (and_both (is_word b && is_word c) (is_word g) (and_both (is_word b) (is_word c) (word_tell b wb) (word_tell c wc)) (word_tell g wg))
          (base_rule c f g base)

      update_part : all_zero ws ≡ true → Part (slot 1 b c 0 0 f g ws)
      unfolding head_fine_lem
      update_part z = update refl refl head_fine (update_again b c 0 f g small z)

      member_part : (d : ℕ) → suc d ≤ most_tags → member_test (slot 1 b c (suc d) 0 f g ws) ≡ true → Part (slot 1 b c (suc d) 0 f g ws)
      unfolding member_test fine_member member_of value_at
      member_part d h t =
          let p = and_three (value_ok (take 7 ws)) (cond (eqb c 0) true (is_exchanged (take 7 ws))) (all_zero (drop 7 ws)) t in
          member refl d refl (omega arith)
          (and_both (fine_value (take 7 ws)) (cond (eqb c 0) true (is_exchanged (take 7 ws))) (value_fine w p.0) p.1)
          (member_again b c d f g small p.2)

    committed_part : c ≤ 63 → value_ok (take 7 ws) ≡ true → not (is_deletion (take 7 ws)) ≡ true → all_zero (drop 7 ws) ≡ true → Part (slot 2 b c 0 0 0 0 ws)
    unfolding fine_committed committed_of value_at
    committed_part h o n z =
        committed refl refl
        (and_both (is_word b && leb c 63 && fine_value (take 7 ws)) (not (is_deletion (take 7 ws)))
        (and_both (is_word b && leb c 63) (fine_value (take 7 ws)) (and_both (is_word b) (leb c 63) (word_tell b wb) (le-leb c 63 h)) (value_fine w o)) n)
        (committed_again b c z)

-- the slots of an update
module _ (b c f g : ℕ) (ws : List ℕ) (l : length ws ≡ 25) (wb : b < 2 ^ 32) (wc : c < 2 ^ 32) (wg : g < 2 ^ 32) (w : AreWords ws) where
  by_body : (d : ℕ) → d ≤ most_tags → f ≤ 1 → cond (eqb c 0) (eqb g 0 && eqb f 0) true ≡ true →
      cond (eqb d 0) (all_zero ws) (member_test (slot 1 b c d 0 f g ws)) ≡ true → Part (slot 1 b c d 0 f g ws)
  by_body zero h small base t = update_part ws l b c f g wb wc w wg small base t
  by_body (suc d) h small base t =
      let z : eqb (suc d) 0 ≡ false = ne_eqb (suc d) 0 (omega arith) in
      member_part ws l b c f g wb wc w wg small base d h (rw z at t)

  part_told : (d e : ℕ) → part_test (slot 1 b c d e f g ws) ≡ true → Part (slot 1 b c d e f g ws)
  unfolding part_test head_test base_test
  part_told d e t =
      let p = and_four (leb d most_tags) (eqb e 0) (leb f 1) (cond (eqb c 0) (eqb g 0 && eqb f 0) true)
      (and_left (head_test (slot 1 b c d e f g ws)) (cond (eqb d 0) (all_zero ws) (member_test (slot 1 b c d e f g ws))) t) in
      let q : cond (eqb d 0) (all_zero ws) (member_test (slot 1 b c d e f g ws)) ≡ true =
      and_right (head_test (slot 1 b c d e f g ws)) (cond (eqb d 0) (all_zero ws) (member_test (slot 1 b c d e f g ws))) t in
      let z : e ≡ 0 = eqb-true e 0 p.1 in
      rw z (by_body d (leb-true d most_tags p.0) (leb-true f 1 p.2) p.3 (rw z at q))

-- the slot of a committed value
committed_told : (b c d e f g : ℕ) (ws : List ℕ) → length ws ≡ 25 → b < 2 ^ 32 → c < 2 ^ 32 → AreWords ws →
    committed_test (slot 2 b c d e f g ws) ≡ true → Part (slot 2 b c d e f g ws)
unfolding committed_test value_at all_zero
committed_told b c d e f g ws l wb wc w t =
    let p = and_five (leb c 63) (eqb d 0 && (eqb e 0 && (eqb f 0 && (eqb g 0 && true)))) (value_ok (take 7 ws)) (not (is_deletion (take 7 ws))) (all_zero (drop 7 ws)) t in
    let dr = and_right (eqb d 0) (eqb e 0 && (eqb f 0 && (eqb g 0 && true))) p.1 in
    let er = and_right (eqb e 0) (eqb f 0 && (eqb g 0 && true)) dr in
    let fr = and_right (eqb f 0) (eqb g 0 && true) er in
    let zd : d ≡ 0 = eqb-true d 0 (and_left (eqb d 0) (eqb e 0 && (eqb f 0 && (eqb g 0 && true))) p.1) in
    let ze : e ≡ 0 = eqb-true e 0 (and_left (eqb e 0) (eqb f 0 && (eqb g 0 && true)) dr) in
    let zf : f ≡ 0 = eqb-true f 0 (and_left (eqb f 0) (eqb g 0 && true) er) in
    let zg : g ≡ 0 = eqb-true g 0 (and_left (eqb g 0) true fr) in
    rw (zd, ze, zf, zg) (committed_part ws l b c f g wb wc w (leb-true c 63 p.0) p.2 p.3 p.4)

shaped : (a b c d e f g : ℕ) (ws : List ℕ) → length ws ≡ 25 → AreWords (slot a b c d e f g ws) → slot_test (slot a b c d e f g ws) ≡ true → Part (slot a b c d e f g ws)
unfolding slot_test
shaped a b c d e f g ws l w t = go (eqb a 1) refl
  where
    rest : AreWords ws
    rest k = w (suc (suc (suc (suc (suc (suc (suc k)))))))

    go : (q : Bool) → eqb a 1 ≡ q → Part (slot a b c d e f g ws)
    go true h =
        let k : part_test (slot a b c d e f g ws) ≡ true = rw h at t in
        let one : a ≡ 1 = eqb-true a 1 h in
        rw one (part_told b c f g ws l (w 1) (w 2) (w 6) rest d e (rw one at k))
    go false h =
        let k : (eqb a 2 && committed_test (slot a b c d e f g ws)) ≡ true = rw h at t in
        let two : a ≡ 2 = eqb-true a 2 (and_left (eqb a 2) (committed_test (slot a b c d e f g ws)) k) in
        let m : committed_test (slot a b c d e f g ws) ≡ true = and_right (eqb a 2) (committed_test (slot a b c d e f g ws)) k in
        rw two (committed_told b c d e f g ws l (w 1) (w 2) rest (rw two at m))

pub part_of : (u : Slot) → length u ≡ slot_width → AreWords u → slot_test u ≡ true → Part u
part_of [] l w t = absurd (let z : ◌≡◌ {A = ℕ} 0 32 = l in omega arith)
part_of (a ∷ []) l w t = absurd (let z : ◌≡◌ {A = ℕ} 1 32 = l in omega arith)
part_of (a ∷ b ∷ []) l w t = absurd (let z : ◌≡◌ {A = ℕ} 2 32 = l in omega arith)
part_of (a ∷ b ∷ c ∷ []) l w t = absurd (let z : ◌≡◌ {A = ℕ} 3 32 = l in omega arith)
part_of (a ∷ b ∷ c ∷ d ∷ []) l w t = absurd (let z : ◌≡◌ {A = ℕ} 4 32 = l in omega arith)
part_of (a ∷ b ∷ c ∷ d ∷ e ∷ []) l w t = absurd (let z : ◌≡◌ {A = ℕ} 5 32 = l in omega arith)
part_of (a ∷ b ∷ c ∷ d ∷ e ∷ f ∷ []) l w t = absurd (let z : ◌≡◌ {A = ℕ} 6 32 = l in omega arith)
part_of (a ∷ b ∷ c ∷ d ∷ e ∷ f ∷ g ∷ ws) l w t = shaped a b c d e f g ws (omega arith) w t
