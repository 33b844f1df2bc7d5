-- The slots of an update as the code builds them, one after the other.
-- Assumes nothing.
use mathlib.Core.Path.{◌≡◌, refl, sym, ◌∙◌, ap}
use mathlib.Core.Bool.{true}
use mathlib.Core.List.{List, [], ◌∷◌, ◌++◌, map, append_assoc, append-nil}
use Prim.Native.Nat.{ℕ, suc, ◌+◌, ◌≤◌}
use native.Mathlib.Omega.{arith}
use lib.ListN.{length, replicate, length-append}
use lib.Seq.{sets}
use borrow.Author.Tests.{eqb-true}
use Rattle.lists.specs.Lists.{every}
use Rattle.lists.proofs.Bools.{and_both, and_left, and_right}
use Rattle.types.specs.Value.{value_width}
use Rattle.types.specs.ValueWithLayout.{words_of}
use Rattle.types.specs.declared.value.ValueWithLayout.{ValueWithLayout}
use Rattle.number.specs.Words.{digits}
use Rattle.request.specs.Set.{Member}
use Rattle.slots.specs.Slots.{Slot, is_whole, padded, written}
use Rattle.types.specs.Units.{units_in}
use Rattle.slots.specs.Runs.{written_from}
use Rattle.slots.proofs.SlotSplices.{written_from_none, written_one, written_next}
use Rattle.model.specs.Rows.{Row, row_at}
use Rattle.model.specs.Group.{Update}
use Rattle.types.specs.Flag.{flag_of}
use Rattle.group_slots.specs.Layout.{part_slot, member_slot, update_slots}
use Rattle.versioned_group_data.specs.Members.{done_update}
use Rattle.group_slots.proofs.SlotParts.{part_whole}
use Rattle.versioned_group_data.proofs.MembersHanded.{is_wide}

every_snoc : (us : List Slot) (u : Slot) → every is_whole us ≡ true → is_whole u ≡ true → every is_whole (us ++ (u ∷ [])) ≡ true
unfolding every
every_snoc [] u w h = rw h
every_snoc (v ∷ us) u w h =
    and_both (is_whole v) (every is_whole (us ++ (u ∷ []))) (and_left (is_whole v) (every is_whole us) w)
    (every_snoc us u (and_right (is_whole v) (every is_whole us) w) h)

-- one slot, as an array is filled
pub part_built : (k w p i part : ℕ) → w ≡ p → 1 ∷ k ∷ w ∷ part ∷ 0 ∷ 0 ∷ i ∷ replicate 25 0 ≡ part_slot (row_at k p (done_update i [])) part []
unfolding part_slot padded row_at done_update flag_of
part_built k w p i part e = ap (λ (x : ℕ). 1 ∷ k ∷ x ∷ part ∷ 0 ∷ 0 ∷ i ∷ replicate 25 0) e

pub member_built : (k p i part : ℕ) (v : ValueWithLayout) (u r : List ℕ) → u ≡ part_slot (row_at k p (done_update i [])) part [] → r ≡ sets u 7 (words_of v) →
    r ≡ part_slot (row_at k p (done_update i [])) part (words_of v)
unfolding part_slot padded row_at done_update flag_of words_of digits
member_built k p i part v u r e f = f ∙ ap (λ (l : List ℕ). sets l 7 (words_of v)) (e ∙ sym (part_built k p p i part refl))

-- What is left to write of an update: members, from slot j on.
unfoldable pub write_rest : Row Update → ℕ → List Member → List ℕ → List ℕ
write_rest x j [] s = s
write_rest x j (m ∷ ms) s = write_rest x (j + 1) ms (written j (member_slot x m) s)

module _ (x : Row Update) where
  -- one turn of the loop
  pub write_turn : (m : Member) (ms all : List Member) (j : ℕ) (s u after whole : List ℕ) → all ≡ m ∷ ms → u ≡ part_slot x (suc m.tag) m.value → after ≡ written j u s →
      write_rest x j all s ≡ whole → write_rest x (j + 1) ms after ≡ whole
  unfolding write_rest member_slot
  write_turn m ms all j s u after whole e b w h =
      ap (write_rest x (j + 1) ms) (w ∙ ap (λ (l : List ℕ). written j l s) b) ∙ sym (ap (λ (l : List Member). write_rest x j l s) e) ∙ h

  write_end : (ms : List Member) (j : ℕ) (s : List ℕ) → ms ≡ [] → write_rest x j ms s ≡ s
  unfolding write_rest
  write_end ms j s e = rw e

  -- the slots that it writes follow those that are there
  write_more : (ms : List Member) (at : ℕ) (us : List Slot) (s : List ℕ) → every is_wide ms ≡ true → every is_whole us ≡ true → at ≤ units_in (length s) →
      write_rest x (at + length us) ms (written_from at us s) ≡ written_from at (us ++ map (member_slot x) ms) s
  unfolding write_rest every is_wide
  write_more [] at us s w h l = ap (λ (y : List Slot). written_from at y s) (sym (append-nil us))
  write_more (m ∷ ms) at us s w h l =
      let u : Slot = member_slot x m in
      let size : length m.value ≡ value_width = eqb-true (length m.value) value_width (and_left (is_wide m) (every is_wide ms) w) in
      let whole : is_whole u ≡ true = member_whole m size in
      let n : at + length us + 1 ≡ at + length (us ++ (u ∷ [])) = omega (arith, length-append us (u ∷ [])) in
      ap (write_rest x (at + length us + 1) ms) (written_next at us u s h l)
      ∙ ap (λ (y : ℕ). write_rest x y ms (written_from at (us ++ (u ∷ [])) s)) n
      ∙ write_more ms at (us ++ (u ∷ [])) s (and_right (is_wide m) (every is_wide ms) w) (every_snoc us u h whole) l
      ∙ ap (λ (y : List Slot). written_from at y s) (append_assoc us (u ∷ []) (map (member_slot x) ms))
    where
      member_whole : (y : Member) → length y.value ≡ value_width → is_whole (member_slot x y) ≡ true
      member_whole y e = unfold member_slot in part_whole x (suc y.tag) y.value (omega arith)

  write_none : (ms : List Member) (at : ℕ) (s : List ℕ) → every is_wide ms ≡ true → at ≤ units_in (length s) → write_rest x at ms s ≡ written_from at (map (member_slot x) ms) s
  unfolding every
  write_none ms at s w h =
      let n : at ≡ at + 0 = omega arith in
      ap (λ (y : ℕ). write_rest x y ms s) n
      ∙ ap (write_rest x (at + 0) ms) (sym (written_from_none at s))
      ∙ write_more ms at [] s w refl h

  -- the loop's end
  pub members_built : (rest all : List Member) (j i : ℕ) (s d : List ℕ) → rest ≡ [] → every is_wide all ≡ true → i + length all ≤ units_in (length d) →
      write_rest x j rest s ≡ write_rest x i all d → s ≡ written_from i (map (member_slot x) all) d
  members_built rest all j i s d e w h inv = sym (write_end rest j s e) ∙ inv ∙ write_none all i d w (omega arith)

-- an update's slots: its own, then its members'
pub update_built : (k p i : ℕ) (ms : List Member) (j : ℕ) (s u mid after : List ℕ) → every is_wide ms ≡ true → u ≡ part_slot (row_at k p (done_update i [])) 0 [] → mid ≡ written j u s →
    length mid ≡ length s → j + suc (length ms) ≤ units_in (length s) → after ≡ written_from (j + 1) (map (member_slot (row_at k p (done_update i []))) ms) mid →
    after ≡ written_from j (update_slots (row_at k p (done_update i ms))) s
unfolding update_slots row_at done_update every is_whole part_slot member_slot
update_built k p i ms j s u mid after wide e w same h f =
    let x : Row Update = row_at k p (done_update i []) in
    let head : Slot = part_slot x 0 [] in
    f
    ∙ sym (write_none x ms (j + 1) mid wide (rw same (omega arith)))
    ∙ ap (write_rest x (j + 1) ms) (w ∙ ap (λ (y : List ℕ). written j y s) e ∙ written_one j head s)
    ∙ write_more x ms j (head ∷ []) s wide (and_both (is_whole head) true (part_whole x 0 [] (omega arith)) refl) (omega arith)
