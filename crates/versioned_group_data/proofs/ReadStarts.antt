-- A read starts where its bound stands: what it meets from there is what the model's reader sees.
-- Assumes nothing.
use mathlib.Core.Path.{◌≡◌, sym, ◌∙◌, ap, ap₂}
use mathlib.Core.Bool.{Bool, true, cond}
use mathlib.Core.List.{List, [], ◌∷◌}
use Prim.Native.Nat.{ℕ, suc}
use native.Mathlib.Omega.{arith}
use lib.ListN.{replicate}
use Rattle.types.specs.Response.{most_tags}
use Rattle.types.specs.Index.{shift, shifted_of, word_of}
use Rattle.types.specs.declared.index.ShiftedTxnIndex.{ShiftedTxnIndex}
use Rattle.types.specs.declared.output.MVGroupOutput.{MVGroupOutput}
use Rattle.types.specs.declared.output.MVGroupOutput.TheVariants.{Uninitialized}
use Rattle.slots.specs.Slots.{Slot, held, place_of}
use Rattle.model.specs.Rows.{down_from}
use Rattle.model.specs.Group.{has_base, latest, size_over, all_tags}
use Rattle.model.specs.Group as Rule
use Rattle.group_slots.specs.Layout.{groups_in, group_valid}
use Rattle.group_slots.specs.Found.{start_of}
use Rattle.versioned_group_data.specs.Output.{latest_output, size_output}
use Rattle.versioned_group_data.specs.Sizes.{Item, items, first_of, latest_of, start, tally, size_of}
use Rattle.versioned_group_data.specs.Down.{items_at}
use Rattle.versioned_group_data.specs.Seen.{meets_base, Readable}
use Rattle.group_slots.proofs.GroupHolding.{fine_valid, held_valid}
use Rattle.group_slots.proofs.GroupPlaces.{start_valid}
use Rattle.versioned_group_data.proofs.ReadDowns.{fine_down, items_down, base_down, readable_down}
use Rattle.versioned_group_data.proofs.ReadTallies.{latest_items, size_tally}

pub start_is : (s : List ℕ) → group_valid s ≡ true → (key index : ℕ) (bound : ShiftedTxnIndex) → bound ≡ shifted_of (shift index) → (w : ℕ) → w ≡ word_of bound →
    (i : ℕ) → i ≡ place_of (1 ∷ key ∷ w ∷ 0 ∷ []) (held s) → i ≡ start_of key (suc index) (groups_in s)
start_is s v key index bound e w q i p =
    let n : w ≡ suc index = omega (arith, ap word_of e) in
    p ∙ ap (λ (n : ℕ). place_of (1 ∷ key ∷ n ∷ 0 ∷ []) (held s)) n ∙ start_valid s v key (suc index)

module _ (s : List ℕ) (v : group_valid s ≡ true) (key index i : ℕ) (p : i ≡ start_of key (suc index) (groups_in s)) where
  pub start_readable : Readable key i (held s)
  start_readable = rw (p, held_valid s v) (readable_down key index (groups_in s) (fine_valid s v))

  items_is : items_at key i (held s) ≡ items (down_from key index (groups_in s).updates)
  items_is = ap₂ (λ (n : ℕ) (l : List Slot). items_at key n l) p (held_valid s v) ∙ items_down key index (groups_in s) (fine_valid s v)

  base_is : meets_base key i (held s) ≡ has_base (down_from key index (groups_in s).updates)
  base_is = ap₂ (λ (n : ℕ) (l : List Slot). meets_base key n l) p (held_valid s v) ∙ base_down key index (groups_in s) (fine_valid s v)

  pub fetch_read : (tag : ℕ) (o : MVGroupOutput) → o ≡ latest_output (meets_base key i (held s)) (latest_of (first_of tag (items_at key i (held s)))) →
      o ≡ latest_output (has_base (down_from key index (groups_in s).updates)) (latest tag (down_from key index (groups_in s).updates))
  fetch_read tag o f =
      f
      ∙ ap₂ latest_output base_is
      (ap (λ (l : List Item). latest_of (first_of tag l)) items_is
      ∙ sym (latest_items tag (down_from key index (groups_in s).updates) (fine_down key index (groups_in s) (fine_valid s v))))

  pub size_read : (o : MVGroupOutput) →
      o ≡ cond (meets_base key i (held s)) (size_output (size_of (tally (replicate most_tags 0) start (items_at key i (held s))))) Uninitialized →
      o ≡ cond (has_base (down_from key index (groups_in s).updates)) (size_output (size_over all_tags (down_from key index (groups_in s).updates))) Uninitialized
  size_read o f =
      f
      ∙ ap₂ (λ (b : Bool) (z : Rule.Size). cond b (size_output z) Uninitialized) base_is
      (ap (λ (l : List Item). size_of (tally (replicate most_tags 0) start l)) items_is
      ∙ sym (size_tally (down_from key index (groups_in s).updates) (fine_down key index (groups_in s) (fine_valid s v))))
