-- A valid store and what it holds are one.
-- Assumes nothing.
use mathlib.Core.Path.{◌≡◌, sym, ◌∙◌, ap}
use mathlib.Core.Bool.{true}
use mathlib.Core.List.{List, []}
use Prim.Native.Nat.{ℕ, ◌*◌, ◌≤◌}
use native.Mathlib.Omega.{arith}
use lib.ListN.{length, drop}
use Rattle.lists.specs.Lists.{every}
use Rattle.lists.proofs.Bools.{and_left, and_right}
use Rattle.slots.specs.Slots.{held, packed, same_words}
use Rattle.types.specs.Units.{units_in}
use Rattle.slots.proofs.StoreEncoding.{held_encode, packed_encode, length_encode, drop_encode_past, encode_encode, held_fits}
use Rattle.slots.proofs.ZeroWords.{same_words_lem, words_same}
use Rattle.model.specs.Rows.{rising}
use Rattle.model.specs.Fine.{fine_update, fine_updates, fine_committed, fine_group}
use Rattle.group_slots.specs.Layout.{Groups, Gathered, group_slots, gathered, groups_in, holding, fine_groups, group_valid, held_by}
use Rattle.group_slots.proofs.SlotParts.{fine_updates_lem, fine_committed_lem, fine_rising, fine_every, fine_committed_rising, fine_committed_every, slots_whole, slots_used, slots_ordered, length_group_slots}
use Rattle.group_slots.proofs.GatheredGroups.{gathered_group_slots, gathered_few}

-- A store that is made to hold fine updates and committed values holds them, and is valid.
module _ (s : List ℕ) (g : Groups) (f : fine_groups g ≡ true) (h : held_by g ≤ units_in (length s)) where
  few : length (group_slots g) ≤ units_in (length s)
  few = rw (length_group_slots g) h

  pub held_holding : held (holding s g) ≡ group_slots g
  unfolding holding
  held_holding = held_encode s (group_slots g) (slots_whole g f) few (slots_used g)

  pub groups_holding : groups_in (holding s g) ≡ g
  unfolding groups_in
  groups_holding =
      let e : gathered (held (holding s g)) ≡ record { waiting = []; updates = g.updates; committed = g.committed } =
      ap gathered held_holding ∙ gathered_group_slots g f
      in
      ap (λ (x : Gathered). record { updates = x.updates; committed = x.committed }) e

  pub length_holding : length (holding s g) ≡ length s
  unfolding holding
  length_holding = length_encode s (group_slots g) (slots_whole g f) few

  pub past_holding : drop (32 * units_in (length s)) (holding s g) ≡ drop (32 * units_in (length s)) s
  unfolding holding
  past_holding = drop_encode_past s (group_slots g) (slots_whole g f) few

  pub holding_again : (k : Groups) → holding (holding s g) k ≡ holding s k
  unfolding holding
  holding_again k = encode_encode s (group_slots g) (slots_whole g f) few (group_slots k)

  pub packed_holding : packed (holding s g) ≡ true
  unfolding holding
  packed_holding = packed_encode s (group_slots g) (slots_whole g f) few (slots_used g) ∙ slots_ordered g f

  pub valid_holding : group_valid (holding s g) ≡ true
  unfolding group_valid
  valid_holding = rw (groups_holding, holding_again g, words_same (holding s g)) f

-- A valid store is the one that holds what it holds.
module _ (s : List ℕ) (v : group_valid s ≡ true) where
  pub holding_groups : holding s (groups_in s) ≡ s
  unfolding group_valid
  holding_groups = same_words_lem (holding s (groups_in s)) s (and_left (same_words (holding s (groups_in s)) s) (fine_groups (groups_in s)) v)

  pub fine_valid : fine_groups (groups_in s) ≡ true
  unfolding group_valid
  fine_valid = and_right (same_words (holding s (groups_in s)) s) (fine_groups (groups_in s)) v

  pub updates_valid : fine_updates (groups_in s).updates ≡ true
  updates_valid = fine_updates_lem (groups_in s) fine_valid

  pub committed_valid : fine_group (groups_in s).committed ≡ true
  committed_valid = fine_committed_lem (groups_in s) fine_valid

  pub rising_valid : rising (groups_in s).updates ≡ true
  rising_valid = fine_rising (groups_in s) fine_valid

  pub every_valid : every fine_update (groups_in s).updates ≡ true
  every_valid = fine_every (groups_in s) fine_valid

  pub committed_rising_valid : rising (groups_in s).committed ≡ true
  committed_rising_valid = fine_committed_rising (groups_in s) fine_valid

  pub committed_every_valid : every fine_committed (groups_in s).committed ≡ true
  committed_every_valid = fine_committed_every (groups_in s) fine_valid

  pub few_valid : held_by (groups_in s) ≤ units_in (length s)
  unfolding groups_in held_by
  few_valid = omega (arith, gathered_few (held s), held_fits s)

  pub packed_valid : packed s ≡ true
  packed_valid = ap packed (sym holding_groups) ∙ packed_holding s (groups_in s) fine_valid few_valid

  pub held_valid : held s ≡ group_slots (groups_in s)
  held_valid = ap held (sym holding_groups) ∙ held_holding s (groups_in s) fine_valid few_valid

  pub length_held_valid : length (held s) ≡ held_by (groups_in s)
  length_held_valid = ap length held_valid ∙ length_group_slots (groups_in s)
