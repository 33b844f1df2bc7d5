-- A cleared store is valid and holds nothing.
-- Assumes nothing.
use mathlib.Core.Path.{◌≡◌, refl, sym, ◌∙◌, ap}
use mathlib.Core.Bool.{true}
use mathlib.Core.List.{[]}
use Prim.Native.Nat.{ℕ}
use native.Mathlib.Omega.{arith}
use lib.ListN.{replicate}
use Rattle.lists.specs.Lists.{every}
use Rattle.slots.proofs.StoreEncoding.{encode_cleared, held_cleared}
use Rattle.model.specs.Rows.{rising}
use Rattle.model.specs.Model.{updates_held}
use Rattle.model.specs.Fine.{fine_updates, fine_group}
use Rattle.group_slots.specs.Layout.{Groups, updates_slots, group_slots, gathered, groups_in, holding, fine_groups, group_valid, held_by}
use Rattle.group_slots.proofs.GroupHolding.{valid_holding}

unfoldable pub no_groups : Groups
no_groups = record { updates = []; committed = [] }

pub holding_cleared : (n : ℕ) → holding (replicate n 0) no_groups ≡ replicate n 0
unfolding holding group_slots updates_slots no_groups
holding_cleared n = encode_cleared n

none_fine : fine_groups no_groups ≡ true
unfolding fine_groups fine_updates fine_group rising every no_groups
none_fine = refl

none_held : held_by no_groups ≡ 0
unfolding held_by updates_held no_groups
none_held = refl

pub groups_cleared : (n : ℕ) → groups_in (replicate n 0) ≡ no_groups
unfolding groups_in gathered no_groups
groups_cleared n = rw (held_cleared n)

pub valid_cleared : (n : ℕ) → group_valid (replicate n 0) ≡ true
valid_cleared n =
    ap group_valid (sym (holding_cleared n)) ∙ valid_holding (replicate n 0) no_groups none_fine (omega (arith, none_held))
