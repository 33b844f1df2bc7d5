-- `slots::search::used` meets its contract.
-- Assumes nothing.
use Rattle.std.proofs.Common.{rules, ◌<◌, ℕ, length}
use Rattle.types.specs.Units.{units_in}
use Rattle.slots.specs.Slots.{is_used}
use Rattle.slots.proofs.StoreEncoding.{held_fits}
use Rattle.slots.proofs.SlotPlaces.{used_test, point_is}
use Rattle.slots.proofs.search.used.Goals as goal

pub returns : goal.returns
returns c =
    let s = c.args.s.now in
    let test = λ (i : ℕ) (h : i < units_in (length s)). used_test s c.requires.packed i h in
    record {
      used = point_is is_used s _ (held_fits s) test _ c.slots_of-slots.ensures.slots _ c.partition_point.ensures.within
          (λ h. let e = c.partition_point.ensures.last h in search rules) (λ h. let e = c.partition_point.ensures.first h in search rules);
    }
