-- `slots::search::lower_bound` meets its contract.
-- Assumes nothing.
use Rattle.std.proofs.Common.{rules, ◌&&◌, ◌≡◌, ◌≤◌, ◌<◌, ℕ, length, take, arith}
use Rattle.types.specs.Units.{units_in}
use Rattle.slots.specs.Slots.{Slot, is_used, held, before, place_of}
use Rattle.slots.specs.Place.{words_of}
use Rattle.slots.proofs.StoreEncoding.{held_fits}
use Rattle.slots.proofs.SlotPlaces.{place_fits, search_test, point_is}
use Rattle.slots.proofs.search.lower_bound.Goals as goal

pub returns : goal.returns
returns c =
    let k = words_of c.args.at in
    let s = c.args.s.now in
    let p = λ (u : Slot). is_used u && before (take 4 u) k in
    let fits : place_of k (held s) ≤ units_in (length s) = omega (arith, place_fits k (held s), held_fits s) in
    let test = λ (i : ℕ) (h : i < units_in (length s)). search_test s c.requires.packed i h k in
    let place : c.partition_point.result ≡ place_of k (held s) = point_is p s _ fits test _ c.slots_of-slots.ensures.slots _ c.partition_point.ensures.within
    (λ h. let e = c.partition_point.ensures.last h in search rules) (λ h. let e = c.partition_point.ensures.first h in search rules) in
    record { place = place; within = omega (arith, place_fits k (held s)) }
