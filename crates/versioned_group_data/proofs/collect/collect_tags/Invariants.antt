-- `versioned_group_data::collect::collect_tags` meets its contract: what is left decides.
-- Assumes nothing.
use mathlib.Core.Path.{◌≡◌}
use Prim.Native.Nat.{◌+◌, ◌-◌, ◌*◌}
use lib.ListN.{drop}
use Rattle.slots.specs.Slots.{slot_width, slots}
use Rattle.versioned_group_data.specs.Collected.{tag_bits}
use Rattle.versioned_group_data.proofs.collect.collect_tags.Given as goal

abbrev pub invariant-loop-k : goal.invariant-loop-k
invariant-loop-k l =
    l.bits + tag_bits l.j l.less (slots (l.n - l.k) (drop (slot_width * (l.i + l.k)) l.s)) ≡ tag_bits l.j l.less (slots l.n (drop (slot_width * l.i) l.s))
