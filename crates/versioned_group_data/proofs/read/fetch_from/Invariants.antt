-- `versioned_group_data::read::fetch_from` meets its contract.
-- Assumes nothing.
use mathlib.Core.Path.{◌≡◌}
use mathlib.Core.Bool.{◌||◌}
use Rattle.slots.specs.Slots.{held}
use Rattle.versioned_group_data.specs.Sizes.{first_of}
use Rattle.versioned_group_data.specs.Down.{items_at}
use Rattle.versioned_group_data.specs.Seen.{meets_base, Readable}
use Rattle.versioned_group_data.proofs.read.fetch_from.Given as goal

abbrev pub invariant-loop-j : goal.invariant-loop-j
invariant-loop-j l =
    Readable l.key l.j (held l.s)
    × (meets_base l.key l.i (held l.s) ≡ (l.based || meets_base l.key l.j (held l.s)))
    × (first_of l.tag.number (items_at l.key l.i (held l.s)) ≡ first_of l.tag.number (items_at l.key l.j (held l.s)))
