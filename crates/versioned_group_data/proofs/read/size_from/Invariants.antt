-- `versioned_group_data::read::size_from` meets its contract.
-- Assumes nothing.
use mathlib.Core.Path.{◌≡◌}
use mathlib.Core.Bool.{◌||◌}
use lib.ListN.{replicate}
use Rattle.types.specs.Response.{most_tags}
use Rattle.slots.specs.Slots.{held}
use Rattle.versioned_group_data.specs.Sizes.{start, tally, Bounded}
use Rattle.versioned_group_data.specs.Down.{items_at}
use Rattle.versioned_group_data.specs.Seen.{meets_base, Readable, tally_of}
use Rattle.versioned_group_data.proofs.read.size_from.Given as goal

abbrev pub invariant-loop-j : goal.invariant-loop-j
invariant-loop-j l =
    Readable l.key l.j (held l.s)
    × (meets_base l.key l.i (held l.s) ≡ (l.based || meets_base l.key l.j (held l.s)))
    × (tally (replicate most_tags 0) start (items_at l.key l.i (held l.s)) ≡ tally l.seen (tally_of l.t) (items_at l.key l.j (held l.s)))
    × Bounded l.seen (tally_of l.t)
