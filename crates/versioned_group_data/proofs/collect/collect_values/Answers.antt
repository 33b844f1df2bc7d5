-- `versioned_group_data::collect::collect_values` meets its contract: after k turns, the values of k slots are in place.
-- Assumes nothing.
use borrow.Author.Rules.{rules}
use native.Mathlib.Omega.{arith}
use mathlib.Core.Path.{◌∙◌}
use Prim.Native.Nat.{◌+◌, ◌*◌}
use Rattle.types.specs.Value.{value_width}
use Rattle.slots.specs.Slots.{slot_width}
use lib.ListN.{length}
use Rattle.slots.proofs.StoreWords.{slot_inside}
use Rattle.versioned_group_data.proofs.CollectedTurns.{few, value_copied, values_again, values_all}
use Rattle.versioned_group_data.proofs.collect.collect_values.Goals as goal

pub overflow_add-from : goal.overflow_add-from
overflow_add-from c = record { fits = omega (arith, few _ _ c.loop-k.k _ c.requires.inside (omega arith)) }

pub overflow_mul-from : goal.overflow_mul-from
overflow_mul-from c = record { fits = omega (arith, few _ _ c.loop-k.k _ c.requires.inside (omega arith)) }

pub overflow_add-from-in-loop-k : goal.overflow_add-from-in-loop-k
overflow_add-from-in-loop-k c = record { fits = omega (arith, few _ _ c.loop-k.k _ c.requires.inside (omega arith)) }

pub overflow_add-from-in-loop-k-2 : goal.overflow_add-from-in-loop-k-2
overflow_add-from-in-loop-k-2 c = record { fits = omega (arith, few _ _ c.loop-k.k _ c.requires.inside (omega arith)) }

pub offset_bounds-s-from : goal.offset_bounds-s-from
offset_bounds-s-from c = let h = slot_inside (c.args.i + c.loop-k.k) (length c.args.s.now) (omega arith) in omega (arith, h, few _ _ c.loop-k.k _ c.requires.inside (omega arith))

pub slice_bounds-copy_from_slice-end-in-loop-k : goal.slice_bounds-copy_from_slice-end-in-loop-k
slice_bounds-copy_from_slice-end-in-loop-k c = let h = slot_inside (c.args.i + c.loop-k.k) (length c.args.s.now) (omega arith) in omega (arith, h, few _ _ c.loop-k.k _ c.requires.inside (omega arith))

pub loop-k-preserved : goal.loop-k-preserved
loop-k-preserved c =
    let h = slot_inside (c.args.i + c.loop-k.k) (length c.args.s.now) (omega arith) in
    (value_copied c.loop-k.out _ c.args.s.now (c.args.at + value_width * c.loop-k.k) (slot_width * (c.args.i + c.loop-k.k) + 7) (omega (arith, h)) c.copy_from_slice.ensures.after ∙ values_again _ _ _ _ _ _ c.loop-k.invariant.0 (omega arith) (omega arith), search rules)

pub returns : goal.returns
returns c =
    record { copied = values_all _ _ _ _ _ c.args.n _ c.loop-k.invariant.0 (omega arith) }
