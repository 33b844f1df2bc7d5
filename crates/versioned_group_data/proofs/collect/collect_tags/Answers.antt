-- `versioned_group_data::collect::collect_tags` meets its contract: what is left decides.
-- Assumes nothing.
use native.Mathlib.Omega.{arith}
use mathlib.Core.Path.{refl}
use Prim.Native.Nat.{◌+◌}
use lib.ListN.{length}
use Rattle.slots.proofs.StoreWords.{slot_inside}
use Rattle.versioned_group_data.proofs.CollectedTurns.{few, bit_low, bit_fits, bit_again}
use Rattle.versioned_group_data.proofs.collect.collect_tags.Goals as goal

pub overflow_add-bits : goal.overflow_add-bits
overflow_add-bits c = record { fits = omega (arith, few _ _ c.loop-k.k _ c.requires.inside (omega arith), c.requires.within) }

pub overflow_mul-bits : goal.overflow_mul-bits
overflow_mul-bits c = record { fits = omega (arith, few _ _ c.loop-k.k _ c.requires.inside (omega arith), c.requires.within) }

pub overflow_add-bits-in-loop-k : goal.overflow_add-bits-in-loop-k
overflow_add-bits-in-loop-k c = record { fits = omega (arith, few _ _ c.loop-k.k _ c.requires.inside (omega arith), c.requires.within) }

pub offset_bounds-s-i : goal.offset_bounds-s-i
offset_bounds-s-i c = let h = slot_inside (c.args.i + c.loop-k.k) (length c.args.s.now) (omega arith) in omega (arith, h, few _ _ c.loop-k.k _ c.requires.inside (omega arith))

pub bounds-s-i : goal.bounds-s-i
bounds-s-i c = let h = slot_inside (c.args.i + c.loop-k.k) (length c.args.s.now) (omega arith) in omega (arith, h, few _ _ c.loop-k.k _ c.requires.inside (omega arith))

pub overflow_shl-bits : goal.overflow_shl-bits
overflow_shl-bits c =
    bit_low c.args.s.now c.args.i c.args.n c.args.j c.args.less c.loop-k.bits c.loop-k.k _ c.requires.within (omega arith) refl c.loop-k.invariant c.requires.fits

pub overflow_add-bits-in-loop-k-2 : goal.overflow_add-bits-in-loop-k-2
overflow_add-bits-in-loop-k-2 c =
    record { fits = bit_fits c.args.s.now c.args.i c.args.n c.args.j c.args.less c.loop-k.bits c.loop-k.k _ c.requires.within (omega arith) refl c.loop-k.invariant c.requires.fits }

pub loop-k-preserved : goal.loop-k-preserved
loop-k-preserved c =
    bit_again c.args.s.now c.args.i c.args.n c.args.j c.args.less c.loop-k.bits c.loop-k.k _ c.requires.within (omega arith) refl c.loop-k.invariant c.requires.fits
