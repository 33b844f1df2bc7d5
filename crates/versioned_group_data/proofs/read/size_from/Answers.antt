-- `versioned_group_data::read::size_from` meets its contract.
-- Assumes nothing.
use native.Mathlib.Omega.{arith}
use mathlib.Core.Path.{refl}
use Prim.Native.Nat.{◌-◌}
use Rattle.versioned_group_data.proofs.ReadTurns.{slot_read, word_read, here_few, fine_here, readable_on, based_on, size_end, size_on}
use Rattle.versioned_group_data.proofs.read.size_from.Goals as goal

pub returns-then-u-key : goal.returns-then-u-key
returns-then-u-key c =
    record { size = size_end _ _ _ _ c.loop-j.based c.loop-j.invariant.1 _ _ c.loop-j.invariant.2 (omega arith) c.loop-j.invariant.0 _ (word_read _ _ c.slots_of-slots.ensures.slots (c.loop-j.j - 1) (here_few _ _ _ (omega arith) c.loop-j.invariant.0) 1 (omega arith)) c.if-u-key.true _ c.size_output.ensures.size }

pub count_slot-t-requires : goal.count_slot-t-requires
count_slot-t-requires c =
    record { bounded = c.loop-j.invariant.3; fine = rw (slot_read _ _ c.slots_of-slots.ensures.slots (c.loop-j.j - 1) (here_few _ _ _ (omega arith) c.loop-j.invariant.0)) (fine_here _ _ _ (omega arith) c.loop-j.invariant.0 _ (word_read _ _ c.slots_of-slots.ensures.slots (c.loop-j.j - 1) (here_few _ _ _ (omega arith) c.loop-j.invariant.0) 1 (omega arith)) c.if-u-key.false) }

pub loop-j-preserved : goal.loop-j-preserved
loop-j-preserved c =
    let word = (word_read _ _ c.slots_of-slots.ensures.slots (c.loop-j.j - 1) (here_few _ _ _ (omega arith) c.loop-j.invariant.0) 1 (omega arith)) in
    let counted = rw (slot_read _ _ c.slots_of-slots.ensures.slots (c.loop-j.j - 1) (here_few _ _ _ (omega arith) c.loop-j.invariant.0)) at c.count_slot-t.ensures.counted in (
      readable_on _ _ _ (omega arith) c.loop-j.invariant.0 _ word c.if-u-key.false,
      based_on _ _ _ (omega arith) c.loop-j.invariant.0 _ word c.if-u-key.false _ c.loop-j.based _ _ c.loop-j.invariant.1 (word_read _ _ c.slots_of-slots.ensures.slots (c.loop-j.j - 1) (here_few _ _ _ (omega arith) c.loop-j.invariant.0) 2 (omega arith)) refl,
      size_on _ _ _ _ c.loop-j.based c.loop-j.invariant.1 _ _ c.loop-j.invariant.2 (omega arith) c.loop-j.invariant.0 _ word c.if-u-key.false _ _ counted,
      c.count_slot-t.ensures.counted.bounded,
    )
