-- `versioned_group_data::read::fetch_from` meets its contract.
-- Assumes nothing.
use native.Mathlib.Omega.{arith}
use mathlib.Core.Path.{refl, sym, ◌∙◌}
use Prim.Native.Nat.{◌-◌}
use Rattle.versioned_group_data.proofs.ReadTurns.{slot_read, word_read, here_few, readable_on, based_on, fetch_found, fetch_on}
use Rattle.versioned_group_data.proofs.read.fetch_from.Goals as goal

pub returns-then-u-part : goal.returns-then-u-part
returns-then-u-part c =
    record {
      found = fetch_found _ _ _ _ _ c.loop-j.based c.loop-j.invariant.1 c.loop-j.invariant.2 (omega arith) c.loop-j.invariant.0 _ (word_read _ _ c.slots_of-slots.ensures.slots (c.loop-j.j - 1) (here_few _ _ _ (omega arith) c.loop-j.invariant.0) 1 (omega arith)) c.if-u-key.false _ (word_read _ _ c.slots_of-slots.ensures.slots (c.loop-j.j - 1) (here_few _ _ _ (omega arith) c.loop-j.invariant.0) 3 (omega arith))
          (c.if-u-part.true ∙ c.part.ensures.part) _ (rw (slot_read _ _ c.slots_of-slots.ensures.slots (c.loop-j.j - 1) (here_few _ _ _ (omega arith) c.loop-j.invariant.0)) at c.member_output.ensures.member);
    }

pub loop-j-preserved : goal.loop-j-preserved
loop-j-preserved c =
    let word = (word_read _ _ c.slots_of-slots.ensures.slots (c.loop-j.j - 1) (here_few _ _ _ (omega arith) c.loop-j.invariant.0) 1 (omega arith)) in (
      readable_on _ _ _ (omega arith) c.loop-j.invariant.0 _ word c.if-u-key.false,
      based_on _ _ _ (omega arith) c.loop-j.invariant.0 _ word c.if-u-key.false _ c.loop-j.based _ _ c.loop-j.invariant.1 (word_read _ _ c.slots_of-slots.ensures.slots (c.loop-j.j - 1) (here_few _ _ _ (omega arith) c.loop-j.invariant.0) 2 (omega arith)) refl,
      fetch_on _ _ _ _ _ c.loop-j.based c.loop-j.invariant.1 c.loop-j.invariant.2 (omega arith) c.loop-j.invariant.0 _ word c.if-u-key.false _ (word_read _ _ c.slots_of-slots.ensures.slots (c.loop-j.j - 1) (here_few _ _ _ (omega arith) c.loop-j.invariant.0) 3 (omega arith))
          (λ e. c.if-u-part.false (e ∙ sym c.part.ensures.part)),
    )
