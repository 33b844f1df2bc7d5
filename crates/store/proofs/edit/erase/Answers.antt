-- `store::edit::erase` meets its contract: the cell that names the last payload is found by what that payload carries.
-- Assumes nothing.
use mathlib.Core.Path.{sym, ap, ◌∙◌}
use Prim.Native.Nat.{suc}
use Rattle.store.proofs.Taking.{one_held, other_less}
use native.Mathlib.Omega.{arith}
use Rattle.store.proofs.edit.erase.Goals as goal

pub overflow_sub-l : goal.overflow_sub-l
overflow_sub-l g c =
    omega (arith, one_held _ _ _ _ _ _ c.requires.valid c.requires.there)

pub erase_last-requires : goal.erase_last-requires
erase_last-requires g c =
    record { valid = c.requires.valid; there = c.requires.there; last = one_held _ _ _ _ _ _ c.requires.valid c.requires.there; own = sym c.number_at-q.ensures.word ∙ c.if-q-l.true }

pub owner_of-other-requires : goal.owner_of-other-requires
owner_of-other-requires g c =
    record {
      valid = c.requires.valid;
      used = omega (arith, one_held _ _ _ _ _ _ c.requires.valid c.requires.there);
      some = omega (arith, other_less _ _ _ _ _ _ c.requires.valid c.requires.there _ c.number_at-q.ensures.word c.if-q-l.false);
    }

pub erase_moved-requires : goal.erase_moved-requires
erase_moved-requires g c =
    record {
      valid = c.requires.valid;
      there = c.requires.there;
      among = c.owner_of-other.ensures.there;
      last = ap suc c.owner_of-other.ensures.owns ∙ one_held _ _ _ _ _ _ c.requires.valid c.requires.there;
      less = omega (arith, c.number_at-q.ensures.word, c.owner_of-other.ensures.owns, other_less _ _ _ _ _ _ c.requires.valid c.requires.there _ c.number_at-q.ensures.word c.if-q-l.false);
    }
