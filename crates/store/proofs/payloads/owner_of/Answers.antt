-- `store::payloads::owner_of` meets its contract: no cell before the one that is sought is passed over.
-- Assumes nothing.
use mathlib.Core.Path.{sym, ◌∙◌}
use native.Mathlib.Omega.{arith}
use Rattle.store.specs.Held.{position_or_end}
use Rattle.store.proofs.Owning.{owner_room, owner_begin, owner_again, owner_less, owner_end, near}
use Rattle.store.proofs.payloads.owner_of.Goals as goal

pub overflow_mul-l : goal.overflow_mul-l
overflow_mul-l g c = omega (arith, owner_room _ _ _ _ _ c.requires.valid c.requires.used, c.requires.valid.wide)

pub overflow_add-l : goal.overflow_add-l
overflow_add-l g c = omega (arith, owner_room _ _ _ _ _ c.requires.valid c.requires.used, c.requires.valid.wide)

pub pair-y-requires : goal.pair-y-requires
pair-y-requires g c =
    record { inside = omega (arith, owner_room _ _ _ _ _ c.requires.valid c.requires.used, c.requires.valid.wide) }

pub loop-at-init : goal.loop-at-init
loop-at-init g c = (
  c.cell_after-at.ensures.there,
  owner_begin _ _ _ _ _ c.requires.valid c.requires.used _ _ _ c.pair-y.ensures.spot (λ k. (c.type_inv.s k).fits) c.find_place.ensures.place
      c.cell_after-at.ensures.place,
)

pub loop-at-smaller : goal.loop-at-smaller
unfolding position_or_end
loop-at-smaller g c =
    rw c.in-Some.is
    (owner_less _ _ _ _ _ c.requires.valid c.requires.used _ _ _ c.requires.some (rw c.in-Some.is at c.loop-at.invariant.0) (near _ _ _ _ _ c.requires.valid c.requires.used _ _ c.in-Some.is c.loop-at.invariant.1) c.number_at.ensures.word
    c.if-number_at-l.false _ c.next-at.ensures.place)

pub loop-at-preserved : goal.loop-at-preserved
loop-at-preserved g c = (
  c.next-at.ensures.there,
  owner_again _ _ _ _ _ c.requires.valid c.requires.used _ _ _ c.requires.some (rw c.in-Some.is at c.loop-at.invariant.0) (near _ _ _ _ _ c.requires.valid c.requires.used _ _ c.in-Some.is c.loop-at.invariant.1) c.number_at.ensures.word c.if-number_at-l.false _
      c.next-at.ensures.place,
)

pub returns-then-number_at-l : goal.returns-then-number_at-l
returns-then-number_at-l g c =
    record { there = rw c.in-Some.is at c.loop-at.invariant.0; owns = sym c.number_at.ensures.word ∙ c.if-number_at-l.true }

pub unreachable-requires : goal.unreachable-requires
unreachable-requires g c = owner_end _ _ _ _ _ c.requires.valid c.requires.used c.requires.some _ c.in_default.is c.loop-at.invariant.1
