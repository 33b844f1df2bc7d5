-- `store::scan::is_named` meets its contract.
-- Assumes nothing.
use native.Mathlib.Omega.{arith}
use Prim.Native.Nat.{◌+◌, ◌*◌, ◌%◌, ◌≤◌}
use lib.ListN.{length}
use Rattle.store.proofs.ScanCells.{named_over, named_other, named_part, payload_inside}
use Rattle.store.proofs.scan.is_named.Given.{Over}
use Rattle.store.proofs.scan.is_named.Goals.{Else-word-q}
use Rattle.store.proofs.scan.is_named.Goals as goal

-- the payload lies within the words
there : (g : Over) (c : Else-word-q g) →
    6 + g.row.WIDTH * (c.word-w.result % 65536) + 3 ≤ length c.args.s.now
there g c =
    payload_inside _ _ _ _ _ c.if-word-q.false c.word.ensures.same c.requires.wide c.requires.payloads

pub returns-then-word-q : goal.returns-then-word-q
returns-then-word-q g c =
    record { named = named_over _ _ _ _ _ _ c.word.ensures.same c.word-w.ensures.same (omega (arith, c.if-word-q.true)) }

pub overflow_mul-p : goal.overflow_mul-p
overflow_mul-p g c = omega (arith, there g c)

pub overflow_add-p : goal.overflow_add-p
overflow_add-p g c = omega (arith, there g c)

pub pair-requires : goal.pair-requires
pair-requires g c =
    record { inside = omega (arith, there g c) }

pub returns-then-pair : goal.returns-then-pair
returns-then-pair g c =
    record {
      named = named_other _ _ _ _ _ _ c.word.ensures.same c.word-w.ensures.same
          c.if-word-q.false (λ i. (c.type_inv.s i).fits) _ _
          c.pair.ensures.spot c.pair-2.ensures.spot c.if-pair.true;
    }

pub carried_part-requires : goal.carried_part-requires
carried_part-requires g c =
    record { inside = omega (arith, there g (goal.at.carried_part-requires g c).Else-word-q) }

pub returns : goal.returns
returns g c =
    record {
      named = named_part _ _ _ _ _ _ c.word.ensures.same c.word-w.ensures.same
          c.if-word-q.false _ _ _ c.pair.ensures.spot c.pair-2.ensures.spot
          c.carried_part.ensures.part c.carried_part.ensures.small c.if-pair.false c.word-w.ensures.small;
    }
