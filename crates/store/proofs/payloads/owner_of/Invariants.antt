-- `store::payloads::owner_of` meets its contract: no cell before the one that is sought is passed over.
-- Assumes nothing.
use Rattle.std.specs.Prelude.{IfSome, ltb}
use Prim.Native.Nat.{◌-◌, ◌≤◌}
use Rattle.store.specs.Held.{position_or_end}
use Rattle.store.specs.Valid.{There}
use Rattle.store.proofs.Owning.{owner_at}
use Rattle.store.proofs.payloads.owner_of.Given as goal

abbrev pub invariant-loop-at : goal.invariant-loop-at
invariant-loop-at g l =
    IfSome l.at (λ p. There g.row.WIDTH l.n l.s p.page p.cell)
    × (position_or_end g.row.WIDTH l.n l.s l.at ≤ owner_at g.row.WIDTH (ltb 0 g.row.PARTS) l.n l.s l.l)

abbrev pub decreases-loop-at : goal.decreases-loop-at
decreases-loop-at g l =
    owner_at g.row.WIDTH (ltb 0 g.row.PARTS) l.n l.s l.l - position_or_end g.row.WIDTH l.n l.s l.at
