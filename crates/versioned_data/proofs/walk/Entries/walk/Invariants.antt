-- `versioned_data::walk::Entries::walk` meets its contract.
-- Assumes nothing.
use Prim.Native.Nat.{◌-◌}
use Rattle.versioned_data.specs.Rows.{position_from}
use Rattle.versioned_data.proofs.WalkSteps.{Walking}
use Rattle.versioned_data.proofs.walk.Entries.walk.Given as goal

abbrev pub invariant-loop-i : goal.invariant-loop-i
invariant-loop-i l =
    Walking l.self.rows.units l.self.rows.words.now l.key (position_from l.self.rows.units l.self.rows.words.now l.fn.start) (l.rest - l._i) l.at l.acc
