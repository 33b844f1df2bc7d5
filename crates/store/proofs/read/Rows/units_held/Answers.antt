-- `store::read::Rows::units_held` meets its contract.
-- Assumes nothing.
use mathlib.Core.Path.{sym, ◌∙◌}
use native.Mathlib.Omega.{arith}
use Rattle.store.proofs.Contents.{held_units}
use Rattle.store.proofs.read.Rows.units_held.Goals as goal

pub returns : goal.returns
returns g c =
    record { held = c.word.ensures.same ∙ sym (held_units _ _ _ _ (c.args.self.valid)); few = omega (arith, c.word.ensures.same, c.args.self.valid.units) }
