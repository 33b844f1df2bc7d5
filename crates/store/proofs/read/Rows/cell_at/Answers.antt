-- `store::read::Rows::cell_at` meets its contract.
-- Assumes nothing.
use mathlib.Core.Path.{refl}
use Rattle.store.proofs.Reading.{cell_room}
use Rattle.store.specs.Held.{base_of}
use native.Mathlib.Omega.{arith}
use Rattle.store.proofs.read.Rows.cell_at.Goals as goal

pub overflow_mul-result : goal.overflow_mul-result
unfolding base_of
overflow_mul-result g c =
    omega (arith, cell_room _ _ _ _ _ c.requires.there _ c.args.self.valid)

pub overflow_add-result : goal.overflow_add-result
unfolding base_of
overflow_add-result g c =
    omega (arith, cell_room _ _ _ _ _ c.requires.there _ c.args.self.valid)

pub overflow_mul-result-2 : goal.overflow_mul-result-2
unfolding base_of
overflow_mul-result-2 g c =
    omega (arith, cell_room _ _ _ _ _ c.requires.there _ c.args.self.valid)

pub overflow_add-result-2 : goal.overflow_add-result-2
unfolding base_of
overflow_add-result-2 g c =
    omega (arith, cell_room _ _ _ _ _ c.requires.there _ c.args.self.valid)

pub overflow_add-result-3 : goal.overflow_add-result-3
unfolding base_of
overflow_add-result-3 g c =
    omega (arith, cell_room _ _ _ _ _ c.requires.there _ c.args.self.valid)

pub overflow_mul-result-3 : goal.overflow_mul-result-3
unfolding base_of
overflow_mul-result-3 g c =
    omega (arith, cell_room _ _ _ _ _ c.requires.there _ c.args.self.valid)

pub overflow_add-result-4 : goal.overflow_add-result-4
unfolding base_of
overflow_add-result-4 g c =
    omega (arith, cell_room _ _ _ _ _ c.requires.there _ c.args.self.valid)

pub returns : goal.returns
unfolding base_of
returns g c =
    record { word = refl; inside = cell_room _ _ _ _ _ c.requires.there _ c.args.self.valid }
