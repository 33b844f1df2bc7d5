-- `store::read::Rows::cell_after` meets its contract.
-- Assumes nothing.
use Rattle.store.proofs.Reading.{found_after}
use Rattle.store.specs.Held.{base_of, position_of}
use Rattle.store.specs.Valid.{Stands}
use borrow.Author.Rules.{rules}
use Rattle.store.proofs.read.Rows.cell_after.Goals as goal

pub overflow_mul-self : goal.overflow_mul-self
unfolding base_of
overflow_mul-self g c = search rules

pub overflow_add-self : goal.overflow_add-self
unfolding base_of
overflow_add-self g c = search rules

pub cell_after-requires : goal.cell_after-requires
unfolding base_of Stands
cell_after-requires g c =
    record { directory = c.args.self.valid.directory; stands = c.requires.stands }

pub returns : goal.returns
unfolding base_of position_of
returns g c =
    let r = found_after _ _ _ _ _ c.cell_after.ensures.there c.cell_after.ensures.place c.cell_after.ensures.some in
    record { there = r.0; place = r.1.0; some = r.1.1 }
