-- `store::read::Rows::is_row` meets its contract.
-- Assumes nothing.
use Rattle.store.proofs.Reading.{row_stands}
use Rattle.store.specs.Held.{base_of}
use Rattle.store.specs.Valid.{Stands}
use borrow.Author.Rules.{rules}
use Rattle.store.proofs.read.Rows.is_row.Goals as goal

pub overflow_mul-self : goal.overflow_mul-self
unfolding base_of
overflow_mul-self g c = search rules

pub overflow_add-self : goal.overflow_add-self
unfolding base_of
overflow_add-self g c = search rules

pub is_cell-requires : goal.is_cell-requires
unfolding base_of Stands
is_cell-requires g c =
    record { directory = c.args.self.valid.directory; stands = c.requires.stands }

pub returns : goal.returns
unfolding base_of
returns g c =
    record { row = c.is_cell.ensures.there; there = row_stands _ _ _ _ _ c.requires.stands _ c.is_cell.ensures.there }
