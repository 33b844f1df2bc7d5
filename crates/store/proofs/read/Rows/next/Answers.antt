-- `store::read::Rows::next` meets its contract.
-- Assumes nothing.
use Rattle.store.proofs.Reading.{found_after}
use Rattle.store.specs.Held.{base_of, position_of}
use Rattle.store.specs.Valid.{There, Stands}
use borrow.Author.Rules.{rules}
use Rattle.store.proofs.read.Rows.next.Goals as goal

pub overflow_mul-self : goal.overflow_mul-self
unfolding base_of
overflow_mul-self g c = search rules

pub overflow_add-self : goal.overflow_add-self
unfolding base_of
overflow_add-self g c = search rules

pub next-requires : goal.next-requires
unfolding base_of There
next-requires g c =
    record { directory = c.args.self.valid.directory; there = c.requires.there }

pub returns : goal.returns
unfolding base_of position_of Stands
returns g c =
    let r = found_after _ _ _ _ _ c.next.ensures.there c.next.ensures.place c.next.ensures.some in
    record { there = r.0; place = r.1.0; some = r.1.1; stands = c.next.ensures.stands; after = c.next.ensures.after }
