-- `store::read::Rows::find_place` meets its contract: the search in the directory.
-- Assumes nothing.
use Rattle.store.proofs.Reading.{found_place}
use Rattle.store.specs.Held.{base_of}
use borrow.Author.Rules.{rules}
use Rattle.store.proofs.read.Rows.find_place.Goals as goal

pub overflow_mul-self : goal.overflow_mul-self
unfolding base_of
overflow_mul-self g c = search rules

pub overflow_add-self : goal.overflow_add-self
unfolding base_of
overflow_add-self g c = search rules

pub find_place-requires : goal.find_place-requires
unfolding base_of
find_place-requires g c =
    record { directory = c.args.self.valid.directory }

pub returns : goal.returns
unfolding base_of
returns g c =
    let r = found_place _ _ _ _ _ _ c.find_place.ensures.stands c.find_place.ensures.place in
    record { stands = r.0; place = r.1 }
