-- `store::edit::erase_last` meets its contract.
-- Assumes nothing.
use Rattle.store.specs.Held.{base_of}
use Rattle.store.proofs.Taking.{last_end, take_last_requires, take_last}
use native.Mathlib.Omega.{arith}
use Rattle.store.proofs.edit.erase_last.Goals as goal

pub drop_payload-requires : goal.drop_payload-requires
drop_payload-requires g c =
    record { inside = last_end _ _ _ _ _ _ c.requires.valid c.requires.there _ c.requires.last; low = omega arith; some = omega (arith, c.requires.valid.wide) }

pub take_cell-requires : goal.take_cell-requires
unfolding base_of
take_cell-requires g c =
    let r = take_last_requires _ _ _ _ _ _ c.requires.valid c.requires.there _ c.requires.last c.requires.own _ c.drop_payload.ensures.dropped in
    record { directory = r.0; there = r.1 }

pub returns : goal.returns
unfolding base_of
returns g c =
    record {
      left = take_last _ _ _ _ _ _ c.requires.valid c.requires.there _ c.requires.last c.requires.own _ c.drop_payload.ensures.dropped _
          c.take_cell.ensures.taken;
    }
