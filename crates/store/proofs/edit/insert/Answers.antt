-- `store::edit::insert` meets its contract.
-- Assumes nothing.
use mathlib.Core.Path.{refl}
use Rattle.store.specs.Held.{base_of}
use Rattle.store.proofs.Inserting.{open_few, open_room, put_requires, put_left}
use native.Mathlib.Omega.{arith}
use Rattle.store.proofs.edit.insert.Goals as goal

pub open_payload-requires : goal.open_payload-requires
open_payload-requires g c =
    record { low = omega arith; inside = omega (arith, open_room _ _ _ _ c.requires.valid c.requires.free, c.requires.valid.wide); small = omega (arith, open_few _ _ _ _ c.requires.valid c.requires.free) }

pub put_cell-requires : goal.put_cell-requires
unfolding base_of
put_cell-requires g c =
    let r = put_requires _ _ _ _ _ _ _ _ _ _ _ c.requires.valid c.requires.free (omega arith) c.requires.whole c.open_payload.ensures.opened _ _ c.requires.stands
    c.requires.order in
    record { directory = r.0; stands = r.1.0; free = r.1.1.0; order = r.1.1.1.0; few = r.1.1.1.1 }

pub returns : goal.returns
unfolding base_of
returns g c =
    let r = put_left _ _ _ _ _ _ _ _ _ _ _ c.requires.valid c.requires.free (omega arith) c.requires.whole c.open_payload.ensures.opened _ _
    c.requires.stands (refl, (refl, refl)) _ c.put_cell.ensures.put in
    record { left = r.0; content = r.1 }
