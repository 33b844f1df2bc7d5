-- `mvhashmap::front::data::fetch_data` meets its contract.
-- Assumes nothing.
use mathlib.Core.Path.{refl}
use native.Mathlib.Omega.{arith}
use Rattle.mvhashmap.proofs.ServedData.{some_wrote, serves_write}
use Rattle.mvhashmap.proofs.AskedData.{words_inside, data_served, asks_fetch}
use Rattle.mvhashmap.proofs.front.data.fetch_data.Goals as goal

pub bounds-t-1 : goal.bounds-t-1
bounds-t-1 c = omega (arith, words_inside _ 6 c.requires.asked (omega arith) (omega arith))

pub bounds-t-2 : goal.bounds-t-2
bounds-t-2 c = omega (arith, words_inside _ 6 c.requires.asked (omega arith) (omega arith))

pub first_write-requires : goal.first_write-requires
first_write-requires c =
    record { store = c.requires.valid; served = data_served _ 6 c.requires.asked (omega arith) (omega arith) }

pub put_write-requires : goal.put_write-requires
put_write-requires c = record { inside = (some_wrote _ _ _ c.in-Some.is c.first_write.ensures.wrote).inside }

pub returns-in-Some : goal.returns-in-Some
returns-in-Some c =
    record { served = serves_write _ _ _ _ _ c.requires.valid _ _ (asks_fetch _ c.requires.asked) refl _ _ (some_wrote _ _ _ c.in-Some.is c.first_write.ensures.wrote) c.put_write.ensures.put }
