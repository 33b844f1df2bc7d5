use native.Mathlib.Omega.{arith}
use Rattle.request.proofs.IndexRules.{no_index, index_test, index_few, index_inside}
use Rattle.request.proofs.index.index_ok.Goals as goal

pub offset_bounds-t-field : goal.offset_bounds-t-field
offset_bounds-t-field c = record { fits = omega (arith, index_few _ _ c.requires.row _ c.in-Some.is) }

pub bounds-t-field : goal.bounds-t-field
bounds-t-field c = index_inside _ _ c.requires.row _ c.in-Some.is c.requires.whole

pub returns-in-Some : goal.returns-in-Some
returns-in-Some c =
    record { served = index_test _ _ c.requires.row _ c.in-Some.is }

pub returns-in-None : goal.returns-in-None
returns-in-None c =
    record { served = no_index _ _ c.requires.row c.in-None.is }
