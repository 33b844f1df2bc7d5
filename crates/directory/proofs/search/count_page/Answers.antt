-- `directory::search::count_page` meets its contract.
-- Assumes nothing.
use native.Mathlib.Omega.{arith}
use Rattle.directory.proofs.Directories.{room_small, room_large}
use Rattle.directory.proofs.Finding.{asked_of, counted_of}
use Rattle.directory.proofs.search.count_page.Goals as goal

pub count-requires : goal.count-requires
count-requires c =
    let r = asked_of _ 32 _ _ (omega (arith, room_large _ c.if-n-gt64.true)) (c.requires.inside, c.requires.order) in
    record { inside = λ h. omega (arith, r.0); order = r.1 }

pub returns-then-n-gt64 : goal.returns-then-n-gt64
returns-then-n-gt64 c =
    record { count = counted_of _ _ _ _ _ _ (room_large _ c.if-n-gt64.true) c.count.ensures.count }

pub count-requires-2 : goal.count-requires-2
count-requires-2 c =
    let r = asked_of _ c.args.n _ _ (omega (arith, room_small _ c.if-n-gt64.false)) (c.requires.inside, c.requires.order) in
    record { inside = λ h. omega (arith, r.0); order = r.1 }

pub returns : goal.returns
returns c =
    record { count = counted_of _ _ _ _ _ _ (room_small _ c.if-n-gt64.false) c.count-2.ensures.count }
