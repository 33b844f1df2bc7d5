-- `store::scan::is_store` meets its contract.
-- Assumes nothing.
use native.Mathlib.Omega.{arith}
use borrow.Author.Rules.{rules}
use mathlib.Core.Path.{sym, ◌∙◌}
use lib.ListN.{length}
use Rattle.store.proofs.ScanStores.{units_inside, store_none, store_valid}
use Rattle.store.proofs.scan.is_store.Goals as goal

pub returns-then-n-eq0 : goal.returns-then-n-eq0
returns-then-n-eq0 g c =
    record { valid = store_none _ _ _ (sym c.units-n.ensures.units ∙ c.if-n-eq0.true) }

pub is_valid-requires : goal.is_valid-requires
is_valid-requires g c =
    let inside = units_inside (length c.args.s.now) in
    record { wide = search rules; narrow = search rules; some = omega (arith, c.if-n-eq0.false); size = omega arith }

pub returns : goal.returns
returns g c =
    record { valid = store_valid _ _ _ _ c.units-n.ensures.units c.if-n-eq0.false _ c.is_valid.ensures.valid }
