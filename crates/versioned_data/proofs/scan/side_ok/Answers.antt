-- `versioned_data::scan::side_ok` meets its contract.
-- Assumes nothing.
use mathlib.Core.Path.{◌∙◌}
use Rattle.versioned_data.proofs.ScanSteps.{side_above, side_first, side_base}
use Rattle.versioned_data.proofs.scan.side_ok.Goals as goal

pub returns-then-place-ne0 : goal.returns-then-place-ne0
returns-then-place-ne0 c =
    record { side = side_above c.args.s.now _ _ _ c.requires.inside c.if-place-ne0.true (λ i. (c.type_inv.s i).fits) _ c.read.ensures.value _ c.is_exchanged.ensures.exchanged }

pub returns-then-s-b-ne0 : goal.returns-then-s-b-ne0
returns-then-s-b-ne0 c =
    record { side = side_first c.args.s.now _ _ _ c.requires.inside c.if-place-ne0.false c.if-s-b-ne0.true }

pub returns : goal.returns
returns c =
    record { side = c.eq.ensures ∙ side_base c.args.s.now _ _ _ c.requires.inside c.if-place-ne0.false c.if-s-b-ne0.false }
