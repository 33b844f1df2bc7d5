-- `versioned_data::scan::write_ok` meets its contract.
-- Assumes nothing.
use Rattle.versioned_data.proofs.ScanSteps.{write_value_lem, write_side, write_rest}
use Rattle.versioned_data.proofs.scan.write_ok.Goals as goal

pub returns-then-not-value_ok : goal.returns-then-not-value_ok
returns-then-not-value_ok c =
    record { write = write_value_lem c.args.s.now _ _ _ c.requires.inside _ c.value_ok.ensures.rule (c.if-not-value_ok.true) }

pub returns-then-not-side_ok : goal.returns-then-not-side_ok
returns-then-not-side_ok c =
    record { write = write_side c.args.s.now _ _ _ c.requires.inside _ c.value_ok.ensures.rule (c.if-not-value_ok.false) _ c.side_ok.ensures.side (c.if-not-side_ok.true) }

pub returns : goal.returns
returns c =
    record { write = write_rest c.args.s.now _ _ _ c.requires.inside _ c.value_ok.ensures.rule (c.if-not-value_ok.false) _ c.side_ok.ensures.side (c.if-not-side_ok.false) _ c.all_zero.ensures.zero }
