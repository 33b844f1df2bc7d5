-- `versioned_data::scan::delta_ok` meets its contract.
-- Assumes nothing.
use Rattle.versioned_data.proofs.MarksTold.{told, told_not, op_told}
use Rattle.versioned_data.proofs.ScanSteps.{delta_base, delta_bad, delta_rest, delta_fine}
use Rattle.versioned_data.proofs.scan.delta_ok.Goals as goal

pub returns-then-place-eq0 : goal.returns-then-place-eq0
returns-then-place-eq0 c =
    record { delta = delta_base c.args.s.now _ _ _ c.requires.inside c.if-place-eq0.true }

pub returns-then-not-is_valid : goal.returns-then-not-is_valid
returns-then-not-is_valid c =
    record { delta = delta_bad c.args.s.now _ _ _ c.requires.inside c.if-place-eq0.false _ (op_told c.args.s.now c.args.b _ _ _ c.read_op.ensures.op c.sign.ensures.sign) _ c.is_valid.ensures.valid (c.if-not-is_valid.true) }

pub returns-then-is_delta_alone : goal.returns-then-is_delta_alone
returns-then-is_delta_alone c =
    record { delta = delta_rest c.args.s.now _ _ _ c.requires.inside c.if-place-eq0.false _ (op_told c.args.s.now c.args.b _ _ _ c.read_op.ensures.op c.sign.ensures.sign) _ c.is_valid.ensures.valid (c.if-not-is_valid.false) (told _ _ _ c.is_delta_alone.ensures.alone c.if-is_delta_alone.true) _ c.all_zero.ensures.zero }

pub returns : goal.returns
returns c =
    record { delta = delta_fine c.args.s.now _ _ _ c.requires.inside c.if-place-eq0.false _ (op_told c.args.s.now c.args.b _ _ _ c.read_op.ensures.op c.sign.ensures.sign) _ c.is_valid.ensures.valid (c.if-not-is_valid.false) (told_not _ _ _ c.is_delta_alone.ensures.alone c.if-is_delta_alone.false) }
