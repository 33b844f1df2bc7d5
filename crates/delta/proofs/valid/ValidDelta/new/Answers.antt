-- `delta::valid::ValidDelta::new` meets its contract.
-- Assumes nothing.
use Rattle.std.proofs.Common.{rules}
use Rattle.delta.specs.Record.{AllHalves}
use Rattle.delta.proofs.RecordLaws.{resigned, resigned_is}
use Rattle.delta.proofs.valid.ValidDelta.new.Goals as goal

pub invariant_of-result : goal.invariant_of-result
invariant_of-result c =
    let g : AllHalves c.args.op = search rules in
    rw (c.from-sign.ensures, c.sign_word.ensures.sign) (resigned_is c.args.op g c.requires.is_delta)

pub returns : goal.returns
returns c =
    record { same = rw (c.from-sign.ensures, c.sign_word.ensures.sign) (resigned c.args.op) }
