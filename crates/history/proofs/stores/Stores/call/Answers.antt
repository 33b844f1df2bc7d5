use Rattle.std.proofs.Common.{rules}
use Rattle.types.specs.Refusal.{result_number}
use Rattle.mvhashmap.specs.Call.{lent}
use Rattle.mvhashmap.proofs.StoresSound.{calls_sound}
use Rattle.history.proofs.TurnCalls.{shows_few}
use Rattle.history.proofs.stores.Stores.call.Goals as goal

pub invariant_of-self : goal.invariant_of-self
invariant_of-self g c =
    let before = lent c.args.self.now.«data» c.args.self.now.group c.args.answer.now in
    let after = lent c.inner_call.new.«data» c.inner_call.new.group c.inner_call.new.out in
    record { valid = calls_sound c.args.request.now before (result_number c.inner_call.result) after c.inner_call.ensures.called c.args.self.now.valid }

pub returns : goal.returns
returns g c =
    let valid = c.args.self.now.valid in
    let before = lent c.args.self.now.«data» c.args.self.now.group c.args.answer.now in
    let called = c.inner_call.ensures.called in
    record {
      called = called;
      few = shows_few c.args.request.now before _ _ valid (search rules) called;
    }
