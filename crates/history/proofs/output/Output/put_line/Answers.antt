use Rattle.std.proofs.Common.{ℕ, ◌≡◌, ◌+◌, ap, refl, sym}
use Rattle.types.specs.Refusal.{result_number}
use Rattle.history.proofs.LineLaws.{refused_put, answered_put}
use Rattle.history.proofs.RefusalNumbers.{refusal_two_digits}
use Rattle.history.proofs.output.Output.put_line.Goals as goal

pub returns-in-Ok : goal.returns-in-Ok
returns-in-Ok g c =
    let none : result_number c.args.called ≡ 0 = rw c.in-Ok.is refl in
    let count = ap (λ (m : ℕ). m + 1) c.count_in-n.ensures.count in
    record {
      puts = answered_put c.args.answer.now c.args.self.now c.put_answer.new.self (result_number c.args.called) _ none count c.put_answer.ensures.puts;
    }

pub returns-in-Err : goal.returns-in-Err
returns-in-Err g c =
    let number : result_number c.args.called ≡ c.from.result = rw c.in-Err.is (sym c.from.ensures) in
    record {
      puts = refused_put c.args.answer.now c.args.self.now c.put_refusal.new.self (result_number c.args.called)
          (rw c.in-Err.is (refusal_two_digits c.in-Err.refusal).some) (rw number c.put_refusal.ensures.puts);
    }
