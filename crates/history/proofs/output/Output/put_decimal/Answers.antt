use Rattle.std.proofs.Common.{[], ◌∷◌, sym, subst}
use Rattle.history.specs.Writing.{Puts}
use Rattle.history.proofs.LineLaws.{decimal_low, decimal_high}
use Rattle.history.proofs.output.Output.put_decimal.Goals as goal
use Rattle.history.proofs.output.Output.put_decimal.Goals.{then-n-ge10, else-n-ge10}

pub returns : goal.returns
returns g c =
    let o = c.args.self.now in
    let r = c.push-2.new.self in
    record {
      puts = elim c.if-n-ge10.branch [
        | then-n-ge10 w ↦ decimal_high o c.if-n-ge10.self r c.args.n _ _ w.if-n-ge10.true w.digit.ensures.digit c.digit-2.ensures.digit
            (subst (λ p. Puts o p (w.digit.result ∷ [])) (sym w.self-is) w.push.ensures.puts) c.push-2.ensures.puts
        | else-n-ge10 w ↦ decimal_low o r c.args.n _ w.if-n-ge10.false c.digit-2.ensures.digit
            (subst (λ p. Puts p r (c.digit-2.result ∷ [])) w.self-is c.push-2.ensures.puts)
      ];
    }
