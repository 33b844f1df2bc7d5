use Rattle.history.proofs.InputDecided.{decided_few, decided_many, decided_few_words}
use Rattle.history.proofs.input.decided.Goals as goal

pub returns-then-n-gt-LONGEST : goal.returns-then-n-gt-LONGEST
returns-then-n-gt-LONGEST c =
    let head = c.in-Some.ensures.words in
    record { decided = decided_many c.args.b.now c.in-Some.n head.0 head.1 c.if-n-gt-LONGEST.true }

pub returns-else-n-gt-LONGEST : goal.returns-else-n-gt-LONGEST
returns-else-n-gt-LONGEST c =
    let head = c.in-Some.ensures.words in
    record { decided = decided_few_words c.args.b.now c.in-Some.n head.0 head.1 c.if-n-gt-LONGEST.false }

pub returns-in-None : goal.returns-in-None
returns-in-None c = record { decided = decided_few c.args.b.now c.in-None.ensures.cut }
