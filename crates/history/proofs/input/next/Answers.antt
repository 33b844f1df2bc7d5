use Rattle.history.proofs.InputRequests.{found_short, found_many, found_cut, found_request}
use Rattle.history.proofs.input.next.Goals as goal

pub returns-in-Some : goal.returns-in-Some
returns-in-Some c =
    let head = c.in-Some.ensures.words in
    let found = found_request c.args.b.now c.args.words.now c.in-Some.n head.0 head.1 c.if-n-le-LONGEST.true c.if-n-b.true c.load.new.words c.load.ensures.loaded in
    record { request = found.0; count = found.1 }

pub returns-in_default : goal.returns-in_default
returns-in_default c =
    let head = c.in-Some.ensures.words in
    let found = found_cut c.args.b.now c.args.words.now c.in-Some.n head.0 head.1 c.if-n-le-LONGEST.true c.if-n-b.false in
    record { request = found.0; count = found.1 }

pub returns-in_default-2 : goal.returns-in_default-2
returns-in_default-2 c =
    let head = c.in-Some.ensures.words in
    let found = found_many c.args.b.now c.args.words.now c.in-Some.n head.0 head.1 c.if-n-le-LONGEST.false in
    record { request = found.0; count = found.1 }

pub returns-in_default-3 : goal.returns-in_default-3
returns-in_default-3 c =
    let found = found_short c.args.b.now c.args.words.now c.in_default.ensures.cut in
    record { request = found.0; count = found.1 }
