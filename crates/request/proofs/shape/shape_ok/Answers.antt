use mathlib.Core.Path.{◌∙◌}
use native.Mathlib.Omega.{arith}
use borrow.Author.Tests.{ne_eqb}
use Rattle.request.proofs.Shapes.{count_lt, shape_short, whole, shape_count, shape_counted}
use Rattle.request.proofs.shape.shape_ok.Goals as goal

pub returns-then-t-head : goal.returns-then-t-head
returns-then-t-head c =
    record { rule = shape_short _ _ c.requires.head c.if-t-head.true }

pub overflow_add-head : goal.overflow_add-head
overflow_add-head c = record { fits = omega (arith, count_lt _ _ c.requires.head) }

pub count_ok-requires : goal.count_ok-requires
count_ok-requires c =
    record { head = c.requires.head; whole = whole _ _ c.requires.head c.if-t-head.false }

pub returns-then-t-head-2 : goal.returns-then-t-head-2
returns-then-t-head-2 c =
    record { rule = shape_counted _ _ c.requires.head c.if-t-head.false c.if-t-head-2.true _ c.count_ok.ensures.rule }

pub returns-else-t-head-2 : goal.returns-else-t-head-2
returns-else-t-head-2 c =
    let other = c.if-t-head-2.false in
    record { rule = ne_eqb _ _ other ∙ shape_count _ _ c.requires.head c.if-t-head.false other }
