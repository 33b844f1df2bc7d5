use mathlib.Core.Path.{◌∙◌}
use borrow.Author.Tests.{ne_eqb}
use Rattle.request.specs.Table.{row, row_of, table}
use Rattle.request.specs.Fields.{asked_by, asked_as, rule_in}
use Rattle.request.proofs.DataRules.{data_raw, data_exchanged}
use Rattle.request.proofs.data.fields_ok.Goals as goal

pub returns-then-t-eq1 : goal.returns-then-t-eq1
unfolding asked_by asked_as rule_in row_of table row
returns-then-t-eq1 c =
    record { rule = rw c.in-Write.is (data_exchanged _ _ c.if-t-eq1.true _ c.value_ok-then-t-eq1.ensures.rule) }

pub returns-else-t-eq1 : goal.returns-else-t-eq1
unfolding asked_by asked_as rule_in row_of table row
returns-else-t-eq1 c =
    let raw = c.if-t-eq1.false in
    record { rule = rw c.in-Write.is (ne_eqb _ _ raw ∙ data_raw _ _ raw) }
