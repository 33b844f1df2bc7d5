use borrow.Author.Rules.{rules}
use mathlib.Core.Path.{sym, ◌∙◌}
use Rattle.types.proofs.ValueLaws.{u128_value, number_field}
use Rattle.types.proofs.value.ValueWithLayout.as_u128.Goals as goal

pub returns-then-has_number : goal.returns-then-has_number
returns-then-has_number c =
    record {
      number = u128_value _ (sym c.is_deletion.ensures.deletion ∙ c.if-is_deletion.false)
          (sym c.has_number.ensures.number ∙ c.if-has_number.true) _ (number_field _ (search rules));
    }
