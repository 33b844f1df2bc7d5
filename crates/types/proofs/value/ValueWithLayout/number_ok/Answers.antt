use borrow.Author.Rules.{rules}
use mathlib.Core.Path.{sym, ◌∙◌}
use Rattle.types.proofs.ValueLaws.{number_zero, words_number}
use Rattle.types.proofs.value.ValueWithLayout.number_ok.Goals as goal

pub returns-else-has_number : goal.returns-else-has_number
returns-else-has_number c =
    record { rule = number_zero _ (sym c.has_number.ensures.number ∙ c.if-has_number.false) _ _ c.is_zero.ensures.zero (words_number _ (search rules)) }
