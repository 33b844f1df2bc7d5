-- `versioned_data::walk::below_deltas` meets its contract.
-- Assumes nothing.
use mathlib.Core.Path.{sym, ap, ◌∙◌}
use Rattle.std.specs.Prelude.{Option, Ok}
use Rattle.number.specs.declared.Number.{Number}
use borrow.Author.Rules.{rules}
use Rattle.versioned_data.proofs.WalkAnswers.{below_layout, below_deleted, below_number, below_none}
use Rattle.versioned_data.proofs.walk.below_deltas.Goals as goal

pub returns-then-has_layout : goal.returns-then-has_layout
returns-then-has_layout c =
    record { below = below_layout _ _ _ _ (sym c.has_layout.ensures.layout ∙ c.if-has_layout.true) }

pub returns-in-Ok-None : goal.returns-in-Ok-None
returns-in-Ok-None c =
    record {
      below = below_deleted _ _ _ _ (sym c.has_layout.ensures.layout ∙ c.if-has_layout.false) _ c.as_u128.ensures.number (search rules)
          (c.in-Ok-None.is ∙ ap (λ (o : Option Number). Ok o) c.in-Ok-None.field-0-is);
    }

pub returns-in-Ok-Some : goal.returns-in-Ok-Some
returns-in-Ok-Some c =
    record {
      below = below_number _ _ _ _ (sym c.has_layout.ensures.layout ∙ c.if-has_layout.false) _ c.as_u128.ensures.number _ _
          (c.in-Ok-Some.is ∙ ap (λ (o : Option Number). Ok o) c.in-Ok-Some.field-0-is) c.onto.ensures.resolved;
    }

pub returns-in-Err : goal.returns-in-Err
returns-in-Err c =
    record { below = below_none _ _ _ _ (sym c.has_layout.ensures.layout ∙ c.if-has_layout.false) _ c.as_u128.ensures.number c.in-Err.is }
