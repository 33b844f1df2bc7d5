use mathlib.Core.Path.{ap, ◌∙◌}
use Rattle.types.specs.Value.{value_ok}
use Rattle.types.specs.ValueWithLayout.{words_of}
use Rattle.types.proofs.ValueLaws.{words_read}
use Rattle.types.proofs.value.value_ok.Goals as goal

pub returns : goal.returns
returns c =
    record {
      rule = c.ok.ensures.rule ∙ ap (λ v. value_ok (words_of v)) c.read.ensures.value ∙ ap value_ok
          (words_read _ _ (λ i. (c.type_inv.s i).fits) c.requires.inside);
    }
