use Rattle.types.specs.Value.{value_at}
use Rattle.types.proofs.ValueLaws.{read_words}
use Rattle.request.proofs.members.first_value.Goals as goal

pub returns : goal.returns
unfolding value_at
returns c =
    record { value = read_words _ 0 _ (λ i. (c.type_inv.words i).fits) c.requires.inside c.read.ensures.value }
