use Rattle.types.proofs.ValueLaws.{value_read}
use Rattle.types.proofs.value.ValueWithLayout.read.Goals as goal

pub returns : goal.returns
returns c =
    record { value = value_read _ _ _ c.read-number.ensures.value }
