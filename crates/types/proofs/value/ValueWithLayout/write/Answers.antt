use Rattle.types.proofs.ValueLaws.{value_write}
use Rattle.types.proofs.value.ValueWithLayout.write.Goals as goal

pub returns : goal.returns
returns c =
    record { written = value_write _ _ _ _ c.write.ensures.written }
