use mathlib.Core.Path.{◌∙◌}
use Rattle.types.proofs.ValueLaws.{bytes_same}
use Rattle.types.proofs.value.ValueWithLayout.same_bytes.Goals as goal

pub returns : goal.returns
returns c = record { same = c.eq.ensures ∙ bytes_same _ _ _ _ c.bytes_len.ensures.bytes c.bytes_len-2.ensures.bytes }
