use Rattle.history.proofs.LineLaws.{digit_told}
use Rattle.history.proofs.output.digit.Goals as goal

pub returns : goal.returns
returns c = record { digit = digit_told _ c.requires.small }
