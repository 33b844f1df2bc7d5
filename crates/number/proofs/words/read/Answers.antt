-- `number::words::read` meets its contract.
-- Assumes nothing.
use Rattle.number.proofs.Digits.{number_is}
use Rattle.number.proofs.words.read.Goals as goal

pub returns : goal.returns
returns c =
    record { value = number_is _ _ _ _ (λ i. (c.type_inv.s i).fits) c.requires.fits c.read_half-lo.ensures.value c.read_half-hi.ensures.value }
