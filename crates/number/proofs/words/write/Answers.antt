-- `number::words::write` meets its contract.
-- Assumes nothing.
use Rattle.std.proofs.Common.{rules}
use Rattle.number.proofs.Digits.{number_put}
use Rattle.number.proofs.words.write.Goals as goal

pub returns : goal.returns
returns c =
    record { written = number_put _ _ _ _ _ (search rules) c.write_half.ensures.written c.write_half-2.ensures.written }
