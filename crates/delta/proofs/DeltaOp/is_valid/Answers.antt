-- `delta::DeltaOp::is_valid` meets its contract.
-- Assumes nothing.
use Rattle.std.proofs.Common.{sym}
use Rattle.number.proofs.Halves.{less}
use Rattle.delta.proofs.DeltaOps.{sign_bad, high_bad, low_bad}
use Rattle.delta.proofs.DeltaOp.is_valid.Goals.{then-self-gt1-via-then-self-gt1, then-self-gt1-via-else-self-gt1+then-lt, then-self-gt1-via-else-self-gt1+else-lt+then-lt-2}
use Rattle.delta.proofs.DeltaOp.is_valid.Goals as goal

pub returns-then-self-gt1 : goal.returns-then-self-gt1
returns-then-self-gt1 c =
    record {
      valid =
          elim c.then-self-gt1.branch [
            | then-self-gt1-via-then-self-gt1 w ↦ sym (sign_bad _ w.if-self-gt1.true)
            | then-self-gt1-via-else-self-gt1+then-lt w ↦ sym (high_bad _ (less _ _ w.if-lt.ensures))
            | then-self-gt1-via-else-self-gt1+else-lt+then-lt-2 w ↦ sym (low_bad _ (less _ _ w.if-lt-2.ensures))
          ];
    }
