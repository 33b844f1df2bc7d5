-- `mvhashmap::answer::put_bare` meets its contract.
-- Assumes nothing.
use mathlib.Core.Path.{ap}
use Prim.Native.Nat.{ℕ}
use lib.ListN.{set}
use Rattle.mvhashmap.proofs.AnswerPuts.{put_bare_lem}
use Rattle.mvhashmap.proofs.answer.put_bare.Goals as goal

pub returns : goal.returns
returns c = record { put = put_bare_lem _ _ _ c.requires.room (ap (λ (h : ℕ). set c.args.out.now 0 h) c.head.ensures.head) }
