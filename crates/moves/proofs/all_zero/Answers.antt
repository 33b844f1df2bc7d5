-- `moves::all_zero` meets its contract: what is read so far and the rest decide.
-- Assumes nothing.
use native.Mathlib.Omega.{arith}
use mathlib.Core.Path.{refl}
use Rattle.moves.proofs.Zeros.{zero_turn, zero_end}
use Rattle.moves.proofs.all_zero.Goals as goal

pub loop-i-preserved : goal.loop-i-preserved
loop-i-preserved c = zero_turn c.args.words.now c.loop-i.i c.loop-i.ok _ _ (omega arith) c.loop-i.invariant refl

pub returns : goal.returns
returns c = record { zero = zero_end c.args.words.now c.loop-i.i _ _ (omega arith) c.loop-i.invariant }
