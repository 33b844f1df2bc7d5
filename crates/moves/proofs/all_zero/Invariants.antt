-- `moves::all_zero` meets its contract: what is read so far and the rest decide.
-- Assumes nothing.
use mathlib.Core.Path.{◌≡◌}
use mathlib.Core.Bool.{◌&&◌}
use lib.ListN.{drop}
use Rattle.moves.specs.Moves.{all_zero}
use Rattle.moves.proofs.all_zero.Given as goal

abbrev pub invariant-loop-i : goal.invariant-loop-i
invariant-loop-i l = (l.ok && all_zero (drop l.i l.words)) ≡ all_zero l.words
