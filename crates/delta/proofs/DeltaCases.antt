-- Worked cases, computed from the definitions.
-- Assumes nothing.
use mathlib.Core.Path.{◌≡◌, refl}
use mathlib.Core.Option.{none, some}
use Prim.Native.Nat.{ℕ}
use lib.IntN.{ℤ, pos, negsuc}
use Rattle.delta.specs.Delta.{Delta, apply_to, greater, joined, mergeable, merge, nothing, merged, failed, gathered, accumulate}

delta : ℕ → ℕ → ℕ → ℤ → Delta
delta m h l u = record { limit = m; high = h; low = l; update = u }

-- 01: "Write 100 at 0, delta +20 (M 150, H 20, L 0) at 1: read at 2 gives 120"
applies : apply_to (delta 150 20 0 (pos 20)) 100 ≡ some 120
unfolding delta apply_to
applies = refl

-- 01: "M 119: failure"
too_high : apply_to (delta 119 20 0 (pos 20)) 100 ≡ none
unfolding delta apply_to
too_high = refl

-- a limit is reached, and not passed
just_fits : apply_to (delta 120 20 0 (pos 20)) 100 ≡ some 120
unfolding delta apply_to
just_fits = refl

-- the depth is met on the way, though the end is above the start
too_deep : apply_to (delta 150 20 101 (pos 20)) 100 ≡ none
unfolding delta apply_to
too_deep = refl

-- +5 onto -20: the deepest and the end are the earlier's and the sum
merges : merge (delta 100 5 0 (pos 5)) (delta 100 0 20 (negsuc 19)) ≡ some (delta 100 0 20 (negsuc 14))
unfolding delta merge mergeable joined greater
merges = refl

-- deltas -20, +50 and +51 under a limit of 100, oldest first: a walk goes newest first and fails, though the other order would not
newest_first : accumulate (accumulate (accumulate nothing (delta 100 51 0 (pos 51))) (delta 100 50 0 (pos 50))) (delta 100 0 20 (negsuc 19)) ≡ failed
unfolding delta accumulate gathered merge mergeable joined greater
newest_first = refl

oldest_first : accumulate (merged (delta 100 51 0 (pos 51))) (delta 100 30 20 (pos 30)) ≡ merged (delta 100 81 20 (pos 81))
unfolding delta accumulate gathered merge mergeable joined greater
oldest_first = refl
