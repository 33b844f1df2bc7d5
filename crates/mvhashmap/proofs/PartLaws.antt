-- The words of a request from a place on, handed on as a part.
-- Assumes nothing.
use mathlib.Core.Path.{◌≡◌, ap, ◌∙◌}
use mathlib.Core.List.{List}
use Prim.Native.Nat.{ℕ, ◌+◌, ◌-◌, ◌≤◌}
use native.Mathlib.Omega.{arith}
use lib.ListN.{length, take, drop, length-drop}
use Rattle.types.specs.Value.{value_at}
use Rattle.request.proofs.MemberViews.{rest_all}

pub value_part : (k : ℕ) (t : List ℕ) → value_at 0 (take (length t - k) (drop k t)) ≡ value_at k t
unfolding value_at
value_part k t = ap (λ (l : List ℕ). value_at 0 l) (rest_all k t)

pub part_inside : (k n : ℕ) (t : List ℕ) → k + n ≤ length t → n ≤ length (take (length t - k) (drop k t))
part_inside k n t h = omega (arith, h, ap length (rest_all k t) ∙ length-drop k t)
