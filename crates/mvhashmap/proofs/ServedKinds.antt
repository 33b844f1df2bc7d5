-- The kind that was found: what was asked is asked by it, and the last of the kinds that are seldom asked for.
-- Assumes nothing.
use mathlib.Core.Path.{◌≡◌, refl, subst}
use mathlib.Core.List.{List}
use Prim.Native.Nat.{ℕ, ◌≤◌}
use native.Mathlib.Omega.{arith}
use Rattle.request.specs.Table.{number_of}
use Rattle.request.specs.declared.kind.Kind.{Kind}
use Rattle.request.specs.declared.kind.Kind.TheVariants.{LastCommitted, Base, Write, AddDelta, Estimate, Remove, Fetch, Materialize, GroupBase, Exchange, GroupWrite, GroupEstimate, GroupRemove, GroupFetch, GroupSize, Finalize}
use Rattle.mvhashmap.specs.Served.{DataAsked}

pub asked_as : (t : List ℕ) (k x : Kind) → k ≡ x → DataAsked t (number_of k) → DataAsked t (number_of x)
asked_as t k x e a = subst (λ (y : Kind). DataAsked t (number_of y)) e a

pub rare_last : (k : Kind) → 1 ≤ number_of k → number_of k ≤ 7 → (k ≡ Fetch → ⊥) → (k ≡ Write → ⊥) → (k ≡ Remove → ⊥) → (k ≡ Base → ⊥) → (k ≡ AddDelta → ⊥) → (k ≡ Estimate → ⊥) → k ≡ Materialize
rare_last LastCommitted low high a b c d e f = absurd (omega arith)
rare_last Base low high a b c d e f = absurd (d refl)
rare_last Write low high a b c d e f = absurd (b refl)
rare_last AddDelta low high a b c d e f = absurd (e refl)
rare_last Estimate low high a b c d e f = absurd (f refl)
rare_last Remove low high a b c d e f = absurd (c refl)
rare_last Fetch low high a b c d e f = absurd (a refl)
rare_last Materialize low high a b c d e f = refl
rare_last GroupBase low high a b c d e f = absurd (omega arith)
rare_last Exchange low high a b c d e f = absurd (omega arith)
rare_last GroupWrite low high a b c d e f = absurd (omega arith)
rare_last GroupEstimate low high a b c d e f = absurd (omega arith)
rare_last GroupRemove low high a b c d e f = absurd (omega arith)
rare_last GroupFetch low high a b c d e f = absurd (omega arith)
rare_last GroupSize low high a b c d e f = absurd (omega arith)
rare_last Finalize low high a b c d e f = absurd (omega arith)
