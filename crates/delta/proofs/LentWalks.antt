-- Steps for the walks by hand: a contract with two clauses, each of them a fact; a value that lies in memory, to be lent; and a row of values, to be lent in part.
-- Assumes nothing.
use mathlib.Core.List.{List, [], ◌∷◌}
use Prim.Native.Nat.{ℕ, zero, suc, ◌+◌}
use lib.ListN.{take, drop as without}
use seplogic.Ra.Ura.{Ura}
use base.Fraction.{full_share}
use mir.Val.{Val}
use base.Logic.{SProp, ent, sep, via, assoc∗, assoc'}
use base.Fml.{Share, ftrue, fsep}
use types.Logic.{Logic, sem}
use types.Kit.{Goal, Item, ‵, ◌⊛◌, prop, Seq, Step, step, ◌$◌, ◌∵◌, !, qed, move, drop, use1, use2, split, fsplit, fjoin, fpick, fpack, done}
use contract.Monad.{fact}
use denote.RattleType.{RattleType}
use denote.Memory.{cell_at, mem, part_of}
use denote.Index.{row, place}
use denote.Steps.{nothing}
use denote.Triple.Walked.{says, needs}

-- a goal P ∗ (⌜φ⌝ ∗ ⌜ψ⌝): both are shown, and P is left
pub says_both : {M : Type 1} {𝓤 : Ura M} {𝓛 : Logic 𝓤} {K : Type 0} {Γ : List (Item 𝓤)} → K → {φ ψ : Type 0} {P : SProp 𝓤} → φ → ψ
    → Step K 𝓛 Γ (prop P) Γ (prop (sep 𝓤 P (sep 𝓤 (fact 𝓤 φ) (fact 𝓤 ψ))))
says_both {𝓤 = 𝓤} t {φ} {ψ} {P} x y =
    step (λ s. record { prf = via 𝓤 (sep 𝓤 (sep 𝓤 P (fact 𝓤 φ)) (fact 𝓤 ψ)) ((says t y).go ((says t x).go s)).prf (assoc∗ 𝓤 P (fact 𝓤 φ) (fact 𝓤 ψ)) })

-- P ∗ (⌜φ⌝ ∗ ⌜ψ⌝) as a hypothesis: both are learned
pub needs_both : {M : Type 1} (𝓤 : Ura M) (φ ψ : Type 0) (P : SProp 𝓤) {Q : SProp 𝓤} → (φ → ψ → ent 𝓤 P Q) → ent 𝓤 (sep 𝓤 P (sep 𝓤 (fact 𝓤 φ) (fact 𝓤 ψ))) Q
needs_both 𝓤 φ ψ P h =
    via 𝓤 (sep 𝓤 (sep 𝓤 P (fact 𝓤 φ)) (fact 𝓤 ψ)) (assoc' 𝓤 P (fact 𝓤 φ) (fact 𝓤 ψ)) (needs 𝓤 ψ (sep 𝓤 P (fact 𝓤 φ)) (λ y. needs 𝓤 φ P (λ x. h x y)))

module _ {M : Type 1} {𝓤 : Ura M} {𝓛 : Logic 𝓤} {K : Type 0} {Γ : List (Item 𝓤)} {G : Goal 𝓤 𝓛.H} where
  -- a cell and what its value owns: the value lies there
  pub lies_in : K → (R : RattleType) (h : R.Denot) (vs : List Val) (b o : ℕ) → Step K 𝓛 (‵ ((mem R).own_at h b o) ∷ Γ) G (‵ (cell_at full_share R.mir vs b o) ∷ ‵ (R.own_val h vs) ∷ Γ) G
  unfolding part_of
  lies_in t R h vs b o = step (λ s. fjoin t $ fpack t (List Val) (λ us. fsep (cell_at full_share R.mir us b o) (R.own_val h us)) vs $ s)

  pub lies_out : K → (R : RattleType) (h : R.Denot) (b o : ℕ) → ((vs : List Val) → Seq K 𝓛 (‵ (cell_at full_share R.mir vs b o) ∷ ‵ (R.own_val h vs) ∷ Γ) G) → Seq K 𝓛 (‵ ((mem R).own_at h b o) ∷ Γ) G
  unfolding part_of
  lies_out t R h b o k = fpick t (λ vs. fsplit t $ k vs)

-- a row is its first n values and the others, side by side
module _ {M : Type 1} {𝓤 : Ura M} (𝓛 : Logic 𝓤) (R : RattleType) (q : Share) (b : ℕ) where
  pub row_cut : (n : ℕ) (xs : List R.Denot) (o : ℕ) → ent 𝓤 (sem 𝓛 (row R q xs b o)) (sep 𝓤 (sem 𝓛 (row R q (take n xs) b o)) (sem 𝓛 (row R q (without n xs) b (place (mem R).size o n))))
  row_cut zero xs o = qed 𝓛 (‵ (row R q xs b o) ∷ []) ∵ nothing ! $ done !
  row_cut (suc n) [] o = qed 𝓛 (‵ ftrue ∷ []) ∵ nothing ! $ done !
  row_cut (suc n) (x ∷ xs) o =
      qed 𝓛 (‵ (row R q (x ∷ xs) b o) ∷ []) ∵ fsplit ! $ move ! (1 ∷ []) $
      use1 𝓛 (‵ (row R q (take n xs) b (o + (mem R).size)) ⊛ ‵ (row R q (without n xs) b (place (mem R).size (o + (mem R).size) n))) (row_cut n xs (o + (mem R).size)) $ split ! $ move ! (2 ∷ 0 ∷ []) $ fjoin ! $ done !

  pub row_join : (n : ℕ) (xs : List R.Denot) (o : ℕ) → ent 𝓤 (sep 𝓤 (sem 𝓛 (row R q (take n xs) b o)) (sem 𝓛 (row R q (without n xs) b (place (mem R).size o n)))) (sem 𝓛 (row R q xs b o))
  row_join zero xs o = qed 𝓛 (‵ ftrue ∷ ‵ (row R q xs b o) ∷ []) ∵ drop ! $ done !
  row_join (suc n) [] o = qed 𝓛 (‵ ftrue ∷ ‵ ftrue ∷ []) ∵ drop ! $ done !
  row_join (suc n) (x ∷ xs) o =
      qed 𝓛 (‵ (row R q (x ∷ take n xs) b o) ∷ ‵ (row R q (without n xs) b (place (mem R).size (o + (mem R).size) n)) ∷ []) ∵ fsplit ! $ move ! (1 ∷ 2 ∷ []) $
      use2 𝓛 (‵ (row R q xs b (o + (mem R).size))) (row_join n xs (o + (mem R).size)) $ move ! (1 ∷ 0 ∷ []) $ fjoin ! $ done !
