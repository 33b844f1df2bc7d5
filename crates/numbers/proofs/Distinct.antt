-- Order implies distinctness; distinct numbers below n, n of them, are all of them; a payload's rank finds its cell.
-- Assumes nothing.
use mathlib.Core.Path.{◌≡◌, refl, sym, ◌∙◌, ap}
use mathlib.Core.Bool.{Bool, true, false, cond, ◌&&◌, ◌||◌}
use mathlib.Core.List.{List, [], ◌∷◌}
use Prim.Native.Nat.{ℕ, zero, suc, ◌≤◌, ◌<◌}
use native.Mathlib.Omega.{arith}
use native.Mathlib.Decide.{ℕ_discrete}
use lib.Dec.{ltb, eqb}
use lib.ListN.{length, get_or, length-map}
use borrow.Author.Tests.{ltb-true, eqb-true, eqb-false, lt-ltb, le-ltb, eq-eqb, ne_eqb}
use Rattle.probe.specs.Cells.{count_above}
use Rattle.numbers.specs.Numbers.{Cell, rank_of, number_of, ranks, numbers, has, Below, Distinct, Drops, Tied, fine, scans}

and_told : (a b : Bool) → (a && b) ≡ true → (a ≡ true) × (b ≡ true)
and_told true b e = (refl, e)
and_told false b e = absurd (let z : ◌≡◌ {A = ℕ} 0 1 = cc in omega arith)

pub absent_head : (q x : ℕ) (xs : List ℕ) → has q (x ∷ xs) ≡ false → (q ≡ x → ⊥) × (has q xs ≡ false)
unfolding has
absent_head q x xs e = go (eqb q x) refl
  where
    go : (b : Bool) → eqb q x ≡ b → (q ≡ x → ⊥) × (has q xs ≡ false)
    go true f = absurd (let h : (true || has q xs) ≡ false = rw f at e in let z : ◌≡◌ {A = ℕ} 0 1 = cc in omega arith)
    go false f = (eqb-false q x f, rw f at e)

pub absent_cons : (q x : ℕ) (xs : List ℕ) → (q ≡ x → ⊥) → has q xs ≡ false → has q (x ∷ xs) ≡ false
unfolding has
absent_cons q x xs h e = rw (ne_eqb q x h) e

-- one number taken out
take_out : ℕ → List ℕ → List ℕ
take_out m [] = []
take_out m (x ∷ xs) = cond (eqb m x) xs (x ∷ take_out m xs)

out_length : (m : ℕ) (xs : List ℕ) → length xs ≤ suc (length (take_out m xs))
unfolding take_out
out_length m [] = omega arith
out_length m (x ∷ xs) = go (eqb m x) refl (out_length m xs)
  where
    go : (b : Bool) → eqb m x ≡ b → length xs ≤ suc (length (take_out m xs)) → length (x ∷ xs) ≤ suc (length (take_out m (x ∷ xs)))
    go true f ih = rw f (omega arith)
    go false f ih = rw f (omega arith)

out_absent : (q m : ℕ) (xs : List ℕ) → has q xs ≡ false → has q (take_out m xs) ≡ false
unfolding take_out
out_absent q m [] e = e
out_absent q m (x ∷ xs) e = let h = absent_head q x xs e in go (eqb m x) refl (out_absent q m xs h.1) h
  where
    go : (b : Bool) → eqb m x ≡ b → has q (take_out m xs) ≡ false → (q ≡ x → ⊥) × (has q xs ≡ false) → has q (take_out m (x ∷ xs)) ≡ false
    go true f ih h = rw f h.1
    go false f ih h = rw f (absent_cons q x (take_out m xs) h.0 ih)

out_distinct : (m : ℕ) (xs : List ℕ) → Distinct xs → Distinct (take_out m xs)
unfolding take_out Distinct
out_distinct m [] d = d
out_distinct m (x ∷ xs) d = go (eqb m x) refl (out_distinct m xs d.1)
  where
    go : (b : Bool) → eqb m x ≡ b → Distinct (take_out m xs) → Distinct (take_out m (x ∷ xs))
    go true f ih = rw f d.1
    go false f ih = rw f (out_absent x m xs d.0, ih)

tight : (m : ℕ) (xs : List ℕ) → has m xs ≡ false → Below (suc m) xs → Below m xs
unfolding Below
tight m [] e b = b
tight m (x ∷ xs) e b = let h = absent_head m x xs e in (less h.0 b.0, tight m xs h.1 b.1)
  where
    less : (m ≡ x → ⊥) → x < suc m → x < m
    less n l = omega arith

out_below : (m : ℕ) (xs : List ℕ) → Distinct xs → Below (suc m) xs → Below m (take_out m xs)
unfolding take_out Distinct Below
out_below m [] d b = b
out_below m (x ∷ xs) d b = go (ℕ_discrete m x) (out_below m xs d.1 b.1)
  where
    less : (m ≡ x → ⊥) → x < suc m → x < m
    less n l = omega arith

    go : Dec (m ≡ x) → Below m (take_out m xs) → Below m (take_out m (x ∷ xs))
    go (yes e) ih = rw (eq-eqb m x e) (tight m xs (rw e d.0) b.1)
    go (no e) ih = rw (ne_eqb m x e) (less e b.0, ih)

-- distinct numbers below n are at most n
pub at_most : (n : ℕ) (xs : List ℕ) → Distinct xs → Below n xs → length xs ≤ n
unfolding Below
at_most zero [] d b = omega arith
at_most zero (x ∷ xs) d b = absurd (omega (arith, b.0))
at_most (suc m) xs d b = omega (arith, out_length m xs, at_most m (take_out m xs) (out_distinct m xs d) (out_below m xs d b))

-- and where there are n, each occurs
pub onto : (n q : ℕ) (xs : List ℕ) → Distinct xs → Below n xs → length xs ≡ n → q < n → has q xs ≡ true
unfolding Distinct Below
onto n q xs d b e h = go (has q xs) refl
  where
    go : (t : Bool) → has q xs ≡ t → has q xs ≡ true
    go true f = f
    go false f = absurd (omega (arith, at_most n (q ∷ xs) (f, d) (h, b)))

module _ (carried : ℕ → ℕ) where
  apart : (q : ℕ) (cs : List Cell) → Tied carried cs → Below (carried q) (ranks cs) → has q (numbers cs) ≡ false
  unfolding Tied Below has
  apart q [] t b = refl
  apart q (c ∷ cs) t b = absent_cons q (number_of c) (numbers cs) (λ e. differ e t.0 b.0) (apart q cs t.1 b.1)
    where
      differ : q ≡ number_of c → carried (number_of c) ≡ rank_of c → rank_of c < carried q → ⊥
      differ e f l = let g : carried q ≡ carried (number_of c) = ap carried e in omega arith

  -- order implies distinctness
  pub distinct : (cs : List Cell) → Tied carried cs → Drops (ranks cs) → Distinct (numbers cs)
  unfolding Tied Drops Distinct
  distinct [] t o = o
  distinct (c ∷ cs) t o = (apart (number_of c) cs t.1 (rw t.0 o.0), distinct cs t.1 o.1)

  lower : (q x : ℕ) (cs : List Cell) → has q (numbers cs) ≡ true → Tied carried cs → Below x (ranks cs) → carried q < x
  unfolding has Tied Below
  lower q x [] e t b = absurd (let z : ◌≡◌ {A = ℕ} 0 1 = cc in omega arith)
  lower q x (c ∷ cs) e t b = go (eqb q (number_of c)) refl (λ f. lower q x cs f t.1 b.1)
    where
      go : (d : Bool) → eqb q (number_of c) ≡ d → (has q (numbers cs) ≡ true → carried q < x) → carried q < x
      go true f ih = omega (arith, ap carried (eqb-true q (number_of c) f), t.0, b.0)
      go false f ih = ih (rw f at e)

  -- the rank of a payload leads to the cell that names it
  pub owner : (q : ℕ) (cs : List Cell) (none : Cell) → has q (numbers cs) ≡ true → Tied carried cs → Drops (ranks cs) →
      number_of (get_or cs (count_above (carried q) (ranks cs)) none) ≡ q
  unfolding has Tied Drops count_above
  owner q [] none e t o = absurd (let z : ◌≡◌ {A = ℕ} 0 1 = cc in omega arith)
  owner q (c ∷ cs) none e t o = go (eqb q (number_of c)) refl (λ f. owner q cs none f t.1 o.1)
    where
      go : (d : Bool) → eqb q (number_of c) ≡ d → (has q (numbers cs) ≡ true → number_of (get_or cs (count_above (carried q) (ranks cs)) none) ≡ q) →
          number_of (get_or (c ∷ cs) (count_above (carried q) (ranks (c ∷ cs))) none) ≡ q
      go true f ih =
          let g : q ≡ number_of c = eqb-true q (number_of c) f in
          let h : ltb (carried q) (rank_of c) ≡ false = le-ltb (carried q) (rank_of c) (omega (arith, ap carried g, t.0)) in
          rw h (sym g)
      go false f ih =
          let g : has q (numbers cs) ≡ true = rw f at e in
          let h : ltb (carried q) (rank_of c) ≡ true = lt-ltb (carried q) (rank_of c) (lower q (rank_of c) cs g t.1 o.0) in
          rw h (ih g)

-- as a store uses it: as many cells as payloads, so every payload has its cell, found by the payload's own rank
pub found : (carried : ℕ → ℕ) (held q : ℕ) (cs : List Cell) (none : Cell) → Tied carried cs → Drops (ranks cs) → Below held (numbers cs) →
    length cs ≡ held → q < held → number_of (get_or cs (count_above (carried q) (ranks cs)) none) ≡ q
found carried held q cs none t o b e h =
    owner carried q cs none (onto held q (numbers cs) (distinct carried cs t o) b (length-map cs number_of ∙ e) h) t o

-- what a scan of neighbours tells
pub record Scanned (carried : ℕ → ℕ) (h limit : ℕ) (cs : List Cell) : Type 0 where
  pub below : Below h (numbers cs)
  pub tied : Tied carried cs
  pub drops : Drops (ranks cs)
  pub under : Below limit (ranks cs)

raise : (x y : ℕ) (xs : List ℕ) → x < y → Below x xs → Below y xs
unfolding Below
raise x y [] h b = b
raise x y (z ∷ xs) h b = (omega (arith, b.0), raise x y xs h b.1)

pub scanned : (carried : ℕ → ℕ) (h limit : ℕ) (cs : List Cell) → scans carried h limit cs ≡ true → Scanned carried h limit cs
unfolding scans fine Below Tied Drops
scanned carried h limit [] e = record { below = tt; tied = tt; drops = tt; under = tt }
scanned carried h limit (c ∷ cs) e =
    let f = and_told (fine carried h limit c) (scans carried h (rank_of c) cs) e in
    let g = and_told (ltb (number_of c) h && eqb (carried (number_of c)) (rank_of c)) (ltb (rank_of c) limit) f.0 in
    let k = and_told (ltb (number_of c) h) (eqb (carried (number_of c)) (rank_of c)) g.0 in
    let r = scanned carried h (rank_of c) cs f.1 in
    let l = ltb-true (rank_of c) limit g.1 in
    record {
      below = (ltb-true (number_of c) h k.0, r.below);
      tied = (eqb-true (carried (number_of c)) (rank_of c) k.1, r.tied);
      drops = (r.under, r.drops);
      under = (l, raise (rank_of c) limit (ranks cs) l r.under);
    }
