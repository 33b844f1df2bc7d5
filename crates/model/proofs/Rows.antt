-- Laws of rows: the order of places, what an edit does to each look-up, and that rows stay rising.
-- Assumes nothing.
use mathlib.Core.Path.{◌≡◌, refl, sym, ◌∙◌, ap}
use mathlib.Core.Bool.{Bool, true, false, not, ◌&&◌}
use mathlib.Core.Logic.{◌⊎◌, inl, inr}
use mathlib.Core.List.{List, [], ◌∷◌, ◌++◌}
use Prim.Native.Nat.{ℕ, ◌<◌}
use native.Mathlib.Omega.{arith}
use native.Mathlib.Decide.{dec_lt}
use lib.Dec.{ltb, eqb}
use borrow.Author.Tests.{ltb-true, eqb-true, lt-ltb, le-ltb, eq-eqb, ne_eqb}
use Rattle.lists.specs.Lists.{every, keep}
use Rattle.lists.proofs.Bools.{and_both, and_left, and_right}
use Rattle.lists.proofs.Lists.{every_imp, every_join, every_keep, every_kept, keep_all, keep_none}
use Rattle.model.specs.Rows.{Row, is_below, is_at, is_above, rising, put, erase, Edit, leave, set, clear, edited}

-- Where a row stands against a key and place: exactly one of the three tests passes.
pub data Side {A : Type 0} (k p : ℕ) (r : Row A) : Type 0 where
  lower : is_below k p r ≡ true → is_at k p r ≡ false → is_above k p r ≡ false → Side k p r
  here : is_below k p r ≡ false → is_at k p r ≡ true → is_above k p r ≡ false → Side k p r
  upper : is_below k p r ≡ false → is_at k p r ≡ false → is_above k p r ≡ true → Side k p r

module _ {A : Type 0} (k p : ℕ) (r : Row A) where
  lower_key : r.key < k → Side k p r
  unfolding is_below is_at is_above
  lower_key h =
      lower (rw (lt-ltb r.key k h)) (rw (ne_eqb r.key k (omega arith)))
      (rw (le-ltb k r.key (omega arith), ne_eqb r.key k (omega arith)))

  upper_key : k < r.key → Side k p r
  unfolding is_below is_at is_above
  upper_key h =
      upper (rw (le-ltb r.key k (omega arith), ne_eqb r.key k (omega arith))) (rw (ne_eqb r.key k (omega arith)))
      (rw (lt-ltb k r.key h))

  module _ (same : r.key ≡ k) where
    lower_place : r.place < p → Side k p r
    unfolding is_below is_at is_above
    lower_place h =
        lower (rw (le-ltb r.key k (omega arith), eq-eqb r.key k same, lt-ltb r.place p h))
        (rw (eq-eqb r.key k same, ne_eqb r.place p (omega arith)))
        (rw (le-ltb k r.key (omega arith), eq-eqb r.key k same, le-ltb p r.place (omega arith)))

    here_place : r.place ≡ p → Side k p r
    unfolding is_below is_at is_above
    here_place h =
        here (rw (le-ltb r.key k (omega arith), eq-eqb r.key k same, le-ltb r.place p (omega arith)))
        (rw (eq-eqb r.key k same, eq-eqb r.place p h))
        (rw (le-ltb k r.key (omega arith), eq-eqb r.key k same, le-ltb p r.place (omega arith)))

    upper_place : p < r.place → Side k p r
    unfolding is_below is_at is_above
    upper_place h =
        upper (rw (le-ltb r.key k (omega arith), eq-eqb r.key k same, le-ltb r.place p (omega arith)))
        (rw (eq-eqb r.key k same, ne_eqb r.place p (omega arith)))
        (rw (le-ltb k r.key (omega arith), eq-eqb r.key k same, lt-ltb p r.place h))

  pub side : Side k p r
  side = by_key (dec_lt r.key k) (dec_lt k r.key)
    where
      by_place : r.key ≡ k → Dec (r.place < p) → Dec (p < r.place) → Side k p r
      by_place e (yes h) d = lower_place e h
      by_place e (no h) (yes g) = upper_place e g
      by_place e (no h) (no g) = here_place e (omega arith)

      by_key : Dec (r.key < k) → Dec (k < r.key) → Side k p r
      by_key (yes h) d = lower_key h
      by_key (no h) (yes g) = upper_key g
      by_key (no h) (no g) = by_place (omega arith) (dec_lt r.place p) (dec_lt p r.place)

-- The tests as facts on numbers, and back.
abbrev pub Over : ℕ → ℕ → ℕ → ℕ → Type 0
Over k p k' p' = (k < k') ⊎ ((k ≡ k') × (p < p'))

pub over_trans : (k p l q m r : ℕ) → Over k p l q → Over l q m r → Over k p m r
over_trans k p l q m r (inl h) (inl g) = inl (omega arith)
over_trans k p l q m r (inl h) (inr g) = inl (omega (arith, g.0))
over_trans k p l q m r (inr h) (inl g) = inl (omega (arith, h.0))
over_trans k p l q m r (inr h) (inr g) = inr (h.0 ∙ g.0, omega (arith, h.1, g.1))

module _ {A : Type 0} (k p : ℕ) (r : Row A) where
  pub above_told : is_above k p r ≡ true → Over k p r.key r.place
  unfolding is_above
  above_told e = go (ltb k r.key) refl
    where
      go : (b : Bool) → ltb k r.key ≡ b → Over k p r.key r.place
      go true f = inl (ltb-true k r.key f)
      go false f =
          let g : (eqb r.key k && ltb p r.place) ≡ true = rw f at e in
          inr (sym (eqb-true r.key k (and_left (eqb r.key k) (ltb p r.place) g)), ltb-true p r.place (and_right (eqb r.key k) (ltb p r.place) g))

  pub above_tell : Over k p r.key r.place → is_above k p r ≡ true
  unfolding is_above
  above_tell (inl h) = rw (lt-ltb k r.key h)
  above_tell (inr h) = rw (le-ltb k r.key (omega (arith, h.0)), eq-eqb r.key k (sym h.0), lt-ltb p r.place h.1)

  pub below_told : is_below k p r ≡ true → Over r.key r.place k p
  unfolding is_below
  below_told e = go (ltb r.key k) refl
    where
      go : (b : Bool) → ltb r.key k ≡ b → Over r.key r.place k p
      go true f = inl (ltb-true r.key k f)
      go false f =
          let g : (eqb r.key k && ltb r.place p) ≡ true = rw f at e in
          inr (eqb-true r.key k (and_left (eqb r.key k) (ltb r.place p) g), ltb-true r.place p (and_right (eqb r.key k) (ltb r.place p) g))

  pub at_key : is_at k p r ≡ true → r.key ≡ k
  unfolding is_at
  at_key e = eqb-true r.key k (and_left (eqb r.key k) (eqb r.place p) e)

  pub at_place : is_at k p r ≡ true → r.place ≡ p
  unfolding is_at
  at_place e = eqb-true r.place p (and_right (eqb r.key k) (eqb r.place p) e)

  -- a test that passes rules the other two out
  pub above_not_below : is_above k p r ≡ true → is_below k p r ≡ false
  above_not_below e = go (side k p r)
    where
      go : Side k p r → is_below k p r ≡ false
      go (lower b a u) = absurd (let z : ◌≡◌ {A = ℕ} 0 1 = cc in omega arith)
      go (here b a u) = b
      go (upper b a u) = b

  pub above_not_at : is_above k p r ≡ true → is_at k p r ≡ false
  above_not_at e = go (side k p r)
    where
      go : Side k p r → is_at k p r ≡ false
      go (lower b a u) = a
      go (here b a u) = absurd (let z : ◌≡◌ {A = ℕ} 0 1 = cc in omega arith)
      go (upper b a u) = a

  pub below_not_at : is_below k p r ≡ true → is_at k p r ≡ false
  below_not_at e = go (side k p r)
    where
      go : Side k p r → is_at k p r ≡ false
      go (lower b a u) = a
      go (here b a u) = absurd (let z : ◌≡◌ {A = ℕ} 0 1 = cc in omega arith)
      go (upper b a u) = a

module _ {A : Type 0} where
  -- what stands above a row at or above a place stands above the place
  pub above_above : (k p : ℕ) (r s : Row A) → is_above k p r ≡ true → is_above r.key r.place s ≡ true → is_above k p s ≡ true
  above_above k p r s e f = above_tell k p s (over_trans k p r.key r.place s.key s.place (above_told k p r e) (above_told r.key r.place s f))

  pub at_above : (k p : ℕ) (r s : Row A) → is_at k p r ≡ true → is_above r.key r.place s ≡ true → is_above k p s ≡ true
  at_above k p r s e f = rw (at_key k p r e, at_place k p r e) at f

  -- rising rows are those below a place, the one at it, and those above it
  pub split : (k p : ℕ) (rs : List (Row A)) → rising rs ≡ true → rs ≡ keep (is_below k p) rs ++ (keep (is_at k p) rs ++ keep (is_above k p) rs)
  unfolding rising keep
  split k p [] h = refl
  split k p (r ∷ rs) h = go (side k p r) (split k p rs (and_right (every (is_above r.key r.place) rs) (rising rs) h))
    where
      tail : every (is_above r.key r.place) rs ≡ true
      tail = and_left (every (is_above r.key r.place) rs) (rising rs) h

      -- where the row is at the place or above it, the later ones are above it
      rest : ((s : Row A) → is_above r.key r.place s ≡ true → is_above k p s ≡ true) → every (is_above k p) rs ≡ true
      rest f = every_imp (is_above r.key r.place) (is_above k p) f rs tail

      all_above : every (is_above k p) rs ≡ true → (keep (is_below k p) rs ≡ []) × (keep (is_at k p) rs ≡ []) × (keep (is_above k p) rs ≡ rs)
      all_above e = (
        keep_none (is_below k p) (is_above k p) (λ s. above_not_below k p s) rs e,
        keep_none (is_at k p) (is_above k p) (λ s. above_not_at k p s) rs e,
        keep_all (is_above k p) rs e,
      )

      go : Side k p r → rs ≡ keep (is_below k p) rs ++ (keep (is_at k p) rs ++ keep (is_above k p) rs) →
          r ∷ rs ≡ keep (is_below k p) (r ∷ rs) ++ (keep (is_at k p) (r ∷ rs) ++ keep (is_above k p) (r ∷ rs))
      go (lower b a u) ih = rw (b, a, u) (ap (λ (l : List (Row A)). r ∷ l) ih)
      go (here b a u) ih =
          let w = all_above (rest (λ s. at_above k p r s a)) in
          rw (b, a, u, w.0, w.1, w.2)
      go (upper b a u) ih =
          let w = all_above (rest (λ s. above_above k p r s u)) in
          rw (b, a, u, w.0, w.1, w.2)

  -- rows stay rising
  pub rising_keep : (q : Row A → Bool) (rs : List (Row A)) → rising rs ≡ true → rising (keep q rs) ≡ true
  unfolding rising keep
  rising_keep q [] h = refl
  rising_keep q (r ∷ rs) h = go (q r) refl (rising_keep q rs (and_right (every (is_above r.key r.place) rs) (rising rs) h))
    where
      go : (b : Bool) → q r ≡ b → rising (keep q rs) ≡ true → rising (keep q (r ∷ rs)) ≡ true
      go true e ih =
          rw e
          (and_both (every (is_above r.key r.place) (keep q rs)) (rising (keep q rs))
          (every_keep (is_above r.key r.place) q rs (and_left (every (is_above r.key r.place) rs) (rising rs) h)) ih)
      go false e ih = rw e ih

  -- what every row below a place has above it
  pub every_below : (k p : ℕ) (ys : List (Row A)) → every (is_above k p) ys ≡ true → (r : Row A) → is_below k p r ≡ true → every (is_above r.key r.place) ys ≡ true
  every_below k p ys h r e =
      every_imp (is_above k p) (is_above r.key r.place)
      (λ s f. above_tell r.key r.place s (over_trans r.key r.place k p s.key s.place (below_told k p r e) (above_told k p s f)))
      ys h

  pub rising_append : (xs ys : List (Row A)) → rising xs ≡ true → rising ys ≡ true → every (λ r. every (is_above r.key r.place) ys) xs ≡ true → rising (xs ++ ys) ≡ true
  unfolding rising every
  rising_append [] ys h g e = g
  rising_append (x ∷ xs) ys h g e =
      and_both (every (is_above x.key x.place) (xs ++ ys)) (rising (xs ++ ys))
      (every_join (is_above x.key x.place) xs ys (and_left (every (is_above x.key x.place) xs) (rising xs) h)
      (and_left (every (is_above x.key x.place) ys) (every (λ r. every (is_above r.key r.place) ys) xs) e))
      (rising_append xs ys (and_right (every (is_above x.key x.place) xs) (rising xs) h) g
      (and_right (every (is_above x.key x.place) ys) (every (λ r. every (is_above r.key r.place) ys) xs) e))

  pub rising_put : (k p : ℕ) (a : A) (rs : List (Row A)) → rising rs ≡ true → rising (put k p a rs) ≡ true
  unfolding put rising every
  rising_put k p a rs h =
      rising_append (keep (is_below k p) rs) (new ∷ keep (is_above k p) rs) (rising_keep (is_below k p) rs h)
      (and_both (every (is_above k p) (keep (is_above k p) rs)) (rising (keep (is_above k p) rs)) (every_kept (is_above k p) rs) (rising_keep (is_above k p) rs h))
      (every_imp (is_below k p) (λ r. every (is_above r.key r.place) (new ∷ keep (is_above k p) rs)) all (keep (is_below k p) rs) (every_kept (is_below k p) rs))
    where
      new : Row A
      new = record { key = k; place = p; held = a }

      all : (r : Row A) → is_below k p r ≡ true → every (is_above r.key r.place) (new ∷ keep (is_above k p) rs) ≡ true
      all r e =
          and_both (is_above r.key r.place new) (every (is_above r.key r.place) (keep (is_above k p) rs))
          (above_tell r.key r.place new (below_told k p r e))
          (every_below k p (keep (is_above k p) rs) (every_kept (is_above k p) rs) r e)

  pub rising_erase : (k p : ℕ) (rs : List (Row A)) → rising rs ≡ true → rising (erase k p rs) ≡ true
  unfolding erase
  rising_erase k p rs h = rising_keep (λ r. not (is_at k p r)) rs h

  pub rising_edited : (k p : ℕ) (e : Edit A) (rs : List (Row A)) → rising rs ≡ true → rising (edited k p e rs) ≡ true
  unfolding edited
  rising_edited k p leave rs h = h
  rising_edited k p (set a) rs h = rising_put k p a rs h
  rising_edited k p clear rs h = rising_erase k p rs h
