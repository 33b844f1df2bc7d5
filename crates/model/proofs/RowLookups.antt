-- Rising rows as a finite map: what each edit does to each look-up, and that what a reader sees is decided by the look-ups of its key.
-- Assumes nothing.
use mathlib.Core.Path.{◌≡◌, refl, sym, ◌∙◌, ap}
use mathlib.Core.Bool.{Bool, true, false, not, ◌&&◌, and-true, and-false}
use mathlib.Core.List.{List, [], ◌∷◌, ◌++◌, reverse, append-nil, reverse-append}
use mathlib.Core.Option.{Option, none, some}
use Prim.Native.Nat.{ℕ, zero, suc, ◌≤◌, ◌<◌, zero-le}
use native.Mathlib.Omega.{arith}
use native.Mathlib.Decide.{ℕ_discrete}
use lib.Dec.{leb, ltb, eqb, leb-suc-suc}
use borrow.Author.Tests.{leb-true, eqb-true, le-ltb, le-leb, lt-leb, eq-eqb}
use Rattle.lists.specs.Lists.{every, keep}
use Rattle.lists.proofs.Lists.{every_imp, every_kept, keep_all, keep_append, keep_both, keep_none, keep_stronger}
use Rattle.model.specs.Rows.{Row, is_below, is_at, is_above, rising, held_first, find, put, erase, is_up_to, down_from}
use Rattle.model.specs.Rows.{row_at}
use Rattle.model.proofs.RowPlaces.{at_absent, at_present}
use Rattle.model.proofs.Rows.{Side, lower, here, upper, side, at_key, at_place, above_not_at, below_not_at, split}

-- ---- look-ups after an edit

module _ {A : Type 0} where
  at_new : (k p : ℕ) (a : A) → is_at k p (record { key = k; place = p; held = a }) ≡ true
  unfolding is_at
  at_new k p a = rw (eq-eqb k k refl, eq-eqb p p refl)

  keep_at_below : (k p : ℕ) (rs : List (Row A)) → keep (is_at k p) (keep (is_below k p) rs) ≡ []
  keep_at_below k p rs = keep_none (is_at k p) (is_below k p) (λ r. below_not_at k p r) (keep (is_below k p) rs) (every_kept (is_below k p) rs)

  pub find_put_same : (k p : ℕ) (a : A) (rs : List (Row A)) → find k p (put k p a rs) ≡ some a
  unfolding find put keep held_first
  find_put_same k p a rs =
      ap held_first (keep_append (is_at k p) (keep (is_below k p) rs) (record { key = k; place = p; held = a } ∷ keep (is_above k p) rs))
      ∙ rw (keep_at_below k p rs, at_new k p a)

  -- rows of one key and place stand on one side of any other
  below_alike : (k p : ℕ) (r s : Row A) → r.key ≡ s.key → r.place ≡ s.place → is_below k p r ≡ is_below k p s
  unfolding is_below
  below_alike k p r s e f = rw (e, f)

  above_alike : (k p : ℕ) (r s : Row A) → r.key ≡ s.key → r.place ≡ s.place → is_above k p r ≡ is_above k p s
  unfolding is_above
  above_alike k p r s e f = rw (e, f)

  module _ (k p l q : ℕ) (apart : l ≡ k → q ≡ p → ⊥) where
    pub find_put_other : (a : A) (rs : List (Row A)) → find l q (put k p a rs) ≡ find l q rs
    unfolding find put keep
    find_put_other a rs =
        ap held_first
        (keep_append (is_at l q) (keep (is_below k p) rs) (new ∷ keep (is_above k p) rs)
        ∙ rw (not_new (is_at l q new) refl) (go (side k p that)))
      where
        new : Row A
        new = record { key = k; place = p; held = a }

        that : Row A
        that = record { key = l; place = q; held = a }

        not_new : (b : Bool) → is_at l q new ≡ b → is_at l q new ≡ false
        not_new true e = absurd (apart (sym (at_key l q new e)) (sym (at_place l q new e)))
        not_new false e = e

        not_at : (r : Row A) (s : Row A → Bool) → s that ≡ false → (r.key ≡ l → r.place ≡ q → s r ≡ s that) → s r ≡ true → (b : Bool) → is_at l q r ≡ b → is_at l q r ≡ false
        not_at r s n f t true e = let z : s r ≡ s that = f (at_key l q r e) (at_place l q r e) in cc
        not_at r s n f t false e = e

        is_below_lem : is_below k p that ≡ true → keep (is_at l q) (keep (is_below k p) rs) ≡ keep (is_at l q) rs
        is_below_lem b = keep_stronger (is_at l q) (is_below k p) (λ r e. below_alike k p r that (at_key l q r e) (at_place l q r e) ∙ b) rs

        is_above_lem : is_above k p that ≡ true → keep (is_at l q) (keep (is_above k p) rs) ≡ keep (is_at l q) rs
        is_above_lem u = keep_stronger (is_at l q) (is_above k p) (λ r e. above_alike k p r that (at_key l q r e) (at_place l q r e) ∙ u) rs

        none_below : is_below k p that ≡ false → keep (is_at l q) (keep (is_below k p) rs) ≡ []
        none_below b =
            keep_none (is_at l q) (is_below k p)
            (λ r t. not_at r (is_below k p) b (below_alike k p r that) t (is_at l q r) refl) (keep (is_below k p) rs) (every_kept (is_below k p) rs)

        none_above : is_above k p that ≡ false → keep (is_at l q) (keep (is_above k p) rs) ≡ []
        none_above u =
            keep_none (is_at l q) (is_above k p)
            (λ r t. not_at r (is_above k p) u (above_alike k p r that) t (is_at l q r) refl) (keep (is_above k p) rs) (every_kept (is_above k p) rs)

        go : Side k p that → keep (is_at l q) (keep (is_below k p) rs) ++ keep (is_at l q) (keep (is_above k p) rs) ≡ keep (is_at l q) rs
        go (lower b a u) = rw (is_below_lem b, none_above u) (append-nil (keep (is_at l q) rs))
        go (here b a u) = absurd (apart (at_key k p that a) (at_place k p that a))
        go (upper b a u) = rw (none_below b, is_above_lem u)

    pub find_erase_other : (rs : List (Row A)) → find l q (erase k p rs) ≡ find l q rs
    unfolding find erase
    find_erase_other rs = ap held_first (keep_stronger (is_at l q) (λ r. not (is_at k p r)) (λ r e. kept r e (is_at k p r) refl) rs)
      where
        kept : (r : Row A) → is_at l q r ≡ true → (b : Bool) → is_at k p r ≡ b → not (is_at k p r) ≡ true
        kept r e true f = absurd (apart (sym (at_key l q r e) ∙ at_key k p r f) (sym (at_place l q r e) ∙ at_place k p r f))
        kept r e false f = rw f

  pub find_erase_same : (k p : ℕ) (rs : List (Row A)) → find k p (erase k p rs) ≡ none
  unfolding find erase held_first
  find_erase_same k p rs =
      ap held_first
      (keep_none (is_at k p) (λ r. not (is_at k p r)) (λ r e. gone (is_at k p r) e) (keep (λ r. not (is_at k p r)) rs)
      (every_kept (λ r. not (is_at k p r)) rs))
    where
      gone : (b : Bool) → not b ≡ true → b ≡ false
      gone true e = sym e
      gone false e = refl

-- ---- what a reader sees

-- What stands at a place, as rows.
unfoldable pub rows_at : {A : Type 0} → ℕ → ℕ → Option A → List (Row A)
rows_at k p none = []
rows_at k p (some a) = record { key = k; place = p; held = a } ∷ []

-- The rows of a key down from a place, from its look-ups.
unfoldable pub down : {A : Type 0} → ℕ → (ℕ → Option A) → ℕ → List (Row A)
down k at zero = rows_at k 0 (at 0)
down k at (suc n) = rows_at k (suc n) (at (suc n)) ++ down k at n

-- the rows of a key at lower places
unfoldable is_under : {A : Type 0} → ℕ → ℕ → Row A → Bool
is_under k p r = eqb r.key k && ltb r.place p

module _ {A : Type 0} where
  keep_same : (p q : A → Bool) → ((x : A) → p x ≡ q x) → (xs : List A) → keep p xs ≡ keep q xs
  unfolding keep
  keep_same p q h [] = refl
  keep_same p q h (x ∷ xs) = rw (h x, keep_same p q h xs)

module _ {A : Type 0} where
  below_under : (k p : ℕ) (r : Row A) → is_below k p r ≡ true → is_up_to k p r ≡ is_under k p r
  unfolding is_below is_up_to is_under
  below_under k p r e = go (eqb r.key k) refl
    where
      go : (b : Bool) → eqb r.key k ≡ b → (eqb r.key k && leb r.place p) ≡ (eqb r.key k && ltb r.place p)
      go true f =
          let g : ltb r.place p ≡ true = rw (le-ltb r.key k (omega (arith, eqb-true r.key k f)), f) at e in
          rw (f, g, le-leb r.place p (omega (arith, leb-true (suc r.place) p g)))
      go false f = rw f

  not_below_under : (k p : ℕ) (r : Row A) → is_below k p r ≡ false → is_under k p r ≡ false
  unfolding is_below is_under
  not_below_under k p r e = go (ltb r.key k) refl
    where
      go : (b : Bool) → ltb r.key k ≡ b → (eqb r.key k && ltb r.place p) ≡ false
      go true f = absurd (let z : ◌≡◌ {A = Bool} true false = rw f at e in let y : ◌≡◌ {A = ℕ} 0 1 = cc in omega arith)
      go false f = rw f at e

  up_to_below : (k p : ℕ) (r : Row A) → (is_up_to k p r && is_below k p r) ≡ is_under k p r
  up_to_below k p r = go (is_below k p r) refl
    where
      go : (b : Bool) → is_below k p r ≡ b → (is_up_to k p r && is_below k p r) ≡ is_under k p r
      go true e = rw (e, and-true (is_up_to k p r)) (below_under k p r e)
      go false e = rw (e, and-false (is_up_to k p r)) (sym (not_below_under k p r e))

  at_up_to : (k p : ℕ) (r : Row A) → is_at k p r ≡ true → is_up_to k p r ≡ true
  unfolding is_up_to
  at_up_to k p r e = rw (eq-eqb r.key k (at_key k p r e), le-leb r.place p (omega (arith, at_place k p r e)))

  above_up_to : (k p : ℕ) (r : Row A) → is_above k p r ≡ true → is_up_to k p r ≡ false
  unfolding is_above is_up_to
  above_up_to k p r e = go (eqb r.key k) refl
    where
      go : (b : Bool) → eqb r.key k ≡ b → (eqb r.key k && leb r.place p) ≡ false
      go true f =
          let g : ltb p r.place ≡ true = rw (le-ltb k r.key (omega (arith, eqb-true r.key k f)), f) at e in
          rw (f, lt-leb r.place p (leb-true (suc p) r.place g))
      go false f = rw f

  up_to_split : (k p : ℕ) (rs : List (Row A)) → rising rs ≡ true → keep (is_up_to k p) rs ≡ keep (is_under k p) rs ++ keep (is_at k p) rs
  up_to_split k p rs h =
      ap (keep (is_up_to k p)) (split k p rs h)
      ∙ keep_append (is_up_to k p) (keep (is_below k p) rs) (keep (is_at k p) rs ++ keep (is_above k p) rs)
      ∙ rw (
        keep_append (is_up_to k p) (keep (is_at k p) rs) (keep (is_above k p) rs),
        keep_both (is_up_to k p) (is_below k p) (is_under k p) (up_to_below k p) rs,
        keep_all (is_up_to k p) (keep (is_at k p) rs) (every_imp (is_at k p) (is_up_to k p) (at_up_to k p) (keep (is_at k p) rs) (every_kept (is_at k p) rs)),
        keep_none (is_up_to k p) (is_above k p) (above_up_to k p) (keep (is_above k p) rs) (every_kept (is_above k p) rs),
        append-nil (keep (is_at k p) rs),
      )

  -- at a place stands one row at most
  keep_at : (k p : ℕ) (rs : List (Row A)) → rising rs ≡ true → keep (is_at k p) rs ≡ rows_at k p (find k p rs)
  unfolding rows_at row_at
  keep_at k p rs h = go (find k p rs) refl
    where
      go : (o : Option A) → find k p rs ≡ o → keep (is_at k p) rs ≡ rows_at k p o
      go none e = at_absent k p rs e
      go (some a) e = at_present k p rs a h e

  alone : (k p : ℕ) (o : Option A) → reverse (rows_at k p o) ≡ rows_at k p o
  unfolding rows_at
  alone k p none = refl
  alone k p (some a) = refl

  down_from_at : (k p : ℕ) (rs : List (Row A)) → rising rs ≡ true → down_from k p rs ≡ rows_at k p (find k p rs) ++ reverse (keep (is_under k p) rs)
  unfolding down_from
  down_from_at k p rs h =
      ap reverse (up_to_split k p rs h) ∙ reverse-append (keep (is_under k p) rs) (keep (is_at k p) rs)
      ∙ ap (λ (l : List (Row A)). l ++ reverse (keep (is_under k p) rs)) (ap reverse (keep_at k p rs h) ∙ alone k p (find k p rs))

  under_zero : (k : ℕ) (rs : List (Row A)) → keep (is_under k 0) rs ≡ []
  unfolding keep is_under
  under_zero k [] = refl
  under_zero k (r ∷ rs) = rw (le-ltb r.place 0 zero-le, and-false (eqb r.key k)) (under_zero k rs)

  under_suc : (k n : ℕ) (r : Row A) → is_under k (suc n) r ≡ is_up_to k n r
  unfolding is_under is_up_to
  under_suc k n r = rw (leb-suc-suc r.place n)

  -- What a reader sees is decided by the look-ups of its key, up to its own reach.
  pub down_from_find : (k n : ℕ) (rs : List (Row A)) → rising rs ≡ true → down_from k n rs ≡ down k (λ p. find k p rs) n
  unfolding down down_from
  down_from_find k zero rs h =
      down_from_at k 0 rs h
      ∙ rw (under_zero k rs) (append-nil (rows_at k 0 (find k 0 rs)))
  down_from_find k (suc n) rs h =
      down_from_at k (suc n) rs h
      ∙ ap (λ (l : List (Row A)). rows_at k (suc n) (find k (suc n) rs) ++ l)
      (ap reverse (keep_same (is_under k (suc n)) (is_up_to k n) (under_suc k n) rs) ∙ down_from_find k n rs h)

  -- the same look-ups up to a place show the same rows
  pub down_same : (k n : ℕ) (f g : ℕ → Option A) → ((p : ℕ) → p ≤ n → f p ≡ g p) → down k f n ≡ down k g n
  unfolding down
  down_same k zero f g e = rw (e 0 zero-le)
  down_same k (suc n) f g e = rw (e (suc n) (omega arith), down_same k n f g (λ p h. e p (omega arith)))

  -- what stands nearest below a reader is what it meets first
  pub down_nearest : (k p n : ℕ) (f : ℕ → Option A) (a : A) → p ≤ n → f p ≡ some a → ((q : ℕ) → p < q → q ≤ n → f q ≡ none) →
      (rest : List (Row A)) × (down k f n ≡ record { key = k; place = p; held = a } ∷ rest)
  unfolding down rows_at
  down_nearest k p zero f a h e free = ([], let z : p ≡ 0 = omega arith in rw (← z, e))
  down_nearest k p (suc n) f a h e free =
      go (ℕ_discrete p (suc n)) (λ l. down_nearest k p n f a l e (λ q g i. free q g (omega arith)))
    where
      Met : ℕ → Type 0
      Met m = (rest : List (Row A)) × (down k f m ≡ record { key = k; place = p; held = a } ∷ rest)

      go : Dec (p ≡ suc n) → (p ≤ n → Met n) → Met (suc n)
      go (yes z) ih = (down k f n, rw (← z, e))
      go (no z) ih = let w = ih (omega arith) in (w.0, rw (free (suc n) (omega arith) (omega arith)) w.1)

-- ---- what is put and erased again

module _ {A : Type 0} (k p : ℕ) where
  -- rows that a test implies not to be at the place are not erased
  erase_apart : (q : Row A → Bool) → ((r : Row A) → q r ≡ true → is_at k p r ≡ false) → (rs : List (Row A)) → every q rs ≡ true → erase k p rs ≡ rs
  unfolding erase
  erase_apart q h rs e = keep_all (λ r. not (is_at k p r)) rs (every_imp q (λ r. not (is_at k p r)) (λ r f. rw (h r f)) rs e)

  pub erase_put : (a : A) (rs : List (Row A)) → rising rs ≡ true → find k p rs ≡ none → erase k p (put k p a rs) ≡ rs
  unfolding erase put keep rows_at
  erase_put a rs h f =
      keep_append (λ r. not (is_at k p r)) (keep (is_below k p) rs) (record { key = k; place = p; held = a } ∷ keep (is_above k p) rs)
      ∙ rw (
        erase_apart (is_below k p) (below_not_at k p) (keep (is_below k p) rs) (every_kept (is_below k p) rs),
        at_new k p a,
        erase_apart (is_above k p) (above_not_at k p) (keep (is_above k p) rs) (every_kept (is_above k p) rs),
      )
      (sym (split k p rs h ∙ rw (keep_at k p rs h, f)))
