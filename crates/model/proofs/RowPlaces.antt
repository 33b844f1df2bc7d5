-- Rising rows by position: where a row stands or would stand, and what an edit is there. A store that keeps rows in order works by these.
-- Assumes nothing.
use mathlib.Core.Path.{◌≡◌, refl, sym, ◌∙◌, ap, ap₂}
use mathlib.Core.Bool.{Bool, true, false, cond, not, ◌&&◌, ◌||◌}
use mathlib.Core.Logic.{inl, inr}
use mathlib.Core.List.{List, [], ◌∷◌, ◌++◌, reverse, reverse-cons, reverse-append}
use mathlib.Core.Option.{none, some}
use Prim.Native.Nat.{ℕ, suc, ◌+◌, ◌≤◌, ◌<◌}
use native.Mathlib.Omega.{arith}
use lib.Dec.{leb, ltb, eqb, leb-suc-suc}
use lib.ListN.{length, get_or, set, take, drop, length-append}
use lib.Seq.{take-suc, take_at, drop_at, get_or_at, set_at, drop-drop}
use borrow.Author.Tests.{leb-true, eqb-true, le-ltb, le-leb, eq-eqb}
use Rattle.lists.specs.Lists.{every, front, keep}
use Rattle.lists.proofs.Bools.{and_both, and_left, and_right}
use Rattle.lists.proofs.Lists.{every_imp, every_kept, every_reverse, keep_all, keep_append, keep_both, keep_none}
use Rattle.model.specs.Rows.{Row, is_below, is_at, is_above, rising, held_first, find, put, erase, is_up_to, down_from, rank, row_at, down_at}
use Rattle.model.proofs.Rows.{Side, lower, here, upper, side, split, at_key, at_place, above_not_at, below_not_at, at_above, above_told, below_told, Over, rising_keep}

module _ {A : Type 0} (k p : ℕ) where
  -- at a key and place stands at most one row
  pub at_absent : (rs : List (Row A)) → find k p rs ≡ none → keep (is_at k p) rs ≡ []
  unfolding find held_first
  at_absent rs e = go (keep (is_at k p) rs) refl e
    where
      go : (l : List (Row A)) → keep (is_at k p) rs ≡ l → held_first l ≡ none → keep (is_at k p) rs ≡ []
      go [] f e = f
      go (r ∷ l) f e = absurd (let y : ◌≡◌ {A = ℕ} 0 1 = cc in omega arith)

  row_is : (r : Row A) → is_at k p r ≡ true → r ≡ row_at k p r.held
  unfolding row_at
  row_is r e i = record { key = at_key k p r e i; place = at_place k p r e i; held = r.held }

  pub at_present : (rs : List (Row A)) (a : A) → rising rs ≡ true → find k p rs ≡ some a → keep (is_at k p) rs ≡ row_at k p a ∷ []
  unfolding find held_first keep rising
  at_present [] a g e = absurd (let y : ◌≡◌ {A = ℕ} 0 1 = cc in omega arith)
  at_present (r ∷ rs) a g e =
      go (side k p r) (at_present rs a (and_right (every (is_above r.key r.place) rs) (rising rs) g))
    where
      none_later : is_at k p r ≡ true → keep (is_at k p) rs ≡ []
      none_later f =
          keep_none (is_at k p) (is_above k p) (λ s. above_not_at k p s) rs
          (every_imp (is_above r.key r.place) (is_above k p) (λ s. at_above k p r s f) rs (and_left (every (is_above r.key r.place) rs) (rising rs) g))

      go : Side k p r → (find k p rs ≡ some a → keep (is_at k p) rs ≡ row_at k p a ∷ []) → keep (is_at k p) (r ∷ rs) ≡ row_at k p a ∷ []
      go (lower b f u) ih = rw f (ih (rw f at e))
      go (upper b f u) ih = rw f (ih (rw f at e))
      go (here b f u) ih =
          let h : some r.held ≡ some a = rw f at e in
          let held_is : r.held ≡ a = cc in
          rw (f, none_later f) (ap (λ (x : Row A). x ∷ []) (row_is r f ∙ ap (row_at k p) held_is))

  pub new_is_at : (a : A) → is_at k p (row_at k p a) ≡ true
  unfolding is_at row_at
  new_is_at a = rw (eq-eqb k k refl, eq-eqb p p refl)

  erase_around : (xs : List (Row A)) (r : Row A) (ys : List (Row A)) → is_at k p r ≡ true → keep (λ s. not (is_at k p s)) xs ≡ xs → keep (λ s. not (is_at k p s)) ys ≡ ys → erase k p (xs ++ (r ∷ ys)) ≡ xs ++ ys
  unfolding erase keep
  erase_around xs r ys e f h = keep_append (λ s. not (is_at k p s)) xs (r ∷ ys) ∙ rw (f, e, h)

  module _ (rs : List (Row A)) (g : rising rs ≡ true) where
    -- the rows below, and the others
    pub take_rank : take (rank k p rs) rs ≡ keep (is_below k p) rs
    unfolding rank
    take_rank =
        ap (take (length (keep (is_below k p) rs))) (split k p rs g)
        ∙ take_at (keep (is_below k p) rs) (keep (is_at k p) rs ++ keep (is_above k p) rs) (length (keep (is_below k p) rs)) refl

    pub drop_rank : drop (rank k p rs) rs ≡ keep (is_at k p) rs ++ keep (is_above k p) rs
    unfolding rank
    drop_rank =
        ap (drop (length (keep (is_below k p) rs))) (split k p rs g)
        ∙ drop_at (keep (is_below k p) rs) (keep (is_at k p) rs ++ keep (is_above k p) rs) (length (keep (is_below k p) rs)) refl

    pub rank_le : rank k p rs ≤ length rs
    unfolding rank
    rank_le = omega (arith, ap length (split k p rs g) ∙ length-append (keep (is_below k p) rs) (keep (is_at k p) rs ++ keep (is_above k p) rs))

    -- nothing there: an insertion
    pub put_absent : (a : A) → find k p rs ≡ none → put k p a rs ≡ take (rank k p rs) rs ++ (row_at k p a ∷ drop (rank k p rs) rs)
    unfolding put row_at
    put_absent a e = rw (take_rank, drop_rank, at_absent rs e)

    module _ (b : A) (e : find k p rs ≡ some b) where
      whole : rs ≡ keep (is_below k p) rs ++ (row_at k p b ∷ keep (is_above k p) rs)
      whole = split k p rs g ∙ ap (λ (l : List (Row A)). keep (is_below k p) rs ++ (l ++ keep (is_above k p) rs)) (at_present rs b g e)

      pub rank_lt : rank k p rs < length rs
      unfolding rank
      rank_lt = omega (arith, ap length whole ∙ length-append (keep (is_below k p) rs) (row_at k p b ∷ keep (is_above k p) rs))

      -- the row there
      pub get_d_rank : (d : Row A) → get_or rs (rank k p rs) d ≡ row_at k p b
      unfolding rank
      get_d_rank d =
          ap (λ (l : List (Row A)). get_or l (length (keep (is_below k p) rs)) d) whole
          ∙ get_or_at (keep (is_below k p) rs) (row_at k p b) (keep (is_above k p) rs) d (length (keep (is_below k p) rs)) refl

      -- something there: a replacement, or a removal
      pub put_present : (a : A) → put k p a rs ≡ set rs (rank k p rs) (row_at k p a)
      unfolding put rank row_at
      put_present a =
          sym
          (ap (λ (l : List (Row A)). set l (length (keep (is_below k p) rs)) (row_at k p a)) whole
          ∙ set_at (keep (is_below k p) rs) (row_at k p b) (keep (is_above k p) rs) (row_at k p a) (length (keep (is_below k p) rs)) refl)

      pub erase_present : erase k p rs ≡ take (rank k p rs) rs ++ drop (rank k p rs + 1) rs
      erase_present =
          ap (erase k p) whole ∙ erase_whole
          ∙ sym
          (ap₂ (λ (l m : List (Row A)). l ++ m) take_rank
          (sym (drop-drop 1 (rank k p rs) rs) ∙ ap (drop 1) (drop_rank ∙ ap (λ (l : List (Row A)). l ++ keep (is_above k p) rs) (at_present rs b g e))))
        where
          stays : (q : Row A → Bool) → ((r : Row A) → q r ≡ true → is_at k p r ≡ false) → keep (λ r. not (is_at k p r)) (keep q rs) ≡ keep q rs
          stays q f =
              keep_all (λ r. not (is_at k p r)) (keep q rs)
              (every_imp q (λ r. not (is_at k p r)) (λ r h. ap not (f r h)) (keep q rs) (every_kept q rs))

          new_at : is_at k p (row_at k p b) ≡ true
          new_at = new_is_at b

          erase_whole : erase k p (keep (is_below k p) rs ++ (row_at k p b ∷ keep (is_above k p) rs)) ≡ keep (is_below k p) rs ++ keep (is_above k p) rs
          erase_whole = erase_around (keep (is_below k p) rs) (row_at k p b) (keep (is_above k p) rs) new_at (stays (is_below k p) (λ r. below_not_at k p r)) (stays (is_above k p) (λ r. above_not_at k p r))

module _ {A : Type 0} (q : A → Bool) where
  front_all : (xs ys : List A) → every q xs ≡ true → front q (xs ++ ys) ≡ xs ++ front q ys
  unfolding front every
  front_all [] ys e = refl
  front_all (x ∷ xs) ys e = rw (and_left (q x) (every q xs) e, front_all xs ys (and_right (q x) (every q xs) e))

  front_snoc : (xs : List A) (y : A) → q y ≡ false → front q (xs ++ (y ∷ [])) ≡ front q xs
  unfolding front
  front_snoc [] y e = rw e
  front_snoc (x ∷ xs) y e = go (q x) refl (front_snoc xs y e)
    where
      go : (b : Bool) → q x ≡ b → front q (xs ++ (y ∷ [])) ≡ front q xs → front q (x ∷ (xs ++ (y ∷ []))) ≡ front q (x ∷ xs)
      go true f ih = rw (f, ih)
      go false f ih = rw f

module _ {A : Type 0} (k : ℕ) where
  -- where a row has the key and those above it have none higher, they have it too
  same_key : (b : Row A) (r : Row A) → eqb b.key k ≡ true → is_above b.key b.place r ≡ true → leb r.key k ≡ true → eqb r.key k ≡ true
  same_key b r e f h = eq-eqb r.key k (by (above_told b.key b.place r f))
    where
      by : Over b.key b.place r.key r.place → r.key ≡ k
      by (inl g) = omega (arith, eqb-true b.key k e, leb-true r.key k h)
      by (inr g) = omega (arith, g.0, eqb-true b.key k e)

  every_same : (b : Row A) (bs : List (Row A)) → eqb b.key k ≡ true → every (is_above b.key b.place) bs ≡ true → every (λ r. leb r.key k) bs ≡ true → every (λ r. eqb r.key k) bs ≡ true
  unfolding every
  every_same b [] e f h = refl
  every_same b (r ∷ bs) e f h =
      and_both (eqb r.key k) (every (λ r. eqb r.key k) bs)
      (same_key b r e (and_left (is_above b.key b.place r) (every (is_above b.key b.place) bs) f) (and_left (leb r.key k) (every (λ r. leb r.key k) bs) h))
      (every_same b bs e (and_right (is_above b.key b.place r) (every (is_above b.key b.place) bs) f) (and_right (leb r.key k) (every (λ r. leb r.key k) bs) h))

  front_reverse : (bs : List (Row A)) → rising bs ≡ true → every (λ r. leb r.key k) bs ≡ true → front (λ r. eqb r.key k) (reverse bs) ≡ reverse (keep (λ r. eqb r.key k) bs)
  unfolding rising every keep front
  front_reverse [] g h = refl
  front_reverse (b ∷ bs) g h =
      go (eqb b.key k) refl
      (front_reverse bs (and_right (every (is_above b.key b.place) bs) (rising bs) g) (and_right (leb b.key k) (every (λ r. leb r.key k) bs) h))
    where
      all : eqb b.key k ≡ true → every (λ r. eqb r.key k) bs ≡ true
      all e = every_same b bs e (and_left (every (is_above b.key b.place) bs) (rising bs) g) (and_right (leb b.key k) (every (λ r. leb r.key k) bs) h)

      go : (c : Bool) → eqb b.key k ≡ c → front (λ r. eqb r.key k) (reverse bs) ≡ reverse (keep (λ r. eqb r.key k) bs) →
          front (λ r. eqb r.key k) (reverse (b ∷ bs)) ≡ reverse (keep (λ r. eqb r.key k) (b ∷ bs))
      go true e ih =
          ap (front (λ r. eqb r.key k)) (reverse-cons b bs)
          ∙ front_all (λ r. eqb r.key k) (reverse bs) (b ∷ []) (every_reverse (λ r. eqb r.key k) bs (all e))
          ∙ rw (e, keep_all (λ r. eqb r.key k) bs (all e), reverse-cons b bs)
      go false e ih =
          ap (front (λ r. eqb r.key k)) (reverse-cons b bs) ∙ front_snoc (λ r. eqb r.key k) (reverse bs) b e ∙ ih ∙ rw e

  -- below the next place of a key: rows of that key up to the place, and rows of lower keys
  below_next : (reach : ℕ) (r : Row A) → (eqb r.key k && is_below k (suc reach) r) ≡ is_up_to k reach r
  unfolding is_below is_up_to
  below_next reach r = go (eqb r.key k) refl
    where
      go : (b : Bool) → eqb r.key k ≡ b → (eqb r.key k && (ltb r.key k || eqb r.key k && ltb r.place (suc reach))) ≡ (eqb r.key k && leb r.place reach)
      go true e = rw (e, le-ltb r.key k (omega (arith, eqb-true r.key k e))) (leb-suc-suc r.place reach)
      go false e = rw e

  below_key : (reach : ℕ) (r : Row A) → is_below k (suc reach) r ≡ true → leb r.key k ≡ true
  below_key reach r e = le-leb r.key k (by (below_told k (suc reach) r e))
    where
      by : Over r.key r.place k (suc reach) → r.key ≤ k
      by (inl g) = omega arith
      by (inr g) = omega (arith, g.0)

  -- what a walk meets from where the next place of the key would stand is what a reader sees
  pub down_at_rank : (reach : ℕ) (rs : List (Row A)) → rising rs ≡ true → down_at k (rank k (suc reach) rs) rs ≡ down_from k reach rs
  unfolding down_at down_from
  down_at_rank reach rs g =
      ap (λ (l : List (Row A)). front (λ r. eqb r.key k) (reverse l)) (take_rank k (suc reach) rs g)
      ∙ front_reverse (keep (is_below k (suc reach)) rs) (rising_keep (is_below k (suc reach)) rs g)
      (every_imp (is_below k (suc reach)) (λ r. leb r.key k) (λ r. below_key reach r) (keep (is_below k (suc reach)) rs) (every_kept (is_below k (suc reach)) rs))
      ∙ ap reverse (keep_both (λ r. eqb r.key k) (is_below k (suc reach)) (is_up_to k reach) (λ r. below_next reach r) rs)

  pub down_at_zero : (rs : List (Row A)) → down_at k 0 rs ≡ []
  unfolding down_at front
  down_at_zero rs = refl

  -- one step of the walk
  pub down_at_suc : (i : ℕ) (rs : List (Row A)) (d : Row A) → i < length rs → down_at k (suc i) rs ≡ cond (eqb (get_or rs i d).key k) (get_or rs i d ∷ down_at k i rs) []
  unfolding down_at front
  down_at_suc i rs d h = rw (take-suc rs i d h, reverse-append (take i rs) (get_or rs i d ∷ []))
