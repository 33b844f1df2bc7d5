-- Rising rows as a finite map: what every row keeps to after an edit, and that equal look-ups are equal rows. (What a look-up finds after an
-- edit: `RowLookups`.)
-- Assumes nothing.
use mathlib.Core.Path.{◌≡◌, refl, sym, ◌∙◌, ap, ap₂}
use mathlib.Core.Bool.{Bool, true, false, not, ◌&&◌}
use mathlib.Core.List.{List, [], ◌∷◌}
use mathlib.Core.Option.{Option, none, some}
use Prim.Native.Nat.{ℕ}
use native.Mathlib.Omega.{arith}
use Rattle.lists.specs.Lists.{every, keep}
use Rattle.lists.proofs.Bools.{and_both, and_left, and_right}
use Rattle.lists.proofs.Lists.{every_imp, every_join, every_keep, every_reverse, keep_none}
use Rattle.model.specs.Rows.{Row, is_below, is_at, is_above, rising, held_first, find, put, erase, is_up_to, down_from, Edit, leave, set, clear, edited}
use Rattle.model.proofs.Rows.{Side, lower, here, upper, side, at_key, at_place, above_not_at, at_above, above_above, above_tell, below_told, rising_edited}
use Rattle.model.specs.Rows.{row_at}
use Rattle.model.proofs.RowPlaces.{new_is_at}

-- What a test of a row says of what stands at a key and place, and of an edit there.
unfoldable pub passes : {A : Type 0} → (Row A → Bool) → ℕ → ℕ → Option A → Bool
passes t k p none = true
passes t k p (some a) = t (row_at k p a)

unfoldable pub edit_passes_lem : {A : Type 0} → (Row A → Bool) → ℕ → ℕ → Edit A → Bool
edit_passes_lem t k p leave = true
edit_passes_lem t k p (set a) = t (row_at k p a)
edit_passes_lem t k p clear = true

module _ {A : Type 0} where
  -- what is found is one of the rows
  pub every_find : (t : Row A → Bool) (k p : ℕ) (rows : List (Row A)) → every t rows ≡ true → passes t k p (find k p rows) ≡ true
  unfolding find keep every held_first passes row_at
  every_find t k p [] h = refl
  every_find t k p (r ∷ rows) h =
      go (is_at k p r) refl (every_find t k p rows (and_right (t r) (every t rows) h))
    where
      go : (b : Bool) → is_at k p r ≡ b → passes t k p (find k p rows) ≡ true → passes t k p (find k p (r ∷ rows)) ≡ true
      go true e ih =
          rw (e, ← at_key k p r e, ← at_place k p r e) (and_left (t r) (every t rows) h)
      go false e ih = rw e ih

  pub every_put : (t : Row A → Bool) (k p : ℕ) (a : A) (rows : List (Row A)) → t (row_at k p a) ≡ true → every t rows ≡ true → every t (put k p a rows) ≡ true
  unfolding put every row_at
  every_put t k p a rows n h =
      every_join t (keep (is_below k p) rows) (row_at k p a ∷ keep (is_above k p) rows) (every_keep t (is_below k p) rows h)
      (and_both (t (row_at k p a)) (every t (keep (is_above k p) rows)) n (every_keep t (is_above k p) rows h))

  pub every_erase : (t : Row A → Bool) (k p : ℕ) (rows : List (Row A)) → every t rows ≡ true → every t (erase k p rows) ≡ true
  unfolding erase
  every_erase t k p rows h = every_keep t (λ r. not (is_at k p r)) rows h

  pub every_edited : (t : Row A → Bool) (k p : ℕ) (e : Edit A) (rows : List (Row A)) → edit_passes_lem t k p e ≡ true → every t rows ≡ true → every t (edited k p e rows) ≡ true
  unfolding edited edit_passes_lem
  every_edited t k p leave rows n h = h
  every_edited t k p (set a) rows n h = every_put t k p a rows n h
  every_edited t k p clear rows n h = every_erase t k p rows h

  pub every_down_from : (t : Row A → Bool) (k reach : ℕ) (rows : List (Row A)) → every t rows ≡ true → every t (down_from k reach rows) ≡ true
  unfolding down_from
  every_down_from t k reach rows h = every_reverse t (keep (is_up_to k reach) rows) (every_keep t (is_up_to k reach) rows h)

  -- rows that rise and pass a test still do after an edit that passes it
  pub rising_every_edited : (t : Row A → Bool) (k p : ℕ) (e : Edit A) (rows : List (Row A)) → edit_passes_lem t k p e ≡ true → (rising rows && every t rows) ≡ true → (rising (edited k p e rows) && every t (edited k p e rows)) ≡ true
  rising_every_edited t k p e rows n h =
      and_both (rising (edited k p e rows)) (every t (edited k p e rows))
      (rising_edited k p e rows (and_left (rising rows) (every t rows) h)) (every_edited t k p e rows n (and_right (rising rows) (every t rows) h))

-- ---- rising rows are told apart by their look-ups

module _ {A : Type 0} where
  find_here : (k p : ℕ) (r : Row A) (rs : List (Row A)) → is_at k p r ≡ true → find k p (r ∷ rs) ≡ some r.held
  unfolding find keep held_first
  find_here k p r rs e = rw e

  find_later : (k p : ℕ) (r : Row A) (rs : List (Row A)) → is_at k p r ≡ false → find k p (r ∷ rs) ≡ find k p rs
  unfolding find keep
  find_later k p r rs e = rw e

  find_above : (k p : ℕ) (rs : List (Row A)) → every (is_above k p) rs ≡ true → find k p rs ≡ none
  unfolding find held_first
  find_above k p rs h = ap held_first (keep_none (is_at k p) (is_above k p) (λ r. above_not_at k p r) rs h)

  find_self : (r : Row A) (rs : List (Row A)) → find r.key r.place (r ∷ rs) ≡ some r.held
  unfolding row_at
  find_self r rs = find_here r.key r.place r rs (new_is_at r.key r.place r.held)

  -- rows above the first of others do not find what those find there
  missed : (r : Row A) (rs ss : List (Row A)) → every (is_above r.key r.place) ss ≡ true → find r.key r.place (r ∷ rs) ≡ find r.key r.place ss → ⊥
  missed r rs ss h e =
      let f : find r.key r.place (r ∷ rs) ≡ some r.held = find_self r rs in
      let g : find r.key r.place ss ≡ none = find_above r.key r.place ss h in
      let z : ◌≡◌ {A = ℕ} 0 1 = cc in
      omega arith

  -- a row below another is below all that follow it
  above_all : (k p : ℕ) (r : Row A) (rs : List (Row A)) → is_above k p r ≡ true → every (is_above r.key r.place) rs ≡ true → every (is_above k p) (r ∷ rs) ≡ true
  unfolding every
  above_all k p r rs e h =
      and_both (is_above k p r) (every (is_above k p) rs) e (every_imp (is_above r.key r.place) (is_above k p) (λ s. above_above k p r s e) rs h)

  -- rows at one place pass the same tests of place
  at_same : (k p : ℕ) (x y : Row A) → is_at x.key x.place y ≡ true → is_at k p y ≡ is_at k p x
  unfolding is_at
  at_same k p x y a = rw (at_key x.key x.place y a, at_place x.key x.place y a)

  none_after : (k p : ℕ) (r : Row A) (rs : List (Row A)) → is_at k p r ≡ true → every (is_above r.key r.place) rs ≡ true → find k p rs ≡ none
  none_after k p r rs e h =
      find_above k p rs (every_imp (is_above r.key r.place) (is_above k p) (λ s. at_above k p r s e) rs h)

  same_row_lem : (x y : Row A) → is_at x.key x.place y ≡ true → x.held ≡ y.held → x ≡ y
  same_row_lem x y a e i =
      record { key = sym (at_key x.key x.place y a) i; place = sym (at_place x.key x.place y a) i; held = e i }

  -- two rising lists that every look-up finds the same in are one
  pub rising_ext : (xs ys : List (Row A)) → rising xs ≡ true → rising ys ≡ true → ((k p : ℕ) → find k p xs ≡ find k p ys) → xs ≡ ys
  unfolding rising every
  rising_ext [] [] g h e = refl
  rising_ext [] (y ∷ ys) g h e = absurd (missed y ys [] refl (sym (e y.key y.place)))
  rising_ext (x ∷ xs) [] g h e = absurd (missed x xs [] refl (e x.key x.place))
  rising_ext (x ∷ xs) (y ∷ ys) g h e =
      go (side x.key x.place y)
      (rising_ext xs ys (and_right (every (is_above x.key x.place) xs) (rising xs) g) (and_right (every (is_above y.key y.place) ys) (rising ys) h))
    where
      after_x : every (is_above x.key x.place) xs ≡ true
      after_x = and_left (every (is_above x.key x.place) xs) (rising xs) g

      after_y : every (is_above y.key y.place) ys ≡ true
      after_y = and_left (every (is_above y.key y.place) ys) (rising ys) h

      -- where the two first rows stand at one place, the rest find the same
      rest : is_at x.key x.place y ≡ true → (k p : ℕ) → find k p xs ≡ find k p ys
      rest a k p = by_first (is_at k p x) refl
        where
          by_first : (b : Bool) → is_at k p x ≡ b → find k p xs ≡ find k p ys
          by_first true f = none_after k p x xs f after_x ∙ sym (none_after k p y ys (at_same k p x y a ∙ f) after_y)
          by_first false f = sym (find_later k p x xs f) ∙ e k p ∙ find_later k p y ys (at_same k p x y a ∙ f)

      first : is_at x.key x.place y ≡ true → x ≡ y
      first a =
          let f : find x.key x.place (x ∷ xs) ≡ some x.held = find_self x xs in
          let l : find x.key x.place (y ∷ ys) ≡ some y.held = find_here x.key x.place y ys a in
          let s : some x.held ≡ some y.held = sym f ∙ e x.key x.place ∙ l in
          let t : x.held ≡ y.held = cc in
          same_row_lem x y a t

      go : Side x.key x.place y → (((k p : ℕ) → find k p xs ≡ find k p ys) → xs ≡ ys) → ◌≡◌ {A = List (Row A)} (x ∷ xs) (y ∷ ys)
      go (lower b a u) ih = absurd (missed y ys (x ∷ xs) (above_all y.key y.place x xs (above_tell y.key y.place x (below_told x.key x.place y b)) after_x) (sym (e y.key y.place)))
      go (upper b a u) ih = absurd (missed x xs (y ∷ ys) (above_all x.key x.place y ys u after_y) (e x.key x.place))
      go (here b a u) ih = ap₂ (λ (r : Row A) (l : List (Row A)). r ∷ l) (first a) (ih (rest a))
