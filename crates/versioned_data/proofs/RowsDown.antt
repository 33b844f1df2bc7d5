-- What a walk meets from a position of the falling rows on is what a reader sees.
-- Assumes nothing.
use mathlib.Core.Path.{◌≡◌, refl, sym, ◌∙◌, ap}
use mathlib.Core.Bool.{Bool, true, false, ◌&&◌}
use mathlib.Core.List.{List, [], ◌∷◌, ◌++◌, map, reverse, reverse-cons, reverse-reverse}
use Prim.Native.Nat.{ℕ, zero, suc, ◌+◌, ◌*◌, ◌/◌, ◌%◌, ◌≤◌, ◌<◌}
use native.Mathlib.Omega.{arith}
use native.Mathlib.Decide.{ℕ_discrete}
use lib.Dec.{leb, ltb, eqb}
use lib.ListN.{length, get_or, drop}
use borrow.Author.Tests.{ltb-true, ltb-false, eqb-true, le-ltb, le-leb, lt-leb, eq-eqb, ne_eqb}
use Rattle.lists.specs.Lists.{front, keep}
use Rattle.lists.proofs.Bools.{true_not_false}
use Rattle.lists.proofs.Lists.{keep_reverse}
use Rattle.probe.specs.Cells.{count_above}
use Rattle.numbers.specs.Numbers.{Below, Drops}
use Rattle.store.specs.Held.{row_spots, no_row}
use Rattle.model.specs.Rows.{Row, is_up_to, down_from}
use Rattle.model.specs.Data.{Entry}
use Rattle.versioned_data.specs.Layout.{StoreRow, spot_of, entry_of}
use Rattle.versioned_data.specs.Down.{down_rows}

map-append : {A B : Type 0} (f : A → B) (xs ys : List A) → map f (xs ++ ys) ≡ map f xs ++ map f ys
map-append f [] ys = refl
map-append {B = B} f (x ∷ xs) ys = ap (λ (l : List B). f x ∷ l) (map-append f xs ys)

drop_end : {A : Type 0} (c : ℕ) (xs : List A) → length xs ≤ c → drop c xs ≡ []
drop_end zero [] h = refl
drop_end (suc c) [] h = refl
drop_end zero (x ∷ xs) h = absurd (omega arith)
drop_end (suc c) (x ∷ xs) h = drop_end c xs (omega arith)

drop_at : (c : ℕ) (xs : List StoreRow) → c < length xs → drop c xs ≡ get_or xs c no_row ∷ drop (suc c) xs
drop_at zero [] h = absurd (omega arith)
drop_at (suc c) [] h = absurd (omega arith)
drop_at zero (x ∷ xs) h = refl
drop_at (suc c) (x ∷ xs) h = drop_at c xs (omega arith)

pub map_reverse : {A B : Type 0} (f : A → B) (xs : List A) → map f (reverse xs) ≡ reverse (map f xs)
map_reverse f [] = refl
map_reverse {B = B} f (x ∷ xs) =
    ap (map f) (reverse-cons x xs) ∙ map-append f (reverse xs) (x ∷ []) ∙ ap (λ (l : List B). l ++ (f x ∷ [])) (map_reverse f xs) ∙ sym (reverse-cons (f x) (map f xs))

-- what a reader sees, in the order of the rows
down_keep : (key reach : ℕ) (rows : List StoreRow) → down_from key reach (map entry_of (reverse rows)) ≡ keep (is_up_to key reach) (map entry_of rows)
unfolding down_from
down_keep key reach rows =
    ap (λ (l : List (Row Entry)). reverse (keep (is_up_to key reach) l)) (map_reverse entry_of rows)
    ∙ ap reverse (keep_reverse (is_up_to key reach) (map entry_of rows))
    ∙ reverse-reverse (keep (is_up_to key reach) (map entry_of rows))

module _ (key reach : ℕ) (small : reach < 4294967296) where
  -- a row above the place where a reader starts is not seen
  above_unseen : (u : StoreRow) → ltb (spot_of key reach) u.spot ≡ true → is_up_to key reach (entry_of u) ≡ false
  unfolding is_up_to entry_of spot_of
  above_unseen u h = go (ℕ_discrete (u.spot / 4294967296) key)
    where
      go : Dec (u.spot / 4294967296 ≡ key) → (eqb (u.spot / 4294967296) key && leb (u.spot % 4294967296) reach) ≡ false
      go (yes e) =
          let l : reach + 4294967296 * key < u.spot = ltb-true (reach + 4294967296 * key) u.spot h in
          rw (eq-eqb (u.spot / 4294967296) key e, lt-leb (u.spot % 4294967296) reach (omega arith))
      go (no n) = rw (ne_eqb (u.spot / 4294967296) key n)

  other_key : (u : StoreRow) → eqb (entry_of u).key key ≡ false → u.spot / 4294967296 ≡ key → ⊥
  unfolding entry_of
  other_key u f e = true_not_false (eqb (u.spot / 4294967296) key) (eq-eqb (u.spot / 4294967296) key e) f

  other_unseen : (u : StoreRow) → eqb (entry_of u).key key ≡ false → is_up_to key reach (entry_of u) ≡ false
  unfolding is_up_to
  other_unseen u f = rw f

  -- one below it of the key is
  below_seen : (u : StoreRow) → ltb (spot_of key reach) u.spot ≡ false → eqb (entry_of u).key key ≡ true → is_up_to key reach (entry_of u) ≡ true
  unfolding is_up_to entry_of spot_of
  below_seen u h e =
      let l : u.spot ≤ reach + 4294967296 * key = ltb-false (reach + 4294967296 * key) u.spot h in
      let k : u.spot / 4294967296 ≡ key = eqb-true (u.spot / 4294967296) key e in
      rw (e, le-leb (u.spot % 4294967296) reach (omega arith))

  -- below a row of a lower key nothing is seen
  lower_unseen : (x : ℕ) → x ≤ spot_of key reach → (x / 4294967296 ≡ key → ⊥) → (us : List StoreRow) → Below x (row_spots us) → keep (is_up_to key reach) (map entry_of us) ≡ []
  unfolding keep Below spot_of is_up_to entry_of
  lower_unseen x h n [] b = refl
  lower_unseen x h n (u ∷ us) b =
      let l : u.spot < x = b.0 in
      rw (ne_eqb (u.spot / 4294967296) key (omega arith)) (lower_unseen x h n us b.1)

  count_none : (x : ℕ) → x ≤ spot_of key reach → (xs : List ℕ) → Below x xs → count_above (spot_of key reach) xs ≡ 0
  unfolding count_above Below
  count_none x h [] b = refl
  count_none x h (z ∷ zs) b = rw (le-ltb (spot_of key reach) z (omega (arith, b.0)))

  seen : (rows : List StoreRow) → Drops (row_spots rows) → down_rows key (count_above (spot_of key reach) (row_spots rows)) rows ≡ keep (is_up_to key reach) (map entry_of rows)
  unfolding down_rows Drops count_above keep front
  seen [] d = refl
  seen (u ∷ us) d = go (ltb (spot_of key reach) u.spot) refl (eqb (entry_of u).key key) refl (seen us d.1)
    where
      go : (b : Bool) → ltb (spot_of key reach) u.spot ≡ b → (q : Bool) → eqb (entry_of u).key key ≡ q →
          down_rows key (count_above (spot_of key reach) (row_spots us)) us ≡ keep (is_up_to key reach) (map entry_of us) →
          down_rows key (count_above (spot_of key reach) (row_spots (u ∷ us))) (u ∷ us) ≡ keep (is_up_to key reach) (map entry_of (u ∷ us))
      go true e q f ih = rw (e, above_unseen u e) ih
      go false e true f ih =
          let c : count_above (spot_of key reach) (row_spots us) ≡ 0 = count_none u.spot (ltb-false (spot_of key reach) u.spot e) (row_spots us) d.0 in
          rw (e, f, below_seen u e f) (ap (λ (l : List (Row Entry)). entry_of u ∷ l) (rw c at ih))
      go false e false f ih =
          rw (e, f, other_unseen u f) (sym (lower_unseen u.spot (ltb-false (spot_of key reach) u.spot e) (other_key u f) us d.0))

  pub down_from_lem : (rows : List StoreRow) → Drops (row_spots rows) → down_rows key (count_above (spot_of key reach) (row_spots rows)) rows ≡ down_from key reach (map entry_of (reverse rows))
  down_from_lem rows d = seen rows d ∙ sym (down_keep key reach rows)

-- ---- one step of the walk

module _ (key c : ℕ) (rows : List StoreRow) where
  pub down_end : length rows ≤ c → down_rows key c rows ≡ []
  unfolding down_rows front
  down_end h = rw (drop_end c rows h)

  pub down_other : c < length rows → ((get_or rows c no_row).spot / 4294967296 ≡ key → ⊥) → down_rows key c rows ≡ []
  unfolding down_rows front entry_of
  down_other h n = rw (drop_at c rows h, ne_eqb ((get_or rows c no_row).spot / 4294967296) key n)

  pub down_here : c < length rows → (get_or rows c no_row).spot / 4294967296 ≡ key → down_rows key c rows ≡ entry_of (get_or rows c no_row) ∷ down_rows key (suc c) rows
  unfolding down_rows front entry_of
  down_here h e = rw (drop_at c rows h, eq-eqb ((get_or rows c no_row).spot / 4294967296) key e)
