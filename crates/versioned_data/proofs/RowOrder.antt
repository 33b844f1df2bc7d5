-- Rows that fall by spot, and their entries, which rise: what stands at a key and shifted index, and what an edit there is in both.
-- Assumes nothing.
use mathlib.Core.Path.{◌≡◌, refl, sym, ◌∙◌, ap, ap₂}
use mathlib.Core.Bool.{Bool, true}
use mathlib.Core.Logic.{inl, inr}
use mathlib.Core.List.{List, [], ◌∷◌, ◌++◌, map, reverse, reverse-cons, reverse-append, append_assoc, map-append}
use Prim.Native.Nat.{ℕ, ◌/◌, ◌%◌, ◌<◌}
use native.Mathlib.Omega.{arith}
use native.Mathlib.Decide.{dec_lt}
use lib.Dec.{ltb}
use lib.ListN.{length, length-map, length-reverse}
use borrow.Author.Tests.{ltb-true, lt-ltb}
use Rattle.lists.specs.Lists.{every}
use Rattle.lists.proofs.Bools.{and_both, and_left, and_right}
use Rattle.lists.proofs.Lists.{every_imp, every_reverse, every_join}
use Rattle.numbers.specs.Numbers.{Below, Drops}
use Rattle.store.specs.Held.{row_spots}
use Rattle.model.specs.Rows.{Row, is_below, is_at, is_above, rising}
use Rattle.model.specs.Data.{Entry}
use Rattle.model.proofs.Rows.{Side, lower, here, upper, side, Over, above_told, below_told, above_tell, at_key, at_place}
use Rattle.versioned_data.specs.Layout.{StoreRow, spot_of, entry_of}
use Rattle.versioned_data.proofs.EntryRows.{spot_back}

-- ---- spots in order xs keys and places

spot_lt : (l q k p : ℕ) → q < 4294967296 → Over l q k p → spot_of l q < spot_of k p
unfolding spot_of
spot_lt l q k p h (inl g) = omega arith
spot_lt l q k p h (inr g) = omega (arith, g.0, g.1)

lt_over : (a b : ℕ) → a < b → Over (a / 4294967296) (a % 4294967296) (b / 4294967296) (b % 4294967296)
lt_over a b h = go (dec_lt (a / 4294967296) (b / 4294967296))
  where
    go : Dec (a / 4294967296 < b / 4294967296) → Over (a / 4294967296) (a % 4294967296) (b / 4294967296) (b % 4294967296)
    go (yes g) = inl g
    go (no g) = inr (omega arith, omega arith)

module _ (k p : ℕ) (small : p < 4294967296) (u : StoreRow) where
  place_small : u.spot % 4294967296 < 4294967296
  place_small = omega arith

  told_below : is_below k p (entry_of u) ≡ true → u.spot < spot_of k p
  unfolding entry_of
  told_below e = omega (arith, spot_back u.spot, spot_lt (u.spot / 4294967296) (u.spot % 4294967296) k p place_small (below_told k p (entry_of u) e))

  told_above : is_above k p (entry_of u) ≡ true → spot_of k p < u.spot
  unfolding entry_of
  told_above e = omega (arith, spot_back u.spot, spot_lt k p (u.spot / 4294967296) (u.spot % 4294967296) small (above_told k p (entry_of u) e))

  told_at : is_at k p (entry_of u) ≡ true → u.spot ≡ spot_of k p
  unfolding entry_of
  told_at e = sym (spot_back u.spot) ∙ ap₂ spot_of (at_key k p (entry_of u) e) (at_place k p (entry_of u) e)

  pub row_above : spot_of k p < u.spot → is_above k p (entry_of u) ≡ true
  row_above h = go (side k p (entry_of u))
    where
      go : Side k p (entry_of u) → is_above k p (entry_of u) ≡ true
      go (lower b a c) = absurd (omega (arith, told_below b))
      go (here b a c) = absurd (omega (arith, told_at a))
      go (upper b a c) = c

  pub row_below : u.spot < spot_of k p → is_below k p (entry_of u) ≡ true
  row_below h = go (side k p (entry_of u))
    where
      go : Side k p (entry_of u) → is_below k p (entry_of u) ≡ true
      go (lower b a c) = b
      go (here b a c) = absurd (omega (arith, told_at a))
      go (upper b a c) = absurd (omega (arith, told_above c))

  pub row_is_at : u.spot ≡ spot_of k p → is_at k p (entry_of u) ≡ true
  row_is_at h = go (side k p (entry_of u))
    where
      go : Side k p (entry_of u) → is_at k p (entry_of u) ≡ true
      go (lower b a c) = absurd (omega (arith, told_below b))
      go (here b a c) = a
      go (upper b a c) = absurd (omega (arith, told_above c))

-- an entry above another's
pub entry_above : (u v : StoreRow) → u.spot < v.spot → is_above (entry_of u).key (entry_of u).place (entry_of v) ≡ true
unfolding entry_of
entry_above u v h = above_tell (u.spot / 4294967296) (u.spot % 4294967296) (entry_of v) (lt_over u.spot v.spot h)

-- ---- the entries of rows

unfoldable pub entries_of : List StoreRow → List (Row Entry)
entries_of rs = map entry_of (reverse rs)

pub entries_append : (xs ys : List StoreRow) → entries_of (xs ++ ys) ≡ entries_of ys ++ entries_of xs
unfolding entries_of
entries_append xs ys = ap (map entry_of) (reverse-append xs ys) ∙ map-append entry_of (reverse ys) (reverse xs)

pub entries_around : (xs : List StoreRow) (u : StoreRow) (ys : List StoreRow) → entries_of (xs ++ (u ∷ ys)) ≡ entries_of ys ++ (entry_of u ∷ entries_of xs)
unfolding entries_of
entries_around xs u ys =
    entries_append xs (u ∷ ys)
    ∙ ap (λ (l : List (Row Entry)). l ++ entries_of xs) (ap (map entry_of) (reverse-cons u ys) ∙ map-append entry_of (reverse ys) (u ∷ []))
    ∙ append_assoc (map entry_of (reverse ys)) (entry_of u ∷ []) (entries_of xs)

pub entries_length : (rs : List StoreRow) → length (entries_of rs) ≡ length rs
unfolding entries_of
entries_length rs = length-map (reverse rs) entry_of ∙ length-reverse rs

every_map : {A B : Type 0} (f : A → B) (p : B → Bool) (xs : List A) → every (λ x. p (f x)) xs ≡ true → every p (map f xs) ≡ true
unfolding every
every_map f p [] h = refl
every_map f p (x ∷ xs) h =
    and_both (p (f x)) (every p (map f xs)) (and_left (p (f x)) (every (λ x. p (f x)) xs) h) (every_map f p xs (and_right (p (f x)) (every (λ x. p (f x)) xs) h))

pub every_entries : (p : Row Entry → Bool) (rs : List StoreRow) → every (λ u. p (entry_of u)) rs ≡ true → every p (entries_of rs) ≡ true
unfolding entries_of
every_entries p rs h = every_map entry_of p (reverse rs) (every_reverse (λ u. p (entry_of u)) rs h)

-- rows whose spots fall have entries that rise
pub every_below : (y : ℕ) (rs : List StoreRow) → Below y (row_spots rs) → every (λ u. ltb u.spot y) rs ≡ true
unfolding every Below
every_below y [] b = refl
every_below y (u ∷ rs) b = and_both (ltb u.spot y) (every (λ u. ltb u.spot y) rs) (lt-ltb u.spot y b.0) (every_below y rs b.1)

rising_snoc : (rs : List (Row Entry)) (r : Row Entry) → rising rs ≡ true → every (λ q. is_above q.key q.place r) rs ≡ true → rising (rs ++ (r ∷ [])) ≡ true
unfolding rising every
rising_snoc [] r h a = refl
rising_snoc (q ∷ rs) r h a =
    and_both (every (is_above q.key q.place) (rs ++ (r ∷ []))) (rising (rs ++ (r ∷ [])))
    (every_join (is_above q.key q.place) rs (r ∷ []) (and_left (every (is_above q.key q.place) rs) (rising rs) h)
    (and_both (is_above q.key q.place r) true (and_left (is_above q.key q.place r) (every (λ q. is_above q.key q.place r) rs) a) refl))
    (rising_snoc rs r (and_right (every (is_above q.key q.place) rs) (rising rs) h)
    (and_right (is_above q.key q.place r) (every (λ q. is_above q.key q.place r) rs) a))

none_rise : rising (entries_of []) ≡ true
unfolding rising entries_of
none_rise = refl

pub entries_rise : (rs : List StoreRow) → Drops (row_spots rs) → rising (entries_of rs) ≡ true
unfolding Drops entries_of
entries_rise [] d = none_rise
entries_rise (u ∷ rs) d =
    ap rising (entries_around [] u rs)
    ∙ rising_snoc (entries_of rs) (entry_of u) (entries_rise rs d.1)
    (every_entries (λ q. is_above q.key q.place (entry_of u)) rs
    (every_imp (λ v. ltb v.spot u.spot) (λ v. is_above (entry_of v).key (entry_of v).place (entry_of u)) (λ v e. entry_above v u (ltb-true v.spot u.spot e)) rs
    (every_below u.spot rs d.0)))
