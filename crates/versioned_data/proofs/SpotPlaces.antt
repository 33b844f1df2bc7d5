-- Falling rows around a spot: where it stands among them, and what an edit there is among their entries.
-- Assumes nothing.
use mathlib.Core.Path.{◌≡◌, refl, sym, ◌∙◌, ap, ap₂}
use mathlib.Core.Bool.{Bool, true, false, not, ◌&&◌, ◌||◌}
use mathlib.Core.List.{List, [], ◌∷◌, ◌++◌, append-nil}
use mathlib.Core.Option.{none, some}
use Prim.Native.Nat.{ℕ, suc, ◌+◌, ◌-◌, ◌<◌}
use native.Mathlib.Omega.{arith}
use native.Mathlib.Decide.{dec_lt, ℕ_discrete}
use lib.Dec.{ltb, eqb}
use lib.ListN.{length, get_or, set, take, drop, length-append}
use lib.Seq.{take_at, drop_at, drop-drop, set_at, get_or_at}
use borrow.Author.Tests.{ltb-true, lt-ltb, le-ltb, eq-eqb, ne_eqb}
use Rattle.lists.specs.Lists.{every, keep}
use Rattle.lists.proofs.Bools.{and_both, and_left}
use Rattle.lists.proofs.Lists.{keep_append, keep_all, keep_none, every_imp}
use Rattle.probe.specs.Cells.{count_above, insert_at, erase_at}
use Rattle.numbers.specs.Numbers.{Below, Drops}
use Rattle.store.specs.Held.{row_spots, no_row}
use Rattle.model.specs.Rows.{Row, is_below, is_at, is_above, held_first, find, put, erase, rank, row_at}
use Rattle.model.specs.Data.{Entry}
use Rattle.model.proofs.Rows.{Side, lower, upper, side, above_not_at, above_not_below, below_not_at}
use Rattle.model.proofs.Rows as Sides
use Rattle.versioned_data.specs.Layout.{StoreRow, spot_of, entry_of}
use Rattle.versioned_data.proofs.RowOrder.{entries_of, entries_append, entries_around, entries_length, every_entries, every_below, row_above, row_below, row_is_at}

-- ---- rows below a place, and rows above it

module _ (k p : ℕ) (r : Row Entry) where
  below_not_above : is_below k p r ≡ true → is_above k p r ≡ false
  below_not_above e = go (side k p r)
    where
      go : Side k p r → is_above k p r ≡ false
      go (lower b a u) = u
      go (Sides.here b a u) = u
      go (upper b a u) = absurd (let z : ◌≡◌ {A = ℕ} 0 1 = cc in omega arith)

  at_not_above : is_at k p r ≡ true → is_above k p r ≡ false
  at_not_above e = go (side k p r)
    where
      go : Side k p r → is_above k p r ≡ false
      go (lower b a u) = u
      go (Sides.here b a u) = u
      go (upper b a u) = absurd (let z : ◌≡◌ {A = ℕ} 0 1 = cc in omega arith)

  at_not_below : is_at k p r ≡ true → is_below k p r ≡ false
  at_not_below e = go (side k p r)
    where
      go : Side k p r → is_below k p r ≡ false
      go (lower b a u) = absurd (let z : ◌≡◌ {A = ℕ} 0 1 = cc in omega arith)
      go (Sides.here b a u) = b
      go (upper b a u) = b

  -- below the next place: not above this one
  below_next : is_below k (suc p) r ≡ not (is_above k p r)
  unfolding is_below is_above
  below_next = go (dec_lt r.key k) (dec_lt k r.key) (dec_lt p r.place)
    where
      go : Dec (r.key < k) → Dec (k < r.key) → Dec (p < r.place) →
          (ltb r.key k || eqb r.key k && ltb r.place (suc p)) ≡ not (ltb k r.key || eqb r.key k && ltb p r.place)
      go (yes h) g f = rw (lt-ltb r.key k h, le-ltb k r.key (omega arith), ne_eqb r.key k (omega arith))
      go (no h) (yes g) f = rw (le-ltb r.key k (omega arith), lt-ltb k r.key g, ne_eqb r.key k (omega arith))
      go (no h) (no g) (yes f) =
          rw (le-ltb r.key k (omega arith), le-ltb k r.key (omega arith), eq-eqb r.key k (omega arith), le-ltb r.place (suc p) (omega arith), lt-ltb p r.place f)
      go (no h) (no g) (no f) =
          rw (le-ltb r.key k (omega arith), le-ltb k r.key (omega arith), eq-eqb r.key k (omega arith), lt-ltb r.place (suc p) (omega arith), le-ltb p r.place (omega arith))

module _ (k p : ℕ) (xs ys : List (Row Entry)) (b : every (is_below k p) xs ≡ true) (a : every (is_above k p) ys ≡ true) where
  none_at_below : keep (is_at k p) xs ≡ []
  none_at_below = keep_none (is_at k p) (is_below k p) (λ r. below_not_at k p r) xs b

  none_at_above : keep (is_at k p) ys ≡ []
  none_at_above = keep_none (is_at k p) (is_above k p) (λ r. above_not_at k p r) ys a

  all_below : keep (is_below k p) xs ≡ xs
  all_below = keep_all (is_below k p) xs b

  none_below : keep (is_below k p) ys ≡ []
  none_below = keep_none (is_below k p) (is_above k p) (λ r. above_not_below k p r) ys a

  all_above : keep (is_above k p) ys ≡ ys
  all_above = keep_all (is_above k p) ys a

  none_above : keep (is_above k p) xs ≡ []
  none_above = keep_none (is_above k p) (is_below k p) (λ r. below_not_above k p r) xs b

  find_gone : find k p (xs ++ ys) ≡ none
  unfolding find held_first
  find_gone = ap held_first (keep_append (is_at k p) xs ys) ∙ rw (none_at_below, none_at_above)

  put_gone : (e : Entry) → put k p e (xs ++ ys) ≡ xs ++ (row_at k p e ∷ ys)
  unfolding put row_at
  put_gone e = rw (keep_append (is_below k p) xs ys, keep_append (is_above k p) xs ys, all_below, none_below, all_above, none_above, append-nil xs)

  module _ (r : Row Entry) (e : is_at k p r ≡ true) where
    find_here : find k p (xs ++ (r ∷ ys)) ≡ some r.held
    unfolding find held_first keep
    find_here = ap held_first (keep_append (is_at k p) xs (r ∷ ys)) ∙ rw (none_at_below, e)

    put_here : (x : Entry) → put k p x (xs ++ (r ∷ ys)) ≡ xs ++ (row_at k p x ∷ ys)
    unfolding put row_at keep
    put_here x =
        rw (keep_append (is_below k p) xs (r ∷ ys), keep_append (is_above k p) xs (r ∷ ys), all_below, none_above, at_not_below k p r e, at_not_above k p r e, none_below, all_above, append-nil xs)

    erase_here : erase k p (xs ++ (r ∷ ys)) ≡ xs ++ ys
    unfolding erase keep
    erase_here =
        keep_append (λ q. not (is_at k p q)) xs (r ∷ ys)
        ∙ rw (
          e,
          keep_all (λ q. not (is_at k p q)) xs (every_imp (is_below k p) (λ q. not (is_at k p q)) (λ q h. ap not (below_not_at k p q h)) xs b),
          keep_all (λ q. not (is_at k p q)) ys (every_imp (is_above k p) (λ q. not (is_at k p q)) (λ q h. ap not (above_not_at k p q h)) ys a),
        )

-- ---- rows around a spot

unfoldable pub over : ℕ → StoreRow → Bool
over y u = ltb y u.spot

unfoldable pub under : ℕ → StoreRow → Bool
under y u = ltb u.spot y

pub data Around (y : ℕ) (rs : List StoreRow) : Type 0 where
  here : (xs : List StoreRow) (u : StoreRow) (ys : List StoreRow) → rs ≡ xs ++ (u ∷ ys) → length xs ≡ count_above y (row_spots rs) → u.spot ≡ y →
      every (over y) xs ≡ true → every (under y) ys ≡ true → Around y rs
  gone : (xs ys : List StoreRow) → rs ≡ xs ++ ys → length xs ≡ count_above y (row_spots rs) → every (over y) xs ≡ true → every (under y) ys ≡ true → Around y rs

under_below : (y : ℕ) (rs : List StoreRow) → Below y (row_spots rs) → every (under y) rs ≡ true
unfolding under
under_below y rs b = every_below y rs b

under_less : (x y : ℕ) (rs : List StoreRow) → x < y → Below x (row_spots rs) → every (under y) rs ≡ true
unfolding under
under_less x y rs h b =
    every_imp (λ u. ltb u.spot x) (λ u. ltb u.spot y) (λ u e. lt-ltb u.spot y (omega (arith, ltb-true u.spot x e))) rs (every_below x rs b)

pub around : (y : ℕ) (rs : List StoreRow) → Drops (row_spots rs) → Around y rs
unfolding Drops count_above every over under
around y [] d = gone [] [] refl refl refl refl
around y (u ∷ rs) d = go (dec_lt y u.spot) (ℕ_discrete u.spot y) (around y rs d.1)
  where
    go : Dec (y < u.spot) → Dec (u.spot ≡ y) → Around y rs → Around y (u ∷ rs)
    go (yes h) e (here xs v ys f c g a b) =
        here (u ∷ xs) v ys (ap (λ (l : List StoreRow). u ∷ l) f) (rw (lt-ltb y u.spot h) (ap suc c)) g (and_both (ltb y u.spot) (every (over y) xs) (lt-ltb y u.spot h) a) b
    go (yes h) e (gone xs ys f c a b) =
        gone (u ∷ xs) ys (ap (λ (l : List StoreRow). u ∷ l) f) (rw (lt-ltb y u.spot h) (ap suc c)) (and_both (ltb y u.spot) (every (over y) xs) (lt-ltb y u.spot h) a) b
    go (no h) (yes e) ih = here [] u rs refl (rw (le-ltb y u.spot (omega arith))) e refl (under_below y rs (rw e at d.0))
    go (no h) (no e) ih =
        gone [] (u ∷ rs) refl (rw (le-ltb y u.spot (omega arith))) refl
        (and_both (ltb u.spot y) (every (under y) rs) (lt-ltb u.spot y (omega arith)) (under_less u.spot y rs (omega arith) d.0))

-- ---- the entries around a place

module _ (k p : ℕ) (small : p < 4294967296) where
  abbrev y : ℕ
  y = spot_of k p

  over_above : (xs : List StoreRow) → every (over y) xs ≡ true → every (is_above k p) (entries_of xs) ≡ true
  unfolding over
  over_above xs h =
      every_entries (is_above k p) xs (every_imp (λ u. ltb y u.spot) (λ u. is_above k p (entry_of u)) (λ u e. row_above k p small u (ltb-true y u.spot e)) xs h)

  under_below_at : (xs : List StoreRow) → every (under y) xs ≡ true → every (is_below k p) (entries_of xs) ≡ true
  unfolding under
  under_below_at xs h =
      every_entries (is_below k p) xs (every_imp (λ u. ltb u.spot y) (λ u. is_below k p (entry_of u)) (λ u e. row_below k p small u (ltb-true u.spot y e)) xs h)

  module _ (rs : List StoreRow) (d : Drops (row_spots rs)) where
    abbrev c : ℕ
    c = count_above y (row_spots rs)

    first_under : (xs ys : List StoreRow) → length xs ≡ c → rs ≡ xs ++ ys → every (under y) ys ≡ true → c < length rs → (get_or rs c no_row).spot ≡ y → ⊥
    unfolding every under
    first_under xs [] n f b h g = omega (arith, ap length f ∙ length-append xs [])
    first_under xs (u ∷ ys) n f b h g =
        let e : get_or rs c no_row ≡ u = ap (λ (l : List StoreRow). get_or l c no_row) f ∙ get_or_at xs u ys no_row c n in
        omega (arith, ap (λ (v : StoreRow). v.spot) e, ltb-true u.spot y (and_left (ltb u.spot y) (every (under y) ys) b))

    -- a row there
    pub find_told : c < length rs → (get_or rs c no_row).spot ≡ y → find k p (entries_of rs) ≡ some (entry_of (get_or rs c no_row)).held
    find_told h g = go (around y rs d)
      where
        go : Around y rs → find k p (entries_of rs) ≡ some (entry_of (get_or rs c no_row)).held
        go (here xs u ys f n e a b) =
            ap (find k p) (ap entries_of f ∙ entries_around xs u ys)
            ∙ find_here k p (entries_of ys) (entries_of xs) (under_below_at ys b) (over_above xs a) (entry_of u) (row_is_at k p small u e)
            ∙ ap (λ (v : StoreRow). some (entry_of v).held) (sym (ap (λ (l : List StoreRow). get_or l c no_row) f ∙ get_or_at xs u ys no_row c n))
        go (gone xs ys f n a b) = absurd (first_under xs ys n f b h g)

    -- none there
    pub find_not : (c < length rs → (get_or rs c no_row).spot ≡ y → ⊥) → find k p (entries_of rs) ≡ none
    find_not h = go (around y rs d)
      where
        go : Around y rs → find k p (entries_of rs) ≡ none
        go (here xs u ys f n e a b) =
            absurd
            (h (omega (arith, ap length f ∙ length-append xs (u ∷ ys)))
            (ap (λ (v : StoreRow). v.spot) (ap (λ (l : List StoreRow). get_or l c no_row) f ∙ get_or_at xs u ys no_row c n) ∙ e))
        go (gone xs ys f n a b) =
            ap (find k p) (ap entries_of f ∙ entries_append xs ys) ∙ find_gone k p (entries_of ys) (entries_of xs) (under_below_at ys b) (over_above xs a)

    rank_gone : (xs ys : List StoreRow) → rs ≡ xs ++ ys → length xs ≡ c → every (is_below k (suc p)) (entries_of ys) ≡ true → keep (is_below k (suc p)) (entries_of xs) ≡ [] →
        rank k (suc p) (entries_of rs) ≡ length rs - c
    unfolding rank
    rank_gone xs ys f n b a =
        let e : keep (is_below k (suc p)) (entries_of rs) ≡ entries_of ys =
        ap (keep (is_below k (suc p))) (ap entries_of f ∙ entries_append xs ys) ∙ keep_append (is_below k (suc p)) (entries_of ys) (entries_of xs)
        ∙ rw (keep_all (is_below k (suc p)) (entries_of ys) b, a, append-nil (entries_of ys))
        in
        omega (arith, ap length e, entries_length ys, ap length f ∙ length-append xs ys)

    rank_here : (xs : List StoreRow) (u : StoreRow) (ys : List StoreRow) → rs ≡ xs ++ (u ∷ ys) → length xs ≡ c → every (is_below k (suc p)) (entries_of ys) ≡ true →
        is_below k (suc p) (entry_of u) ≡ true → keep (is_below k (suc p)) (entries_of xs) ≡ [] → rank k (suc p) (entries_of rs) ≡ length rs - c
    unfolding rank keep
    rank_here xs u ys f n b i a =
        let e : keep (is_below k (suc p)) (entries_of rs) ≡ entries_of ys ++ (entry_of u ∷ []) =
        ap (keep (is_below k (suc p))) (ap entries_of f ∙ entries_around xs u ys) ∙ keep_append (is_below k (suc p)) (entries_of ys) (entry_of u ∷ entries_of xs)
        ∙ rw (keep_all (is_below k (suc p)) (entries_of ys) b, i, a)
        in
        omega (arith, ap length e ∙ length-append (entries_of ys) (entry_of u ∷ []), entries_length ys, ap length f ∙ length-append xs (u ∷ ys))

    -- how many entries stand below the next place
    pub rank_next : rank k (suc p) (entries_of rs) ≡ length rs - c
    rank_next = go (around y rs d)
      where
        tests : (xs : List (Row Entry)) → every (λ r. not (is_above k p r)) xs ≡ true → every (is_below k (suc p)) xs ≡ true
        tests xs h = every_imp (λ r. not (is_above k p r)) (is_below k (suc p)) (λ r e. below_next k p r ∙ e) xs h

        belows : (xs : List (Row Entry)) → every (is_below k p) xs ≡ true → every (is_below k (suc p)) xs ≡ true
        belows xs h = tests xs (every_imp (is_below k p) (λ r. not (is_above k p r)) (λ r e. ap not (below_not_above k p r e)) xs h)

        aboves : (xs : List (Row Entry)) → every (is_above k p) xs ≡ true → keep (is_below k (suc p)) xs ≡ []
        aboves xs h = keep_none (is_below k (suc p)) (is_above k p) (λ r e. below_next k p r ∙ ap not e) xs h

        go : Around y rs → rank k (suc p) (entries_of rs) ≡ length rs - c
        go (here xs u ys f n e a b) = rank_here xs u ys f n (belows (entries_of ys) (under_below_at ys b)) (below_next k p (entry_of u) ∙ ap not (at_not_above k p (entry_of u) (row_is_at k p small u e))) (aboves (entries_of xs) (over_above xs a))
        go (gone xs ys f n a b) = rank_gone xs ys f n (belows (entries_of ys) (under_below_at ys b)) (aboves (entries_of xs) (over_above xs a))

    -- an edit there
    module _ (b : Entry) (t : find k p (entries_of rs) ≡ some b) where
      found_here : (G : Type 0) →
          ((xs : List StoreRow) (u : StoreRow) (ys : List StoreRow) → rs ≡ xs ++ (u ∷ ys) → length xs ≡ c → u.spot ≡ y → every (is_above k p) (entries_of xs) ≡ true →
          every (is_below k p) (entries_of ys) ≡ true → G) → G
      found_here G h = go (around y rs d)
        where
          go : Around y rs → G
          go (here xs u ys f n e a l) = h xs u ys f n e (over_above xs a) (under_below_at ys l)
          go (gone xs ys f n a l) =
              let g : find k p (entries_of rs) ≡ none =
              ap (find k p) (ap entries_of f ∙ entries_append xs ys) ∙ find_gone k p (entries_of ys) (entries_of xs) (under_below_at ys l) (over_above xs a)
              in
              absurd (let z : ◌≡◌ {A = ℕ} 0 1 = cc in omega arith)

      pub there_lt : c < length rs
      there_lt = found_here (c < length rs) (λ xs u ys f n e a l. omega (arith, ap length f ∙ length-append xs (u ∷ ys)))

      pub there_spot : (get_or rs c no_row).spot ≡ y
      there_spot =
          found_here ((get_or rs c no_row).spot ≡ y)
          (λ xs u ys f n e a l. ap (λ (v : StoreRow). v.spot) (ap (λ (m : List StoreRow). get_or m c no_row) f ∙ get_or_at xs u ys no_row c n) ∙ e)

      pub there_held : (entry_of (get_or rs c no_row)).held ≡ b
      there_held =
          let g : some (entry_of (get_or rs c no_row)).held ≡ some b = sym (find_told there_lt there_spot) ∙ t in
          cc

      pub put_over : (a : Entry) (u : StoreRow) → entry_of u ≡ row_at k p a → entries_of (set rs c u) ≡ put k p a (entries_of rs)
      put_over a u g = found_here (entries_of (set rs c u) ≡ put k p a (entries_of rs)) by
        where
          by : (xs : List StoreRow) (v : StoreRow) (ys : List StoreRow) → rs ≡ xs ++ (v ∷ ys) → length xs ≡ c → v.spot ≡ y → every (is_above k p) (entries_of xs) ≡ true →
              every (is_below k p) (entries_of ys) ≡ true → entries_of (set rs c u) ≡ put k p a (entries_of rs)
          by xs v ys f n e o l =
              ap (λ (m : List StoreRow). entries_of (set m c u)) f ∙ ap entries_of (set_at xs v ys u c n) ∙ entries_around xs u ys
              ∙ ap (λ (r : Row Entry). entries_of ys ++ (r ∷ entries_of xs)) g
              ∙ sym (put_here k p (entries_of ys) (entries_of xs) l o (entry_of v) (row_is_at k p small v e) a)
              ∙ ap (put k p a) (sym (ap entries_of f ∙ entries_around xs v ys))

      pub erase_over : entries_of (erase_at c rs) ≡ erase k p (entries_of rs)
      unfolding erase_at
      erase_over = found_here (entries_of (take c rs ++ drop (suc c) rs) ≡ erase k p (entries_of rs)) by
        where
          by : (xs : List StoreRow) (v : StoreRow) (ys : List StoreRow) → rs ≡ xs ++ (v ∷ ys) → length xs ≡ c → v.spot ≡ y → every (is_above k p) (entries_of xs) ≡ true →
              every (is_below k p) (entries_of ys) ≡ true → entries_of (take c rs ++ drop (suc c) rs) ≡ erase k p (entries_of rs)
          by xs v ys f n e o l =
              let m : c + 1 ≡ suc c = omega arith in
              let q : drop (suc c) (xs ++ (v ∷ ys)) ≡ ys =
              ap (λ (j : ℕ). drop j (xs ++ (v ∷ ys))) (sym m) ∙ sym (drop-drop 1 c (xs ++ (v ∷ ys))) ∙ ap (drop 1) (drop_at xs (v ∷ ys) c n)
              in
              ap (λ (r : List StoreRow). entries_of (take c r ++ drop (suc c) r)) f
              ∙ ap₂ (λ (g h : List StoreRow). entries_of (g ++ h)) (take_at xs (v ∷ ys) c n) q
              ∙ entries_append xs ys
              ∙ sym (erase_here k p (entries_of ys) (entries_of xs) l o (entry_of v) (row_is_at k p small v e))
              ∙ ap (erase k p) (sym (ap entries_of f ∙ entries_around xs v ys))

    pub put_new : find k p (entries_of rs) ≡ none → (a : Entry) (u : StoreRow) → entry_of u ≡ row_at k p a → entries_of (insert_at c u rs) ≡ put k p a (entries_of rs)
    unfolding insert_at
    put_new t a u g = go (around y rs d)
      where
        go : Around y rs → entries_of (take c rs ++ (u ∷ drop c rs)) ≡ put k p a (entries_of rs)
        go (here xs v ys f n e o l) =
            let w : find k p (entries_of rs) ≡ some (entry_of v).held =
            ap (find k p) (ap entries_of f ∙ entries_around xs v ys)
            ∙ find_here k p (entries_of ys) (entries_of xs) (under_below_at ys l) (over_above xs o) (entry_of v) (row_is_at k p small v e)
            in
            absurd (let z : ◌≡◌ {A = ℕ} 0 1 = cc in omega arith)
        go (gone xs ys f n o l) =
            ap (λ (r : List StoreRow). entries_of (take c r ++ (u ∷ drop c r))) f
            ∙ ap₂ (λ (g h : List StoreRow). entries_of (g ++ (u ∷ h))) (take_at xs ys c n) (drop_at xs ys c n)
            ∙ entries_around xs u ys
            ∙ ap (λ (r : Row Entry). entries_of ys ++ (r ∷ entries_of xs)) g
            ∙ sym (put_gone k p (entries_of ys) (entries_of xs) (under_below_at ys l) (over_above xs o) a)
            ∙ ap (put k p a) (sym (ap entries_of f ∙ entries_append xs ys))
