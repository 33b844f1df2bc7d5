-- A row put in where no entry was found, and its content written.
-- Assumes nothing.
use mathlib.Core.Path.{◌≡◌, refl, sym, ◌∙◌, ap, ap₂}
use mathlib.Core.Bool.{Bool, true, false}
use mathlib.Core.List.{List, [], ◌∷◌, ◌++◌, map}
use mathlib.Core.Option.{none, some}
use Prim.Native.Nat.{ℕ, zero, suc, ◌+◌, ◌*◌, ◌/◌, ◌%◌, ◌≤◌, ◌<◌}
use native.Mathlib.Omega.{arith}
use native.Mathlib.Numerals.{add-one}
use native.Mathlib.Decide.{dec_lt}
use lib.Dec.{ltb}
use lib.ListN.{length, get_or, set, take, drop, length-append, length-drop}
use lib.Seq.{sets, length-take-le, take_at, drop_at, set_at, get_or_at}
use borrow.Author.Tests.{ltb-true, lt-ltb}
use Rattle.lists.specs.Lists.{every}
use Rattle.lists.proofs.Bools.{and_both, and_left, and_right}
use Rattle.lists.proofs.Lists.{every_imp, every_take, every_drop, every_join}
use Rattle.delta.specs.Delta.{delta_width}
use Rattle.types.specs.Refusal.{units_exhausted}
use Rattle.types.specs.Units.{lack_of, units_in}
use Rattle.types.proofs.UnitLaws.{lack_some}
use Rattle.probe.specs.Cells.{count_above, insert_at}
use Rattle.numbers.specs.Numbers.{Below, Drops, row_rank}
use Rattle.store.specs.Held.{held, position_of, content_of, row_spots, no_row}
use Rattle.store.specs.Valid.{Valid}
use Rattle.store.specs.Valid as Store
use Rattle.store.specs.Edits.{Left, Rewritten, filled, fresh_row}
use Rattle.store.proofs.Contents.{base_in, content_in, content_word}
use Rattle.store.proofs.Listed.{insert_length, insert_here}
use Rattle.store.proofs.Reading.{place_held}
use Rattle.model.specs.Rows.{find, row_at}
use Rattle.model.specs.Data.{Entry}
use Rattle.versioned_data.specs.Layout.{StoreRow, spot_of, marks_of, body_of, padded, row_of, entry_of, rows_in, row_ok, data_valid}
use Rattle.versioned_data.specs.Found.{position_at, Gone, PutIn, lack_of_more}
use Rattle.versioned_data.proofs.EntryRows.{ok_few}
use Rattle.versioned_data.proofs.RowOrder.{entries_of}
use Rattle.versioned_data.proofs.SpotPlaces.{over, under, Around, here, gone, around, find_told}
use Rattle.versioned_data.proofs.EntriesHeld.{every_ok, spots_drop, entries_are, store_valid, rows_here}
use Rattle.versioned_data.proofs.EntryRulings.{lacks_units}
use Rattle.versioned_data.proofs.RowContents.{sets_within, sets_past, get_d_zeros, left_then, filled_left, sets_rewritten, same_rewritten}
use Rattle.versioned_data.proofs.EntryWrites.{past_end}

-- ---- spots that fall go on to fall with one put in

unfoldable pub partless : StoreRow → Bool
partless u = ltb u.marks 256

ok_partless : (u : StoreRow) → row_ok u ≡ true → partless u ≡ true
unfolding partless
ok_partless u h = lt-ltb u.marks 256 (omega (arith, ok_few u h))

below_ranks : (y b : ℕ) (rs : List StoreRow) → every partless rs ≡ true → Below y (row_spots rs) → Below (4294967296 * y + b) (map row_rank rs)
unfolding Below every row_rank partless
below_ranks y b [] h d = d
below_ranks y b (u ∷ rs) h d =
    (omega (arith, d.0, ltb-true u.marks 256 (and_left (ltb u.marks 256) (every partless rs) h)), below_ranks y b rs (and_right (ltb u.marks 256) (every partless rs) h) d.1)

drop_ranks : (rs : List StoreRow) → every partless rs ≡ true → Drops (row_spots rs) → Drops (map row_rank rs)
unfolding Drops every row_rank
drop_ranks [] h d = d
drop_ranks (u ∷ rs) h d =
    (below_ranks u.spot (u.marks / 256 % 256) rs (and_right (partless u) (every partless rs) h) d.0, drop_ranks rs (and_right (partless u) (every partless rs) h) d.1)

below_in : (y : ℕ) (xs ys : List StoreRow) (u : StoreRow) → u.spot < y → Below y (row_spots (xs ++ ys)) → Below y (row_spots (xs ++ (u ∷ ys)))
unfolding Below
below_in y [] ys u h b = (h, b)
below_in y (x ∷ xs) ys u h b = (b.0, below_in y xs ys u h b.1)

below_of : (y : ℕ) (ys : List StoreRow) → every (under y) ys ≡ true → Below y (row_spots ys)
unfolding Below every under
below_of y [] h = tt
below_of y (u ∷ ys) h = (ltb-true u.spot y (and_left (ltb u.spot y) (every (under y) ys) h), below_of y ys (and_right (ltb u.spot y) (every (under y) ys) h))

drops_in : (xs ys : List StoreRow) (u : StoreRow) → Drops (row_spots (xs ++ ys)) → every (over u.spot) xs ≡ true → every (under u.spot) ys ≡ true → Drops (row_spots (xs ++ (u ∷ ys)))
unfolding Drops every over
drops_in [] ys u d a b = (below_of u.spot ys b, d)
drops_in (x ∷ xs) ys u d a b = (
  below_in x.spot xs ys u (ltb-true u.spot x.spot (and_left (ltb u.spot x.spot) (every (over u.spot) xs) a)) d.0,
  drops_in xs ys u d.1 (and_right (ltb u.spot x.spot) (every (over u.spot) xs) a) b,
)

set_insert : (l : List StoreRow) (i : ℕ) (x y : StoreRow) → i ≤ length l → set (insert_at i x l) i y ≡ insert_at i y l
unfolding insert_at
set_insert l i x y h = set_at (take i l) x (drop i l) y i (length-take-le i l h)

drop_long : (q : List ℕ) (at : ℕ) → at + delta_width ≤ length q → 16 ≤ length (drop at q)
drop_long q at h = omega (arith, length-drop at q)

-- ---- the fresh row, and what is written into it

filled_row : (k p m : ℕ) (e : Entry) (vs : List ℕ) → m ≡ marks_of e → vs ≡ body_of e.cell → filled (padded vs) (fresh_row 22 p k m) ≡ row_of (row_at k p e)
unfolding filled fresh_row row_of row_at spot_of
filled_row k p m e vs f g j = record { spot = p + 4294967296 * k; marks = f j; payload = padded (g j) }

fresh_zero : (k p m j : ℕ) → m < 256 → get_or (fresh_row 22 p k m).payload j 0 ≡ 0
unfolding fresh_row
fresh_zero k p m zero h = omega arith
fresh_zero k p m (suc j) h = get_d_zeros 19 j

fresh_spot : (k p m : ℕ) → (fresh_row 22 p k m).spot ≡ spot_of k p
unfolding fresh_row spot_of
fresh_spot k p m = refl

fresh_partless : (k p m : ℕ) → m < 256 → partless (fresh_row 22 p k m) ≡ true
unfolding fresh_row partless
fresh_partless k p m h = lt-ltb m 256 h

module _ (s : List ℕ) (v : data_valid s ≡ true) (n : ℕ) (size : n ≡ units_in (length s)) where
  -- lack of units for one row more
  pub more_none : n ≡ 0 → units_exhausted ≡ lack_of_more s
  unfolding lack_of_more
  more_none z = sym (lack_some (suc (length (rows_in s))) (units_in (length s)) (omega arith))

  pub more_valid : (n ≡ 0 → ⊥) → Valid 22 false n s
  more_valid z = rw size (store_valid s v (omega arith))

  pub more_is : (n ≡ 0 → ⊥) → (m : ℕ) → m ≡ length (held 22 n s) → (r : ℕ) → r ≡ lack_of (m + 1) n → r ≡ lack_of_more s
  unfolding lack_of_more
  more_is z m e r f =
      let h : held 22 n s ≡ rows_in s = rw size (sym (rows_here s v (omega arith))) in
      f ∙ ap₂ lack_of (add-one m ∙ ap suc (e ∙ ap length h)) size

  module _ (lack : ℕ) (told : lack ≡ lack_of_more s) (k p page i : ℕ) (big : k < 4294967296) (small : p < 4294967296) (t : Gone s k p page i) where
    pub in_lacks : (lack ≡ 0 → ⊥) → (e : Entry) → PutIn s k p page i e lack s
    in_lacks h e = record { result = told; left = λ z. absurd (h z); kept = λ z. refl }

    module _ (none_lacks : lack ≡ 0) where
      free : length (rows_in s) < units_in (length s)
      free = lacks_units s (sym told ∙ none_lacks)

      units : 0 < units_in (length s)
      units = omega (arith, free)

      rows : rows_in s ≡ held 22 n s
      rows = rw size (rows_here s v units)

      pub in_valid : Valid 22 false n s
      in_valid = rw size (store_valid s v units)

      pub in_stands : Store.Stands 22 n s page i
      in_stands = rw size (t.stands units)

      pub in_free : length (held 22 n s) < n
      in_free = omega (arith, free, ap length rows)

      abbrev pos : ℕ
      pos = position_of 22 n s page i

      at_count : position_of 22 n s page i ≡ count_above (spot_of k p) (row_spots (rows_in s))
      unfolding position_at
      at_count = rw size (t.position units)

      pos_le : position_of 22 n s page i ≤ length (held 22 n s)
      pos_le = place_held 22 n s page i in_stands

      no_row_lem : (xs : List StoreRow) (w : StoreRow) (ys : List StoreRow) → rows_in s ≡ xs ++ (w ∷ ys) → length xs ≡ count_above (spot_of k p) (row_spots (rows_in s)) → w.spot ≡ spot_of k p → ⊥
      no_row_lem xs w ys f c g =
          let row : get_or (rows_in s) (count_above (spot_of k p) (row_spots (rows_in s))) no_row ≡ w =
          ap (λ (l : List StoreRow). get_or l (count_above (spot_of k p) (row_spots (rows_in s))) no_row) f ∙ get_or_at xs w ys no_row (count_above (spot_of k p) (row_spots (rows_in s))) c
          in
          let h : find k p (entries_of (rows_in s)) ≡ some (entry_of (get_or (rows_in s) (count_above (spot_of k p) (row_spots (rows_in s))) no_row)).held =
          find_told k p small (rows_in s) (spots_drop s v) (omega (arith, ap length f ∙ length-append xs (w ∷ ys))) (ap (λ (u : StoreRow). u.spot) row ∙ g)
          in
          let e : find k p (entries_of (rows_in s)) ≡ none = rw (← entries_are s v) t.entry in
          let z : ◌≡◌ {A = ℕ} 0 1 = cc in
          omega arith

      rows_partless : (m : ℕ) → m < 256 → every partless (insert_at pos (fresh_row 22 p k m) (held 22 n s)) ≡ true
      unfolding insert_at every
      rows_partless m h =
          let all : every partless (held 22 n s) ≡ true = every_imp row_ok partless (λ u. ok_partless u) (held 22 n s) (rw rows at (every_ok s v)) in
          every_join partless (take pos (held 22 n s)) (fresh_row 22 p k m ∷ drop pos (held 22 n s)) (every_take partless pos (held 22 n s) all)
          (and_both (partless (fresh_row 22 p k m)) (every partless (drop pos (held 22 n s))) (fresh_partless k p m h) (every_drop partless pos (held 22 n s) all))

      place_left : (e : Entry) (y : List ℕ) → Left 22 false n (insert_at pos (row_of (row_at k p e)) (held 22 n s)) s y →
          Left 22 false (units_in (length s)) (insert_at (position_at s page i) (row_of (row_at k p e)) (rows_in s)) s y
      unfolding position_at
      place_left e y l = rw (← size, rows) l

      -- the row's place keeps the order
      spots_in : (u : StoreRow) → u.spot ≡ spot_of k p → Drops (row_spots (insert_at pos u (held 22 n s)))
      unfolding insert_at
      spots_in u e = go (around (spot_of k p) (rows_in s) (spots_drop s v))
        where
          go : Around (spot_of k p) (rows_in s) → Drops (row_spots (take pos (held 22 n s) ++ (u ∷ drop pos (held 22 n s))))
          go (here xs w ys f c g a b) = absurd (no_row_lem xs w ys f c g)
          go (gone xs ys f c a b) =
              let l : held 22 n s ≡ xs ++ ys = sym rows ∙ f in
              let m : length xs ≡ pos = c ∙ sym at_count in
              rw (l, take_at xs ys pos m, drop_at xs ys pos m)
              (drops_in xs ys u (rw f at (spots_drop s v)) (rw (← e) at a) (rw (← e) at b))

      pub in_order : (m : ℕ) → m < 256 → Drops (map row_rank (insert_at (position_of 22 n s page i) (fresh_row 22 p k m) (held 22 n s)))
      in_order m h = drop_ranks (insert_at pos (fresh_row 22 p k m) (held 22 n s)) (rows_partless m h) (spots_in (fresh_row 22 p k m) (fresh_spot k p m))

      -- the row's content written
      module _ (m : ℕ) (few : m < 256) (x : List ℕ) (left : Left 22 false n (insert_at (position_of 22 n s page i) (fresh_row 22 p k m) (held 22 n s)) s x) (b : ℕ)
          (content : b ≡ content_of 22 n x (position_of 22 n s page i)) where
        inside : pos < length (held 22 n x)
        inside = omega (arith, ap length left.holds ∙ insert_length (held 22 n s) pos (fresh_row 22 p k m), pos_le)

        pub in_room : b + 20 ≤ length x
        in_room = omega (arith, content, content_in 22 n false x left.valid pos inside, (base_in 22 n false x left.valid).0, (base_in 22 n false x left.valid).1)

        row_new : get_or (held 22 n x) pos no_row ≡ fresh_row 22 p k m
        row_new = ap (λ (l : List StoreRow). get_or l pos no_row) left.holds ∙ insert_here (held 22 n s) pos (fresh_row 22 p k m) no_row pos_le

        zeros : (j : ℕ) → j < 20 → get_or x (b + j) 0 ≡ 0
        zeros j h =
            rw content
            (content_word 22 n false x left.valid pos inside j h ∙ ap (λ (u : StoreRow). get_or u.payload j 0) row_new ∙ fresh_zero k p m j few)

        pub in_put : (vs y : List ℕ) → y ≡ sets x b vs → length vs ≤ 20 → (e : Entry) → m ≡ marks_of e → vs ≡ body_of e.cell → PutIn s k p page i e 0 y
        in_put vs y put few_words e marks body =
            record { result = sym none_lacks ∙ told; left = λ z. final; kept = λ z. absurd (z refl) }
          where
            words : (j : ℕ) → j < 20 → get_or y (content_of 22 n x pos + j) 0 ≡ get_or vs j 0
            words j h = rw (← content, put) (go (dec_lt j (length vs)))
              where
                go : Dec (j < length vs) → get_or (sets x b vs) (b + j) 0 ≡ get_or vs j 0
                go (yes l) = sets_within vs x b j (omega (arith, in_room)) l
                go (no l) = sets_past vs x b (b + j) (omega arith) ∙ zeros j h ∙ sym (past_end vs j (omega arith))

            rewrite_is : Rewritten false (content_of 22 n x pos) 20 x y
            rewrite_is = rw content at (sets_rewritten b x y x vs b (same_rewritten b x) (omega arith) (omega arith) put)

            now_left : Left 22 false n (set (held 22 n x) pos (filled (padded vs) (get_or (held 22 n x) pos no_row))) x y
            now_left = filled_left n pos x left.valid inside y vs rewrite_is few_words words

            rows_now : set (held 22 n x) pos (filled (padded vs) (get_or (held 22 n x) pos no_row)) ≡ insert_at pos (row_of (row_at k p e)) (held 22 n s)
            rows_now =
                ap (λ (u : StoreRow). set (held 22 n x) pos (filled (padded vs) u)) row_new
                ∙ ap₂ (λ (l : List StoreRow) (u : StoreRow). set l pos u) left.holds (filled_row k p m e vs marks body)
                ∙ set_insert (held 22 n s) pos (fresh_row 22 p k m) (row_of (row_at k p e)) pos_le

            both : Left 22 false n (insert_at pos (row_of (row_at k p e)) (held 22 n s)) s y
            both = rw rows_now at (left_then n (insert_at pos (fresh_row 22 p k m) (held 22 n s)) (set (held 22 n x) pos (filled (padded vs) (get_or (held 22 n x) pos no_row))) s x y left now_left)

            final : Left 22 false (units_in (length s)) (insert_at (position_at s page i) (row_of (row_at k p e)) (rows_in s)) s y
            final = place_left e y both
