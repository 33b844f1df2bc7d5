-- Rows fall by rank, and so by spot; where a row may be put in.
-- Assumes nothing.
use mathlib.Core.Path.{◌≡◌, refl, ◌∙◌, ap}
use mathlib.Core.Bool.{Bool, true, false}
use mathlib.Core.List.{List, [], ◌∷◌, map}
use Prim.Native.Nat.{ℕ, zero, suc, ◌+◌, ◌*◌, ◌/◌, ◌%◌, ◌≤◌, ◌<◌}
use native.Mathlib.Omega.{arith}
use native.Mathlib.Decide.{ℕ_discrete}
use lib.Dec.{ltb}
use lib.ListN.{length, get_or, length-map}
use borrow.Author.Tests.{ltb-true, ltb-false, lt-ltb, le-ltb}
use Rattle.probe.specs.Cells.{insert_at, count_above, falls}
use Rattle.probe.proofs.Probe.{probe, count_fits}
use Rattle.numbers.specs.Numbers.{Cell, Row, spot_of, number_of, rank_of, part_of, row_of, row_rank, spots, ranks, Drops, Below, Tied}
use Rattle.directory.specs.Cells.{cells_in}
use Rattle.directory.proofs.Finding.{spots_fall}
use Rattle.store.specs.Held.{base_of, carried_at, held, row_spots, no_row, no_cell}
use Rattle.store.specs.Valid.{Valid}
use Rattle.store.specs.Edits.{fresh_row}
use Rattle.store.proofs.Listed.{get_d_map, map_insert, below_insert}
use Rattle.store.proofs.Contents.{held_length, held_spots, held_ranks, row_at}
use Rattle.store.proofs.Marking.{tied_at}

below_raise : (x y : ℕ) (xs : List ℕ) → x ≤ y → Below x xs → Below y xs
unfolding Below
below_raise x y [] h b = b
below_raise x y (z ∷ xs) h b = (omega (arith, b.0), below_raise x y xs h b.1)

-- a value put in after all greater ones and before all smaller ones
pub drops_insert : (xs : List ℕ) (i y : ℕ) → Drops xs → i ≤ length xs → ((k : ℕ) → k < i → y < get_or xs k 0) → (i < length xs → get_or xs i 0 < y) → Drops (insert_at i y xs)
unfolding Drops Below insert_at
drops_insert [] zero y d h low high = (tt, tt)
drops_insert [] (suc i) y d h low high = absurd (omega arith)
drops_insert (x ∷ xs) zero y d h low high =
    let l : x < y = high (omega arith) in
    ((l, below_raise x y xs (omega arith) d.0), d)
drops_insert (x ∷ xs) (suc i) y d h low high = (
  below_insert x xs i y d.0 (low 0 (omega arith)),
  drops_insert xs i y d.1 (omega arith) (λ k l. low (suc k) (omega arith)) (λ l. high (omega arith)),
)

module _ (w n : ℕ) (parted : Bool) (s : List ℕ) (valid : Valid w parted n s) where
  abbrev rows : List (Row (List ℕ))
  rows = held w n s

  pub rows_drop : Drops (map row_rank (held w n s))
  rows_drop = rw (held_ranks w n s) valid.directory.order

  pub rows_fall : falls (row_spots (held w n s)) ≡ true
  rows_fall = rw (held_spots w n s) (spots_fall (cells_in (base_of w n) s) valid.directory.order)

  spot_of_lem : (k : ℕ) → k < length rows → get_or (row_spots rows) k 0 ≡ (get_or rows k no_row).spot
  spot_of_lem k h = get_d_map (λ (r : Row (List ℕ)). r.spot) rows k no_row 0 h

  rank_of_lem : (k : ℕ) → k < length rows → get_or (map row_rank rows) k 0 ≡ 4294967296 * (get_or rows k no_row).spot + (get_or rows k no_row).marks / 256 % 256
  unfolding row_rank
  rank_of_lem k h = get_d_map row_rank rows k no_row 0 h

  module _ (y : ℕ) where
    abbrev pos : ℕ
    pos = count_above y (row_spots rows)

    pub place_fits : count_above y (row_spots (held w n s)) ≤ length (held w n s)
    place_fits = omega (arith, count_fits y (row_spots rows), length-map rows (λ (r : Row (List ℕ)). r.spot))

    -- the rows before a place that was found are above y, and those from it on are not
    pub spot_above : (k : ℕ) → k < count_above y (row_spots (held w n s)) → y < (get_or (held w n s) k no_row).spot
    spot_above k h =
        let e : ltb y (get_or (row_spots rows) k 0) ≡ true = probe y (row_spots rows) k rows_fall ∙ lt-ltb k pos h in
        rw (spot_of_lem k (omega (arith, place_fits))) at (ltb-true y (get_or (row_spots rows) k 0) e)

    pub spot_under : (k : ℕ) → count_above y (row_spots (held w n s)) ≤ k → k < length (held w n s) → (get_or (held w n s) k no_row).spot ≤ y
    spot_under k h l =
        let e : ltb y (get_or (row_spots rows) k 0) ≡ false = probe y (row_spots rows) k rows_fall ∙ le-ltb k pos h in
        rw (spot_of_lem k l) at (ltb-false y (get_or (row_spots rows) k 0) e)

    -- no row has the spot: a row of any part may be put in where the search ends
    module _ (place key marks : ℕ) (spot : y ≡ place + 4294967296 * key) (p : ℕ) (found : p ≡ count_above y (row_spots (held w n s)))
        (absent : p < length (held w n s) → (get_or (held w n s) p no_row).spot ≡ y → ⊥) where
      new_rank : row_rank (fresh_row w place key marks) ≡ 4294967296 * (place + 4294967296 * key) + marks / 256 % 256
      unfolding row_rank fresh_row
      new_rank = refl

      pub insert_order : Drops (map row_rank (insert_at p (fresh_row w place key marks) (held w n s)))
      insert_order =
          rw (map_insert row_rank rows p (fresh_row w place key marks))
          (drops_insert (map row_rank rows) p (row_rank (fresh_row w place key marks)) rows_drop (omega (arith, place_fits, length-map rows row_rank)) low high)
        where
          low : (k : ℕ) → k < p → row_rank (fresh_row w place key marks) < get_or (map row_rank rows) k 0
          low k h = omega (arith, new_rank, rank_of_lem k (omega (arith, place_fits)), spot_above k (omega arith))

          high : p < length (map row_rank rows) → get_or (map row_rank rows) p 0 < row_rank (fresh_row w place key marks)
          high h = go (ℕ_discrete (get_or rows p no_row).spot y)
            where
              inside : p < length rows
              inside = omega (arith, length-map rows row_rank)

              go : Dec ((get_or rows p no_row).spot ≡ y) → get_or (map row_rank rows) p 0 < row_rank (fresh_row w place key marks)
              go (yes e) = absurd (absent inside e)
              go (no e) = omega (arith, new_rank, rank_of_lem p inside, spot_under p (omega arith) inside)

-- a store without parts: spots fall strictly, and marks have no part
below_spots : (x : Cell) (cs : List Cell) → part_of x ≡ 0 → Below (rank_of x) (ranks cs) → Below x.spot (spots cs)
unfolding Below rank_of spot_of
below_spots x [] e b = b
below_spots x (c ∷ cs) e b = (omega (arith, b.0), below_spots x cs e b.1)

no_part : (carried : ℕ → ℕ) (c : Cell) → ((q : ℕ) → carried q % 4294967296 ≡ 0) → carried (number_of c) ≡ rank_of c → part_of c ≡ 0
unfolding rank_of part_of
no_part carried c none t = omega (arith, none (number_of c))

cells_drop : (carried : ℕ → ℕ) (cs : List Cell) → ((q : ℕ) → carried q % 4294967296 ≡ 0) → Tied carried cs → Drops (ranks cs) → Drops (spots cs)
unfolding Tied Drops spot_of
cells_drop carried [] none t d = d
cells_drop carried (c ∷ cs) none t d =
    (below_spots c cs (no_part carried c none t.0) d.0, cells_drop carried cs none t.1 d.1)

carries_none : (w : ℕ) (s : List ℕ) (q : ℕ) → carried_at w false s q % 4294967296 ≡ 0
unfolding carried_at
carries_none w s q = omega arith

module _ (w n : ℕ) (s : List ℕ) (valid : Valid w false n s) where
  pub spots_drop : Drops (row_spots (held w n s))
  spots_drop = rw (held_spots w n s) (cells_drop (carried_at w false s) (cells_in (base_of w n) s) (carries_none w s) valid.tied valid.directory.order)

  pub row_whole : (i : ℕ) → i < length (held w n s) → (get_or (held w n s) i no_row).marks / 256 % 256 ≡ 0
  unfolding row_of part_of
  row_whole i h =
      let c : Cell = get_or (cells_in (base_of w n) s) i no_cell in
      let e : part_of c ≡ 0 =
      no_part (carried_at w false s) c (carries_none w s) (tied_at (carried_at w false s) (cells_in (base_of w n) s) i no_cell valid.tied (omega (arith, held_length w n s))) in
      let m : (get_or (held w n s) i no_row).marks ≡ c.word / 65536 = ap (λ (r : Row (List ℕ)). r.marks) (row_at w n s i h) in
      omega (arith, e, m)
