-- A search of a valid store's rows finds the entry at a key and shifted index, or where it would stand.
-- Assumes nothing.
use mathlib.Core.Path.{◌≡◌, sym, ◌∙◌, ap}
use mathlib.Core.Bool.{true, false}
use Rattle.std.specs.Prelude.{Option, Some, None, Ok, Err}
use mathlib.Core.List.{List}
use Prim.Native.Nat.{ℕ, ◌+◌, ◌*◌, ◌<◌}
use native.Mathlib.Omega.{arith}
use lib.ListN.{length, get_or}
use Rattle.types.specs.Units.{units_in}
use Rattle.probe.specs.Cells.{count_above}
use Rattle.store.specs.Held.{held, position_of, position_or_end, row_spots, no_row}
use Rattle.store.specs.Valid.{Valid}
use Rattle.store.proofs.Reading.{position_held}
use Rattle.directory.specs.declared.cells.Place.{Place}
use Rattle.store.specs.Valid as Store
use Rattle.versioned_data.specs.Layout.{StoreRow, spot_of, rows_in, data_valid}
use Rattle.versioned_data.specs.Found.{position_at, row_found, FoundIn}
use Rattle.versioned_data.proofs.SpotPlaces.{find_told, find_not}
use Rattle.versioned_data.proofs.EntriesHeld.{spots_drop, entries_are, rows_here, rows_none, store_valid}

pub spot_is : (k p x y : ℕ) → x ≡ p → y ≡ k → x + 4294967296 * y ≡ spot_of k p
unfolding spot_of
spot_is k p x y e f = rw (e, f)

module _ (s : List ℕ) (v : data_valid s ≡ true) (n : ℕ) (size : n ≡ units_in (length s)) where
  -- a store of no units holds nothing
  pub found_nothing : (k p : ℕ) (at : Place) → p < 4294967296 → n ≡ 0 → FoundIn s k p (Err at)
  unfolding FoundIn
  found_nothing k p at small z =
      record {
        stands = λ h. absurd (omega arith);
        position = λ h. absurd (omega arith);
        entry =
            rw (entries_are s v)
            (find_not k p small (rows_in s) (spots_drop s v) (λ h e. absurd (omega (arith, ap length (rows_none s v (sym size ∙ z))))));
      }

  module _ (some : n ≡ 0 → ⊥) where
    pub searchable : Valid 22 false n s
    searchable = rw size (store_valid s v (omega arith))

    units : 0 < units_in (length s)
    units = omega arith

    rows : rows_in s ≡ held 22 n s
    rows = rw size (rows_here s v units)

    module _ (k p q y : ℕ) (at : Place) (small : p < 4294967296) (word : q ≡ p) (told : y ≡ spot_of k q) (place : position_of 22 n s at.page at.cell ≡ count_above y (row_spots (held 22 n s))) where
      spot : y ≡ spot_of k p
      spot = told ∙ ap (spot_of k) word

      position : position_at s at.page at.cell ≡ count_above (spot_of k p) (row_spots (rows_in s))
      unfolding position_at
      position = rw (← size, rows, ← spot) place

      -- no row there has the spot
      pub found_absent : Store.Stands 22 n s at.page at.cell → (count_above y (row_spots (held 22 n s)) < length (held 22 n s) → (get_or (held 22 n s) (count_above y (row_spots (held 22 n s))) no_row).spot ≡ y → ⊥) →
          FoundIn s k p (Err at)
      unfolding FoundIn
      found_absent stands h =
          record {
            stands = λ u. rw size at stands;
            position = λ u. position;
            entry = rw (entries_are s v) (find_not k p small (rows_in s) (spots_drop s v) (rw (rows, ← spot) h));
          }

      module _ (r : Option Place) (same : position_or_end 22 n s r ≡ position_of 22 n s at.page at.cell) where
        -- after the last row
        pub found_end : Store.Stands 22 n s at.page at.cell → r ≡ None → FoundIn s k p (Err at)
        unfolding position_or_end
        found_end stands e = found_absent stands (λ h f. absurd (let l : length (held 22 n s) ≡ position_of 22 n s at.page at.cell = rw e at same in omega (arith, place, l)))

        module _ (c : Place) (e : r ≡ Some c) where
          at_count : position_of 22 n s c.page c.cell ≡ count_above y (row_spots (held 22 n s))
          unfolding position_or_end
          at_count = (rw e at same) ∙ place

          -- at a row of another spot
          pub found_other : Store.Stands 22 n s at.page at.cell → (x : ℕ) → x ≡ (get_or (held 22 n s) (position_of 22 n s c.page c.cell) no_row).spot → (x ≡ y → ⊥) → FoundIn s k p (Err at)
          found_other stands x f g = found_absent stands (λ h d. g (f ∙ ap (λ (j : ℕ). (get_or (held 22 n s) j no_row).spot) at_count ∙ d))

          -- at its row
          pub found_there : Store.There 22 n s c.page c.cell → (x : ℕ) → x ≡ (get_or (held 22 n s) (position_of 22 n s c.page c.cell) no_row).spot → x ≡ y → FoundIn s k p (Ok c)
          unfolding FoundIn position_at row_found
          found_there there x f h =
              let d : ℕ = count_above (spot_of k p) (row_spots (rows_in s)) in
              let here : position_of 22 n s c.page c.cell ≡ d = rw (rows, ← spot) at_count in
              let inside : d < length (rows_in s) = omega (arith, here, position_held 22 n s c.page c.cell there, ap length rows) in
              let is : (get_or (rows_in s) d no_row).spot ≡ spot_of k p =
              ap (λ (j : ℕ). (get_or (rows_in s) j no_row).spot) (sym here) ∙ ap (λ (l : List StoreRow). (get_or l (position_of 22 n s c.page c.cell) no_row).spot) rows ∙ sym f ∙ h ∙ spot
              in
              record {
                row = record { units = units; there = rw size at there };
                position = rw (← size) here;
                entry =
                    rw (← size, here, entries_are s v)
                    (find_told k p small (rows_in s) (spots_drop s v) inside is);
              }
