-- The cell that names a payload stands at or after the first cell of the spot that the payload carries.
-- Assumes nothing.
use mathlib.Core.Path.{◌≡◌, refl, sym, ◌∙◌, ap}
use mathlib.Core.Bool.{Bool, true, false, cond}
use Rattle.std.specs.Prelude.{Option, Some, None}
use mathlib.Core.List.{List, [], ◌∷◌}
use Prim.Native.Nat.{ℕ, suc, ◌+◌, ◌-◌, ◌*◌, ◌%◌, ◌≤◌, ◌<◌}
use native.Mathlib.Omega.{arith}
use native.Mathlib.Decide.{ℕ_discrete, dec_lt}
use lib.Dec.{ltb}
use lib.ListN.{length, get_or, get_or-eq_default}
use borrow.Author.Tests.{ltb-true, lt-ltb}
use Rattle.probe.specs.Cells.{spot_at, count_above}
use Rattle.numbers.specs.Numbers.{Cell, spot_of, number_of, rank_of, spots, ranks}
use Rattle.numbers.proofs.Distinct.{found}
use Rattle.directory.specs.Cells.{cells_in}
use Rattle.directory.specs.declared.cells.Place.{Place}
use Rattle.store.specs.Held.{base_of, carried_at, held, row_spots, position_of, position_or_end, no_cell}
use Rattle.store.specs.Valid.{Valid, There}
use Rattle.store.proofs.Contents.{number_at, held_length, held_spots, payload_in, units_in_lem, base_in}
use Rattle.store.proofs.Reading.{row_number}

-- spots above a spot have ranks above each of its ranks
spot_counts : (y z : ℕ) (cs : List Cell) → z < 4294967296 → count_above y (spots cs) ≤ count_above (4294967296 * y + z) (ranks cs)
unfolding count_above spot_of rank_of
spot_counts y z [] h = omega arith
spot_counts y z (c ∷ cs) h = go (ltb y c.spot) refl (spot_counts y z cs h)
  where
    go : (b : Bool) → ltb y c.spot ≡ b → count_above y (spots cs) ≤ count_above (4294967296 * y + z) (ranks cs) →
        count_above y (spots (c ∷ cs)) ≤ count_above (4294967296 * y + z) (ranks (c ∷ cs))
    go true e ih =
        let f : ltb (4294967296 * y + z) (rank_of c) ≡ true = lt-ltb (4294967296 * y + z) (rank_of c) (omega (arith, ltb-true y c.spot e)) in
        rw (e, f) (omega (arith, ih))
    go false e ih = rw e (omega arith)

-- where the cell stands that names payload l
unfoldable pub owner_at : ℕ → Bool → ℕ → List ℕ → ℕ → ℕ
owner_at w parted n s l = count_above (carried_at w parted s l) (ranks (cells_in (base_of w n) s))

outside : (w n : ℕ) (s : List ℕ) (i : ℕ) → length (held w n s) ≤ i → number_at w n s i ≡ 0
unfolding number_at number_of
outside w n s i h =
    ap number_of (get_or-eq_default (cells_in (base_of w n) s) no_cell {n = i} (omega (arith, held_length w n s)))

module _ (w n l : ℕ) (parted : Bool) (s : List ℕ) (valid : Valid w parted n s) (used : l < get_or s 0 0) where
  pub owner_number : number_at w n s (owner_at w parted n s l) ≡ l
  unfolding number_at owner_at
  owner_number =
      found (carried_at w parted s) (get_or s 0 0) l (cells_in (base_of w n) s) no_cell valid.tied valid.directory.order valid.below valid.all used

  pub owner_in : 0 < l → owner_at w parted n s l < length (held w n s)
  owner_in some = go (dec_lt (owner_at w parted n s l) (length (held w n s)))
    where
      go : Dec (owner_at w parted n s l < length (held w n s)) → owner_at w parted n s l < length (held w n s)
      go (yes h) = h
      go (no h) = absurd (omega (arith, some, owner_number, none))
        where
          none : number_at w n s (owner_at w parted n s l) ≡ 0
          none = outside w n s (owner_at w parted n s l) (omega arith)

  pub owner_start : (y : ℕ) → y ≡ spot_at s (6 + w * l) → ((k : ℕ) → get_or s k 0 < 4294967296) → count_above y (row_spots (held w n s)) ≤ owner_at w parted n s l
  unfolding owner_at carried_at
  owner_start y e fits =
      rw (held_spots w n s, e) (spot_counts (spot_at s (6 + w * l)) (cond parted (get_or s (6 + w * l + 2) 0) 0) (cells_in (base_of w n) s) (small parted))
    where
      small : (b : Bool) → cond b (get_or s (6 + w * l + 2) 0) 0 < 4294967296
      small true = fits (6 + w * l + 2)
      small false = omega arith

  -- a cell before it that does not name l is not the last before the end
  module _ (p i x : ℕ) (some : 0 < l) (there : There w n s p i) (near : position_of w n s p i ≤ owner_at w parted n s l)
      (number : x ≡ get_or s (base_of w n + 97 * p + 1 + 3 * i + 2) 0 % 65536) where
    pub owner_next : (x ≡ l → ⊥) → suc (position_of w n s p i) ≤ owner_at w parted n s l
    owner_next d = go (ℕ_discrete (position_of w n s p i) (owner_at w parted n s l))
      where
        go : Dec (position_of w n s p i ≡ owner_at w parted n s l) → suc (position_of w n s p i) ≤ owner_at w parted n s l
        go (yes e) = absurd (d (number ∙ sym (row_number w n p i s there) ∙ ap (number_at w n s) e ∙ owner_number))
        go (no e) = omega (arith, near)

    -- so the next cell is nearer
    module _ (d : x ≡ l → ⊥) (r : Option Place) (after : position_or_end w n s r ≡ suc (position_of w n s p i)) where
      pub owner_again : position_or_end w n s r ≤ owner_at w parted n s l
      owner_again = omega (arith, owner_next d, after)

      pub owner_less : owner_at w parted n s l - position_or_end w n s r < owner_at w parted n s l - position_of w n s p i
      owner_less = omega (arith, owner_next d, after)

  -- a place of the search, which does not end before it
  pub owner_begin : (y a : ℕ) (r : Option Place) → y ≡ spot_at s (6 + w * l) → ((k : ℕ) → get_or s k 0 < 4294967296) →
      a ≡ count_above y (row_spots (held w n s)) → position_or_end w n s r ≡ a → position_or_end w n s r ≤ owner_at w parted n s l
  owner_begin y a r e fits f g = omega (arith, owner_start y e fits)

  pub near : (r : Option Place) (p : Place) → r ≡ Some p → position_or_end w n s r ≤ owner_at w parted n s l → position_of w n s p.page p.cell ≤ owner_at w parted n s l
  unfolding position_or_end
  near r p e h = rw e at h

  pub owner_end : 0 < l → (r : Option Place) → r ≡ None → position_or_end w n s r ≤ owner_at w parted n s l → ⊥
  unfolding position_or_end
  owner_end some None e h = omega (arith, owner_in some)
  owner_end some (Some p) e h = cc

  pub owner_room : 6 + w * l + w ≤ length s
  owner_room = omega (arith, payload_in w n parted s valid l used, units_in_lem w n parted s valid, (base_in w n parted s valid).0, (base_in w n parted s valid).1)
