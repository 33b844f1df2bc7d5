-- Lack of slots: what the one decision tells of each store, and what it makes of a ruling.
-- Assumes nothing.
use mathlib.Core.Path.{◌≡◌, refl, sym, ◌∙◌}
use mathlib.Core.Bool.{Bool, true, false, ◌&&◌}
use mathlib.Core.List.{List}
use Prim.Native.Nat.{ℕ, zero, suc, ◌≤◌}
use lib.Dec.{leb, eqb, eqb-suc-zero}
use borrow.Author.Tests.{leb-true, le-leb, eqb-true}
use Rattle.lists.proofs.Bools.{and_left, and_right, never}
use Rattle.types.specs.Refusal.{of_units, is_in}
use Rattle.types.specs.Units.{lack_of}
use Rattle.types.proofs.UnitLaws.{lack_test, lack_none, lack_units}
use Rattle.model.specs.Data.{Ruling, refuse, accept}
use Rattle.model.specs.Model.{Model, Fixed, data_held, group_held, first_of, lack_in, fits, unless_refused, unless_full}

-- none of two numbers, as a test
first_of_none : (a b : ℕ) → eqb (first_of a b) 0 ≡ (eqb a 0 && eqb b 0)
unfolding first_of
first_of_none zero b = refl
first_of_none (suc a) b = rw (eqb-suc-zero a)

first_of_units : (a b : ℕ) → (eqb a 0 ≡ false → is_in a of_units ≡ true) → (eqb b 0 ≡ false → is_in b of_units ≡ true) → eqb (first_of a b) 0 ≡ false → is_in (first_of a b) of_units ≡ true
unfolding first_of
first_of_units zero b p q h = q h
first_of_units (suc a) b p q h = p h

module _ (s : Fixed) (m : Model) where
  -- nothing lacks exactly if both stores have what the model takes
  pub fits_leb : fits s m ≡ (leb (data_held m) s.data_slots && leb (group_held m) s.group_slots)
  unfolding fits lack_in
  fits_leb =
      first_of_none (lack_of (data_held m) s.data_slots) (lack_of (group_held m) s.group_slots)
      ∙ rw (lack_test (data_held m) s.data_slots, lack_test (group_held m) s.group_slots)

  pub fits_told : fits s m ≡ true → (data_held m ≤ s.data_slots) × (group_held m ≤ s.group_slots)
  fits_told h =
      let both : (leb (data_held m) s.data_slots && leb (group_held m) s.group_slots) ≡ true = sym fits_leb ∙ h in (
        leb-true (data_held m) s.data_slots (and_left (leb (data_held m) s.data_slots) (leb (group_held m) s.group_slots) both),
        leb-true (group_held m) s.group_slots (and_right (leb (data_held m) s.data_slots) (leb (group_held m) s.group_slots) both),
      )

  pub fits_tell : data_held m ≤ s.data_slots → group_held m ≤ s.group_slots → fits s m ≡ true
  fits_tell h g = fits_leb ∙ rw (le-leb (data_held m) s.data_slots h, le-leb (group_held m) s.group_slots g)

  -- where one store has its slots, the other decides
  pub lack_in_data : group_held m ≤ s.group_slots → lack_in s m ≡ lack_of (data_held m) s.data_slots
  unfolding lack_in first_of
  lack_in_data h = rw (lack_none (group_held m) s.group_slots h) (go (lack_of (data_held m) s.data_slots))
    where
      go : (n : ℕ) → first_of n 0 ≡ n
      go zero = refl
      go (suc n) = refl

  pub lack_in_group : data_held m ≤ s.data_slots → lack_in s m ≡ lack_of (group_held m) s.group_slots
  unfolding lack_in first_of
  lack_in_group h = rw (lack_none (data_held m) s.data_slots h)

  -- a lack is a number of the table's last part
  pub lack_in_none : fits s m ≡ true → lack_in s m ≡ 0
  unfolding fits
  lack_in_none h = eqb-true (lack_in s m) 0 h

  pub lack_in_units : fits s m ≡ false → is_in (lack_in s m) of_units ≡ true
  unfolding fits lack_in
  lack_in_units h =
      first_of_units (lack_of (data_held m) s.data_slots) (lack_of (group_held m) s.group_slots) (lack_units (data_held m) s.data_slots)
      (lack_units (group_held m) s.group_slots) h

  -- what an accepted ruling becomes
  pub unless_full_fits : (answer : List ℕ) → fits s m ≡ true → unless_full s (accept answer m) ≡ accept answer m
  unfolding unless_full unless_refused
  unless_full_fits answer h = rw (lack_in_none h)

  pub unless_full_lacks : (answer : List ℕ) → fits s m ≡ false → unless_full s (accept answer m) ≡ refuse (lack_in s m)
  unfolding unless_full unless_refused fits
  unless_full_lacks answer h = go (lack_in s m) h
    where
      go : (n : ℕ) → eqb n 0 ≡ false → unless_refused n (accept answer m) ≡ refuse n
      go zero e = never e
      go (suc n) e = refl

-- What holds of a ruling, and of every refusal for lack of slots, holds of the ruling once the slots are counted.
pub unless_full_has : (P : Ruling Model → Type 0) (s : Fixed) (r : Ruling Model) → P r → ((n : ℕ) → is_in n of_units ≡ true → P (refuse n)) → P (unless_full s r)
unfolding unless_full
unless_full_has P s (refuse n) h g = h
unless_full_has P s (accept answer m) h g = go (fits s m) refl
  where
    go : (b : Bool) → fits s m ≡ b → P (unless_full s (accept answer m))
    go true e = rw (unless_full_fits s m answer e) h
    go false e = rw (unless_full_lacks s m answer e) (g (lack_in s m) (lack_in_units s m e))
