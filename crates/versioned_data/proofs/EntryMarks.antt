-- What a row's marks and first words say of its entry, and marks written.
-- Assumes nothing.
use mathlib.Core.Path.{◌≡◌, refl, sym, ◌∙◌, ap}
use mathlib.Core.Bool.{Bool, true, false, cond}
use mathlib.Core.List.{List}
use mathlib.Core.Option.{Option, none, some}
use Prim.Native.Nat.{ℕ, zero, suc, ◌+◌, ◌*◌, ◌/◌, ◌%◌}
use native.Mathlib.Omega.{arith}
use lib.Dec.{ltb, eqb}
use lib.ListN.{get_or}
use borrow.Author.Tests.{ne_eqb}
use Rattle.delta.specs.Delta.{Delta}
use Rattle.types.specs.Flag.{flag_of}
use Rattle.types.specs.Value.{value_at, is_exchanged, same_bytes}
use Rattle.model.specs.Data.{Cell, delta, same_exchanged, unless_differs, base_over, base_onto, set_base_value, yields, may_write}
use Rattle.model.specs.Fine.{fine_cell}
use Rattle.versioned_data.specs.Layout.{StoreRow, form_of, sign_of, marks_of, cell_of, entry_of, row_ok}
use Rattle.versioned_data.specs.Base.{kept_if, over_base, base_at, base_ruling, may_put}
use Rattle.versioned_data.proofs.EntryRows.{ok_marks, ok_cell, marks_form, marks_sign}

-- ---- the form, and the incarnation and value of a write

module _ (u : StoreRow) (h : row_ok u ≡ true) where
  pub row_form : u.marks % 4 ≡ form_of (entry_of u).held.cell
  row_form = ap (λ (n : ℕ). n % 4) (ok_marks u h) ∙ marks_form (entry_of u).held

  pub row_sign : u.marks / 8 ≡ sign_of (entry_of u).held.cell
  row_sign = ap (λ (n : ℕ). n / 8) (ok_marks u h) ∙ marks_sign (entry_of u).held

  -- an estimate's marks
  pub estimate_marks : u.marks % 4 + 4 + 8 * (u.marks / 8) ≡ marks_of (record { cell = (entry_of u).held.cell; estimate = true })
  unfolding marks_of flag_of
  estimate_marks = omega (arith, row_form, row_sign)

  cell_is : (c : Cell) → c ≡ (entry_of u).held.cell → (n : ℕ) → n ≡ u.marks % 4 → cell_of n u ≡ c
  unfolding entry_of
  cell_is c e n f = ap (λ (m : ℕ). cell_of m u) f ∙ sym e

-- a write may go over a write of a lower incarnation, and over any delta
yields_form : (incarnation n : ℕ) (u : StoreRow) → cond (eqb n 0) (ltb (get_or u.payload 0 0) incarnation) true ≡ yields (cell_of n u) incarnation
unfolding yields cell_of
yields_form incarnation zero u = refl
yields_form incarnation (suc zero) u = refl
yields_form incarnation (suc (suc n)) u = rw (ne_eqb (suc (suc n)) 0 (omega arith))

pub may_row : (incarnation : ℕ) (u : StoreRow) → may_put incarnation (some u) ≡ may_write incarnation (some (entry_of u).held)
unfolding may_put may_write entry_of
may_row incarnation u = yields_form incarnation (u.marks % 4) u

pub may_none : (incarnation : ℕ) → may_put incarnation none ≡ may_write incarnation none
unfolding may_put may_write
may_none incarnation = refl

-- ---- a base over a base

kept_is : (new : List ℕ) (b : Bool) → unless_differs b ≡ base_ruling new (kept_if b)
unfolding unless_differs kept_if base_ruling
kept_is new true = refl
kept_is new false = refl

over_is : (new old : List ℕ) → base_over new old ≡ base_ruling new (over_base new old)
unfolding base_over over_base base_ruling
over_is new old = go (is_exchanged new) refl (is_exchanged old) refl
  where
    go : (x : Bool) → is_exchanged new ≡ x → (y : Bool) → is_exchanged old ≡ y → base_over new old ≡ base_ruling new (over_base new old)
    go true e true f = rw (e, f) (kept_is new (same_exchanged new old))
    go true e false f = rw (e, f)
    go false e true f = rw (e, f)
    go false e false f = rw (e, f) (kept_is new (same_bytes new old))

-- a base is no delta
no_delta : (estimate : Bool) (d : Delta) (n : Option ℕ) → fine_cell 0 estimate (delta d n) ≡ true → ⊥
unfolding fine_cell
no_delta estimate d n h = let z : ◌≡◌ {A = ℕ} 0 1 = cc in omega arith

base_form : (new : List ℕ) (n : ℕ) (estimate : Bool) (u : StoreRow) → fine_cell 0 estimate (cell_of n u) ≡ true → base_onto new (cell_of n u) ≡ base_ruling new (over_base new (value_at 1 u.payload))
unfolding cell_of base_onto
base_form new zero estimate u f = over_is new (value_at 1 u.payload)
base_form new (suc zero) estimate u f = absurd (no_delta estimate _ _ f)
base_form new (suc (suc n)) estimate u f = absurd (no_delta estimate _ _ f)

pub base_row : (new : List ℕ) (u : StoreRow) → row_ok u ≡ true → (entry_of u).place ≡ 0 → set_base_value new (some (entry_of u).held) ≡ base_ruling new (base_at new (some u))
unfolding set_base_value base_at entry_of
base_row new u h p =
    base_form new (u.marks % 4) (entry_of u).held.estimate u (ap (λ (q : ℕ). fine_cell q (entry_of u).held.estimate (entry_of u).held.cell) (sym p) ∙ ok_cell u h)

pub base_none : (new : List ℕ) → set_base_value new none ≡ base_ruling new (base_at new none)
unfolding set_base_value base_at base_ruling
base_none new = refl
