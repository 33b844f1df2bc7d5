-- What the marks and the content of a row tell of its entry.
-- Assumes nothing.
use mathlib.Core.Path.{◌≡◌, refl, sym, ◌∙◌, ap}
use mathlib.Core.Bool.{true}
use mathlib.Core.List.{List, [], ◌∷◌, ◌++◌}
use mathlib.Core.Option.{Option, none, some}
use Prim.Native.Nat.{ℕ, zero, suc, ◌-◌, ◌/◌, ◌%◌, ◌≤◌}
use native.Mathlib.Omega.{arith}
use native.Mathlib.Decide.{ℕ_discrete}
use lib.Dec.{eqb}
use lib.ListN.{length, get_or, take, drop}
use borrow.Author.Tests.{eq-eqb, ne_eqb}
use Rattle.number.specs.Words.{digits, value_of_words}
use Rattle.delta.specs.Delta.{Delta, Accumulated, accumulate, valid, sign_word, delta_ok, delta_words}
use Rattle.delta.proofs.DeltaFormat.{valid_small, delta_ok_delta_words}
use Rattle.types.specs.Value.{value_at}
use Rattle.model.specs.Rows.{Row}
use Rattle.model.specs.Data.{Cell, write, delta, Entry, Read, dependency, at_write, at_cell, at_row, onto, past, walk}
use Rattle.model.specs.Fine.{fine_delta, fine_cell, fine_entry}
use Rattle.model.proofs.FineParts.{delta_limit, delta_valid, delta_delta}
use Rattle.versioned_data.specs.Layout.{StoreRow, form_of, sign_of, body_of, padded, delta_in, cell_of, entry_of, row_ok}
use Rattle.versioned_data.proofs.EntryRows.{marks_form, marks_sign, ok_marks, ok_payload, ok_cell}

pub form_small : (c : Cell) → form_of c ≤ 2
unfolding form_of
form_small (write i v) = omega arith
form_small (delta d none) = omega arith
form_small (delta d (some n)) = omega arith

module _ (u : StoreRow) (ok : row_ok u ≡ true) where
  pub row_form : u.marks % 4 ≡ form_of (entry_of u).held.cell
  row_form = ap (λ (m : ℕ). m % 4) (ok_marks u ok) ∙ marks_form (entry_of u).held

  pub row_sign : u.marks / 8 ≡ sign_of (entry_of u).held.cell
  row_sign = ap (λ (m : ℕ). m / 8) (ok_marks u ok) ∙ marks_sign (entry_of u).held

-- ---- the walk at a row, by its marks

module _ (a : Accumulated) (u : StoreRow) (rest : List (Row Entry)) where
  pub step_estimate : u.marks / 4 % 2 ≡ 1 → walk a (entry_of u ∷ rest) ≡ dependency (u.spot % 4294967296 - 1)
  unfolding entry_of walk at_row
  step_estimate e = rw (eq-eqb (u.marks / 4 % 2) 1 e)

  lower : Read
  lower = walk (past a (cell_of (u.marks % 4) u)) rest

  step_cell : (u.marks / 4 % 2 ≡ 1 → ⊥) → walk a (entry_of u ∷ rest) ≡ at_cell a (u.spot % 4294967296) (cell_of (u.marks % 4) u) lower
  unfolding entry_of walk at_row lower
  step_cell done = rw (ne_eqb (u.marks / 4 % 2) 1 done)

  pub step_write : u.marks ≡ 0 → walk a (entry_of u ∷ rest) ≡ at_write a (u.spot % 4294967296) (get_or u.payload 0 0) (value_at 1 u.payload)
  unfolding cell_of at_cell
  step_write e =
      let d : u.marks / 4 % 2 ≡ 1 → ⊥ = λ f. omega arith in
      let f : u.marks % 4 ≡ 0 = omega arith in
      step_cell d ∙ rw f

  pub step_delta : u.marks % 8 ≡ 1 → walk a (entry_of u ∷ rest) ≡ walk (accumulate a (delta_in u)) rest
  unfolding cell_of at_cell past lower
  step_delta e =
      let d : u.marks / 4 % 2 ≡ 1 → ⊥ = λ f. omega arith in
      let f : u.marks % 4 ≡ 1 = omega arith in
      step_cell d ∙ rw f

  cell_shortcut : (n : ℕ) (low : Read) → 2 ≤ n → at_cell a (u.spot % 4294967296) (cell_of n u) low ≡ onto a (value_of_words (take 4 (drop 16 u.payload)))
  unfolding cell_of at_cell
  cell_shortcut zero low h = absurd (omega arith)
  cell_shortcut (suc zero) low h = absurd (omega arith)
  cell_shortcut (suc (suc n)) low h = refl

  plain_write : (n : ℕ) → n ≡ 0 → sign_of (cell_of n u) ≡ 0
  unfolding cell_of sign_of
  plain_write n e = rw e

  pub step_shortcut : row_ok u ≡ true → (u.marks / 4 % 2 ≡ 1 → ⊥) → (u.marks % 8 ≡ 1 → ⊥) → (u.marks ≡ 0 → ⊥) →
      walk a (entry_of u ∷ rest) ≡ onto a (value_of_words (take 4 (drop 16 u.payload)))
  unfolding entry_of
  step_shortcut ok done other marked =
      step_cell done ∙ cell_shortcut (u.marks % 4) lower (more (ℕ_discrete (u.marks % 4) 0))
    where
      more : Dec (u.marks % 4 ≡ 0) → 2 ≤ u.marks % 4
      more (yes e) =
          let f : u.marks / 8 ≡ 0 = row_sign u ok ∙ plain_write (u.marks % 4) e in
          absurd (marked (omega arith))
      more (no e) = omega arith

-- ---- a delta's words

delta_words_lem : (d : Delta) → take 16 (delta_words d) ++ (sign_word d.update ∷ []) ≡ delta_words d
unfolding delta_words digits
delta_words_lem d = refl

body_numbers : (d : Delta) (n : Option ℕ) → take 16 (padded (body_of (delta d n))) ≡ take 16 (delta_words d)
unfolding delta_words digits padded body_of
body_numbers d none = refl
body_numbers d (some m) = refl

pub length_padded_delta : (d : Delta) (n : Option ℕ) → length (padded (body_of (delta d n))) ≡ 20
unfolding delta_words digits padded body_of
length_padded_delta d none = refl
length_padded_delta d (some m) = refl

-- a row of a delta: its numbers and its sign are the delta's words
module _ (u : StoreRow) (ok : row_ok u ≡ true) (marked : u.marks % 4 ≡ 0 → ⊥) where
  cell_delta : (n : ℕ) → (n ≡ 0 → ⊥) → (m : Option ℕ) × (cell_of n u ≡ delta (delta_in u) m)
  unfolding cell_of
  cell_delta zero h = absurd (h refl)
  cell_delta (suc zero) h = (none, refl)
  cell_delta (suc (suc n)) h = (some (value_of_words (take 4 (drop 16 u.payload))), refl)

  row_words : take 16 u.payload ++ (u.marks / 8 ∷ []) ≡ delta_words (delta_in u)
  unfolding entry_of sign_of
  row_words =
      let c = cell_delta (u.marks % 4) marked in
      let p : take 16 u.payload ≡ take 16 (delta_words (delta_in u)) =
      ap (take 16) (ok_payload u ok ∙ ap (λ (c : Cell). padded (body_of c)) c.1) ∙ body_numbers (delta_in u) c.0
      in
      let q : u.marks / 8 ≡ sign_word (delta_in u).update = row_sign u ok ∙ ap sign_of c.1 in
      rw (p, q) (delta_words_lem (delta_in u))

  row_delta : fine_delta (delta_in u) ≡ true
  unfolding entry_of fine_entry
  row_delta =
      let c = cell_delta (u.marks % 4) marked in
      delta_delta (u.spot % 4294967296) (eqb (u.marks / 4 % 2) 1) (delta_in u) c.0
      (ap (fine_cell (u.spot % 4294967296) (eqb (u.marks / 4 % 2) 1)) (sym c.1)
      ∙ ok_cell u ok)

  pub row_delta_valid : valid (delta_in u) ≡ true
  row_delta_valid = delta_valid (delta_in u) row_delta

  pub row_delta_ok : delta_ok (take 16 u.payload ++ (u.marks / 8 ∷ [])) ≡ true
  row_delta_ok =
      ap delta_ok row_words
      ∙ delta_ok_delta_words (delta_in u) (delta_valid (delta_in u) row_delta)
      (valid_small (delta_in u) (delta_valid (delta_in u) row_delta) (delta_limit (delta_in u) row_delta))
