-- An entry and its row in the store are one.
-- Assumes nothing.
use mathlib.Core.Path.{◌≡◌, refl, sym, ◌∙◌, ap, ap₂}
use mathlib.Core.Bool.{Bool, true, false}
use mathlib.Core.List.{List, [], ◌∷◌, ◌++◌}
use mathlib.Core.Option.{none, some}
use Prim.Native.Nat.{ℕ, ◌+◌, ◌*◌, ◌/◌, ◌%◌, ◌≤◌, ◌<◌}
use native.Mathlib.Omega.{arith}
use lib.Dec.{eqb}
use lib.IntN.{ℤ, pos, negsuc}
use lib.ListN.{length, get_or, take, drop, replicate}
use lib.Seq.{take_at}
use borrow.Author.Tests.{eqb-true, eq-eqb}
use Rattle.lists.proofs.Bools.{and_both, and_left, and_right, and_three}
use Rattle.number.specs.Number.{range}
use Rattle.number.specs.Words.{digits, value_of_words}
use Rattle.number.proofs.Digits.{value_four}
use Rattle.delta.specs.Delta.{Delta, is_minus, delta_at, delta_words, sign_word}
use Rattle.delta.proofs.DeltaFormat.{valid_small, delta_at_delta_words}
use Rattle.types.specs.Flag.{flag_of}
use Rattle.types.proofs.FlagLaws.{flag_back}
use Rattle.types.specs.Value.{value_at, value_width}
use Rattle.model.specs.Rows.{Row, row_at}
use Rattle.model.specs.Data.{Cell, write, delta, Entry}
use Rattle.model.specs.Fine.{is_word, fine_delta, fine_shortcut, fine_cell, fine_entry}
use Rattle.model.proofs.FineParts.{value_length, write_value_lem, delta_delta, delta_shortcut, entry_cell, delta_limit, delta_valid, number_told, word_told}
use Rattle.versioned_data.specs.Layout.{StoreRow, form_of, sign_of, marks_of, body_of, padded, spot_of, row_of, delta_in, cell_of, entry_of, same_words, same_row, row_ok}

-- ---- spots

pub spot_key : (k p : ℕ) → p < 4294967296 → spot_of k p / 4294967296 ≡ k
unfolding spot_of
spot_key k p h = omega arith

pub spot_place : (k p : ℕ) → p < 4294967296 → spot_of k p % 4294967296 ≡ p
unfolding spot_of
spot_place k p h = omega arith

pub spot_back : (y : ℕ) → spot_of (y / 4294967296) (y % 4294967296) ≡ y
unfolding spot_of
spot_back y = omega arith

-- ---- marks

flag_fits : (b : Bool) → flag_of b ≤ 1
unfolding flag_of
flag_fits true = omega arith
flag_fits false = omega arith

pub sign_fits : (z : ℤ) → sign_word z ≤ 1
unfolding sign_word is_minus
sign_fits (pos n) = omega arith
sign_fits (negsuc n) = omega arith

form_fits : (c : Cell) → form_of c ≤ 2
unfolding form_of
form_fits (write i v) = omega arith
form_fits (delta d none) = omega arith
form_fits (delta d (some n)) = omega arith

sign_of_lem : (c : Cell) → sign_of c ≤ 1
unfolding sign_of
sign_of_lem (write i v) = omega arith
sign_of_lem (delta d m) = sign_fits d.update

pub marks_form : (e : Entry) → marks_of e % 4 ≡ form_of e.cell
unfolding marks_of
marks_form e = omega (arith, form_fits e.cell, flag_fits e.estimate, sign_of_lem e.cell)

pub marks_flag : (e : Entry) → marks_of e / 4 % 2 ≡ flag_of e.estimate
unfolding marks_of
marks_flag e = omega (arith, form_fits e.cell, flag_fits e.estimate, sign_of_lem e.cell)

pub marks_sign : (e : Entry) → marks_of e / 8 ≡ sign_of e.cell
unfolding marks_of
marks_sign e = omega (arith, form_fits e.cell, flag_fits e.estimate, sign_of_lem e.cell)

pub marks_upper : (e : Entry) → marks_of e / 4 ≡ flag_of e.estimate + 2 * sign_of e.cell
unfolding marks_of
marks_upper e = omega (arith, form_fits e.cell, flag_fits e.estimate, sign_of_lem e.cell)

pub marks_few : (e : Entry) → marks_of e < 16
unfolding marks_of
marks_few e = omega (arith, form_fits e.cell, flag_fits e.estimate, sign_of_lem e.cell)

-- ---- contents

take_delta : (d : Delta) → take 16 (padded (body_of (delta d none))) ++ (sign_word d.update ∷ []) ≡ delta_words d
unfolding padded body_of delta_words digits
take_delta d = refl

take_shortcut : (d : Delta) (n : ℕ) → take 16 (padded (body_of (delta d (some n)))) ++ (sign_word d.update ∷ []) ≡ delta_words d
unfolding padded body_of delta_words digits
take_shortcut d n = refl

drop_shortcut : (d : Delta) (n : ℕ) → take 4 (drop 16 (padded (body_of (delta d (some n))))) ≡ digits 4 n
unfolding padded body_of delta_words digits
drop_shortcut d n = refl

delta_back : (d : Delta) → fine_delta d ≡ true → delta_at (delta_words d) ≡ d
delta_back d h = delta_at_delta_words d (valid_small d (delta_valid d h) (delta_limit d h))

pub padded_write : (i : ℕ) (v : List ℕ) → length v ≡ value_width → padded (body_of (write i v)) ≡ i ∷ (v ++ replicate 12 0)
unfolding padded body_of
padded_write i v e = rw e

value_in_lem : (i : ℕ) (v : List ℕ) → length v ≡ value_width → value_at 1 (padded (body_of (write i v))) ≡ v
unfolding value_at
value_in_lem i v e = ap (λ (l : List ℕ). take value_width (drop 1 l)) (padded_write i v e) ∙ take_at v (replicate 12 0) value_width e

first_in : (i : ℕ) (v : List ℕ) → get_or (padded (body_of (write i v))) 0 0 ≡ i
unfolding padded body_of
first_in i v = refl

shortcut_told : (n : ℕ) → fine_shortcut (some n) ≡ true → n < range
unfolding fine_shortcut
shortcut_told n h = number_told n h

cell_back : (place : ℕ) (estimate : Bool) (c : Cell) (u : StoreRow) → fine_cell place estimate c ≡ true → u.payload ≡ padded (body_of c) → u.marks / 8 ≡ sign_of c →
    cell_of (form_of c) u ≡ c
unfolding cell_of form_of delta_in sign_of
cell_back place estimate (write i v) u f e m =
    let size : length v ≡ value_width = value_length v (write_value_lem place estimate i v f) in
    ap₂ write (ap (λ (l : List ℕ). get_or l 0 0) e ∙ first_in i v) (ap (value_at 1) e ∙ value_in_lem i v size)
cell_back place estimate (delta d none) u f e m =
    ap (λ (x : Delta). delta x none)
    (ap₂ (λ (l : List ℕ) (w : ℕ). delta_at (take 16 l ++ (w ∷ []))) e m ∙ ap delta_at (take_delta d) ∙ delta_back d (delta_delta place estimate d none f))
cell_back place estimate (delta d (some n)) u f e m =
    ap₂ (λ (x : Delta) (w : ℕ). delta x (some w))
    (ap₂ (λ (l : List ℕ) (w : ℕ). delta_at (take 16 l ++ (w ∷ []))) e m ∙ ap delta_at (take_shortcut d n) ∙ delta_back d (delta_delta place estimate d (some n) f))
    (ap (λ (l : List ℕ). value_of_words (take 4 (drop 16 l))) e ∙ ap value_of_words (drop_shortcut d n) ∙ value_four n (shortcut_told n (delta_shortcut place estimate d (some n) f)))

-- ---- there and back

entry_place : (r : Row Entry) → fine_entry r ≡ true → r.place < 4294967296
unfolding fine_entry
entry_place r h = word_told r.place (and_three (is_word r.key) (is_word r.place) (fine_cell r.place r.held.estimate r.held.cell) h).1

pub entry_back : (r : Row Entry) → fine_entry r ≡ true → entry_of (row_of r) ≡ r
unfolding entry_of row_of
entry_back r h = λ i. record { key = key i; place = place i; held = record { cell = cell i; estimate = estimate i } }
  where
    p : r.place < 4294967296
    p = entry_place r h

    key : spot_of r.key r.place / 4294967296 ≡ r.key
    key = spot_key r.key r.place p

    place : spot_of r.key r.place % 4294967296 ≡ r.place
    place = spot_place r.key r.place p

    estimate : eqb (marks_of r.held / 4 % 2) 1 ≡ r.held.estimate
    estimate = ap (λ (n : ℕ). eqb n 1) (marks_flag r.held) ∙ flag_back r.held.estimate

    u : StoreRow
    u = record { spot = spot_of r.key r.place; marks = marks_of r.held; payload = padded (body_of r.held.cell) }

    cell : cell_of (marks_of r.held % 4) u ≡ r.held.cell
    cell =
        ap (λ (n : ℕ). cell_of n u) (marks_form r.held)
        ∙ cell_back r.place r.held.estimate r.held.cell u (entry_cell r h) refl (marks_sign r.held)

same_same : (xs : List ℕ) → same_words xs xs ≡ true
unfolding same_words
same_same [] = refl
same_same (x ∷ xs) = and_both (eqb x x) (same_words xs xs) (eq-eqb x x refl) (same_same xs)

same_words_lem : (xs ys : List ℕ) → same_words xs ys ≡ true → xs ≡ ys
unfolding same_words
same_words_lem [] [] h = refl
same_words_lem [] (y ∷ ys) h = absurd (let z : ◌≡◌ {A = ℕ} 0 1 = cc in omega arith)
same_words_lem (x ∷ xs) [] h = absurd (let z : ◌≡◌ {A = ℕ} 0 1 = cc in omega arith)
same_words_lem (x ∷ xs) (y ∷ ys) h =
    ap₂ (λ (z : ℕ) (l : List ℕ). z ∷ l) (eqb-true x y (and_left (eqb x y) (same_words xs ys) h)) (same_words_lem xs ys (and_right (eqb x y) (same_words xs ys) h))

row_same : (u : StoreRow) → same_row u u ≡ true
unfolding same_row
row_same u = rw (eq-eqb u.spot u.spot refl, eq-eqb u.marks u.marks refl, same_same u.payload)

-- the row of a fine entry is fine
pub row_ok_lem : (r : Row Entry) → fine_entry r ≡ true → row_ok (row_of r) ≡ true
unfolding row_ok
row_ok_lem r h = rw (entry_back r h, h, row_same (row_of r))

module _ (u : StoreRow) (h : row_ok u ≡ true) where
  pub ok_fine : fine_entry (entry_of u) ≡ true
  unfolding row_ok
  ok_fine = and_left (fine_entry (entry_of u)) (same_row (row_of (entry_of u)) u) h

  pub row_back : row_of (entry_of u) ≡ u
  unfolding row_ok same_row
  row_back =
      let v : StoreRow = row_of (entry_of u) in
      let g = and_three (eqb v.spot u.spot) (eqb v.marks u.marks) (same_words v.payload u.payload) (and_right (fine_entry (entry_of u)) (same_row (row_of (entry_of u)) u) h) in
      let a : v.spot ≡ u.spot = eqb-true v.spot u.spot g.0 in
      let b : v.marks ≡ u.marks = eqb-true v.marks u.marks g.1 in
      let c : v.payload ≡ u.payload = same_words_lem v.payload u.payload g.2 in
      λ i. record { spot = a i; marks = b i; payload = c i }

  pub ok_marks : u.marks ≡ marks_of (entry_of u).held
  unfolding row_of
  ok_marks = sym (ap (λ (v : StoreRow). v.marks) row_back)

  pub ok_payload : u.payload ≡ padded (body_of (entry_of u).held.cell)
  unfolding row_of
  ok_payload = sym (ap (λ (v : StoreRow). v.payload) row_back)

  pub ok_few : u.marks < 16
  ok_few = omega (arith, ok_marks, marks_few (entry_of u).held)

  pub ok_key : (entry_of u).key < 4294967296
  unfolding fine_entry
  ok_key =
      let r : Row Entry = entry_of u in
      word_told r.key (and_three (is_word r.key) (is_word r.place) (fine_cell r.place r.held.estimate r.held.cell) ok_fine).0

  pub ok_cell : fine_cell (entry_of u).place (entry_of u).held.estimate (entry_of u).held.cell ≡ true
  ok_cell = entry_cell (entry_of u) ok_fine

  -- its entry
  pub ok_entry : entry_of u ≡ row_at (u.spot / 4294967296) (u.spot % 4294967296) (entry_of u).held
  unfolding entry_of row_at
  ok_entry = refl
