-- A shortcut recorded in a row's words is the shortcut of the entry there.
-- Assumes nothing.
use mathlib.Core.Path.{◌≡◌, refl, sym, ◌∙◌, ap}
use mathlib.Core.Bool.{Bool, true, false}
use mathlib.Core.List.{List, ◌++◌}
use mathlib.Core.Option.{Option, none, some}
use Prim.Native.Nat.{ℕ, ◌+◌, ◌-◌, ◌*◌, ◌/◌, ◌%◌, ◌≤◌, ◌<◌}
use native.Mathlib.Omega.{arith}
use native.Mathlib.Decide.{dec_lt}
use lib.ListN.{length, get_or, set, take, length-append, get_or-append}
use lib.Seq.{sets, length-take-le, get_or-append-add}
use Rattle.number.specs.Words.{digits}
use Rattle.number.proofs.Digits.{length_digits}
use Rattle.delta.specs.Delta.{Delta, delta_words}
use Rattle.delta.proofs.DeltaFormat.{length_delta_words}
use Rattle.types.specs.Flag.{flag_of}
use Rattle.types.specs.Units.{units_in}
use Rattle.store.specs.Held.{held, position_of, content_of, no_row}
use Rattle.store.specs.Edits.{Left, Rewritten, marked}
use Rattle.model.specs.Data.{Cell, write, delta, with_shortcut}
use Rattle.versioned_data.specs.Layout.{StoreRow, form_of, sign_of, marks_of, body_of, padded, entry_of, row_ok, data_valid}
use Rattle.versioned_data.specs.Found.{row_found, IsRow, remade, PutOver}
use Rattle.versioned_data.specs.Materialize.{shortcut_entry}
use Rattle.versioned_data.proofs.EntryRows.{ok_marks, ok_payload, ok_few, marks_upper}
use Rattle.versioned_data.proofs.EntryMarks.{row_form}
use Rattle.versioned_data.proofs.RowContents.{sets_under, sets_within, get_d_padded, sets_rewritten, same_rewritten}
use Rattle.versioned_data.proofs.RowEdits.{row_is, found_fine, row_room, row_word, put_same, put_both}

-- ---- a write has none

write_kept : (n : ℕ) (c : Cell) → form_of c ≡ 0 → with_shortcut n c ≡ c
unfolding form_of with_shortcut
write_kept n (write i v) e = refl
write_kept n (delta d none) e = absurd (omega arith)
write_kept n (delta d (some m)) e = absurd (omega arith)

row_kept : (n : ℕ) (u : StoreRow) → row_ok u ≡ true → u.marks % 4 ≡ 0 → u ≡ remade (shortcut_entry n u) u
unfolding remade shortcut_entry
row_kept n u h z =
    let c : Cell = (entry_of u).held.cell in
    let e : with_shortcut n c ≡ c = write_kept n c (sym (row_form u h) ∙ z) in
    let m : u.marks ≡ marks_of (record { cell = with_shortcut n c; estimate = (entry_of u).held.estimate }) =
    ok_marks u h ∙ ap (λ (x : Cell). marks_of (record { cell = x; estimate = (entry_of u).held.estimate })) (sym e)
    in
    let p : u.payload ≡ padded (body_of (with_shortcut n c)) = ok_payload u h ∙ ap (λ (x : Cell). padded (body_of x)) (sym e) in
    λ j. record { spot = u.spot; marks = m j; payload = p j }

-- ---- a delta

sixteen : (d : Delta) → length (take 16 (delta_words d)) ≡ 16
sixteen d = length-take-le 16 (delta_words d) (omega (arith, length_delta_words d))

no_form : (i : ℕ) (v : List ℕ) → form_of (write i v) ≡ 0
unfolding form_of
no_form i v = refl

shortcut_marks : (n : ℕ) (b : Bool) (d : Delta) (m : Option ℕ) → marks_of (record { cell = delta d (some n); estimate = b }) ≡ 2 + 4 * (flag_of b + 2 * sign_of (delta d m))
unfolding marks_of form_of sign_of
shortcut_marks n b d m = omega arith

upper_marks : (n : ℕ) (b : Bool) (d : Delta) (m : Option ℕ) → 2 + 4 * (marks_of (record { cell = delta d m; estimate = b }) / 4) ≡ marks_of (record { cell = delta d (some n); estimate = b })
upper_marks n b d m =
    let f : marks_of (record { cell = delta d m; estimate = b }) / 4 ≡ flag_of b + 2 * sign_of (delta d m) = marks_upper (record { cell = delta d m; estimate = b }) in
    omega (arith, f, shortcut_marks n b d m)

delta_marks_lem : (n : ℕ) (b : Bool) (c : Cell) → (form_of c ≡ 0 → ⊥) → 2 + 4 * (marks_of (record { cell = c; estimate = b }) / 4) ≡ marks_of (record { cell = with_shortcut n c; estimate = b })
unfolding with_shortcut
delta_marks_lem n b (write i v) h = absurd (h (no_form i v))
delta_marks_lem n b (delta d m) h = upper_marks n b d m

-- the first sixteen words, and those after them
first_words : (n : ℕ) (c : Cell) → (form_of c ≡ 0 → ⊥) → (j : ℕ) → j < 16 → get_or (body_of c) j 0 ≡ get_or (body_of (with_shortcut n c)) j 0
unfolding with_shortcut body_of
first_words n (write i v) h j l = absurd (h (no_form i v))
first_words n (delta d none) h j l = sym (get_or-append (take 16 (delta_words d)) (digits 4 n) 0 j (omega (arith, sixteen d)))
first_words n (delta d (some m)) h j l =
    get_or-append (take 16 (delta_words d)) (digits 4 m) 0 j (omega (arith, sixteen d)) ∙ sym (get_or-append (take 16 (delta_words d)) (digits 4 n) 0 j (omega (arith, sixteen d)))

last_words : (n : ℕ) (c : Cell) → (form_of c ≡ 0 → ⊥) → (j : ℕ) → 16 ≤ j → get_or (digits 4 n) (j - 16) 0 ≡ get_or (body_of (with_shortcut n c)) j 0
unfolding with_shortcut body_of
last_words n (write i v) h j l = absurd (h (no_form i v))
last_words n (delta d m) h j l =
    let e : length (take 16 (delta_words d)) + (j - 16) ≡ j = omega (arith, sixteen d) in
    sym (get_or-append-add (take 16 (delta_words d)) (digits 4 n) (j - 16) 0) ∙ ap (λ (x : ℕ). get_or (take 16 (delta_words d) ++ digits 4 n) x 0) e

body_twenty : (n : ℕ) (c : Cell) → (form_of c ≡ 0 → ⊥) → length (body_of (with_shortcut n c)) ≤ 20
unfolding with_shortcut body_of
body_twenty n (write i v) h = absurd (h (no_form i v))
body_twenty n (delta d m) h = omega (arith, length-append (take 16 (delta_words d)) (digits 4 n), sixteen d, length_digits 4 n)

module _ (s : List ℕ) (v : data_valid s ≡ true) (n : ℕ) (size : n ≡ units_in (length s)) (page i : ℕ) (t : IsRow s page i) (m : ℕ)
    (marks : m ≡ (get_or (held 22 n s) (position_of 22 n s page i) no_row).marks) (w : ℕ) where
  abbrev u : StoreRow
  u = row_found s page i

  marks_are : m ≡ (row_found s page i).marks
  marks_are = marks ∙ ap (λ (x : StoreRow). x.marks) (row_is s v n size page i t)

  -- a write is left as it is
  pub shortcut_none : m % 4 ≡ 0 → PutOver s page i (shortcut_entry w (row_found s page i)) s
  shortcut_none z =
      put_same s v n size page i t (shortcut_entry w u) (row_kept w u (found_fine s v n size page i t) (ap (λ (x : ℕ). x % 4) (sym marks_are) ∙ z))

  pub shortcut_few : (z : ℕ) → z ≡ 2 + 4 * (m / 4) → z < 256
  shortcut_few z made = omega (arith, made, marks_are, ok_few u (found_fine s v n size page i t))

  module _ (formed : m % 4 ≡ 0 → ⊥) (b : ℕ) (content : b ≡ content_of 22 n s (position_of 22 n s page i)) (x : List ℕ) (put : x ≡ sets s (b + 16) (digits 4 w)) where
    form : form_of (entry_of u).held.cell ≡ 0 → ⊥
    form z = formed (ap (λ (k : ℕ). k % 4) marks_are ∙ row_form u (found_fine s v n size page i t) ∙ z)

    pub shortcut_rewritten : Rewritten false (content_of 22 n s (position_of 22 n s page i)) 20 s x
    shortcut_rewritten =
        rw content at (sets_rewritten b s x s (digits 4 w) (b + 16) (same_rewritten b s) (omega arith) (omega (arith, length_digits 4 w)) put)

    words : (j : ℕ) → j < 20 → get_or x (content_of 22 n s (position_of 22 n s page i) + j) 0 ≡ get_or (body_of (with_shortcut w (entry_of u).held.cell)) j 0
    words j h = rw (← content, put) (go (dec_lt j 16))
      where
        go : Dec (j < 16) → get_or (sets s (b + 16) (digits 4 w)) (b + j) 0 ≡ get_or (body_of (with_shortcut w (entry_of u).held.cell)) j 0
        go (yes l) =
            sets_under (digits 4 w) s (b + 16) (b + j) (omega arith) ∙ ap (λ (k : ℕ). get_or s (k + j) 0) content ∙ row_word s v n size page i t j h
            ∙ ap (λ (q : List ℕ). get_or q j 0) (ok_payload u (found_fine s v n size page i t)) ∙ get_d_padded (body_of (entry_of u).held.cell) j
            ∙ first_words w (entry_of u).held.cell form j l
        go (no l) =
            let e : b + j ≡ b + 16 + (j - 16) = omega arith in
            ap (λ (k : ℕ). get_or (sets s (b + 16) (digits 4 w)) k 0) e
            ∙ sets_within (digits 4 w) s (b + 16) (j - 16) (omega (arith, content, row_room s v n size page i t, length_digits 4 w)) (omega (arith, length_digits 4 w))
            ∙ last_words w (entry_of u).held.cell form j (omega arith)

    pub shortcut_put : (z : ℕ) → z ≡ 2 + 4 * (m / 4) → (y : List ℕ) →
        Left 22 false n (set (held 22 n x) (position_of 22 n x page i) (marked z (get_or (held 22 n x) (position_of 22 n x page i) no_row))) x y →
        PutOver s page i (shortcut_entry w (row_found s page i)) y
    unfolding shortcut_entry
    shortcut_put z made y left =
        put_both s v n size page i t x shortcut_rewritten (body_of (with_shortcut w (entry_of u).held.cell)) (body_twenty w (entry_of u).held.cell form) words z y left
        (record { cell = with_shortcut w (entry_of u).held.cell; estimate = (entry_of u).held.estimate })
        (made ∙ ap (λ (k : ℕ). 2 + 4 * (k / 4)) (marks_are ∙ ok_marks u (found_fine s v n size page i t)) ∙ delta_marks_lem w (entry_of u).held.estimate (entry_of u).held.cell form) refl
