-- A row's content and marks written in a valid store: the entry that is put over the one there.
-- Assumes nothing.
use mathlib.Core.Path.{◌≡◌, refl, sym, ◌∙◌, ap}
use mathlib.Core.Bool.{true, false}
use mathlib.Core.List.{List}
use Prim.Native.Nat.{ℕ, ◌+◌, ◌*◌, ◌/◌, ◌%◌, ◌≤◌, ◌<◌}
use native.Mathlib.Omega.{arith}
use lib.ListN.{length, get_or, set}
use lib.Seq.{get_or-set_same, set-set, set-get_or}
use Rattle.lists.proofs.Lists.{every_at}
use Rattle.types.specs.Units.{units_in}
use Rattle.store.specs.Held.{held, position_of, content_of, no_row}
use Rattle.store.specs.Valid.{Valid}
use Rattle.store.specs.Valid as Store
use Rattle.store.specs.Edits.{Left, Rewritten, filled, marked}
use Rattle.store.proofs.Contents.{base_is, base_in, content_in, content_word}
use Rattle.store.proofs.Rewriting.{rewritten, there_kept, position_kept}
use Rattle.store.proofs.Reading.{position_held}
use Rattle.model.specs.Data.{Entry}
use Rattle.versioned_data.specs.Layout.{StoreRow, marks_of, body_of, padded, rows_in, row_ok, data_valid}
use Rattle.versioned_data.specs.Found.{position_at, row_found, IsRow, remade, PutOver}
use Rattle.versioned_data.proofs.EntryRows.{ok_few}
use Rattle.versioned_data.proofs.EntriesHeld.{every_ok, store_valid, rows_here}
use Rattle.versioned_data.proofs.RowContents.{left_then, filled_left}

both_remade : (m : ℕ) (vs : List ℕ) (u : StoreRow) (e : Entry) → m ≡ marks_of e → vs ≡ body_of e.cell → marked m (filled (padded vs) u) ≡ remade e u
unfolding marked filled remade
both_remade m vs u e g f j = record { spot = u.spot; marks = g j; payload = padded (f j) }

module _ (s : List ℕ) (v : data_valid s ≡ true) (n : ℕ) (size : n ≡ units_in (length s)) (page i : ℕ) (t : IsRow s page i) where
  pub row_valid : Valid 22 false n s
  row_valid = rw size (store_valid s v t.units)

  pub row_there : Store.There 22 n s page i
  row_there = rw size t.there

  rows : rows_in s ≡ held 22 n s
  rows = rw size (rows_here s v t.units)

  abbrev pos : ℕ
  pos = position_of 22 n s page i

  abbrev u : StoreRow
  u = get_or (held 22 n s) (position_of 22 n s page i) no_row

  abbrev b : ℕ
  b = content_of 22 n s (position_of 22 n s page i)

  pub row_inside : position_of 22 n s page i < length (held 22 n s)
  row_inside = position_held 22 n s page i row_there

  pub row_is : get_or (held 22 n s) (position_of 22 n s page i) no_row ≡ row_found s page i
  unfolding row_found position_at
  row_is = rw (rows, ← size) refl

  pub row_fine : row_ok (get_or (held 22 n s) (position_of 22 n s page i) no_row) ≡ true
  row_fine = every_at row_ok (held 22 n s) pos no_row row_inside (rw rows at (every_ok s v))

  pub found_fine : row_ok (row_found s page i) ≡ true
  found_fine = ap row_ok (sym row_is) ∙ row_fine

  pub row_room : content_of 22 n s (position_of 22 n s page i) + 20 ≤ length s
  row_room = omega (arith, content_in 22 n false s row_valid pos row_inside, (base_in 22 n false s row_valid).0, (base_in 22 n false s row_valid).1)

  pub row_few : content_of 22 n s (position_of 22 n s page i) + 20 ≤ 90118
  row_few = omega (arith, content_in 22 n false s row_valid pos row_inside, base_is 22 n, row_valid.few)

  -- a word of the content
  pub row_word : (j : ℕ) → j < 20 → get_or s (content_of 22 n s (position_of 22 n s page i) + j) 0 ≡ get_or (row_found s page i).payload j 0
  row_word j h = content_word 22 n false s row_valid pos row_inside j h ∙ ap (λ (w : StoreRow). get_or w.payload j 0) row_is

  -- a left row is an entry put over
  put_row : (e : Entry) (x : StoreRow) (after : List ℕ) → Left 22 false n (set (held 22 n s) pos x) s after → x ≡ remade e u → PutOver s page i e after
  unfolding PutOver position_at
  put_row e x after l f =
      let g : x ≡ remade e (row_found s page i) = f ∙ ap (remade e) row_is in
      rw (← size, rows, ← g) l

  -- content alone
  module _ (x : List ℕ) (w : Rewritten false (content_of 22 n s (position_of 22 n s page i)) 20 s x) (vs : List ℕ) (few : length vs ≤ 20)
      (words : (j : ℕ) → j < 20 → get_or x (content_of 22 n s (position_of 22 n s page i) + j) 0 ≡ get_or vs j 0) where
    filled_row : Left 22 false n (set (held 22 n s) pos (filled (padded vs) u)) s x
    filled_row = filled_left n pos s row_valid row_inside x vs w few words

    pub put_content : (e : Entry) → u.marks ≡ marks_of e → vs ≡ body_of e.cell → PutOver s page i e x
    unfolding filled remade
    put_content e m f =
        put_row e (filled (padded vs) u) x filled_row (λ j. record { spot = u.spot; marks = m j; payload = padded (f j) })

  -- content, and marks after it
  module _ (x : List ℕ) (w : Rewritten false (content_of 22 n s (position_of 22 n s page i)) 20 s x) where
    pub then_valid : Valid 22 false n x
    then_valid = (rewritten 22 n pos false s x row_valid row_inside w).0.valid

    pub then_there : Store.There 22 n x page i
    then_there = there_kept 22 n pos false s x row_valid row_inside w page i row_there

    then_position : position_of 22 n x page i ≡ pos
    then_position = position_kept 22 n pos false s x row_valid row_inside w page i

    then_marks : (get_or (held 22 n x) (position_of 22 n x page i) no_row).marks ≡ u.marks
    unfolding filled
    then_marks =
        ap (λ (j : ℕ). (get_or (held 22 n x) j no_row).marks) then_position
        ∙ ap (λ (l : List StoreRow). (get_or l pos no_row).marks) (rewritten 22 n pos false s x row_valid row_inside w).0.holds
        ∙ ap (λ (q : StoreRow). q.marks) (get_or-set_same (held 22 n s) pos (filled _ u) no_row row_inside)

    -- an entry's marks have no part
    pub then_part : (m : ℕ) → m < 256 → m / 256 ≡ (get_or (held 22 n x) (position_of 22 n x page i) no_row).marks / 256
    then_part m h =
        let e : (get_or (held 22 n x) (position_of 22 n x page i) no_row).marks ≡ u.marks = then_marks in
        omega (arith, ok_few u row_fine)

    module _ (vs : List ℕ) (few : length vs ≤ 20) (words : (j : ℕ) → j < 20 → get_or x (content_of 22 n s (position_of 22 n s page i) + j) 0 ≡ get_or vs j 0) where
      pub put_both : (m : ℕ) (y : List ℕ) →
          Left 22 false n (set (held 22 n x) (position_of 22 n x page i) (marked m (get_or (held 22 n x) (position_of 22 n x page i) no_row))) x y →
          (e : Entry) → m ≡ marks_of e → vs ≡ body_of e.cell → PutOver s page i e y
      put_both m y l e g f = put_row e (marked m (filled (padded vs) u)) y (left_then n (set (held 22 n s) pos (filled (padded vs) u)) (set (held 22 n s) pos (marked m (filled (padded vs) u))) s x y left final) is
        where
          left : Left 22 false n (set (held 22 n s) pos (filled (padded vs) u)) s x
          left = filled_left n pos s row_valid row_inside x vs w few words

          rows_now : set (held 22 n x) (position_of 22 n x page i) (marked m (get_or (held 22 n x) (position_of 22 n x page i) no_row)) ≡ set (held 22 n s) pos (marked m (filled (padded vs) u))
          rows_now =
              ap (λ (j : ℕ). set (held 22 n x) j (marked m (get_or (held 22 n x) j no_row))) then_position
              ∙ ap (λ (q : List StoreRow). set q pos (marked m (get_or q pos no_row))) left.holds
              ∙ ap (λ (q : StoreRow). set (set (held 22 n s) pos (filled (padded vs) u)) pos (marked m q)) (get_or-set_same (held 22 n s) pos (filled (padded vs) u) no_row row_inside)
              ∙ set-set (held 22 n s) pos (filled (padded vs) u) (marked m (filled (padded vs) u))

          final : Left 22 false n (set (held 22 n s) pos (marked m (filled (padded vs) u))) x y
          final = rw rows_now at l

          is : marked m (filled (padded vs) u) ≡ remade e u
          is = both_remade m vs u e g f

  -- marks alone
  pub put_marks : (m : ℕ) (y : List ℕ) → Left 22 false n (set (held 22 n s) (position_of 22 n s page i) (marked m (get_or (held 22 n s) (position_of 22 n s page i) no_row))) s y →
      (e : Entry) → m ≡ marks_of e → u.payload ≡ padded (body_of e.cell) → PutOver s page i e y
  unfolding marked remade
  put_marks m y l e g f = put_row e (marked m u) y l (λ j. record { spot = u.spot; marks = g j; payload = f j })

  pub marks_part : (m : ℕ) → m < 256 → m / 256 ≡ (get_or (held 22 n s) (position_of 22 n s page i) no_row).marks / 256
  marks_part m h = omega (arith, ok_few u row_fine)

  -- the marks of an estimate
  pub mark_few : (m : ℕ) → m ≡ (get_or (held 22 n s) (position_of 22 n s page i) no_row).marks → (x : ℕ) → x ≡ m % 4 + 4 + 8 * (m / 8) → x < 256
  mark_few m e x made = omega (arith, made, ok_few u row_fine)

  -- the row as it is
  pub put_same : (e : Entry) → row_found s page i ≡ remade e (row_found s page i) → PutOver s page i e s
  put_same e f =
      let l : Left 22 false n (held 22 n s) s s = record { valid = row_valid; holds = refl; size = refl; past = λ k h. refl } in
      let g : set (held 22 n s) pos u ≡ held 22 n s = set-get_or (held 22 n s) pos no_row in
      put_row e u s (rw g l) (row_is ∙ f ∙ ap (remade e) (sym row_is))
