-- Each operation of the data store: what was found, what was put there, and its rule.
-- Assumes nothing.
use mathlib.Core.Path.{◌≡◌, refl, sym, ◌∙◌, ap, ap₂}
use mathlib.Core.Bool.{Bool, true, false, not}
use mathlib.Core.List.{List}
use mathlib.Core.Option.{Option, none, some}
use Prim.Native.Nat.{ℕ, suc, ◌+◌, ◌*◌, ◌/◌, ◌%◌, ◌≤◌, ◌<◌}
use native.Mathlib.Omega.{arith}
use lib.Dec.{ltb}
use lib.ListN.{length, get_or, set, take, length-append}
use lib.Seq.{ext_get_or, length-take-le}
use borrow.Author.Tests.{eq-eqb, ne_eqb}
use Rattle.number.specs.Words.{AreWords, digits}
use Rattle.number.proofs.Digits.{words_take, length_digits}
use Rattle.delta.specs.Delta.{Delta, delta_width, delta_at, delta_ok, delta_words}
use Rattle.delta.proofs.DeltaFormat.{ok_valid, delta_at_small, length_delta_words}
use Rattle.types.specs.Refusal.{nothing_there, incarnation_not_higher, base_differs}
use Rattle.types.specs.Units.{units_in}
use Rattle.types.specs.Value.{value_at, value_width, value_ok, is_exchanged}
use Rattle.types.specs.ValueWithLayout.{value_from, words_of}
use Rattle.types.specs.declared.value.ValueWithLayout.{ValueWithLayout}
use Rattle.types.proofs.ValueLaws.{length_value_at, words_value_at, get_d_value_at, words_read}
use Rattle.probe.specs.Cells.{erase_at}
use Rattle.store.specs.Held.{held, position_of, content_of, no_row}
use Rattle.store.specs.Edits.{Left, marked}
use Rattle.model.specs.Rows.{find, Edit, leave, clear}
use Rattle.model.specs.Rows
use Rattle.model.specs.Data.{Cell, Entry, Ruling, refuse, accept, done, done_answer, write, delta, may_write, write_value, add_delta, mark_estimate, remove, set_base_value}
use Rattle.model.specs.Fine.{fine_value, fine_shortcut, fine_cell}
use Rattle.model.proofs.FineParts.{word_tell, words_every, delta_tell, value_length, write_value_lem}
use Rattle.model.proofs.FineEntries.{base_cell, write_cell, delta_cell, estimate_cell}
use Rattle.versioned_data.specs.Layout.{StoreRow, body_of, entry_of, rows_in, entries_in, row_ok, data_valid}
use Rattle.versioned_data.specs.Found.{position_at, row_found, IsRow, Here, Gone, FoundIn, RowIn, found_row, PutOver, PutIn, Put}
use Rattle.versioned_data.specs.Base.{over_base, base_at, base_ruling, may_put}
use Rattle.versioned_data.specs.Edited.{Edited}
use Rattle.std.specs.Prelude.{Result, Ok, Err}
use Rattle.directory.specs.declared.cells.Place.{Place}
use Rattle.versioned_data.specs.declared.base.Base.{Base}
use Rattle.versioned_data.specs.declared.base.Base.TheVariants.{Keep, Set, Differs}
use Rattle.versioned_data.proofs.EntryRows.{spot_place, ok_payload, ok_cell}
use Rattle.versioned_data.proofs.RowContents.{length_padded}
use Rattle.versioned_data.proofs.EntryMarks.{may_row, may_none, base_row, base_none, estimate_marks}
use Rattle.versioned_data.proofs.EntriesHeld.{rows_here}
use Rattle.versioned_data.proofs.RowEdits.{row_is, found_fine, row_room, row_word, put_marks}
use Rattle.versioned_data.proofs.EntryRulings.{entry_fine, edited_refused, edited_left, edited_over, edited_removed, edited_put, here_spot, here_ok}

pub pos_suc : (n : ℕ) → 0 < suc n
pos_suc n = omega arith

pub small_of : (q index : ℕ) → q ≡ suc index → index < 4294967295 → q < 4294967296
small_of q index e h = omega arith

-- ---- what was found

module _ (s : List ℕ) (k p : ℕ) (f : Result Place Place) (t : FoundIn s k p f) (c : Place) where
  pub found_here : f ≡ Ok c → Here s k p c.page c.cell
  unfolding FoundIn
  found_here e = rw e at t

  pub found_gone : f ≡ Err c → Gone s k p c.page c.cell
  unfolding FoundIn
  found_gone e = rw e at t

  pub found_row_lem : f ≡ Ok c → IsRow s c.page c.cell
  found_row_lem e = (found_here e).row

pub row_in : (s : List ℕ) (k p : ℕ) (f : Result Place Place) → FoundIn s k p f → RowIn s f
unfolding FoundIn RowIn
row_in s k p (Ok c) t = t.row
row_in s k p (Err c) t = tt

pub is_row : (s : List ℕ) (f : Result Place Place) → RowIn s f → (c : Place) → f ≡ Ok c → IsRow s c.page c.cell
unfolding RowIn
is_row s f t c e = rw e at t

module _ (s : List ℕ) (k p : ℕ) (f : Result Place Place) (c : Place) (e : Entry) where
  pub put_there : f ≡ Ok c → (after : List ℕ) → PutOver s c.page c.cell e after → Put s k p f e 0 after
  unfolding Put
  put_there h after w = rw h (refl, w)

  pub put_absent : f ≡ Err c → (r : ℕ) (after : List ℕ) → PutIn s k p c.page c.cell e r after → Put s k p f e r after
  unfolding Put
  put_absent h r after w = rw h w

-- the code has the shifted index as the word `q`
pub found_at : (s : List ℕ) (k q p : ℕ) (f : Result Place Place) → q ≡ p → FoundIn s k q f → FoundIn s k p f
found_at s k q p f e t = rw e at t

pub put_at : (s : List ℕ) (k q p : ℕ) (f : Result Place Place) (e : Entry) (r : ℕ) (after : List ℕ) → q ≡ p → Put s k q f e r after → Put s k p f e r after
put_at s k q p f e r after h t = rw h at t

-- ---- what a row's words tell a write, and a base

body_long : (place : ℕ) (estimate : Bool) (c : Cell) → fine_cell place estimate c ≡ true → length (body_of c) ≤ 20
unfolding body_of
body_long place estimate (write i v) h = omega (arith, value_length v (write_value_lem place estimate i v h))
body_long place estimate (delta d none) h = omega (arith, length-take-le 16 (delta_words d) (omega (arith, length_delta_words d)))
body_long place estimate (delta d (some n)) h =
    omega (arith, length-append (take 16 (delta_words d)) (digits 4 n), length-take-le 16 (delta_words d) (omega (arith, length_delta_words d)), length_digits 4 n)

pub payload_long : (u : StoreRow) → row_ok u ≡ true → length u.payload ≡ 20
payload_long u h =
    let e : Entry = (entry_of u).held in
    ap length (ok_payload u h) ∙ length_padded (body_of e.cell) (body_long (entry_of u).place e.estimate e.cell (ok_cell u h))

module _ (s : List ℕ) (f : Result Place Place) (c : Place) where
  pub may_absent : (incarnation : ℕ) → f ≡ Err c → true ≡ may_put incarnation (found_row s f)
  unfolding may_put found_row
  may_absent incarnation e = rw e

  pub base_absent : (new : List ℕ) → f ≡ Err c → Set ≡ base_at new (found_row s f)
  unfolding base_at found_row
  base_absent new e = rw e

  module _ (v : data_valid s ≡ true) (n : ℕ) (size : n ≡ units_in (length s)) (t : IsRow s c.page c.cell) (e : f ≡ Ok c) where
    module _ (m : ℕ) (marks : m ≡ (get_or (held 22 n s) (position_of 22 n s c.page c.cell) no_row).marks) (incarnation : ℕ) where
      marks_are : m ≡ (row_found s c.page c.cell).marks
      marks_are = marks ∙ ap (λ (u : StoreRow). u.marks) (row_is s v n size c.page c.cell t)

      pub may_delta : (m % 4 ≡ 0 → ⊥) → true ≡ may_put incarnation (found_row s f)
      unfolding may_put found_row
      may_delta h = rw (e, ← marks_are, ne_eqb (m % 4) 0 h)

      pub may_higher : m % 4 ≡ 0 → (b : ℕ) → b ≡ content_of 22 n s (position_of 22 n s c.page c.cell) → ltb (get_or s b 0) incarnation ≡ may_put incarnation (found_row s f)
      unfolding may_put found_row
      may_higher h b content =
          let z : b ≡ content_of 22 n s (position_of 22 n s c.page c.cell) + 0 = omega (arith, content) in
          let w : get_or s b 0 ≡ get_or (row_found s c.page c.cell).payload 0 0 = ap (λ (j : ℕ). get_or s j 0) z ∙ row_word s v n size c.page c.cell t 0 (omega arith) in
          rw (e, ← marks_are, h, w)

    module _ (b : ℕ) (content : b ≡ content_of 22 n s (position_of 22 n s c.page c.cell)) where
      pub row_content : b + 20 ≤ length s
      row_content = rw content (row_room s v n size c.page c.cell t)

      l : length (row_found s c.page c.cell).payload ≡ 20
      l = payload_long (row_found s c.page c.cell) (found_fine s v n size c.page c.cell t)

      -- the value after the content's first word
      value_is : value_at (b + 1) s ≡ value_at 1 (row_found s c.page c.cell).payload
      value_is =
          ext_get_or 0 (value_at (b + 1) s) (value_at 1 (row_found s c.page c.cell).payload)
          (length_value_at s (b + 1) (omega (arith, row_content)) ∙ sym (length_value_at (row_found s c.page c.cell).payload 1 (omega (arith, l))))
          (λ j h.
          let g : j < 7 = omega (arith, length_value_at s (b + 1) (omega (arith, row_content))) in
          let z : b + 1 + j ≡ content_of 22 n s (position_of 22 n s c.page c.cell) + (1 + j) = omega (arith, content) in
          get_d_value_at s (b + 1) j g ∙ ap (λ (x : ℕ). get_or s x 0) z ∙ row_word s v n size c.page c.cell t (1 + j) (omega arith) ∙ sym (get_d_value_at (row_found s c.page c.cell).payload 1 j g))

      pub base_there : AreWords s → (q : List ℕ) (at : ℕ) → AreWords q → at + value_width ≤ length q → (old new : ValueWithLayout) →
          old ≡ value_from (value_at (b + 1) s) → new ≡ value_from (value_at at q) → (r : Base) → r ≡ over_base (words_of new) (words_of old) → r ≡ base_at (value_at at q) (found_row s f)
      unfolding base_at found_row
      base_there ws q at wq fits old new h g r o =
          rw e
          (o
          ∙ ap₂ (λ (x y : List ℕ). over_base x y) (ap words_of g ∙ words_read q at wq fits)
          (ap words_of h ∙ words_read s (b + 1) ws (omega (arith, row_content)) ∙ value_is))

-- ---- the rules

write_may : (incarnation : ℕ) (v : List ℕ) (o : Option Entry) (b : Bool) → b ≡ may_write incarnation o → not b ≡ false →
    write_value incarnation v o ≡ accept done_answer (Rows.set (done (write incarnation v)))
unfolding write_value
write_may incarnation v o true e f = rw (← e)
write_may incarnation v o false e f = absurd (let z : ◌≡◌ {A = ℕ} 0 1 = cc in omega arith)

write_may_not : (incarnation : ℕ) (v : List ℕ) (o : Option Entry) (b : Bool) → b ≡ may_write incarnation o → not b ≡ true → write_value incarnation v o ≡ refuse incarnation_not_higher
unfolding write_value
write_may_not incarnation v o false e f = rw (← e)
write_may_not incarnation v o true e f = absurd (let z : ◌≡◌ {A = ℕ} 0 1 = cc in omega arith)

adds : (d : Delta) (o : Option Entry) → add_delta d o ≡ accept done_answer (Rows.set (done (delta d none)))
unfolding add_delta
adds d o = refl

mark_none : (o : Option Entry) → o ≡ none → mark_estimate o ≡ refuse nothing_there
unfolding mark_estimate
mark_none o e = rw e

mark_some : (o : Option Entry) (b : Entry) → o ≡ some b → mark_estimate o ≡ accept done_answer (Rows.set (record { cell = b.cell; estimate = true }))
unfolding mark_estimate
mark_some o b e = rw e

remove_none : (o : Option Entry) → o ≡ none → remove o ≡ refuse nothing_there
unfolding remove
remove_none o e = rw e

remove_some : (o : Option Entry) (b : Entry) → o ≡ some b → remove o ≡ accept done_answer clear
unfolding remove
remove_some o b e = rw e

base_keep : (v : List ℕ) (b : Base) → b ≡ Keep → base_ruling v b ≡ accept done_answer leave
unfolding base_ruling
base_keep v b e = rw e

base_set : (v : List ℕ) (b : Base) → b ≡ Set → base_ruling v b ≡ accept done_answer (Rows.set (done (write 0 v)))
unfolding base_ruling
base_set v b e = rw e

base_differs_lem : (v : List ℕ) (b : Base) → b ≡ Differs → base_ruling v b ≡ refuse base_differs
unfolding base_ruling
base_differs_lem v b e = rw e

-- ---- fine entries

value_fine : (q : List ℕ) (at : ℕ) → AreWords q → at + value_width ≤ length q → value_ok (value_at at q) ≡ true → fine_value (value_at at q) ≡ true
unfolding fine_value
value_fine q at w h ok = rw (eq-eqb (length (value_at at q)) value_width (length_value_at q at h), words_every (value_at at q) (words_value_at q at w), ok)

base_fine : (v : List ℕ) → fine_value v ≡ true → fine_cell 0 (done (write 0 v)).estimate (done (write 0 v)).cell ≡ true
unfolding done
base_fine v h = base_cell v h

module _ (p : ℕ) (above : 0 < p) where
  write_fine : (incarnation : ℕ) (v : List ℕ) → incarnation < 4294967296 → fine_value v ≡ true → is_exchanged v ≡ true →
      fine_cell p (done (write incarnation v)).estimate (done (write incarnation v)).cell ≡ true
  unfolding done
  write_fine incarnation v h f x = write_cell p above false incarnation v (word_tell incarnation h) f x

  delta_fine : (w : List ℕ) → AreWords w → delta_width ≤ length w → delta_ok (take delta_width w) ≡ true →
      fine_cell p (done (delta (delta_at (take delta_width w)) none)).estimate (done (delta (delta_at (take delta_width w)) none)).cell ≡ true
  unfolding done fine_shortcut
  delta_fine w words fits ok =
      let l : List ℕ = take delta_width w in
      delta_cell p above false (delta_at l) none
      (delta_tell (delta_at l) (delta_at_small l (words_take delta_width w words) (length-take-le delta_width w fits)).limit (ok_valid l ok)) refl

-- ---- the row found, in the model's words

module _ (s : List ℕ) (v : data_valid s ≡ true) (k p : ℕ) (big : k < 4294967296) (small : p < 4294967296) (page i : ℕ) (t : Here s k p page i) where
  place_at : (entry_of (row_found s page i)).place ≡ p
  unfolding entry_of
  place_at = ap (λ (y : ℕ). y % 4294967296) (here_spot s v k p big small page i t) ∙ spot_place k p small

  pub cell_at : fine_cell p (entry_of (row_found s page i)).held.estimate (entry_of (row_found s page i)).held.cell ≡ true
  cell_at =
      let u : StoreRow = row_found s page i in
      ap (λ (y : ℕ). fine_cell y (entry_of u).held.estimate (entry_of u).held.cell) (sym place_at) ∙ ok_cell u (here_ok s v k p big small page i t)

may_found : (s : List ℕ) → data_valid s ≡ true → (k p : ℕ) → p < 4294967296 → (incarnation : ℕ) (f : Result Place Place) → FoundIn s k p f → may_put incarnation (found_row s f) ≡ may_write incarnation (find k p (entries_in s))
unfolding FoundIn found_row
may_found s v k p small incarnation (Ok c) t = may_row incarnation (row_found s c.page c.cell) ∙ ap (may_write incarnation) (sym t.entry)
may_found s v k p small incarnation (Err c) t = may_none incarnation ∙ ap (may_write incarnation) (sym t.entry)

base_found : (s : List ℕ) → data_valid s ≡ true → (k : ℕ) → k < 4294967296 → (new : List ℕ) (f : Result Place Place) → FoundIn s k 0 f → set_base_value new (find k 0 (entries_in s)) ≡ base_ruling new (base_at new (found_row s f))
unfolding FoundIn found_row
base_found s v k big new (Ok c) t =
    ap (set_base_value new) t.entry ∙ base_row new (row_found s c.page c.cell) (here_ok s v k 0 big (omega arith) c.page c.cell t) (place_at s v k 0 big (omega arith) c.page c.cell t)
base_found s v k big new (Err c) t = ap (set_base_value new) t.entry ∙ base_none new

erase_left : (s : List ℕ) → data_valid s ≡ true → (n : ℕ) → n ≡ units_in (length s) → (page i : ℕ) → IsRow s page i → (after : List ℕ) → Left 22 false n (erase_at (position_of 22 n s page i) (held 22 n s)) s after →
    Left 22 false (units_in (length s)) (erase_at (position_at s page i) (rows_in s)) s after
unfolding position_at
erase_left s v n size page i t after l =
    let rows : rows_in s ≡ held 22 n s = rw size (rows_here s v t.units) in
    rw (← size, rows) l

module _ (s : List ℕ) (v : data_valid s ≡ true) (k q p : ℕ) (big : k < 4294967296) (small : q < 4294967296) (place : q ≡ p) (f : Result Place Place) (found : FoundIn s k q f) where
  here_p : (c : Place) → f ≡ Ok c → Here s k p c.page c.cell
  here_p c e = found_here s k p f (found_at s k q p f place found) c e

  p_small : p < 4294967296
  p_small = rw (← place) small

  put_edited : (rule : Option Entry → Ruling (Edit Entry)) (a : Entry) (r : ℕ) (after : List ℕ) → rule (find k p (entries_in s)) ≡ accept done_answer (Rows.set a) →
      fine_cell p a.estimate a.cell ≡ true → Put s k q f a r after → Edited s k p rule r after
  put_edited rule a r after g fine w =
      edited_put s v k p big p_small f (found_at s k q p f place found) rule done_answer a r after g (entry_fine k p a big p_small fine) (put_at s k q p f a r after place w)

  module _ (above : 0 < p) where
    pub delta_added : (w : List ℕ) → AreWords w → delta_width ≤ length w → delta_ok (take delta_width w) ≡ true → (r : ℕ) (after : List ℕ) →
        Put s k q f (done (delta (delta_at (take delta_width w)) none)) r after → Edited s k p (add_delta (delta_at (take delta_width w))) r after
    delta_added w words fits ok r after put =
        put_edited (add_delta (delta_at (take delta_width w))) (done (delta (delta_at (take delta_width w)) none)) r after (adds (delta_at (take delta_width w)) (find k p (entries_in s)))
        (delta_fine p above w words fits ok) put

    module _ (incarnation : ℕ) (w : List ℕ) (at : ℕ) (b : Bool) (may : b ≡ may_put incarnation (found_row s f)) where
      may_is : b ≡ may_write incarnation (find k p (entries_in s))
      may_is = may ∙ may_found s v k p p_small incarnation f (found_at s k q p f place found)

      pub write_refused : not b ≡ true → Edited s k p (write_value incarnation (value_at at w)) incarnation_not_higher s
      write_refused e =
          edited_refused s k p (write_value incarnation (value_at at w)) incarnation_not_higher (write_may_not incarnation (value_at at w) (find k p (entries_in s)) b may_is e)

      pub write_done : not b ≡ false → incarnation < 4294967296 → AreWords w → at + value_width ≤ length w → value_ok (value_at at w) ≡ true → is_exchanged (value_at at w) ≡ true →
          (r : ℕ) (after : List ℕ) → Put s k q f (done (write incarnation (value_at at w))) r after → Edited s k p (write_value incarnation (value_at at w)) r after
      write_done e word words fits ok exchanged r after put =
          put_edited (write_value incarnation (value_at at w)) (done (write incarnation (value_at at w))) r after (write_may incarnation (value_at at w) (find k p (entries_in s)) b may_is e)
          (write_fine p above incarnation (value_at at w) word (value_fine w at words fits ok) exchanged) put

    module _ (c : Place) where
      pub mark_refused : f ≡ Err c → Edited s k p mark_estimate nothing_there s
      mark_refused e =
          edited_refused s k p mark_estimate nothing_there (mark_none (find k p (entries_in s)) (found_gone s k p f (found_at s k q p f place found) c e).entry)

      pub remove_refused : f ≡ Err c → Edited s k p remove nothing_there s
      remove_refused e =
          edited_refused s k p remove nothing_there (remove_none (find k p (entries_in s)) (found_gone s k p f (found_at s k q p f place found) c e).entry)

      module _ (e : f ≡ Ok c) (n : ℕ) (size : n ≡ units_in (length s)) where
        pub remove_done : (after : List ℕ) → Left 22 false n (erase_at (position_of 22 n s c.page c.cell) (held 22 n s)) s after → Edited s k p remove 0 after
        remove_done after l =
            edited_removed s v k p big p_small c.page c.cell (here_p c e) remove done_answer after (remove_some (find k p (entries_in s)) (entry_of (row_found s c.page c.cell)).held (here_p c e).entry)
            (erase_left s v n size c.page c.cell (here_p c e).row after l)

        pub mark_done : (m : ℕ) → m ≡ (get_or (held 22 n s) (position_of 22 n s c.page c.cell) no_row).marks → (x : ℕ) → x ≡ m % 4 + 4 + 8 * (m / 8) → (after : List ℕ) →
            Left 22 false n (set (held 22 n s) (position_of 22 n s c.page c.cell) (marked x (get_or (held 22 n s) (position_of 22 n s c.page c.cell) no_row))) s after →
            Edited s k p mark_estimate 0 after
        mark_done m marks x made after l =
            let u : StoreRow = row_found s c.page c.cell in
            let t : IsRow s c.page c.cell = (here_p c e).row in
            let a : Entry = record { cell = (entry_of u).held.cell; estimate = true } in
            let ok : row_ok u ≡ true = found_fine s v n size c.page c.cell t in
            let is : m ≡ u.marks = marks ∙ ap (λ (w : StoreRow). w.marks) (row_is s v n size c.page c.cell t) in
            edited_over s v k p big p_small c.page c.cell (here_p c e) mark_estimate done_answer a after (mark_some (find k p (entries_in s)) (entry_of u).held (here_p c e).entry)
            (entry_fine k p a big p_small (estimate_cell p above (entry_of u).held.estimate true (entry_of u).held.cell (cell_at s v k p big p_small c.page c.cell (here_p c e))))
            (put_marks s v n size c.page c.cell t x after l a (made ∙ ap (λ (j : ℕ). j % 4 + 4 + 8 * (j / 8)) is ∙ estimate_marks u ok)
            (ap (λ (w : StoreRow). w.payload) (row_is s v n size c.page c.cell t) ∙ ok_payload u ok))

-- A base's shifted index is 0.
module _ (s : List ℕ) (v : data_valid s ≡ true) (k q : ℕ) (big : k < 4294967296) (place : q ≡ 0) (f : Result Place Place) (found : FoundIn s k q f) (w : List ℕ) (at : ℕ) (b : Base) (base : b ≡ base_at (value_at at w) (found_row s f)) where
  base_is : set_base_value (value_at at w) (find k 0 (entries_in s)) ≡ base_ruling (value_at at w) b
  base_is = base_found s v k big (value_at at w) f (found_at s k q 0 f place found) ∙ ap (base_ruling (value_at at w)) (sym base)

  pub base_kept : b ≡ Keep → Edited s k 0 (set_base_value (value_at at w)) 0 s
  base_kept e = edited_left s k 0 (set_base_value (value_at at w)) done_answer v (base_is ∙ base_keep (value_at at w) b e)

  pub base_refused : b ≡ Differs → Edited s k 0 (set_base_value (value_at at w)) base_differs s
  base_refused e = edited_refused s k 0 (set_base_value (value_at at w)) base_differs (base_is ∙ base_differs_lem (value_at at w) b e)

  pub base_done : b ≡ Set → AreWords w → at + value_width ≤ length w → value_ok (value_at at w) ≡ true → (r : ℕ) (after : List ℕ) → Put s k q f (done (write 0 (value_at at w))) r after →
      Edited s k 0 (set_base_value (value_at at w)) r after
  base_done e words fits ok r after put =
      put_edited s v k q 0 big (omega arith) place f found (set_base_value (value_at at w)) (done (write 0 (value_at at w))) r after (base_is ∙ base_set (value_at at w) b e)
      (base_fine (value_at at w) (value_fine w at words fits ok)) put
