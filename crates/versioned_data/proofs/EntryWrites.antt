-- The words of an entry's content as the code writes them.
-- Assumes nothing.
use mathlib.Core.Path.{◌≡◌, refl, sym, ◌∙◌, ap, ap₂, subst}
use mathlib.Core.Bool.{Bool, true, false}
use mathlib.Core.List.{List, ◌∷◌, ◌++◌, append_assoc}
use mathlib.Core.Option.{none, some}
use Prim.Native.Nat.{ℕ, zero, suc, ◌+◌, ◌-◌, ◌*◌, ◌%◌, ◌≤◌, ◌<◌}
use native.Mathlib.Omega.{arith}
use borrow.Rule.Slice.PartMut.{put_mid, post_of, Post-is}
use Rattle.std.proofs.lemmas.List.Edits.{sets-eq}
use native.Mathlib.Decide.{dec_lt}
use native.Mathlib.Numerals.{add-one}
use lib.ListN.{length, get_or, set, take, drop, length-append, get_or-eq_default}
use lib.Seq.{sets, take-take, length-take-le, get_or-take}
use Rattle.number.specs.Words.{AreWords, digits}
use Rattle.number.proofs.Digits.{words_take, length_digits}
use Rattle.delta.specs.Delta.{delta_width, delta_at, delta_ok, delta_words, sign_word, signed, minus_at, number_at}
use Rattle.delta.proofs.DeltaFormat.{length_delta_words, delta_words_delta_at, sign_back, ok_sign}
use Rattle.types.specs.Flag.{flag_of}
use Rattle.types.specs.Units.{units_in}
use Rattle.types.specs.Value.{value_at, value_width}
use Rattle.types.proofs.ValueLaws.{length_value_at}
use Rattle.moves.specs.Moves.{Cleared}
use Rattle.store.specs.Held.{held, position_of, content_of, no_row}
use Rattle.store.specs.Edits.{Left, Rewritten, marked}
use Rattle.model.specs.Data.{Cell, write, delta, Entry, done}
use Rattle.model.specs.Fine.{fine_cell}
use Rattle.model.proofs.FineParts.{value_length, write_value_lem}
use Rattle.versioned_data.specs.Layout.{StoreRow, form_of, sign_of, marks_of, body_of, entry_of, row_ok, data_valid}
use Rattle.versioned_data.specs.Found.{row_found, IsRow, PutOver}
use Rattle.versioned_data.specs.Puts.{body_width}
use Rattle.versioned_data.proofs.EntryRows.{ok_marks, ok_payload, ok_cell, marks_form}
use Rattle.versioned_data.proofs.RowContents.{sets_past, sets_within, get_d_padded, sets_rewritten, cleared_rewritten, same_rewritten}
use Rattle.versioned_data.proofs.RowEdits.{row_is, row_room, row_few, row_word, found_fine, put_content, put_both}

-- ---- runs of words

pub past_end : (l : List ℕ) (j : ℕ) → length l ≤ j → get_or l j 0 ≡ 0
past_end l j h = get_or-eq_default l 0 h

-- words copied into a part of a slice
pub copy_part : (b m : ℕ) (s t z : List ℕ) → b + m ≤ length s → m ≤ length t → z ≡ take m t → put_mid b (b + m - b) s z ≡ sets s b (take m t)
copy_part b m s t z room inside e =
    let size : length (take m t) ≡ m = length-take-le m t inside in
    let g : post_of b (b + m - b) s ≡ drop (b + length (take m t)) s = Post-is b (b + m) s (omega arith) ∙ ap (λ (j : ℕ). drop (b + j) s) (sym size) in
    ap₂ (λ (x y : List ℕ). take b s ++ (x ++ y)) e g ∙ sym (append_assoc (take b s) (take m t) (drop (b + length (take m t)) s))
    ∙ sym (sets-eq (take m t) s b (omega arith))

-- ---- a write

pub write_marks : (i : ℕ) (v : List ℕ) → marks_of (done (write i v)) ≡ 0
unfolding marks_of done form_of sign_of flag_of
write_marks i v = refl

-- its incarnation, and then its value
pub write_put : (s x : List ℕ) (b i : ℕ) (v : List ℕ) → x ≡ sets (set s b i) (b + 1) (take value_width v) → x ≡ sets s b (body_of (done (write i (value_at 0 v))).cell)
unfolding value_at body_of done
write_put s x b i v e = e ∙ ap (λ (k : ℕ). sets (set s b i) k (take value_width v)) (add-one b)

pub write_long : (i : ℕ) (v : List ℕ) → value_width ≤ length v → length (body_of (done (write i (value_at 0 v))).cell) ≡ body_width (form_of (done (write i (value_at 0 v))).cell)
unfolding body_of done form_of body_width
write_long i v inside = ap suc (length_value_at v 0 inside)

-- ---- a delta in a request's words

module _ (q : List ℕ) (ok : delta_ok (take delta_width q) ≡ true) where
  sign_word_lem : get_or (take delta_width q) 16 0 ≡ get_or q 16 0
  sign_word_lem = get_or-take delta_width q 16 0 (omega arith)

  pub delta_sign : get_or q 16 0 ≤ 1
  delta_sign = omega (arith, sign_word_lem, ok_sign (take delta_width q) ok)

  pub delta_marks : 1 + 8 * get_or q 16 0 ≡ marks_of (done (delta (delta_at (take delta_width q)) none))
  unfolding marks_of done form_of sign_of flag_of delta_at
  delta_marks =
      let e : sign_word (signed (minus_at (take delta_width q)) (number_at (take delta_width q) 12)) ≡ get_or q 16 0 = sign_back (take delta_width q) ok ∙ sign_word_lem in
      omega (arith, e)

  pub delta_body : AreWords q → delta_width ≤ length q → take 16 q ≡ body_of (done (delta (delta_at (take delta_width q)) none)).cell
  unfolding body_of done
  delta_body words inside =
      sym
      (ap (take 16) (delta_words_delta_at (take delta_width q) (words_take delta_width q words) (length-take-le delta_width q inside) ok)
      ∙ take-take 16 delta_width q (omega arith))

  pub delta_long : AreWords q → delta_width ≤ length q →
      length (body_of (done (delta (delta_at (take delta_width q)) none)).cell) ≡ body_width (form_of (done (delta (delta_at (take delta_width q)) none)).cell)
  unfolding form_of done body_width
  delta_long words inside = ap length (sym (delta_body words inside)) ∙ length-take-le 16 q (omega (arith, inside))

-- ---- a row's words past its cell's

width_few : (f : ℕ) → body_width f ≤ 20
unfolding body_width
width_few zero = omega arith
width_few (suc zero) = omega arith
width_few (suc (suc n)) = omega arith

pub body_few : (e : Entry) → length (body_of e.cell) ≡ body_width (form_of e.cell) → length (body_of e.cell) ≤ 20
body_few e long = omega (arith, long, width_few (form_of e.cell))

past_body : (c : Cell) (place : ℕ) (estimate : Bool) (j : ℕ) → fine_cell place estimate c ≡ true → body_width (form_of c) ≤ j → get_or (body_of c) j 0 ≡ 0
unfolding form_of body_of body_width
past_body (write i v) place estimate j h f = past_end (i ∷ v) j (omega (arith, f, value_length v (write_value_lem place estimate i v h)))
past_body (delta d none) place estimate j h f =
    past_end (take 16 (delta_words d)) j (omega (arith, f, length-take-le 16 (delta_words d) (omega (arith, length_delta_words d))))
past_body (delta d (some n)) place estimate j h f =
    past_end (take 16 (delta_words d) ++ digits 4 n) j
    (omega (arith, f, length-append (take 16 (delta_words d)) (digits 4 n), length-take-le 16 (delta_words d) (omega (arith, length_delta_words d)), length_digits 4 n))

-- a row of an entry's marks has no words where the entry has none
pub clean_row : (u : StoreRow) → row_ok u ≡ true → (e : Entry) → u.marks ≡ marks_of e → (j : ℕ) → body_width (form_of e.cell) ≤ j → get_or u.payload j 0 ≡ 0
clean_row u h e m j g =
    let d : Entry = (entry_of u).held in
    let z : form_of e.cell ≡ form_of d.cell = sym (marks_form e) ∙ ap (λ (n : ℕ). n % 4) (sym m ∙ ok_marks u h) ∙ marks_form d in
    ap (λ (l : List ℕ). get_or l j 0) (ok_payload u h) ∙ get_d_padded (body_of d.cell) j
    ∙ past_body d.cell (entry_of u).place d.estimate j (ok_cell u h) (subst (λ (f : ℕ). body_width f ≤ j) z g)

module _ (s : List ℕ) (v : data_valid s ≡ true) (n : ℕ) (size : n ≡ units_in (length s)) (page i : ℕ) (t : IsRow s page i) (b : ℕ) (content : b ≡ content_of 22 n s (position_of 22 n s page i)) where
  -- a run of words from the content's first, and zeros after it
  module _ (x y vs : List ℕ) (few : length vs ≤ 20) (put : y ≡ sets x b vs) (long : length x ≡ length s) (zeros : (j : ℕ) → length vs ≤ j → j < 20 → get_or x (b + j) 0 ≡ 0) where
    run_words : (j : ℕ) → j < 20 → get_or y (content_of 22 n s (position_of 22 n s page i) + j) 0 ≡ get_or vs j 0
    run_words j h = rw (← content, put) (go (dec_lt j (length vs)))
      where
        go : Dec (j < length vs) → get_or (sets x b vs) (b + j) 0 ≡ get_or vs j 0
        go (yes l) = sets_within vs x b j (omega (arith, row_room s v n size page i t)) l
        go (no l) = sets_past vs x b (b + j) (omega arith) ∙ zeros j (omega arith) h ∙ sym (past_end vs j (omega arith))

  pub content_few : b + 20 ≤ 90118
  content_few = rw content (row_few s v n size page i t)

  pub content_room : b + 20 ≤ length s
  content_room = rw content (row_room s v n size page i t)

  -- an entry's words, over those of a row
  module _ (e : Entry) (long : length (body_of e.cell) ≡ body_width (form_of e.cell)) where
    few : length (body_of e.cell) ≤ 20
    few = body_few e long

    -- a row of the same marks
    pub over_same : (m : ℕ) → m ≡ (get_or (held 22 n s) (position_of 22 n s page i) no_row).marks → m ≡ marks_of e → (y : List ℕ) → y ≡ sets s b (body_of e.cell) →
        PutOver s page i e y
    over_same m marks same y put =
        put_content s v n size page i t y
        (rw content at (sets_rewritten b s y s (body_of e.cell) b (same_rewritten b s) (omega arith) (omega (arith, few)) put))
        (body_of e.cell) few
        (run_words s y (body_of e.cell) few put refl clean)
        e (sym marks ∙ same) refl
      where
        clean : (j : ℕ) → length (body_of e.cell) ≤ j → j < 20 → get_or s (b + j) 0 ≡ 0
        clean j h l =
            rw content
            (row_word s v n size page i t j l
            ∙ clean_row (row_found s page i) (found_fine s v n size page i t) e
            (ap (λ (u : StoreRow). u.marks) (sym (row_is s v n size page i t)) ∙ sym marks ∙ same) j (omega (arith, h, long)))

    -- any other: its content is cleared first
    module _ (x y : List ℕ) (cleared : Cleared b 20 s x) (put : y ≡ sets x b (body_of e.cell)) where
      pub over_rewritten : Rewritten false (content_of 22 n s (position_of 22 n s page i)) 20 s y
      over_rewritten =
          rw content at
          (sets_rewritten b s y x (body_of e.cell) b (cleared_rewritten b b 20 s x s (same_rewritten b s) (omega arith) (omega arith) cleared) (omega arith) (omega (arith, few)) put)

      pub over_anew : (m : ℕ) → m ≡ marks_of e → (z : List ℕ) →
          Left 22 false n (set (held 22 n y) (position_of 22 n y page i) (marked m (get_or (held 22 n y) (position_of 22 n y page i) no_row))) y z →
          PutOver s page i e z
      over_anew m marks z left =
          put_both s v n size page i t y over_rewritten (body_of e.cell) few
          (run_words x y (body_of e.cell) few put cleared.size (λ j h l. cleared.within j l)) m z left e marks refl
