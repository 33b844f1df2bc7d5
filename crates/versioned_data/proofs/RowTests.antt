-- The scan's test of a row, word by word, is that it is the row of a fine entry.
-- Assumes nothing.
use mathlib.Core.Path.{◌≡◌, refl, sym, ◌∙◌, ap}
use mathlib.Core.Bool.{Bool, true, false, cond, not, ◌&&◌}
use mathlib.Core.List.{List, [], ◌∷◌, ◌++◌, append-nil}
use mathlib.Core.Option.{Option, none, some}
use Prim.Native.Nat.{ℕ, zero, suc, ◌+◌, ◌-◌, ◌*◌, ◌/◌, ◌%◌, ◌≤◌, ◌<◌, ◌^◌}
use native.Mathlib.Omega.{arith}
use native.Mathlib.Decide.{ℕ_discrete}
use lib.Dec.{ltb, eqb}
use lib.ListN.{length, get_or, take, drop, replicate, length-drop, length-append, take-append-drop}
use lib.Seq.{length-take-le, take-add, take_all, take_at, drop_at, get_or_at}
use borrow.Author.Tests.{ltb-true, eqb-true, lt-ltb, le-ltb, eq-eqb, ne_eqb, not-true}
use Rattle.lists.specs.Lists.{every}
use Rattle.lists.proofs.Bools.{and_both, and_left, and_right, and_three, same_test, true_not_false}
use Rattle.number.specs.Words.{digits, value_of_words, AreWords}
use Rattle.number.proofs.Digits.{words_append, words_take, words_drop, digits_value, four_below}
use Rattle.delta.specs.Delta.{delta_width, delta_at, delta_ok, delta_words, sign_word}
use Rattle.delta.proofs.DeltaFormat.{ok_sign, ok_valid, sign_back, length_delta_words, delta_at_small, delta_words_delta_at}
use Rattle.types.specs.Flag.{flag_of}
use Rattle.types.specs.Value.{value_width, value_at, value_ok, is_exchanged}
use Rattle.types.proofs.FlagLaws.{flag_word_lem}
use Rattle.types.proofs.ValueLaws.{length_value_at, words_value_at}
use Rattle.moves.specs.Moves.{all_zero}
use Rattle.model.specs.Data.{Cell, write, delta}
use Rattle.model.specs.Fine.{is_word, is_number, fine_value, fine_delta, fine_shortcut, fine_cell, fine_entry}
use Rattle.model.proofs.FineParts.{word_tell, number_tell, words_every, value_length, value_ok_lem, delta_tell, write_value_lem, write_side, delta_place}
use Rattle.versioned_data.specs.Layout.{content_width, StoreRow, form_of, sign_of, marks_of, body_of, padded, spot_of, row_of, delta_in, cell_of, entry_of, row_ok}
use Rattle.versioned_data.specs.Test.{side_test, write_test, delta_test, marks_test, row_test}
use Rattle.versioned_data.proofs.EntryRows.{row_ok_lem, ok_payload, ok_cell}
use Rattle.versioned_data.proofs.RowParts.{row_form, row_sign, row_delta_ok, form_small}

-- ---- zeros

zeros_told : (ws : List ℕ) → all_zero ws ≡ true → ws ≡ replicate (length ws) 0
unfolding all_zero
zeros_told [] h = refl
zeros_told (w ∷ ws) h =
    let e : w ≡ 0 = eqb-true w 0 (and_left (eqb w 0) (all_zero ws) h) in
    let f : ws ≡ replicate (length ws) 0 = zeros_told ws (and_right (eqb w 0) (all_zero ws) h) in
    rw e (ap (λ (l : List ℕ). 0 ∷ l) f)

zeros_tell : (m : ℕ) → all_zero (replicate m 0) ≡ true
unfolding all_zero
zeros_tell zero = refl
zeros_tell (suc m) = zeros_tell m

-- a part with zeros after it
padded_again : (n : ℕ) (ws : List ℕ) → length ws ≡ content_width → n ≤ content_width → all_zero (drop n ws) ≡ true → padded (take n ws) ≡ ws
unfolding padded
padded_again n ws l h z =
    let k : length (take n ws) ≡ n = length-take-le n ws (omega arith) in
    let m : length (drop n ws) ≡ content_width - n = omega (arith, length-drop n ws) in
    let e : replicate (content_width - n) 0 ≡ drop n ws = rw (← m) (sym (zeros_told (drop n ws) z)) in
    rw (k, e) (take-append-drop n ws)

zeros_after : (n : ℕ) (ws : List ℕ) → length ws ≡ n → all_zero (drop n (padded ws)) ≡ true
unfolding padded
zeros_after n ws h = ap all_zero (drop_at ws (replicate (content_width - length ws) 0) n h) ∙ zeros_tell (content_width - length ws)

-- ---- a row that passes is the row of its entry

module _ (u : StoreRow) where
  spot_again : spot_of (u.spot / 4294967296) (u.spot % 4294967296) ≡ u.spot
  unfolding spot_of
  spot_again = omega arith

  -- the row of an entry by its parts
  again : (c : Cell) → cell_of (u.marks % 4) u ≡ c → form_of c + 4 * (u.marks / 4 % 2) + 8 * sign_of c ≡ u.marks → padded (body_of c) ≡ u.payload → row_of (entry_of u) ≡ u
  unfolding row_of entry_of marks_of
  again c e m p i = record { spot = spot_again i; marks = marks i; payload = payload i }
    where
      marks : form_of (cell_of (u.marks % 4) u) + 4 * flag_of (eqb (u.marks / 4 % 2) 1) + 8 * sign_of (cell_of (u.marks % 4) u) ≡ u.marks
      marks = rw (e, flag_word_lem (u.marks / 4 % 2) (omega arith)) m

      payload : padded (body_of (cell_of (u.marks % 4) u)) ≡ u.payload
      payload = rw e p

  ok_again : fine_entry (entry_of u) ≡ true → row_of (entry_of u) ≡ u → row_ok u ≡ true
  ok_again f e = ap row_ok (sym e) ∙ row_ok_lem (entry_of u) f

  fine_with : u.spot < 2 ^ 64 → (c : Cell) → cell_of (u.marks % 4) u ≡ c → fine_cell (u.spot % 4294967296) (eqb (u.marks / 4 % 2) 1) c ≡ true → fine_entry (entry_of u) ≡ true
  unfolding fine_entry entry_of
  fine_with small c e h =
      and_both (is_word (u.spot / 4294967296) && is_word (u.spot % 4294967296)) (fine_cell (u.spot % 4294967296) (eqb (u.marks / 4 % 2) 1) (cell_of (u.marks % 4) u))
      (and_both (is_word (u.spot / 4294967296)) (is_word (u.spot % 4294967296)) (word_tell (u.spot / 4294967296) (omega arith)) (word_tell (u.spot % 4294967296) (omega arith)))
      (rw e h)

module _ (u : StoreRow) (small : u.spot < 2 ^ 64) (words : AreWords u.payload) (size : length u.payload ≡ content_width) where
  abbrev place : ℕ
  place = u.spot % 4294967296

  abbrev ws : List ℕ
  ws = u.payload

  -- a write
  head_value : (p : List ℕ) → length p ≡ content_width → get_or p 0 0 ∷ value_at 1 p ≡ take 8 p
  unfolding value_at
  head_value [] l = absurd (omega arith)
  head_value (x ∷ xs) l = refl

  value_fine : value_ok (value_at 1 ws) ≡ true → fine_value (value_at 1 ws) ≡ true
  unfolding fine_value
  value_fine o =
      and_both (eqb (length (value_at 1 ws)) value_width && every is_word (value_at 1 ws)) (value_ok (value_at 1 ws))
      (and_both (eqb (length (value_at 1 ws)) value_width) (every is_word (value_at 1 ws)) (eq-eqb (length (value_at 1 ws)) value_width (length_value_at ws 1 (omega arith)))
      (words_every (value_at 1 ws) (words_value_at ws 1 words))) o

  base_rule : (marks : ℕ) → side_test place marks ws ≡ true →
      cond (eqb place 0) (eqb (get_or ws 0 0) 0 && not (eqb (marks / 4 % 2) 1)) (is_exchanged (value_at 1 ws)) ≡ true
  unfolding side_test
  base_rule marks h = go (eqb place 0) refl
    where
      go : (q : Bool) → eqb place 0 ≡ q → cond (eqb place 0) (eqb (get_or ws 0 0) 0 && not (eqb (marks / 4 % 2) 1)) (is_exchanged (value_at 1 ws)) ≡ true
      go true e =
          let g : (eqb (get_or ws 0 0) 0 && eqb marks 0) ≡ true = rw e at h in
          let m : marks ≡ 0 = eqb-true marks 0 (and_right (eqb (get_or ws 0 0) 0) (eqb marks 0) g) in
          let z : marks / 4 % 2 ≡ 1 → ⊥ = λ f. omega arith in
          rw (e, and_left (eqb (get_or ws 0 0) 0) (eqb marks 0) g, ne_eqb (marks / 4 % 2) 1 z)
      go false e = let g : is_exchanged (value_at 1 ws) ≡ true = rw e at h in rw e g

  write_ok_lem : u.marks % 4 ≡ 0 → u.marks < 8 → write_test place u.marks ws ≡ true → row_ok u ≡ true
  unfolding write_test cell_of form_of sign_of body_of fine_cell
  write_ok_lem m few t =
      let parts = and_three (value_ok (value_at 1 ws)) (side_test place u.marks ws) (all_zero (drop 8 ws)) t in
      ok_again u (fine_with u small cell is (fine parts.0 parts.1))
      (again u cell is marks (payload parts.2))
    where
      cell : Cell
      cell = write (get_or ws 0 0) (value_at 1 ws)

      is : cell_of (u.marks % 4) u ≡ cell
      is = rw m

      marks : form_of cell + 4 * (u.marks / 4 % 2) + 8 * sign_of cell ≡ u.marks
      marks = omega arith

      payload : all_zero (drop 8 ws) ≡ true → padded (body_of cell) ≡ ws
      payload z = ap padded (head_value ws size) ∙ padded_again 8 ws size (omega arith) z

      fine : value_ok (value_at 1 ws) ≡ true → side_test place u.marks ws ≡ true → fine_cell place (eqb (u.marks / 4 % 2) 1) cell ≡ true
      fine o h =
          and_both (is_word (get_or ws 0 0) && fine_value (value_at 1 ws)) (cond (eqb place 0) (eqb (get_or ws 0 0) 0 && not (eqb (u.marks / 4 % 2) 1)) (is_exchanged (value_at 1 ws)))
          (and_both (is_word (get_or ws 0 0)) (fine_value (value_at 1 ws)) (word_tell (get_or ws 0 0) (words 0)) (value_fine o)) (base_rule u.marks h)

  -- a delta
  module _ (o : delta_ok (take 16 ws ++ (u.marks / 8 ∷ [])) ≡ true) where
    part : length (take 16 ws) ≡ 16
    part = length-take-le 16 ws (omega arith)

    sign_is : get_or (take 16 ws ++ (u.marks / 8 ∷ [])) 16 0 ≡ u.marks / 8
    sign_is = get_or_at (take 16 ws) (u.marks / 8) [] 0 16 part

    sign_few : u.marks / 8 ≤ 1
    sign_few = omega (arith, sign_is, ok_sign (take 16 ws ++ (u.marks / 8 ∷ [])) o)

    delta_size : length (take 16 ws ++ (u.marks / 8 ∷ [])) ≡ delta_width
    delta_size = length-append (take 16 ws) (u.marks / 8 ∷ []) ∙ rw part

    delta_are : AreWords (take 16 ws ++ (u.marks / 8 ∷ []))
    delta_are = words_append (take 16 ws) (u.marks / 8 ∷ []) (words_take 16 ws words) one
      where
        one : AreWords (u.marks / 8 ∷ [])
        one zero = omega (arith, sign_few)
        one (suc i) = omega arith

    delta_again : delta_words (delta_in u) ≡ take 16 ws ++ (u.marks / 8 ∷ [])
    unfolding delta_in
    delta_again = delta_words_delta_at (take 16 ws ++ (u.marks / 8 ∷ [])) delta_are delta_size o

    numbers_again : take 16 (delta_words (delta_in u)) ≡ take 16 ws
    numbers_again = ap (take 16) delta_again ∙ take_at (take 16 ws) (u.marks / 8 ∷ []) 16 part

    sign_again : sign_word (delta_in u).update ≡ u.marks / 8
    unfolding delta_in delta_at
    sign_again = sign_back (take 16 ws ++ (u.marks / 8 ∷ [])) o ∙ sign_is

    delta_fine : fine_delta (delta_in u) ≡ true
    unfolding delta_in
    delta_fine =
        delta_tell (delta_at (take 16 ws ++ (u.marks / 8 ∷ []))) (delta_at_small (take 16 ws ++ (u.marks / 8 ∷ [])) delta_are delta_size).limit
        (ok_valid (take 16 ws ++ (u.marks / 8 ∷ [])) o)

    alone_ok : u.marks % 4 ≡ 1 → not (eqb place 0) ≡ true → all_zero (drop 16 ws) ≡ true → row_ok u ≡ true
    unfolding cell_of form_of sign_of body_of fine_cell fine_shortcut
    alone_ok m p z =
        ok_again u
        (fine_with u small (delta (delta_in u) none) is
        (and_both (not (eqb place 0) && fine_delta (delta_in u)) true (and_both (not (eqb place 0)) (fine_delta (delta_in u)) p delta_fine) refl))
        (again u (delta (delta_in u) none) is marks (ap padded numbers_again ∙ padded_again 16 ws size (omega arith) z))
      where
        is : cell_of (u.marks % 4) u ≡ delta (delta_in u) none
        is = rw m

        marks : 1 + 4 * (u.marks / 4 % 2) + 8 * sign_word (delta_in u).update ≡ u.marks
        marks = omega (arith, sign_again)

    number_again : digits 4 (value_of_words (take 4 (drop 16 ws))) ≡ take 4 (drop 16 ws)
    number_again =
        let e : length (take 4 (drop 16 ws)) ≡ 4 = length-take-le 4 (drop 16 ws) (omega (arith, length-drop 16 ws)) in
        ap (λ (k : ℕ). digits k (value_of_words (take 4 (drop 16 ws)))) (sym e)
        ∙ digits_value (take 4 (drop 16 ws)) (words_take 4 (drop 16 ws) (words_drop 16 ws words))

    body_again : take 16 (delta_words (delta_in u)) ++ digits 4 (value_of_words (take 4 (drop 16 ws))) ≡ ws
    body_again = rw (numbers_again, number_again) (sym (take-add 16 4 ws) ∙ take_all 20 ws (omega arith))

    whole_padded : padded ws ≡ ws
    unfolding padded
    whole_padded = rw size (append-nil ws)

    shortcut_ok : u.marks % 4 ≡ 2 → not (eqb place 0) ≡ true → row_ok u ≡ true
    unfolding cell_of form_of sign_of body_of fine_cell fine_shortcut
    shortcut_ok m p =
        ok_again u
        (fine_with u small (delta (delta_in u) (some (value_of_words (take 4 (drop 16 ws))))) is
        (and_both (not (eqb place 0) && fine_delta (delta_in u)) (is_number (value_of_words (take 4 (drop 16 ws))))
        (and_both (not (eqb place 0)) (fine_delta (delta_in u)) p delta_fine)
        (number_tell (value_of_words (take 4 (drop 16 ws)))
        (four_below (take 4 (drop 16 ws)) (words_take 4 (drop 16 ws) (words_drop 16 ws words)) (length-take-le 4 (drop 16 ws) (omega (arith, length-drop 16 ws)))))))
        (again u (delta (delta_in u) (some (value_of_words (take 4 (drop 16 ws))))) is marks (ap padded body_again ∙ whole_padded))
      where
        is : cell_of (u.marks % 4) u ≡ delta (delta_in u) (some (value_of_words (take 4 (drop 16 ws))))
        is = rw m

        marks : 2 + 4 * (u.marks / 4 % 2) + 8 * sign_word (delta_in u).update ≡ u.marks
        marks = omega (arith, sign_again)

  test_ok : row_test u ≡ true → row_ok u ≡ true
  unfolding row_test marks_test delta_test
  test_ok t = go (u.marks % 4) refl
    where
      go : (n : ℕ) → u.marks % 4 ≡ n → row_ok u ≡ true
      go zero m =
          let g : (ltb u.marks 8 && write_test place u.marks ws) ≡ true = rw m at t in
          write_ok_lem m (ltb-true u.marks 8 (and_left (ltb u.marks 8) (write_test place u.marks ws) g)) (and_right (ltb u.marks 8) (write_test place u.marks ws) g)
      go (suc zero) m =
          let g : (not (eqb place 0) && delta_ok (take 16 ws ++ (u.marks / 8 ∷ [])) && all_zero (drop 16 ws)) ≡ true = rw m at t in
          let parts = and_three (not (eqb place 0)) (delta_ok (take 16 ws ++ (u.marks / 8 ∷ []))) (all_zero (drop 16 ws)) g in
          alone_ok parts.1 m parts.0 parts.2
      go (suc (suc zero)) m =
          let g : (not (eqb place 0) && delta_ok (take 16 ws ++ (u.marks / 8 ∷ [])) && true) ≡ true = rw m at t in
          let parts = and_three (not (eqb place 0)) (delta_ok (take 16 ws ++ (u.marks / 8 ∷ []))) true g in
          shortcut_ok parts.1 m parts.0
      go (suc (suc (suc n))) m =
          let e : ltb (u.marks % 4) 3 ≡ false = le-ltb (u.marks % 4) 3 (omega arith) in
          let z : eqb (u.marks % 4) 0 ≡ false = ne_eqb (u.marks % 4) 0 (λ f. omega arith) in
          let g : ◌≡◌ {A = Bool} false true = rw (z, e) at t in
          true_not_false true refl (sym g)

-- ---- the row of a fine entry passes

module _ (u : StoreRow) (ok : row_ok u ≡ true) where
  cell_fine : fine_cell (u.spot % 4294967296) (eqb (u.marks / 4 % 2) 1) (cell_of (u.marks % 4) u) ≡ true
  unfolding entry_of
  cell_fine = ok_cell u ok

  side_kept : (place i : ℕ) (q x : Bool) → q ≡ eqb (u.marks / 4 % 2) 1 → u.marks < 8 → u.marks % 4 ≡ 0 → cond (eqb place 0) (eqb i 0 && not q) x ≡ true → cond (eqb place 0) (eqb i 0 && eqb u.marks 0) x ≡ true
  side_kept place i q x told few m h = go (eqb place 0) refl
    where
      go : (z : Bool) → eqb place 0 ≡ z → cond (eqb place 0) (eqb i 0 && eqb u.marks 0) x ≡ true
      go true e =
          let g : (eqb i 0 && not q) ≡ true = rw e at h in
          let n : not (eqb (u.marks / 4 % 2) 1) ≡ true = ap not (sym told) ∙ and_right (eqb i 0) (not q) g in
          let f : eqb u.marks 0 ≡ true = eq-eqb u.marks 0 (zero_marks (ℕ_discrete (u.marks / 4 % 2) 1) n) in
          rw (e, and_left (eqb i 0) (not q) g, f)
        where
          zero_marks : Dec (u.marks / 4 % 2 ≡ 1) → not (eqb (u.marks / 4 % 2) 1) ≡ true → u.marks ≡ 0
          zero_marks (yes e) n = true_not_false (eqb (u.marks / 4 % 2) 1) (eq-eqb (u.marks / 4 % 2) 1 e) (not-true (eqb (u.marks / 4 % 2) 1) n)
          zero_marks (no e) n = omega arith
      go false e = let g : x ≡ true = rw e at h in rw e g

  abbrev shift : ℕ
  shift = u.spot % 4294967296

  abbrev estimate : Bool
  estimate = eqb (u.marks / 4 % 2) 1

  module _ (m : u.marks % 4 ≡ 0) where
    abbrev cell : Cell
    cell = write (get_or u.payload 0 0) (value_at 1 u.payload)

    write_is : cell_of (u.marks % 4) u ≡ cell
    unfolding cell_of
    write_is = rw m

    write_fine : fine_cell shift estimate cell ≡ true
    write_fine = ap (fine_cell shift estimate) (sym write_is) ∙ cell_fine

    write_few : u.marks < 8
    unfolding entry_of sign_of
    write_few = let e : u.marks / 8 ≡ 0 = row_sign u ok ∙ ap sign_of write_is in omega arith

    value_is_fine : fine_value (value_at 1 u.payload) ≡ true
    value_is_fine = write_value_lem shift estimate (get_or u.payload 0 0) (value_at 1 u.payload) write_fine

    write_rest : all_zero (drop 8 u.payload) ≡ true
    unfolding entry_of body_of
    write_rest =
        let p : u.payload ≡ padded (get_or u.payload 0 0 ∷ value_at 1 u.payload) = ok_payload u ok ∙ ap (λ (c : Cell). padded (body_of c)) write_is in
        ap (λ (l : List ℕ). all_zero (drop 8 l)) p
        ∙ zeros_after 8 (get_or u.payload 0 0 ∷ value_at 1 u.payload) (ap suc (value_length (value_at 1 u.payload) value_is_fine))

    write_passes : write_test shift u.marks u.payload ≡ true
    unfolding write_test side_test
    write_passes =
        and_both (value_ok (value_at 1 u.payload) && cond (eqb shift 0) (eqb (get_or u.payload 0 0) 0 && eqb u.marks 0) (is_exchanged (value_at 1 u.payload))) (all_zero (drop 8 u.payload))
        (and_both (value_ok (value_at 1 u.payload)) (cond (eqb shift 0) (eqb (get_or u.payload 0 0) 0 && eqb u.marks 0) (is_exchanged (value_at 1 u.payload)))
        (value_ok_lem (value_at 1 u.payload) value_is_fine)
        (side_kept shift (get_or u.payload 0 0) estimate (is_exchanged (value_at 1 u.payload)) refl write_few m
        (write_side shift estimate (get_or u.payload 0 0) (value_at 1 u.payload) write_fine)))
        write_rest

  module _ (n : Option ℕ) (is : cell_of (u.marks % 4) u ≡ delta (delta_in u) n) where
    above_base : not (eqb shift 0) ≡ true
    above_base = delta_place shift estimate (delta_in u) n (ap (fine_cell shift estimate) (sym is) ∙ cell_fine)

  alone_is : u.marks % 4 ≡ 1 → cell_of (u.marks % 4) u ≡ delta (delta_in u) none
  unfolding cell_of
  alone_is m = rw m

  shortcut_is : u.marks % 4 ≡ 2 → cell_of (u.marks % 4) u ≡ delta (delta_in u) (some (value_of_words (take 4 (drop 16 u.payload))))
  unfolding cell_of
  shortcut_is m = rw m

  alone_rest : u.marks % 4 ≡ 1 → all_zero (drop 16 u.payload) ≡ true
  unfolding entry_of body_of
  alone_rest m =
      let p : u.payload ≡ padded (take 16 (delta_words (delta_in u))) = ok_payload u ok ∙ ap (λ (c : Cell). padded (body_of c)) (alone_is m) in
      ap (λ (l : List ℕ). all_zero (drop 16 l)) p
      ∙ zeros_after 16 (take 16 (delta_words (delta_in u))) (length-take-le 16 (delta_words (delta_in u)) (omega (arith, length_delta_words (delta_in u))))

  ok_test : row_test u ≡ true
  unfolding row_test marks_test delta_test
  ok_test = go (u.marks % 4) refl
    where
      go : (n : ℕ) → u.marks % 4 ≡ n → marks_test shift u.marks u.payload ≡ true
      go zero m = rw (eq-eqb (u.marks % 4) 0 m, lt-ltb u.marks 8 (write_few m)) (write_passes m)
      go (suc zero) m =
          let d : delta_ok (take 16 u.payload ++ (u.marks / 8 ∷ [])) ≡ true = row_delta_ok u ok (λ f. omega arith) in
          rw (m, d, above_base none (alone_is m), alone_rest m)
      go (suc (suc zero)) m =
          let d : delta_ok (take 16 u.payload ++ (u.marks / 8 ∷ [])) ≡ true = row_delta_ok u ok (λ f. omega arith) in
          rw (m, d, above_base (some (value_of_words (take 4 (drop 16 u.payload)))) (shortcut_is m))
      go (suc (suc (suc n))) m = absurd (let f : u.marks % 4 ≤ 2 = omega (arith, row_form u ok, form_small (entry_of u).held.cell) in omega arith)

pub test_is : (u : StoreRow) → u.spot < 2 ^ 64 → AreWords u.payload → length u.payload ≡ content_width → row_test u ≡ row_ok u
test_is u small words size = same_test (row_test u) (row_ok u) (test_ok u small words size) (λ h. ok_test u h)
