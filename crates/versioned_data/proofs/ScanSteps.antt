-- The scan step by step: the tests of a row's words, and of one row after the other.
-- Assumes nothing.
use mathlib.Core.Path.{◌≡◌, refl, sym, ◌∙◌, ap}
use mathlib.Core.Bool.{Bool, true, false, ◌&&◌}
use Rattle.std.specs.Prelude.{Option, Some, None}
use Rattle.directory.specs.declared.cells.Place.{Place}
use mathlib.Core.List.{List, [], ◌∷◌, ◌++◌}
use Prim.Native.Nat.{ℕ, zero, suc, ◌+◌, ◌-◌, ◌*◌, ◌/◌, ◌%◌, ◌≤◌, ◌<◌, ◌^◌}
use native.Mathlib.Omega.{arith}
use lib.Dec.{eqb}
use lib.ListN.{length, get_or, take, drop}
use lib.Seq.{take-take, drop-cons}
use borrow.Author.Tests.{lt-ltb, le-ltb, eq-eqb, ne_eqb}
use Rattle.lists.specs.Lists.{every}
use Rattle.number.specs.Words.{AreWords}
use Rattle.number.proofs.Digits.{words_take, words_drop}
use Rattle.delta.specs.Delta.{delta_ok}
use Rattle.delta.specs.Record.{op_at, valid_op}
use Rattle.delta.specs.declared.DeltaOp.{DeltaOp}
use Rattle.delta.proofs.RecordLaws.{valid_op_op_at}
use Rattle.types.specs.Value.{value_at, value_ok, is_exchanged}
use Rattle.types.specs.ValueWithLayout.{value_from, words_of}
use Rattle.types.specs.declared.value.ValueWithLayout.{ValueWithLayout}
use Rattle.types.specs.Units.{units_in}
use Rattle.types.proofs.ValueLaws.{read_words}
use Rattle.moves.specs.Moves.{all_zero}
use Rattle.probe.specs.Cells.{spot_at}
use Rattle.pages.specs.Dir.{flat, offset}
use Rattle.directory.specs.Cells.{position_in}
use Rattle.store.specs.Held.{base_of, held_in, position_of, position_or_end, content_of, no_row}
use Rattle.store.specs.Valid.{Valid, Stands, There}
use Rattle.store.specs.Scan.{is_store}
use Rattle.store.proofs.Reading.{position_held, row_spot}
use Rattle.store.proofs.ScanStores.{store_told}
use Rattle.versioned_data.specs.Layout.{payload_width, content_width, StoreRow, rows_in, row_ok, data_valid}
use Rattle.versioned_data.specs.Rows.{rows_of, row_of_place, position_from}
use Rattle.versioned_data.specs.Rows as Rows
use Rattle.versioned_data.specs.Test.{side_test, write_test, delta_test, marks_test, row_test}
use Rattle.versioned_data.proofs.ContentWords.{rest_of, word_of_lem, value_of_lem, content_inside, payload_size, payload_is}
use Rattle.versioned_data.proofs.RowTests.{test_is}

-- ---- the content at b

module _ (s : List ℕ) (b place marks : ℕ) (inside : b + content_width ≤ length s) where
  abbrev ws : List ℕ
  ws = take content_width (drop b s)

  value_here : value_at 1 ws ≡ value_at (b + 1) s
  value_here = value_of_lem s b content_width 1 (omega arith)

  first_here : get_or ws 0 0 ≡ get_or s b 0
  first_here = let e : b + 0 ≡ b = omega arith in word_of_lem s b content_width 0 (omega arith) ∙ ap (λ (k : ℕ). get_or s k 0) e

  -- where a write stands
  pub side_above : (place ≡ 0 → ⊥) → AreWords s → (v : ValueWithLayout) → v ≡ value_from (value_at (b + 1) s) → (r : Bool) → r ≡ is_exchanged (words_of v) → r ≡ side_test place marks ws
  unfolding side_test
  side_above n words v e r f =
      let w : words_of v ≡ value_at (b + 1) s = read_words s (b + 1) v words (omega arith) e in
      rw (ne_eqb place 0 n, value_here) (f ∙ ap is_exchanged w)

  pub side_first : place ≡ 0 → (get_or s b 0 ≡ 0 → ⊥) → false ≡ side_test place marks ws
  unfolding side_test
  side_first e n = rw (eq-eqb place 0 e, first_here, ne_eqb (get_or s b 0) 0 n)

  pub side_base : place ≡ 0 → get_or s b 0 ≡ 0 → eqb marks 0 ≡ side_test place marks ws
  unfolding side_test
  side_base e f = rw (eq-eqb place 0 e, first_here, eq-eqb (get_or s b 0) 0 f)

  -- a write
  module _ (v : Bool) (value : v ≡ value_ok (value_at (b + 1) s)) where
    ok_here : value_ok (value_at 1 ws) ≡ v
    ok_here = ap value_ok value_here ∙ sym value

    pub write_value_lem : v ≡ false → false ≡ write_test place marks ws
    unfolding write_test
    write_value_lem e = rw (ok_here, e)

    module _ (fine : v ≡ true) (t : Bool) (side : t ≡ side_test place marks ws) where
      pub write_side : t ≡ false → false ≡ write_test place marks ws
      unfolding write_test
      write_side e = rw (ok_here, fine, ← side, e)

      pub write_rest : t ≡ true → (r : Bool) → r ≡ all_zero (take (b + 20 - (b + 8)) (drop (b + 8) s)) → r ≡ write_test place marks ws
      unfolding write_test
      write_rest e r f =
          let n : b + 20 - (b + 8) ≡ 12 = omega arith in
          let z : all_zero (drop 8 ws) ≡ r = ap all_zero (rest_of s b content_width 8 (omega arith)) ∙ ap (λ (k : ℕ). all_zero (take k (drop (b + 8) s))) (sym n) ∙ sym f in
          rw (ok_here, fine, ← side, e, z)

  -- a delta
  pub delta_base : place ≡ 0 → false ≡ delta_test place marks ws
  unfolding delta_test
  delta_base e = rw (eq-eqb place 0 e)

  module _ (above : place ≡ 0 → ⊥) (op : DeltaOp) (read : op ≡ op_at (take 16 (drop b s) ++ (marks / 8 ∷ []))) (v : Bool) (valid : v ≡ valid_op op) where
    delta_here_lem : delta_ok (take 16 ws ++ (marks / 8 ∷ [])) ≡ v
    delta_here_lem =
        ap (λ (l : List ℕ). delta_ok (l ++ (marks / 8 ∷ []))) (take-take 16 content_width (drop b s) (omega arith))
        ∙ sym (valid ∙ ap valid_op read ∙ valid_op_op_at (take 16 (drop b s) ++ (marks / 8 ∷ [])))

    pub delta_bad : v ≡ false → false ≡ delta_test place marks ws
    unfolding delta_test
    delta_bad e = rw (ne_eqb place 0 above, delta_here_lem, e)

    module _ (fine : v ≡ true) where
      pub delta_rest : marks % 4 ≡ 1 → (r : Bool) → r ≡ all_zero (take (b + 20 - (b + 16)) (drop (b + 16) s)) → r ≡ delta_test place marks ws
      unfolding delta_test
      delta_rest e r f =
          let n : b + 20 - (b + 16) ≡ 4 = omega arith in
          let z : all_zero (drop 16 ws) ≡ r = ap all_zero (rest_of s b content_width 16 (omega arith)) ∙ ap (λ (k : ℕ). all_zero (take k (drop (b + 16) s))) (sym n) ∙ sym f in
          rw (ne_eqb place 0 above, delta_here_lem, fine, eq-eqb (marks % 4) 1 e, z)

      pub delta_fine : (marks % 4 ≡ 1 → ⊥) → true ≡ delta_test place marks ws
      unfolding delta_test
      delta_fine n = rw (ne_eqb place 0 above, delta_here_lem, fine, ne_eqb (marks % 4) 1 n)

-- by the marks
module _ (place marks : ℕ) (ws : List ℕ) where
  pub marks_many : marks % 4 ≡ 0 → 8 ≤ marks → false ≡ marks_test place marks ws
  unfolding marks_test
  marks_many e h = rw (eq-eqb (marks % 4) 0 e, le-ltb marks 8 h)

  pub marks_write : marks % 4 ≡ 0 → (8 ≤ marks → ⊥) → (r : Bool) → r ≡ write_test place marks ws → r ≡ marks_test place marks ws
  unfolding marks_test
  marks_write e h r f = rw (eq-eqb (marks % 4) 0 e, lt-ltb marks 8 (omega arith)) f

  pub marks_none : (marks % 4 ≡ 0 → ⊥) → marks % 4 ≡ 3 → false ≡ marks_test place marks ws
  unfolding marks_test
  marks_none n e = rw (ne_eqb (marks % 4) 0 n, le-ltb (marks % 4) 3 (omega arith))

  pub marks_delta : (marks % 4 ≡ 0 → ⊥) → (marks % 4 ≡ 3 → ⊥) → (r : Bool) → r ≡ delta_test place marks ws → r ≡ marks_test place marks ws
  unfolding marks_test
  marks_delta n m r f = rw (ne_eqb (marks % 4) 0 n, lt-ltb (marks % 4) 3 (omega arith)) f

-- ---- a row

module _ (n : ℕ) (s : List ℕ) (valid : Valid payload_width false n s) (words : AreWords s) (page cell : ℕ) (there : There payload_width n s page cell) where
  abbrev at : ℕ
  at = Rows.position_in n s page cell

  abbrev row : StoreRow
  row = get_or (rows_of n s) at no_row

  at_inside : at < length (rows_of n s)
  at_inside = position_held payload_width n s page cell there

  pub row_content : (b : ℕ) → b ≡ content_of payload_width n s at → b + content_width ≤ length s
  row_content b e = omega (arith, e, content_inside n s valid at at_inside)

  spot_small : row.spot < 2 ^ 64
  unfolding spot_at
  spot_small =
      let a : ℕ = base_of payload_width n + 97 * page + 1 + 3 * cell in
      omega (arith, row_spot payload_width n page cell s there, words a, words (a + 1))

  payload_words : AreWords row.payload
  payload_words = rw (payload_is n s valid at at_inside) (words_take content_width (drop (content_of payload_width n s at) s) (words_drop (content_of payload_width n s at) s words))

  pub row_is : (b place marks : ℕ) → b ≡ content_of payload_width n s at → place ≡ row.spot % 4294967296 → marks ≡ row.marks → (r : Bool) →
      r ≡ marks_test place marks (take content_width (drop b s)) → r ≡ row_ok row
  unfolding row_test
  row_is b place marks e p m r f =
      let w : take content_width (drop b s) ≡ row.payload = ap (λ (k : ℕ). take content_width (drop k s)) e ∙ sym (payload_is n s valid at at_inside) in
      f ∙ rw (p, m, w) (test_is row spot_small payload_words (payload_size n s valid at at_inside))

-- ---- one row after the other

module _ (rows : List StoreRow) (c : ℕ) where
  pub every_end : length rows ≤ c → every row_ok (drop c rows) ≡ true
  unfolding every
  every_end h = rw (drop_all c rows h)
    where
      drop_all : (c : ℕ) (l : List StoreRow) → length l ≤ c → drop c l ≡ []
      drop_all zero [] h = refl
      drop_all (suc c) [] h = refl
      drop_all zero (x ∷ l) h = absurd (omega arith)
      drop_all (suc c) (x ∷ l) h = drop_all c l (omega arith)

  pub every_step : c < length rows → every row_ok (drop c rows) ≡ (row_ok (get_or rows c no_row) && every row_ok (drop (suc c) rows))
  unfolding every
  every_step h = rw (drop-cons rows c no_row h)

abbrev pub rest_ok : ℕ → List ℕ → Option Place → Bool
rest_ok n s at = every row_ok (drop (position_from n s at) (rows_of n s))

-- the first place
pub first_stands : (n : ℕ) (s : List ℕ) → Stands payload_width n s 0 0
unfolding Stands
first_stands n s = record { inside = omega arith; fits = omega arith }

first_position : (n : ℕ) (s : List ℕ) → Rows.position_in n s 0 0 ≡ 0
unfolding position_of position_in offset flat
first_position n s = refl

module _ (n : ℕ) (s : List ℕ) (at : Option Place) where
  pub rows_start : position_from n s at ≡ Rows.position_in n s 0 0 → every row_ok (rows_of n s) ≡ rest_ok n s at
  rows_start e = let f : position_from n s at ≡ 0 = e ∙ first_position n s in rw f

  module _ (told : every row_ok (rows_of n s) ≡ rest_ok n s at) where
    pub rows_end : at ≡ None → true ≡ every row_ok (rows_of n s)
    unfolding position_or_end
    rows_end e =
        let f : length (rows_of n s) ≤ position_from n s at = rw e (omega arith) in
        sym (told ∙ every_end (rows_of n s) (position_from n s at) f)

    module _ (p : Place) (e : at ≡ Some p) (there : There payload_width n s p.page p.cell) where
      here : position_from n s at ≡ Rows.position_in n s p.page p.cell
      unfolding position_or_end
      here = rw e refl

      pub rows_less : (to : Option Place) → position_from n s to ≡ suc (Rows.position_in n s p.page p.cell) →
          length (rows_of n s) - position_from n s to < length (rows_of n s) - position_from n s at
      rows_less to q = omega (arith, here, q, position_held payload_width n s p.page p.cell there)

      module _ (r : Bool) (row : r ≡ row_ok (row_of_place n s p)) where
        step : every row_ok (rows_of n s) ≡ (r && every row_ok (drop (suc (Rows.position_in n s p.page p.cell)) (rows_of n s)))
        step =
            told ∙ ap (λ (k : ℕ). every row_ok (drop k (rows_of n s))) here
            ∙ every_step (rows_of n s) (Rows.position_in n s p.page p.cell) (position_held payload_width n s p.page p.cell there)
            ∙ ap (λ (q : Bool). q && every row_ok (drop (suc (Rows.position_in n s p.page p.cell)) (rows_of n s))) (sym row)

        pub rows_bad : r ≡ false → false ≡ every row_ok (rows_of n s)
        rows_bad f = sym (step ∙ ap (λ (q : Bool). q && every row_ok (drop (suc (Rows.position_in n s p.page p.cell)) (rows_of n s))) f)

        pub rows_on : r ≡ true → (to : Option Place) → position_from n s to ≡ suc (Rows.position_in n s p.page p.cell) → every row_ok (rows_of n s) ≡ rest_ok n s to
        rows_on f to q =
            step ∙ ap (λ (q : Bool). q && every row_ok (drop (suc (Rows.position_in n s p.page p.cell)) (rows_of n s))) f
            ∙ ap (λ (k : ℕ). every row_ok (drop k (rows_of n s))) (sym q)

-- ---- the whole

module _ (s : List ℕ) (r : Bool) (store : r ≡ is_store payload_width false s) where
  pub no_store : r ≡ false → false ≡ data_valid s
  unfolding data_valid
  no_store e = rw (← store, e)

  module _ (e : r ≡ true) (n : ℕ) (units : n ≡ units_in (length s)) where
    pub none_held : n ≡ 0 → true ≡ data_valid s
    unfolding data_valid rows_in held_in every
    none_held z = rw (← store, e, eq-eqb (units_in (length s)) 0 (sym units ∙ z))

    pub some_valid : (n ≡ 0 → ⊥) → Valid payload_width false n s
    some_valid z = rw units (store_told payload_width false s (omega arith) (omega arith) (sym store ∙ e) (omega arith))

    pub some_held : (n ≡ 0 → ⊥) → (q : Bool) → q ≡ every row_ok (rows_of n s) → q ≡ data_valid s
    unfolding data_valid rows_in held_in
    some_held z q f =
        let m : units_in (length s) ≡ 0 → ⊥ = λ g. z (units ∙ g) in
        rw (← store, e, ne_eqb (units_in (length s)) 0 m) (f ∙ ap (λ (k : ℕ). every row_ok (rows_of k s)) units)
