-- The walk step by step: the marks of the row that is met decide the step, and the steps are the walk.
-- Assumes nothing.
use mathlib.Core.Path.{◌≡◌, refl, sym, ◌∙◌, ap}
use mathlib.Core.Bool.{Bool, true, false}
use Rattle.std.specs.Prelude.{Option, Some, None, Result, Ok}
use Rattle.directory.specs.declared.cells.Place.{Place}
use mathlib.Core.List.{List, [], ◌∷◌, ◌++◌}
use Prim.Native.Nat.{ℕ, zero, suc, ◌+◌, ◌-◌, ◌/◌, ◌%◌, ◌≤◌, ◌<◌}
use native.Mathlib.Omega.{arith}
use native.Mathlib.Decide.{ℕ_discrete, dec_lt}
use lib.Dec.{ltb, eqb}
use lib.ListN.{length, get_or, take, drop}
use lib.Seq.{take-take}
use borrow.Author.Tests.{ltb-true, lt-ltb, le-ltb, eqb-true, eq-eqb, ne_eqb}
use Rattle.lists.specs.Lists.{every}
use Rattle.lists.proofs.Bools.{and_left, and_right}
use Rattle.lists.proofs.Lists.{every_at}
use Rattle.number.specs.Number.{value_of, number_of}
use Rattle.number.specs.Words.{value_of_words}
use Rattle.number.specs.declared.Number.{Number}
use Rattle.number.proofs.Halves.{value_of_number_of}
use Rattle.delta.specs.Delta.{Accumulated, nothing, accumulate, valid, delta_at}
use Rattle.delta.specs.Op.{exactly, accumulator_of}
use Rattle.delta.specs.Record.{exact, op_at}
use Rattle.delta.specs.declared.DeltaOp.{DeltaOp}
use Rattle.delta.specs.declared.Accumulator.{Accumulator}
use Rattle.delta.specs.declared.Accumulator.TheVariants.{Empty}
use Rattle.delta.proofs.RecordLaws.{exact_op_at}
use Rattle.delta.proofs.DeltaRuns.{exactly_accumulator_of}
use Rattle.types.specs.Index.{shifted_of, word_of}
use Rattle.types.specs.Value.{value_at}
use Rattle.types.specs.ValueWithLayout.{value_from}
use Rattle.types.specs.declared.index.ShiftedTxnIndex.{ShiftedTxnIndex}
use Rattle.types.specs.declared.value.ValueWithLayout.{ValueWithLayout}
use Rattle.types.specs.declared.output.MVDataOutput.{MVDataOutput}
use Rattle.types.specs.declared.refusal.Refusal.{Refusal}
use Rattle.types.specs.declared.output.MVDataOutput.TheVariants.{Versioned, Uninitialized}
use Rattle.store.specs.Held.{position_or_end, content_of, no_row}
use Rattle.store.specs.Valid.{There}
use Rattle.store.proofs.Contents.{held_units}
use Rattle.store.proofs.Reading.{position_held}
use Rattle.model.specs.Rows.{Row}
use Rattle.model.specs.Data.{Entry, Read, versioned, dependency, at_end, at_write, onto, walk, read_of}
use Rattle.versioned_data.specs.Layout.{payload_width, StoreRow, form_of, delta_in, cell_of, entry_of, row_ok}
use Rattle.versioned_data.specs.Down.{down_rows}
use Rattle.versioned_data.specs.Rows.{rows_of, row_of_place, DataStore, position_in, Met, position_from, OfKey}
use Rattle.versioned_data.specs.Output.{output_of}
use Rattle.versioned_data.specs.Step.{has_key, goes_on, deltas_in}
use Rattle.versioned_data.proofs.RowsDown.{down_end, down_other, down_here}
use Rattle.versioned_data.proofs.RowParts.{row_delta_valid, step_estimate, step_write, step_delta, step_shortcut}
use Rattle.versioned_data.proofs.ContentWords.{part_of, word_of_lem, value_of_lem, content_inside, payload_is}

-- ---- the row at a position

module _ (key c : ℕ) (rows : List StoreRow) where
  abbrev row : StoreRow
  row = get_or rows c no_row

  pub key_none : length rows ≤ c → has_key key c rows ≡ false
  unfolding has_key
  key_none h = rw (le-ltb c (length rows) h)

  pub key_other : (found : ℕ) → found ≡ row.spot / 4294967296 → (found ≡ key → ⊥) → has_key key c rows ≡ false
  unfolding has_key
  key_other found e n = go (ltb c (length rows)) refl
    where
      go : (b : Bool) → ltb c (length rows) ≡ b → has_key key c rows ≡ false
      go true f = rw (f, ne_eqb (row.spot / 4294967296) key (λ g. n (e ∙ g)))
      go false f = rw f

  pub key_row : c < length rows → (found : ℕ) → found ≡ row.spot / 4294967296 → found ≡ key → has_key key c rows ≡ true
  unfolding has_key
  key_row h found e k = rw (lt-ltb c (length rows) h, eq-eqb (row.spot / 4294967296) key (sym e ∙ k))

  -- what it tells that the row has the key
  pub record ThereIs : Type 0 where
    pub inside : c < length rows
    pub same : row.spot / 4294967296 ≡ key

  pub key_there : has_key key c rows ≡ true → ThereIs
  unfolding has_key
  key_there e =
      record {
        inside = ltb-true c (length rows) (and_left (ltb c (length rows)) (eqb (row.spot / 4294967296) key) e);
        same = eqb-true (row.spot / 4294967296) key (and_right (ltb c (length rows)) (eqb (row.spot / 4294967296) key) e);
      }

  pub key_end : has_key key c rows ≡ false → down_rows key c rows ≡ []
  key_end e = go (dec_lt c (length rows)) (ℕ_discrete (row.spot / 4294967296) key)
    where
      go : Dec (c < length rows) → Dec (row.spot / 4294967296 ≡ key) → down_rows key c rows ≡ []
      go (yes h) (yes k) =
          let f : true ≡ false = sym (key_row h (row.spot / 4294967296) refl k) ∙ e in
          absurd (let z : ◌≡◌ {A = ℕ} 0 1 = cc in omega arith)
      go (yes h) (no k) = down_other key c rows h k
      go (no h) k = down_end key c rows (omega arith)

  module _ (fine : every row_ok rows ≡ true) (t : has_key key c rows ≡ true) where
    pub key_fine : row_ok row ≡ true
    key_fine = every_at row_ok rows c no_row (key_there t).inside fine

    down_is : down_rows key c rows ≡ entry_of row ∷ down_rows key (suc c) rows
    down_is = down_here key c rows (key_there t).inside (key_there t).same

    -- where the walk stops, what is below does not matter
    alone : (a : Accumulated) (rest : List (Row Entry)) → row_ok row ≡ true → (row.marks % 8 ≡ 1 → ⊥) → walk a (entry_of row ∷ rest) ≡ walk a (entry_of row ∷ [])
    alone a rest ok n = go (ℕ_discrete (row.marks / 4 % 2) 1) (ℕ_discrete row.marks 0)
      where
        go : Dec (row.marks / 4 % 2 ≡ 1) → Dec (row.marks ≡ 0) → walk a (entry_of row ∷ rest) ≡ walk a (entry_of row ∷ [])
        go (yes f) d = step_estimate a row rest f ∙ sym (step_estimate a row [] f)
        go (no f) (yes d) = step_write a row rest d ∙ sym (step_write a row [] d)
        go (no f) (no d) = step_shortcut a row rest ok f n d ∙ sym (step_shortcut a row [] ok f n d)

    pub stops : (a : Accumulated) → (row.marks % 8 ≡ 1 → ⊥) → walk a (down_rows key c rows) ≡ walk a (entry_of row ∷ [])
    stops a n = ap (walk a) down_is ∙ alone a (down_rows key (suc c) rows) key_fine n

    pub goes_on_lem : (a : Accumulated) → row.marks % 8 ≡ 1 → walk a (down_rows key c rows) ≡ walk (accumulate a (delta_in row)) (down_rows key (suc c) rows)
    goes_on_lem a f = ap (walk a) down_is ∙ step_delta a row (down_rows key (suc c) rows) f

    pub reads_write : row.marks ≡ 0 → read_of (down_rows key c rows) ≡ versioned (row.spot % 4294967296) (get_or row.payload 0 0) (value_at 1 row.payload)
    unfolding read_of at_write
    reads_write f = ap (walk nothing) down_is ∙ step_write nothing row (down_rows key (suc c) rows) f

-- ---- how many deltas are met

form_of_lem : (n : ℕ) (u : StoreRow) → (n ≡ 1 → ⊥) → eqb (form_of (cell_of n u)) 1 ≡ false
unfolding form_of cell_of
form_of_lem zero u h = refl
form_of_lem (suc zero) u h = absurd (h refl)
form_of_lem (suc (suc n)) u h = refl

goes : (u : StoreRow) → u.marks % 8 ≡ 1 → goes_on (entry_of u) ≡ true
unfolding goes_on entry_of cell_of form_of
goes u e =
    let f : u.marks / 4 % 2 ≡ 1 → ⊥ = λ x. omega arith in
    let g : u.marks % 4 ≡ 1 = omega arith in
    rw (ne_eqb (u.marks / 4 % 2) 1 f, g)

stays : (u : StoreRow) → (u.marks % 8 ≡ 1 → ⊥) → goes_on (entry_of u) ≡ false
unfolding goes_on entry_of
stays u n = go (ℕ_discrete (u.marks / 4 % 2) 1)
  where
    go : Dec (u.marks / 4 % 2 ≡ 1) → goes_on (entry_of u) ≡ false
    go (yes e) = rw (eq-eqb (u.marks / 4 % 2) 1 e)
    go (no e) = rw (ne_eqb (u.marks / 4 % 2) 1 e) (form_of_lem (u.marks % 4) u (λ f. n (omega arith)))

module _ (key c : ℕ) (rows : List StoreRow) where
  pub deltas_more : has_key key c rows ≡ true → (get_or rows c no_row).marks % 8 ≡ 1 → deltas_in (down_rows key c rows) ≡ suc (deltas_in (down_rows key (suc c) rows))
  unfolding deltas_in
  deltas_more t f = rw (down_here key c rows (key_there key c rows t).inside (key_there key c rows t).same, goes (get_or rows c no_row) f)

  pub deltas_none : has_key key c rows ≡ true → ((get_or rows c no_row).marks % 8 ≡ 1 → ⊥) → deltas_in (down_rows key c rows) ≡ 0
  unfolding deltas_in
  deltas_none t n = rw (down_here key c rows (key_there key c rows t).inside (key_there key c rows t).same, stays (get_or rows c no_row) n)

  pub deltas_end : has_key key c rows ≡ false → deltas_in (down_rows key c rows) ≡ 0
  unfolding deltas_in
  deltas_end e = rw (key_end key c rows e)

-- ---- at a row of a store

module _ (n : ℕ) (s : List ℕ) (store : DataStore n s) (page cell : ℕ) (there : There payload_width n s page cell) where
  abbrev at_row : StoreRow
  at_row = get_or (rows_of n s) (position_in n s page cell) no_row

  row_inside : position_in n s page cell < length (rows_of n s)
  row_inside = position_held payload_width n s page cell there

  pub at_fine : row_ok at_row ≡ true
  at_fine = every_at row_ok (rows_of n s) (position_in n s page cell) no_row row_inside store.fine

  module _ (b : ℕ) (content : b ≡ content_of payload_width n s (position_in n s page cell)) where
    pub content_fits : b + 20 ≤ length s
    content_fits = omega (arith, content, content_inside n s store.valid (position_in n s page cell) row_inside)

    content_is : at_row.payload ≡ take 20 (drop b s)
    content_is = payload_is n s store.valid (position_in n s page cell) row_inside ∙ ap (λ (k : ℕ). take 20 (drop k s)) (sym content)

    incarnation_is : get_or at_row.payload 0 0 ≡ get_or s b 0
    incarnation_is =
        let e : b + 0 ≡ b = omega arith in
        ap (λ (l : List ℕ). get_or l 0 0) content_is ∙ word_of_lem s b 20 0 (omega arith) ∙ ap (λ (k : ℕ). get_or s k 0) e

    value_is : value_at 1 at_row.payload ≡ value_at (b + 1) s
    value_is = ap (value_at 1) content_is ∙ value_of_lem s b 20 1 (omega arith)

    shortcut_is : take 4 (drop 16 at_row.payload) ≡ take 4 (drop (b + 16) s)
    shortcut_is = ap (λ (l : List ℕ). take 4 (drop 16 l)) content_is ∙ part_of s b 20 16 4 (omega arith)

    numbers_are : take 16 at_row.payload ≡ take 16 (drop b s)
    numbers_are = ap (take 16) content_is ∙ take-take 16 20 (drop b s) (omega arith)

    -- a delta that is read there
    module _ (m : ℕ) (own : m ≡ at_row.marks) (delta : m % 8 ≡ 1) (sign : ℕ) (is : sign ≡ m / 8) (op : DeltaOp) (told : op ≡ op_at (take 16 (drop b s) ++ (sign ∷ []))) where
      words_are : take 16 (drop b s) ++ (sign ∷ []) ≡ take 16 at_row.payload ++ (at_row.marks / 8 ∷ [])
      words_are =
          let e : sign ≡ at_row.marks / 8 = is ∙ ap (λ (k : ℕ). k / 8) own in
          rw (numbers_are, e)

      pub op_exact : exact op ≡ delta_in at_row
      unfolding delta_in
      op_exact = ap exact told ∙ exact_op_at (take 16 (drop b s) ++ (sign ∷ [])) ∙ ap delta_at words_are

      pub op_valid : valid (exact op) ≡ true
      op_valid = ap valid op_exact ∙ row_delta_valid at_row at_fine (λ f. omega (arith, own))

  module _ (acc : Accumulator) (m : ℕ) (own : m ≡ at_row.marks) where
    at_stop : (r : Read) → walk (exactly acc) (entry_of at_row ∷ []) ≡ r → (o : Result MVDataOutput Refusal) → o ≡ output_of r → o ≡ output_of (walk (exactly acc) (entry_of at_row ∷ []))
    at_stop r e o f = f ∙ ap output_of (sym e)

    module _ (place : ℕ) (p : place ≡ at_row.spot % 4294967296) (shifted : ShiftedTxnIndex) (t : shifted ≡ shifted_of place) where
      place_is : at_row.spot % 4294967296 ≡ word_of shifted
      place_is = sym p ∙ ap word_of (sym t)

      pub stopped_estimate : m / 4 % 2 ≡ 1 → (o : Result MVDataOutput Refusal) → o ≡ output_of (dependency (word_of shifted - 1)) → o ≡ output_of (walk (exactly acc) (entry_of at_row ∷ []))
      stopped_estimate f o e =
          at_stop (dependency (word_of shifted - 1))
          (step_estimate (exactly acc) at_row [] (ap (λ (k : ℕ). k / 4 % 2) (sym own) ∙ f) ∙ ap (λ (k : ℕ). dependency (k - 1)) place_is) o e

      pub stopped_write : m ≡ 0 → (b : ℕ) → b ≡ content_of payload_width n s (position_in n s page cell) → (o : Result MVDataOutput Refusal) →
          o ≡ output_of (at_write (exactly acc) (word_of shifted) (get_or s b 0) (value_at (b + 1) s)) → o ≡ output_of (walk (exactly acc) (entry_of at_row ∷ []))
      stopped_write f b c o e =
          at_stop (at_write (exactly acc) (word_of shifted) (get_or s b 0) (value_at (b + 1) s))
          (step_write (exactly acc) at_row [] (sym own ∙ f) ∙ rw (place_is, incarnation_is b c, value_is b c)) o e

    pub stopped_shortcut : (m / 4 % 2 ≡ 1 → ⊥) → (m ≡ 0 → ⊥) → (m % 8 ≡ 1 → ⊥) → (b : ℕ) → b ≡ content_of payload_width n s (position_in n s page cell) → (v : Number) →
        v ≡ number_of (value_of_words (take 4 (drop (b + 16) s))) → (o : Result MVDataOutput Refusal) → o ≡ output_of (onto (exactly acc) (value_of v)) → o ≡ output_of (walk (exactly acc) (entry_of at_row ∷ []))
    stopped_shortcut f g h b c v r o e =
        at_stop (onto (exactly acc) (value_of v))
        (step_shortcut (exactly acc) at_row [] at_fine (λ x. f (ap (λ (k : ℕ). k / 4 % 2) own ∙ x)) (λ x. h (ap (λ (k : ℕ). k % 8) own ∙ x)) (λ x. g (own ∙ x))
        ∙ ap (onto (exactly acc)) (ap value_of_words (shortcut_is b c) ∙ sym (ap value_of r ∙ value_of_number_of (value_of_words (take 4 (drop (b + 16) s))))))
        o e

-- ---- the walk from a place

module _ (n : ℕ) (s : List ℕ) (store : DataStore n s) (key : ℕ) (at : Option Place) (met : Met n s at) where
  abbrev from : ℕ
  from = position_from n s at

  pub from_none : at ≡ None → has_key key from (rows_of n s) ≡ false
  unfolding position_or_end
  from_none e = rw e (key_none key (length (rows_of n s)) (rows_of n s) (omega arith))

  module _ (p : Place) (e : at ≡ Some p) where
    pub from_there : There payload_width n s p.page p.cell
    from_there = rw e at met

    from_is : position_in n s p.page p.cell ≡ from
    unfolding position_or_end
    from_is = rw e refl

    pub from_other : (found : ℕ) → found ≡ (row_of_place n s p).spot / 4294967296 → (found ≡ key → ⊥) → has_key key from (rows_of n s) ≡ false
    from_other found f g = rw (← from_is) (key_other key (position_in n s p.page p.cell) (rows_of n s) found f g)

    pub from_own : (found : ℕ) → found ≡ (row_of_place n s p).spot / 4294967296 → found ≡ key → OfKey n s key from p
    from_own found f g =
        record {
          there = from_there;
          place = from_is;
          own = rw (← from_is) (key_row key (position_in n s p.page p.cell) (rows_of n s) (position_held payload_width n s p.page p.cell from_there) found f g);
        }

-- ---- at a row of the key

module _ (n : ℕ) (s : List ℕ) (store : DataStore n s) (key c : ℕ) (p : Place) (m : OfKey n s key c p) where
  here : has_key key (position_in n s p.page p.cell) (rows_of n s) ≡ true
  here = rw m.place m.own

  pub own_inside : position_in n s p.page p.cell < length (rows_of n s)
  own_inside = position_held payload_width n s p.page p.cell m.there

  pub own_few : c < 4096
  own_few = omega (arith, m.place, own_inside, held_units payload_width n false s store.valid, store.valid.units, store.valid.few)

  -- the read stops there
  pub own_stops : (acc : Accumulator) → ((row_of_place n s p).marks % 8 ≡ 1 → ⊥) → (o : Result MVDataOutput Refusal) → o ≡ output_of (walk (exactly acc) (entry_of (row_of_place n s p) ∷ [])) →
      o ≡ output_of (walk (exactly acc) (down_rows key c (rows_of n s)))
  own_stops acc f o g =
      g ∙ ap output_of (sym (stops key (position_in n s p.page p.cell) (rows_of n s) store.fine here (exactly acc) f))
      ∙ ap (λ (k : ℕ). output_of (walk (exactly acc) (down_rows key k (rows_of n s)))) m.place

  -- a write: the read ends there
  pub own_read : (w : ℕ) → w ≡ (row_of_place n s p).marks → w ≡ 0 → (place : ℕ) → place ≡ (row_of_place n s p).spot % 4294967296 → (b : ℕ) →
      b ≡ content_of payload_width n s (position_in n s p.page p.cell) → read_of (down_rows key c (rows_of n s)) ≡ versioned place (get_or s b 0) (value_at (b + 1) s)
  own_read w e f place q b d =
      let z : (row_of_place n s p).spot % 4294967296 ≡ place = sym q in
      ap (λ (k : ℕ). read_of (down_rows key k (rows_of n s))) (sym m.place)
      ∙ reads_write key (position_in n s p.page p.cell) (rows_of n s) store.fine here (sym e ∙ f)
      ∙ rw (z, incarnation_is n s store p.page p.cell m.there b d, value_is n s store p.page p.cell m.there b d)

  pub own_write : (w : ℕ) → w ≡ (row_of_place n s p).marks → w ≡ 0 → (place : ℕ) → place ≡ (row_of_place n s p).spot % 4294967296 → (shifted : ShiftedTxnIndex) →
      shifted ≡ shifted_of place → (b : ℕ) → b ≡ content_of payload_width n s (position_in n s p.page p.cell) → (o : Result MVDataOutput Refusal) →
      o ≡ output_of (versioned (word_of shifted) (get_or s b 0) (value_at (b + 1) s)) → o ≡ output_of (read_of (down_rows key c (rows_of n s)))
  own_write w e f place q shifted t b d o g =
      let z : place ≡ word_of shifted = ap word_of (sym t) in
      g ∙ ap output_of (sym (own_read w e f (word_of shifted) (sym z ∙ q) b d))

  -- no delta: none is met
  pub own_none : (w : ℕ) → w ≡ (row_of_place n s p).marks → (w % 8 ≡ 1 → ⊥) → deltas_in (down_rows key c (rows_of n s)) ≡ 0
  own_none w e f =
      ap (λ (k : ℕ). deltas_in (down_rows key k (rows_of n s))) (sym m.place)
      ∙ deltas_none key (position_in n s p.page p.cell) (rows_of n s) here (λ g. f (ap (λ (k : ℕ). k % 8) e ∙ g))

  -- a delta: the walk goes on
  module _ (f : (row_of_place n s p).marks % 8 ≡ 1) (position : ℕ) (after : position ≡ suc (position_in n s p.page p.cell)) where
    pub own_more : deltas_in (down_rows key c (rows_of n s)) ≡ suc (deltas_in (down_rows key position (rows_of n s)))
    own_more =
        ap (λ (k : ℕ). deltas_in (down_rows key k (rows_of n s))) (sym m.place)
        ∙ deltas_more key (position_in n s p.page p.cell) (rows_of n s) here f
        ∙ ap (λ (k : ℕ). suc (deltas_in (down_rows key k (rows_of n s)))) (sym after)

    module _ (acc next : Accumulator) (g : next ≡ accumulator_of (accumulate (exactly acc) (delta_in (row_of_place n s p)))) where
      next_is : exactly next ≡ accumulate (exactly acc) (delta_in (row_of_place n s p))
      next_is = ap exactly g ∙ exactly_accumulator_of (accumulate (exactly acc) (delta_in (row_of_place n s p)))

      pub deeper_walk : walk (exactly acc) (down_rows key c (rows_of n s)) ≡ walk (exactly next) (down_rows key position (rows_of n s))
      deeper_walk =
          ap (λ (k : ℕ). walk (exactly acc) (down_rows key k (rows_of n s))) (sym m.place)
          ∙ goes_on_lem key (position_in n s p.page p.cell) (rows_of n s) store.fine here (exactly acc) f
          ∙ ap (λ (k : ℕ). walk (accumulate (exactly acc) (delta_in (row_of_place n s p))) (down_rows key k (rows_of n s))) (sym after)
          ∙ ap (λ (a : Accumulated). walk a (down_rows key position (rows_of n s))) (sym next_is)

-- ---- the walk on its way: what is left of it decides what a read from its start finds

pub record Walking (n : ℕ) (s : List ℕ) (key start rest : ℕ) (at : Option Place) (acc : Accumulator) : Type 0 where
  pub met : Met n s at
  pub deltas : rest ≡ deltas_in (down_rows key (position_from n s at) (rows_of n s))
  pub same : read_of (down_rows key start (rows_of n s)) ≡ walk (exactly acc) (down_rows key (position_from n s at) (rows_of n s))

module _ (n : ℕ) (s : List ℕ) (store : DataStore n s) (key rest : ℕ) (at : Option Place) (met : Met n s at) where
  starts : rest ≡ deltas_in (down_rows key (position_from n s at) (rows_of n s)) → Walking n s key (position_from n s at) (rest - 0) at Empty
  unfolding exactly read_of
  starts e = record { met = met; deltas = omega (arith, e); same = refl }

  pub starts_none : at ≡ None → rest ≡ 0 → Walking n s key (position_from n s at) (rest - 0) at Empty
  starts_none e r = starts (r ∙ sym (deltas_end key (position_from n s at) (rows_of n s) (from_none n s store key at met e)))

  pub starts_some : (p : Place) → at ≡ Some p → rest ≡ 0 + deltas_in (down_rows key (position_in n s p.page p.cell) (rows_of n s)) →
      Walking n s key (position_from n s at) (rest - 0) at Empty
  starts_some p e r = starts (omega (arith, r) ∙ ap (λ (k : ℕ). deltas_in (down_rows key k (rows_of n s))) (from_is n s store key at met p e))

module _ (n : ℕ) (s : List ℕ) (store : DataStore n s) (key start rest : ℕ) (at : Option Place) (acc : Accumulator) (w : Walking n s key start rest at acc) where
  -- where deltas are left there is a row of the key, which is one
  module _ (left : 0 < rest) where
    pub on_some : at ≡ None → ⊥
    on_some e = omega (arith, w.deltas, deltas_end key (position_from n s at) (rows_of n s) (from_none n s store key at w.met e))

    module _ (p : Place) (e : at ≡ Some p) where
      pub on_own : OfKey n s key (position_from n s at) p
      unfolding position_or_end
      on_own = go (has_key key (position_from n s at) (rows_of n s)) refl
        where
          is : position_in n s p.page p.cell ≡ position_from n s at
          is = rw e refl

          go : (b : Bool) → has_key key (position_from n s at) (rows_of n s) ≡ b → OfKey n s key (position_from n s at) p
          go true h = record { there = from_there n s store key at w.met p e; place = is; own = h }
          go false h = absurd (omega (arith, w.deltas, deltas_end key (position_from n s at) (rows_of n s) h))

      pub on_marks : (row_of_place n s p).marks % 8 ≡ 1
      on_marks = go (ℕ_discrete ((row_of_place n s p).marks % 8) 1)
        where
          go : Dec ((row_of_place n s p).marks % 8 ≡ 1) → (row_of_place n s p).marks % 8 ≡ 1
          go (yes f) = f
          go (no f) = absurd (omega (arith, w.deltas, own_none n s store key (position_from n s at) p on_own (row_of_place n s p).marks refl f))

      pub on_next : (next : Accumulator) → next ≡ accumulator_of (accumulate (exactly acc) (delta_in (row_of_place n s p))) → (to : Option Place) → Met n s to →
          position_from n s to ≡ suc (position_in n s p.page p.cell) → (rest' : ℕ) → rest' ≡ rest - 1 → Walking n s key start rest' to next
      on_next next g to m q rest' r =
          record {
            met = m;
            deltas = omega (arith, w.deltas, own_more n s store key (position_from n s at) p on_own on_marks (position_from n s to) q);
            same = w.same ∙ deeper_walk n s store key (position_from n s at) p on_own on_marks (position_from n s to) q acc next g;
          }

  module _ (end : 0 < rest → ⊥) where
    pub end_none : has_key key (position_from n s at) (rows_of n s) ≡ false → (o : Result MVDataOutput Refusal) → o ≡ output_of (at_end (exactly acc)) → o ≡ output_of (read_of (down_rows key start (rows_of n s)))
    unfolding walk
    end_none h o g =
        g ∙ ap (λ (l : List (Row Entry)). output_of (walk (exactly acc) l)) (sym (key_end key (position_from n s at) (rows_of n s) h)) ∙ ap output_of (sym w.same)

    module _ (p : Place) (m : OfKey n s key (position_from n s at) p) where
      pub end_marks : (row_of_place n s p).marks % 8 ≡ 1 → ⊥
      end_marks f = end (omega (arith, w.deltas, own_more n s store key (position_from n s at) p m f (suc (position_in n s p.page p.cell)) refl))

      pub end_found : (o : Result MVDataOutput Refusal) → o ≡ output_of (walk (exactly acc) (entry_of (row_of_place n s p) ∷ [])) → o ≡ output_of (read_of (down_rows key start (rows_of n s)))
      end_found o g = own_stops n s store key (position_from n s at) p m acc end_marks o g ∙ ap output_of (sym w.same)

-- a read that meets no row of the key
pub read_nothing : (key c : ℕ) (rows : List StoreRow) → has_key key c rows ≡ false → Ok Uninitialized ≡ output_of (read_of (down_rows key c rows))
unfolding read_of walk at_end output_of
read_nothing key c rows h = ap (λ (l : List (Row Entry)). output_of (read_of l)) (sym (key_end key c rows h))

pub versioned_is : (shifted : ShiftedTxnIndex) (i : ℕ) (v : ValueWithLayout) (ws : List ℕ) → v ≡ value_from ws → Ok (Versioned shifted i v) ≡ output_of (versioned (word_of shifted) i ws)
unfolding output_of
versioned_is shifted i v ws e = ap (λ (x : ValueWithLayout). Ok (Versioned shifted i x)) e
