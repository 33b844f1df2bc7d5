-- What a ruling comes to in a valid store: one law for each kind of edit, for every operation that makes it.
-- Assumes nothing.
use mathlib.Core.Path.{◌≡◌, refl, sym, ◌∙◌, ap}
use mathlib.Core.Bool.{true, false}
use mathlib.Core.List.{List, ◌∷◌}
use mathlib.Core.Option.{Option, none, some}
use Prim.Native.Nat.{ℕ, suc, ◌<◌}
use native.Mathlib.Omega.{arith}
use native.Mathlib.Decide.{ℕ_discrete}
use lib.ListN.{length, set, take, drop, length-set}
use borrow.Author.Tests.{ne_eqb}
use Rattle.lists.specs.Lists.{every}
use Rattle.lists.proofs.Bools.{and_both}
use Rattle.lists.proofs.Lists.{every_set, every_join, every_take, every_drop, every_at}
use Rattle.types.specs.Units.{lack_of, units_in}
use Rattle.types.proofs.UnitLaws.{lack_none, lack_told}
use Rattle.probe.specs.Cells.{count_above, insert_at, erase_at}
use Rattle.store.specs.Held.{row_spots, no_row}
use Rattle.store.specs.Edits.{Left}
use Rattle.store.proofs.Listed.{insert_length, erase_length}
use Rattle.model.specs.Rows.{Row, find, put, erase, Edit, leave, clear, edited, row_at}
use Rattle.model.specs.Rows
use Rattle.model.specs.Data.{Entry, Ruling, refuse, accept}
use Rattle.model.specs.Fine.{fine_cell, fine_entry}
use Rattle.model.proofs.FineParts.{word_tell}
use Rattle.versioned_data.specs.Layout.{StoreRow, spot_of, marks_of, body_of, padded, row_of, entry_of, rows_in, entries_in, row_ok, data_valid, lack_in, fits_in, result_of}
use Rattle.versioned_data.specs.Left.{Holds, LeftIf, LeftBy}
use Rattle.versioned_data.specs.Found.{position_at, row_found, Here, Gone, FoundIn, remade, PutOver, PutIn, Put, lack_of_more}
use Rattle.versioned_data.specs.Edited.{Edited}
use Rattle.std.specs.Prelude.{Result, Ok, Err}
use Rattle.directory.specs.declared.cells.Place.{Place}
use Rattle.versioned_data.proofs.EntryRows.{entry_back, row_ok_lem}
use Rattle.versioned_data.proofs.RowOrder.{entries_of, entries_length}
use Rattle.versioned_data.proofs.SpotPlaces.{there_lt, there_spot, put_over, erase_over, put_new}
use Rattle.versioned_data.proofs.EntriesHeld.{every_ok, spots_drop, entries_are, few_valid, length_entries, left_holds}

-- An entry at a key and place is fine where its cell is.
pub entry_fine : (k p : ℕ) (e : Entry) → k < 4294967296 → p < 4294967296 → fine_cell p e.estimate e.cell ≡ true → fine_entry (row_at k p e) ≡ true
unfolding fine_entry row_at
entry_fine k p e h g f = rw (word_tell k h, word_tell p g, f)

-- An edit for which no unit lacks is made.
left_fits : (s : List ℕ) (rows : List (Row Entry)) (after : List ℕ) → lack_in s rows ≡ 0 → Holds s rows after → LeftIf (fits_in s rows) s rows after
unfolding fits_in LeftIf
left_fits s rows after h l = rw h l

left_lacks : (s : List ℕ) (rows : List (Row Entry)) (after : List ℕ) → (lack_in s rows ≡ 0 → ⊥) → after ≡ s → LeftIf (fits_in s rows) s rows after
unfolding fits_in LeftIf
left_lacks s rows after h e = rw (ne_eqb (lack_in s rows) 0 h) e

module _ (s : List ℕ) (k p : ℕ) (rule : Option Entry → Ruling (Edit Entry)) where
  -- refused: no word is changed
  pub edited_refused : (n : ℕ) → rule (find k p (entries_in s)) ≡ refuse n → Edited s k p rule n s
  unfolding result_of LeftBy
  edited_refused n e = record { result = rw e; left = rw e refl }

  -- accepted
  edited_accepted : (answer : List ℕ) (e : Edit Entry) (r : ℕ) (after : List ℕ) → rule (find k p (entries_in s)) ≡ accept answer e → r ≡ lack_in s (edited k p e (entries_in s)) →
      LeftIf (fits_in s (edited k p e (entries_in s))) s (edited k p e (entries_in s)) after → Edited s k p rule r after
  unfolding result_of LeftBy
  edited_accepted answer e r after f g l = record { result = rw f g; left = rw f l }

  -- done, and left as it is
  pub edited_left : (answer : List ℕ) → data_valid s ≡ true → rule (find k p (entries_in s)) ≡ accept answer leave → Edited s k p rule 0 s
  unfolding edited lack_in
  edited_left answer v e =
      let none_lacks : lack_in s (entries_in s) ≡ 0 = lack_none (length (entries_in s)) (units_in (length s)) (few_valid s v) in
      edited_accepted answer leave 0 s e (sym none_lacks) (left_fits s (entries_in s) s none_lacks (record { valid = v; entries = refl; size = refl; past = refl }))

pub remade_is : (k p : ℕ) (e : Entry) (u : StoreRow) → u.spot ≡ spot_of k p → remade e u ≡ row_of (row_at k p e)
unfolding remade row_of row_at
remade_is k p e u f i = record { spot = f i; marks = marks_of e; payload = padded (body_of e.cell) }

pub lacks_units : (s : List ℕ) → lack_of_more s ≡ 0 → length (rows_in s) < units_in (length s)
unfolding lack_of_more
lacks_units s h = omega (arith, lack_told (suc (length (rows_in s))) (units_in (length s)) h)

module _ (s : List ℕ) (v : data_valid s ≡ true) (k p : ℕ) (big : k < 4294967296) (small : p < 4294967296) where
  abbrev rs : List StoreRow
  rs = rows_in s

  abbrev c : ℕ
  c = count_above (spot_of k p) (row_spots (rows_in s))

  module _ (page i : ℕ) (t : Here s k p page i) where
    found : find k p (entries_of rs) ≡ some (entry_of (row_found s page i)).held
    found = rw (← entries_are s v) t.entry

    pub here_lt : position_at s page i < length (rows_in s)
    here_lt = rw t.position (there_lt k p small rs (spots_drop s v) (entry_of (row_found s page i)).held found)

    pub here_spot : (row_found s page i).spot ≡ spot_of k p
    unfolding row_found
    here_spot = rw t.position (there_spot k p small rs (spots_drop s v) (entry_of (row_found s page i)).held found)

    pub here_ok : row_ok (row_found s page i) ≡ true
    unfolding row_found
    here_ok = every_at row_ok rs (position_at s page i) no_row here_lt (every_ok s v)

    put_rows : (e : Entry) → fine_entry (row_at k p e) ≡ true → entries_of (set rs (position_at s page i) (remade e (row_found s page i))) ≡ put k p e (entries_in s)
    put_rows e f =
        let w : remade e (row_found s page i) ≡ row_of (row_at k p e) = remade_is k p e (row_found s page i) here_spot in
        rw (t.position, entries_are s v)
        (put_over k p small rs (spots_drop s v) (entry_of (row_found s page i)).held found e (remade e (row_found s page i)) (ap entry_of w ∙ entry_back (row_at k p e) f))

    ok_rows : (e : Entry) → fine_entry (row_at k p e) ≡ true → every row_ok (set rs (position_at s page i) (remade e (row_found s page i))) ≡ true
    ok_rows e f =
        every_set row_ok rs (position_at s page i) (remade e (row_found s page i)) (every_ok s v) (ap row_ok (remade_is k p e (row_found s page i) here_spot) ∙ row_ok_lem (row_at k p e) f)

    -- another entry in the row there
    pub edited_over : (rule : Option Entry → Ruling (Edit Entry)) (answer : List ℕ) (e : Entry) (after : List ℕ) → rule (find k p (entries_in s)) ≡ accept answer (Rows.set e) →
        fine_entry (row_at k p e) ≡ true → PutOver s page i e after → Edited s k p rule 0 after
    unfolding edited lack_in PutOver
    edited_over rule answer e after g f w =
        let q : List StoreRow = set rs (position_at s page i) (remade e (row_found s page i)) in
        let h : Holds s (entries_of q) after = left_holds s after q t.row.units w (ok_rows e f) in
        let l : Holds s (put k p e (entries_in s)) after = rw (put_rows e f) at h in
        let n : length (put k p e (entries_in s)) ≡ length (entries_in s) =
        ap length (sym (put_rows e f)) ∙ entries_length q ∙ length-set rs (position_at s page i) (remade e (row_found s page i)) ∙ sym (length_entries s v)
        in
        let z : lack_in s (put k p e (entries_in s)) ≡ 0 = lack_none (length (put k p e (entries_in s))) (units_in (length s)) (omega (arith, few_valid s v)) in
        edited_accepted s k p rule answer (Rows.set e) 0 after g (sym z) (left_fits s (put k p e (entries_in s)) after z l)

    -- the row there taken out
    erase_rows : entries_of (erase_at (position_at s page i) rs) ≡ erase k p (entries_in s)
    erase_rows =
        rw (t.position, entries_are s v) (erase_over k p small rs (spots_drop s v) (entry_of (row_found s page i)).held found)

    erase_ok : every row_ok (erase_at (position_at s page i) rs) ≡ true
    unfolding erase_at
    erase_ok =
        every_join row_ok (take (position_at s page i) rs) (drop (suc (position_at s page i)) rs) (every_take row_ok (position_at s page i) rs (every_ok s v))
        (every_drop row_ok (suc (position_at s page i)) rs (every_ok s v))

    pub edited_removed : (rule : Option Entry → Ruling (Edit Entry)) (answer : List ℕ) (after : List ℕ) → rule (find k p (entries_in s)) ≡ accept answer clear →
        Left 22 false (units_in (length s)) (erase_at (position_at s page i) rs) s after → Edited s k p rule 0 after
    unfolding edited lack_in
    edited_removed rule answer after g w =
        let q : List StoreRow = erase_at (position_at s page i) rs in
        let h : Holds s (entries_of q) after = left_holds s after q t.row.units w erase_ok in
        let l : Holds s (erase k p (entries_in s)) after = rw erase_rows at h in
        let n : suc (length (erase k p (entries_in s))) ≡ length (entries_in s) =
        ap suc (ap length (sym erase_rows) ∙ entries_length q) ∙ erase_length rs (position_at s page i) here_lt ∙ sym (length_entries s v)
        in
        let z : lack_in s (erase k p (entries_in s)) ≡ 0 = lack_none (length (erase k p (entries_in s))) (units_in (length s)) (omega (arith, few_valid s v)) in
        edited_accepted s k p rule answer clear 0 after g (sym z) (left_fits s (erase k p (entries_in s)) after z l)

  module _ (page i : ℕ) (t : Gone s k p page i) where
    in_ok : (e : Entry) → fine_entry (row_at k p e) ≡ true → every row_ok (insert_at c (row_of (row_at k p e)) rs) ≡ true
    unfolding insert_at every
    in_ok e f =
        every_join row_ok (take c rs) (row_of (row_at k p e) ∷ drop c rs) (every_take row_ok c rs (every_ok s v))
        (and_both (row_ok (row_of (row_at k p e))) (every row_ok (drop c rs)) (row_ok_lem (row_at k p e) f) (every_drop row_ok c rs (every_ok s v)))

    in_rows : (after : List ℕ) (e : Entry) → fine_entry (row_at k p e) ≡ true → 0 < units_in (length s) → position_at s page i ≡ c →
        Left 22 false (units_in (length s)) (insert_at (position_at s page i) (row_of (row_at k p e)) rs) s after →
        entries_of (insert_at c (row_of (row_at k p e)) rs) ≡ put k p e (entries_in s) → Holds s (put k p e (entries_in s)) after
    in_rows after e f units here w g =
        let l : Left 22 false (units_in (length s)) (insert_at c (row_of (row_at k p e)) rs) s after = rw here at w in
        let h : Holds s (entries_of (insert_at c (row_of (row_at k p e)) rs)) after = left_holds s after (insert_at c (row_of (row_at k p e)) rs) units l (in_ok e f) in
        rw g at h

    -- put in, unless units lack
    pub edited_in : (rule : Option Entry → Ruling (Edit Entry)) (answer : List ℕ) (e : Entry) (r : ℕ) (after : List ℕ) → rule (find k p (entries_in s)) ≡ accept answer (Rows.set e) →
        fine_entry (row_at k p e) ≡ true → PutIn s k p page i e r after → Edited s k p rule r after
    unfolding edited lack_in lack_of_more
    edited_in rule answer e r after g f w =
        edited_accepted s k p rule answer (Rows.set e) r after g lack_is (go (ℕ_discrete r 0))
      where
        gone : find k p (entries_of rs) ≡ none
        gone = rw (← entries_are s v) t.entry

        rows_in_lem : entries_of (insert_at c (row_of (row_at k p e)) rs) ≡ put k p e (entries_in s)
        rows_in_lem = rw (entries_are s v) (put_new k p small rs (spots_drop s v) gone e (row_of (row_at k p e)) (entry_back (row_at k p e) f))

        count : length (put k p e (entries_in s)) ≡ suc (length rs)
        count = ap length (sym rows_in_lem) ∙ entries_length (insert_at c (row_of (row_at k p e)) rs) ∙ insert_length rs c (row_of (row_at k p e))

        lack_is : r ≡ lack_in s (put k p e (entries_in s))
        lack_is = w.result ∙ ap (λ (m : ℕ). lack_of m (units_in (length s))) (sym count)

        go : Dec (r ≡ 0) → LeftIf (fits_in s (put k p e (entries_in s))) s (put k p e (entries_in s)) after
        go (yes z) = left_fits s (put k p e (entries_in s)) after (sym lack_is ∙ z) held_now
          where
            units : 0 < units_in (length s)
            units = omega (arith, lacks_units s (sym w.result ∙ z))

            held_now : Holds s (put k p e (entries_in s)) after
            held_now = in_rows after e f units (t.position units) (w.left z) rows_in_lem
        go (no z) = left_lacks s (put k p e (entries_in s)) after (λ h. z (lack_is ∙ h)) (w.kept z)

-- An entry put where it was looked for.
pub edited_put : (s : List ℕ) → data_valid s ≡ true → (k p : ℕ) → k < 4294967296 → p < 4294967296 → (f : Result Place Place) → FoundIn s k p f → (rule : Option Entry → Ruling (Edit Entry)) (answer : List ℕ) (e : Entry) (r : ℕ) (after : List ℕ) →
    rule (find k p (entries_in s)) ≡ accept answer (Rows.set e) → fine_entry (row_at k p e) ≡ true → Put s k p f e r after → Edited s k p rule r after
unfolding FoundIn Put
edited_put s v k p big small (Ok c) t rule answer e r after g f w = rw w.0 (edited_over s v k p big small c.page c.cell t rule answer e after g f w.1)
edited_put s v k p big small (Err c) t rule answer e r after g f w = edited_in s v k p big small c.page c.cell t rule answer e r after g f w
