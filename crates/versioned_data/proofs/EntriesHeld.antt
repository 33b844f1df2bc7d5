-- A valid store, the rows that it holds and their entries.
-- Assumes nothing.
use mathlib.Core.Path.{◌≡◌, refl, sym, ◌∙◌, ap}
use mathlib.Core.Bool.{true, false}
use mathlib.Core.List.{List, [], ◌∷◌, map, reverse}
use Prim.Native.Nat.{ℕ, ◌+◌, ◌-◌, ◌*◌, ◌≤◌, ◌<◌}
use native.Mathlib.Omega.{arith}
use native.Mathlib.Decide.{ℕ_discrete}
use lib.ListN.{length, get_or, drop, length-drop}
use lib.Seq.{ext_get_or, get_or-drop}
use borrow.Author.Tests.{eq-eqb, ne_eqb}
use Rattle.lists.specs.Lists.{every}
use Rattle.lists.proofs.Bools.{and_both, and_left, and_right}
use Rattle.lists.proofs.Lists.{every_imp}
use Rattle.types.specs.Units.{units_in}
use Rattle.numbers.specs.Numbers as Numbers
use Rattle.numbers.specs.Numbers.{Below, Drops, rank_of, part_of, ranks, rows}
use Rattle.directory.specs.Cells.{cells_in}
use Rattle.store.specs.Held.{base_of, held, held_in, payload_at, row_spots}
use Rattle.store.specs.Valid.{Valid}
use Rattle.store.specs.Scan.{is_store}
use Rattle.store.specs.Edits.{Left}
use Rattle.store.proofs.Contents.{held_units}
use Rattle.store.proofs.ScanStores.{store_told, store_tell}
use Rattle.model.specs.Rows.{rising}
use Rattle.model.specs.Fine.{fine_entry, fine_entries}
use Rattle.versioned_data.specs.Layout.{StoreRow, payload_width, entry_of, rows_in, entries_in, row_ok, data_valid}
use Rattle.versioned_data.specs.Left.{Holds}
use Rattle.versioned_data.proofs.EntryRows.{ok_fine, ok_few}
use Rattle.versioned_data.proofs.RowOrder.{entries_of, entries_rise, entries_length, every_entries}

-- ---- rows fall by spot where their cells fall by rank: a row of an entry has part 0

module _ (pay : ℕ → List ℕ) where
  part_zero : (c : Numbers.Cell) → row_ok (Numbers.row_of c (pay (Numbers.number_of c))) ≡ true → part_of c ≡ 0
  unfolding part_of Numbers.row_of
  part_zero c h = omega (arith, ok_few (Numbers.row_of c (pay (Numbers.number_of c))) h)

  below_spots : (y : ℕ) (b : ℕ) (cs : List Numbers.Cell) → (part : b ≡ 0) → Below (4294967296 * y + b) (ranks cs) → Below y (row_spots (rows pay cs))
  unfolding Below rank_of rows Numbers.row_of
  below_spots y b [] e h = h
  below_spots y b (c ∷ cs) e h = (omega (arith, h.0), below_spots y b cs e h.1)

  drop_spots : (cs : List Numbers.Cell) → every row_ok (rows pay cs) ≡ true → Drops (ranks cs) → Drops (row_spots (rows pay cs))
  unfolding Drops every rows rank_of Numbers.row_of
  drop_spots [] h d = d
  drop_spots (c ∷ cs) h d = (
    below_spots c.spot (part_of c) cs (part_zero c (and_left (row_ok (Numbers.row_of c (pay (Numbers.number_of c)))) (every row_ok (rows pay cs)) h)) d.0,
    drop_spots cs (and_right (row_ok (Numbers.row_of c (pay (Numbers.number_of c)))) (every row_ok (rows pay cs)) h) d.1,
  )

-- ---- a valid store

module _ (s : List ℕ) (v : data_valid s ≡ true) where
  pub every_ok : every row_ok (rows_in s) ≡ true
  unfolding data_valid
  every_ok = and_right (is_store payload_width false s) (every row_ok (rows_in s)) v

  pub rows_here : 0 < units_in (length s) → rows_in s ≡ held 22 (units_in (length s)) s
  unfolding rows_in held_in
  rows_here h = rw (ne_eqb (units_in (length s)) 0 (omega arith))

  pub rows_none : units_in (length s) ≡ 0 → rows_in s ≡ []
  unfolding rows_in held_in
  rows_none h = rw (eq-eqb (units_in (length s)) 0 h)

  pub store_valid : 0 < units_in (length s) → Valid 22 false (units_in (length s)) s
  unfolding data_valid
  store_valid h = store_told 22 false s (omega arith) (omega arith) (and_left (is_store payload_width false s) (every row_ok (rows_in s)) v) h

  spots_some : 0 < units_in (length s) → Drops (row_spots (rows_in s))
  unfolding held
  spots_some h =
      let e : rows_in s ≡ held 22 (units_in (length s)) s = rows_here h in
      rw e (drop_spots (payload_at 22 s) (cells_in (base_of 22 (units_in (length s))) s) (ap (every row_ok) (sym e) ∙ every_ok) (store_valid h).directory.order)

  spots_none : units_in (length s) ≡ 0 → Drops (row_spots (rows_in s))
  unfolding Drops
  spots_none h = rw (rows_none h) tt

  pub spots_drop : Drops (row_spots (rows_in s))
  spots_drop = go (ℕ_discrete (units_in (length s)) 0)
    where
      go : Dec (units_in (length s) ≡ 0) → Drops (row_spots (rows_in s))
      go (yes e) = spots_none e
      go (no e) = spots_some (omega arith)

  pub entries_are : entries_in s ≡ entries_of (rows_in s)
  unfolding entries_in entries_of
  entries_are = refl

  pub rising_valid : rising (entries_in s) ≡ true
  rising_valid = rw entries_are (entries_rise (rows_in s) spots_drop)

  pub every_valid : every fine_entry (entries_in s) ≡ true
  every_valid = rw entries_are (every_entries fine_entry (rows_in s) (every_imp row_ok (λ u. fine_entry (entry_of u)) (λ u. ok_fine u) (rows_in s) every_ok))

  pub fine_valid : fine_entries (entries_in s) ≡ true
  unfolding fine_entries
  fine_valid = and_both (rising (entries_in s)) (every fine_entry (entries_in s)) rising_valid every_valid

  pub length_entries : length (entries_in s) ≡ length (rows_in s)
  length_entries = ap length entries_are ∙ entries_length (rows_in s)

  pub few_valid : length (entries_in s) ≤ units_in (length s)
  few_valid = go (ℕ_discrete (units_in (length s)) 0)
    where
      go : Dec (units_in (length s) ≡ 0) → length (entries_in s) ≤ units_in (length s)
      go (yes e) = omega (arith, length_entries, ap length (rows_none e))
      go (no e) =
          let h : 0 < units_in (length s) = omega arith in
          let w = store_valid h in
          omega (arith, length_entries, ap length (rows_here h), held_units 22 (units_in (length s)) false s w, w.units)

-- ---- what an edit leaves

drop_same : (n : ℕ) (s t : List ℕ) → length t ≡ length s → ((k : ℕ) → n ≤ k → get_or t k 0 ≡ get_or s k 0) → drop n t ≡ drop n s
drop_same n s t e h =
    ext_get_or 0 (drop n t) (drop n s) (length-drop n t ∙ ap (λ (m : ℕ). m - n) e ∙ sym (length-drop n s))
    (λ i l. get_or-drop n t i 0 ∙ h (n + i) (omega arith) ∙ sym (get_or-drop n s i 0))

module _ (s t : List ℕ) (rs : List StoreRow) (some : 0 < units_in (length s)) (left : Left 22 false (units_in (length s)) rs s t) (ok : every row_ok rs ≡ true) where
  same : units_in (length t) ≡ units_in (length s)
  same = ap units_in left.size

  rows_left : rows_in t ≡ rs
  unfolding rows_in held_in
  rows_left =
      let e : units_in (length t) ≡ 0 → ⊥ = λ z. omega (arith, same) in
      rw (ne_eqb (units_in (length t)) 0 e) (ap (λ (n : ℕ). held 22 n t) same ∙ left.holds)

  entries_left : entries_in t ≡ entries_of rs
  unfolding entries_in entries_of
  entries_left = ap (λ (l : List StoreRow). map entry_of (reverse l)) rows_left

  valid_left : data_valid t ≡ true
  unfolding data_valid
  valid_left =
      let w : Valid 22 false (units_in (length t)) t = rw same left.valid in
      and_both (is_store payload_width false t) (every row_ok (rows_in t)) (store_tell 22 false t (λ h. w)) (ap (every row_ok) rows_left ∙ ok)

  pub left_holds : Holds s (entries_of rs) t
  left_holds =
      record { valid = valid_left; entries = entries_left; size = left.size; past = drop_same (32 * units_in (length s)) s t left.size left.past }
