-- Rule 5 at a data entry: what stands at a place, the edits there that keep fine rows fine, and the cells that are fine.
-- Assumes nothing.
use mathlib.Core.Path.{◌≡◌, refl}
use mathlib.Core.Bool.{Bool, true, false, cond, not, ◌&&◌}
use mathlib.Core.List.{List}
use mathlib.Core.Option.{Option, some}
use Prim.Native.Nat.{ℕ, ◌<◌}
use native.Mathlib.Omega.{arith}
use lib.Dec.{eqb, lit<}
use borrow.Author.Tests.{ne_eqb}
use Rattle.lists.specs.Lists.{every}
use Rattle.lists.proofs.Bools.{and_right}
use Rattle.delta.specs.Delta.{Delta}
use Rattle.types.specs.Value.{is_exchanged}
use Rattle.model.specs.Rows.{Row, rising, find, down_from, Edit, edited}
use Rattle.model.specs.Data.{Cell, write, delta, Entry, with_shortcut}
use Rattle.model.specs.Fine.{is_word, is_number, fine_value, fine_delta, fine_shortcut, fine_cell, fine_entry, fine_entries}
use Rattle.model.proofs.FineRows.{fine_own, fine_edit, InRange, own_fine, edited_fine}
use Rattle.model.proofs.RowMaps.{every_down_from}
use Rattle.model.proofs.FineParts.{word_tell, write_incarnation, write_value_lem, write_side, delta_delta}

-- ---- what stands at a place, and an edit there

unfoldable pub fine_held : ℕ → Entry → Bool
fine_held place e = fine_cell place e.estimate e.cell

entries_every : (rows : List (Row Entry)) → fine_entries rows ≡ true → every fine_entry rows ≡ true
unfolding fine_entries
entries_every rows h = and_right (rising rows) (every fine_entry rows) h

entry_is : (r : Row Entry) → fine_entry r ≡ (is_word r.key && is_word r.place && fine_held r.place r.held)
unfolding fine_entry fine_held
entry_is r = refl

pub fine_find : (key place : ℕ) (rows : List (Row Entry)) → fine_entries rows ≡ true → fine_own fine_held place (find key place rows) ≡ true
fine_find key place rows h = own_fine fine_entry fine_held entry_is key place rows (entries_every rows h)

pub fine_edited : (key place : ℕ) (e : Edit Entry) (rows : List (Row Entry)) → fine_entries rows ≡ true → InRange key place → fine_edit fine_held place e ≡ true → fine_entries (edited key place e rows) ≡ true
unfolding fine_entries
fine_edited key place e rows h w f = edited_fine fine_entry fine_held entry_is key place e rows w f h

pub fine_down_from : (key reach : ℕ) (rows : List (Row Entry)) → fine_entries rows ≡ true → every fine_entry (down_from key reach rows) ≡ true
fine_down_from key reach rows h = every_down_from fine_entry key reach rows (entries_every rows h)

-- ---- fine cells

pub base_cell : (v : List ℕ) → fine_value v ≡ true → fine_cell 0 false (write 0 v) ≡ true
unfolding fine_cell
base_cell v f = rw (word_tell 0 (lit< tt), f)

module _ (place : ℕ) (n : 0 < place) where
  above_base : eqb place 0 ≡ false
  above_base = ne_eqb place 0 (omega arith)

  pub write_cell : (estimate : Bool) (incarnation : ℕ) (v : List ℕ) → is_word incarnation ≡ true → fine_value v ≡ true → is_exchanged v ≡ true → fine_cell place estimate (write incarnation v) ≡ true
  unfolding fine_cell
  write_cell estimate incarnation v i f x = rw (i, f, above_base, x)

  pub delta_cell : (estimate : Bool) (d : Delta) (shortcut : Option ℕ) → fine_delta d ≡ true → fine_shortcut shortcut ≡ true → fine_cell place estimate (delta d shortcut) ≡ true
  unfolding fine_cell
  delta_cell estimate d shortcut f x = rw (above_base, f, x)

  -- above the base, done or estimated plays no part
  pub estimate_cell : (a b : Bool) (c : Cell) → fine_cell place a c ≡ true → fine_cell place b c ≡ true
  unfolding fine_cell
  estimate_cell a b (write incarnation v) f =
      write_cell b incarnation v (write_incarnation place a incarnation v f) (write_value_lem place a incarnation v f)
      (let g : cond false (eqb incarnation 0 && not a) (is_exchanged v) ≡ true = rw above_base at (write_side place a incarnation v f) in g)
  estimate_cell a b (delta d shortcut) f = f

  pub shortcut_cell : (a : Bool) (m : ℕ) (c : Cell) → is_number m ≡ true → fine_cell place a c ≡ true → fine_cell place a (with_shortcut m c) ≡ true
  unfolding with_shortcut fine_shortcut
  shortcut_cell a m (write incarnation v) h f = f
  shortcut_cell a m (delta d shortcut) h f = delta_cell a d (some m) (delta_delta place a d shortcut f) h
