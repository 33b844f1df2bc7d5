-- The rule of the code's table: it is the table of `specs/`, row by row.
use mathlib.Core.Path.{◌≡◌, refl, ap, ◌∙◌}
use mathlib.Core.Bool.{Bool, true, ◌&&◌}
use mathlib.Core.List.{List, [], ◌∷◌, map}
use mathlib.Core.Option.{Option as Maybe}
use mathlib.Core.Option.{none, some}
use Rattle.std.specs.Prelude.{Option, Some, None}
use Prim.Native.Nat.{ℕ, ◌-◌, ◌<◌, ◌≤◌, max}
use lib.Dec.{ltb, leb}
use lib.ListN.{get_or}
use borrow.Author.Tests.{ltb-true, leb-true}
use Rattle.lists.specs.Lists.{every}
use Rattle.lists.proofs.Bools.{and_four}
use Rattle.lists.proofs.Lists.{every_get_d, get_d_map_lt}
use Rattle.types.specs.Response.{set_width}
use Rattle.request.specs.Table.{IndexField, Purpose, Edits, Reads, Materializes, Finalizes, Tail, alone, by_set, by_count, absent, Row, row, at, table, no_row, row_of, longest_tail, longest_of, longest_count}
use Rattle.request.specs.Request.{last_index}
use Rattle.request.specs.Rows.{index_layout, layout, index_place_cell, added_to, cells_of}
use Rattle.request.specs.declared.table.IndexField.{IndexField as CodeIndexField}
use Rattle.request.specs.declared.table.Row.{Row as CodeRow}
use Rattle.request.specs.declared.table.Cells.{Cells}

index_from : Option ℕ → ℕ → Option CodeIndexField
index_from None added = None
index_from (Some place) added = Some (record { place = place; last = 4294967295 - added })

-- The index that its cells make.
index_cells : (i : Maybe IndexField) → index_from (index_place_cell i) (added_to i) ≡ index_layout i
unfolding index_from index_place_cell added_to last_index index_layout
index_cells none = refl
index_cells (some f) = go f.purpose where
  go : (p : Purpose) → ◌≡◌ {A = Option CodeIndexField} (Some (record { place = f.place; last = 4294967295 - (4294967295 - last_index p) })) (Some (record { place = f.place; last = last_index p }))
  go Edits = refl
  go Reads = refl
  go Materializes = refl
  go Finalizes = refl

-- The row that its cells make.
module _ (k : ℕ) (c : Cells) (e : c ≡ cells_of (row_of k)) where
  row_with : (i : Option CodeIndexField) → i ≡ index_from c.2 c.3
      → ◌≡◌ {A = CodeRow} (record { fixed = c.0; tail = c.1; index = i }) (layout (row_of k))
  row_with i g =
      let f : i ≡ index_layout (row_of k).index = g ∙ ap (λ (x : Cells). index_from x.2 x.3) e ∙ index_cells (row_of k).index in
      λ j. record { fixed = (e j).0; tail = (e j).1; index = f j }

  pub row_without : (i : Option CodeIndexField) → c.2 ≡ None → i ≡ None
      → ◌≡◌ {A = CodeRow} (record { fixed = c.0; tail = c.1; index = i }) (layout (row_of k))
  unfolding index_from
  row_without i n g = row_with i (rw n g)

  pub row_indexed : (i : Option CodeIndexField) (place : ℕ) → c.2 ≡ Some place → i ≡ Some (record { place = place; last = 4294967295 - c.3 })
      → ◌≡◌ {A = CodeRow} (record { fixed = c.0; tail = c.1; index = i }) (layout (row_of k))
  unfolding index_from
  row_indexed i place n g = row_with i (rw n g)

pub code_cells : (rows : List Cells) → rows ≡ map cells_of table → (d : Cells) (n k : ℕ) → n ≡ k → k < 16 → get_or rows n d ≡ cells_of (row_of k)
unfolding table row_of
code_cells rows e d n k m h = rw (e, m) (get_d_map_lt cells_of table k no_row d h)

-- The greatest place of a row's index, which is among its fixed words.
unfoldable pub place_of : Maybe IndexField → ℕ
place_of none = 0
place_of (some f) = f.place

-- What a form reads among the fixed words: a set is two of them, a count is one.
unfoldable pub holds_tail : Tail → ℕ → Bool
holds_tail alone fixed = true
holds_tail (by_set each) fixed = leb set_width fixed
holds_tail (by_count place most each) fixed = leb place fixed
holds_tail absent fixed = true

pub record Bounds (r : Row) : Type 0 where
  pub fixed_pos : 0 < r.fixed
  pub longest_le : longest_of r ≤ longest_count
  pub tail_held : holds_tail r.tail r.fixed ≡ true
  pub place_le : place_of r.index ≤ r.fixed

within : Row → Bool
within r =
    ltb 0 r.fixed
    && leb (longest_of r) longest_count
    && holds_tail r.tail r.fixed
    && leb (place_of r.index) r.fixed

rows_within : (k : ℕ) → within (row_of k) ≡ true
unfolding every within row_of table no_row row at place_of holds_tail longest_of longest_tail
rows_within k = every_get_d within table no_row refl refl k

within_bounds : (r : Row) → within r ≡ true → Bounds r
unfolding within
within_bounds r e =
    let parts = and_four (ltb 0 r.fixed) (leb (longest_of r) longest_count) (holds_tail r.tail r.fixed) (leb (place_of r.index) r.fixed) e in
    record {
      fixed_pos = ltb-true 0 r.fixed parts.0;
      longest_le = leb-true (longest_of r) longest_count parts.1;
      tail_held = parts.2;
      place_le = leb-true (place_of r.index) r.fixed parts.3;
    }

pub row_bounds : (k : ℕ) → Bounds (row_of k)
row_bounds k = within_bounds (row_of k) (rows_within k)

-- The largest count of the table is the one that has the name.
unfoldable pub longest_in : List Row → ℕ
longest_in [] = 0
longest_in (r ∷ rs) = max (longest_of r) (longest_in rs)

pub longest_count_lem : longest_in table ≡ longest_count
unfolding longest_in table row longest_of longest_tail
longest_count_lem = refl
