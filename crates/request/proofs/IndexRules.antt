-- The index of a request: refusal 4, from the tests that the code makes.
use mathlib.Core.Path.{◌≡◌, refl, sym, ap, ◌∙◌}
use mathlib.Core.Bool.{true}
use mathlib.Core.List.{List}
use mathlib.Core.Option.{Option as Maybe}
use mathlib.Core.Option.{none, some}
use Rattle.std.specs.Prelude.{Some, None}
use Prim.Native.Nat.{ℕ, ◌≤◌, ◌<◌}
use native.Mathlib.Omega.{arith}
use lib.Dec.{leb}
use lib.ListN.{length, get_or}
use Rattle.request.specs.Table.{IndexField, longest_of, longest_count}
use Rattle.request.specs.Request.{row_at, last_index, index_in, index_ok}
use Rattle.request.specs.Rows.{index_layout, layout}
use Rattle.request.specs.declared.table.Row.{Row as CodeRow}
use Rattle.request.specs.declared.table.IndexField.{IndexField as CodeIndexField}
use Rattle.request.proofs.TableRule.{place_of}
use Rattle.request.proofs.Shapes.{row_at_bounds}

none_ok : (i : Maybe IndexField) (t : List ℕ) → index_layout i ≡ None → true ≡ index_in i t
unfolding index_layout index_in
none_ok none t e = refl
none_ok (some f) t e = absurd (let z : ◌≡◌ {A = ℕ} 0 1 = cc in omega arith)

some_is : (f : IndexField) (x : CodeIndexField) → index_layout (some f) ≡ Some x → ◌≡◌ {A = CodeIndexField} (record { place = f.place; last = last_index f.purpose }) x
unfolding index_layout
some_is f x e = cc

none_some : (x : CodeIndexField) → index_layout none ≡ Some x → ◌≡◌ {A = ℕ} 0 1
unfolding index_layout
none_some x e = cc

some_ok : (i : Maybe IndexField) (t : List ℕ) (x : CodeIndexField) → index_layout i ≡ Some x → leb (get_or t x.place 0) x.last ≡ index_in i t
unfolding index_in
some_ok none t x e = absurd (let z : ◌≡◌ {A = ℕ} 0 1 = none_some x e in omega arith)
some_ok (some f) t x e = sym (ap (λ (y : CodeIndexField). leb (get_or t y.place 0) y.last) (some_is f x e))

some_place : (i : Maybe IndexField) (x : CodeIndexField) → index_layout i ≡ Some x → place_of i ≡ x.place
unfolding place_of
some_place none x e = absurd (let z : ◌≡◌ {A = ℕ} 0 1 = none_some x e in omega arith)
some_place (some f) x e = ap (λ (y : CodeIndexField). y.place) (some_is f x e)

module _ (t : List ℕ) (row : CodeRow) (e : row ≡ layout (row_at t)) where
  layout_is : row.index ≡ index_layout (row_at t).index
  layout_is = ap (λ (r : CodeRow). r.index) e

  module _ (n : row.index ≡ None) where
    pub no_index : true ≡ index_ok t
    unfolding index_ok
    no_index = none_ok (row_at t).index t (sym layout_is ∙ n)

  module _ (x : CodeIndexField) (f : row.index ≡ Some x) where
    pub index_test : leb (get_or t x.place 0) x.last ≡ index_ok t
    unfolding index_ok
    index_test = some_ok (row_at t).index t x (sym layout_is ∙ f)

    place_le : x.place ≤ (row_at t).fixed
    place_le = omega (arith, some_place (row_at t).index x (sym layout_is ∙ f), (row_at_bounds t).place_le)

    pub index_few : x.place ≤ longest_count
    unfolding longest_of
    index_few = omega (arith, place_le, (row_at_bounds t).longest_le)

    pub index_inside : (row_at t).fixed < length t → x.place < length t
    index_inside h = omega (arith, place_le)
