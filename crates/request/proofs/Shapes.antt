-- The shape of a request: refusal 2, from the tests that the code makes on its head and its row.
use mathlib.Core.Path.{◌≡◌, refl, sym, ap, ◌∙◌}
use mathlib.Core.Bool.{Bool, false}
use mathlib.Core.List.{List}
use Prim.Native.Nat.{ℕ, ◌+◌, ◌-◌, ◌*◌, ◌^◌, ◌≤◌, ◌<◌}
use native.Mathlib.Nat.{add-zero}
use native.Mathlib.Omega.{arith}
use lib.Dec.{eqb}
use lib.ListN.{length, get_or}
use borrow.Author.Tests.{le-leb, lt-leb, lt-ltb, le-ltb, eq-eqb, ne_eqb}
use Rattle.types.specs.Response.{most_tags, kind_in, count_in}
use Rattle.request.specs.Table.{Kind, number_of, kind_of, alone, by_set, by_count, absent, row_of, longest_of, longest_count}
use Rattle.request.specs.Set.{tags_of}
use Rattle.request.specs.Request.{row_at, count_of, tags_at, tail_ok, tail_length, count_ok, shape_ok}
use Rattle.request.specs.Rows.{tail_layout, layout}
use Rattle.request.specs.Fields.{kind_at, head_at, set_of}
use Rattle.request.specs.declared.set.Set.{Set}
use Rattle.request.specs.declared.head.Head.{Head}
use Rattle.request.specs.declared.table.Row.{Row as CodeRow}
use Rattle.request.proofs.SetTags.{tags_length_le}
use Rattle.request.proofs.TableRule.{Bounds, row_bounds}
use Rattle.request.specs.declared.table.Tail.TheVariants.{Alone, BySet, ByCount, Absent}
use Rattle.request.proofs.KindNumbers.{number_back}
use Rattle.request.proofs.TableTails.{alone_told, set_told, counted_told, absent_told, set_held, counter_held, set_longest, counted_longest}

-- Four bits hold a kind.
pub kind_lt : (w kind : ℕ) → w < 2 ^ 32 → kind ≡ kind_in w → kind < 16
kind_lt w kind h e = omega arith

pub kind_few : (t : List ℕ) → get_or t 0 0 < 2 ^ 32 → kind_at t < 16
unfolding kind_at
kind_few t h = kind_lt (get_or t 0 0) (kind_in (get_or t 0 0)) h refl

pub row_at_bounds : (t : List ℕ) → Bounds (row_at t)
unfolding row_at
row_at_bounds t = row_bounds (kind_in (get_or t 0 0))

pub head_is : (t : List ℕ) → kind_at t < 16 → (kind : Kind) (count : ℕ) (row : CodeRow) → kind ≡ kind_of (kind_in (get_or t 0 0)) → count ≡ count_in (get_or t 0 0) → row ≡ layout (row_of (number_of kind))
    → ◌≡◌ {A = Head} (record { kind = kind; count = count; row = row }) (head_at t)
unfolding head_at kind_at count_of row_at
head_is t few kind count row k c r =
    let n : number_of kind ≡ kind_in (get_or t 0 0) = ap number_of k ∙ number_back (kind_at t) few in
    let q : row ≡ layout (row_of (kind_in (get_or t 0 0))) = r ∙ ap (λ (m : ℕ). layout (row_of m)) n in
    λ i. record { kind = k i; count = c i; row = q i }

pub shape_empty : (t : List ℕ) → length t ≤ 0 → false ≡ shape_ok t
unfolding shape_ok
shape_empty t h = rw (le-ltb (row_at t).fixed (length t) (omega arith)) refl

-- ---- a row

module _ (t : List ℕ) (row : CodeRow) (e : row ≡ layout (row_at t)) where
  fixed_is : row.fixed ≡ (row_at t).fixed
  fixed_is = ap (λ (r : CodeRow). r.fixed) e

  tail_is : row.tail ≡ tail_layout (row_at t).tail
  tail_is = ap (λ (r : CodeRow). r.tail) e

  pub fixed_few : row.fixed ≤ longest_count
  unfolding longest_of
  fixed_few = omega (arith, fixed_is, (row_at_bounds t).longest_le)

  module _ (each : ℕ) (by-set : row.tail ≡ BySet each) where
    is_set : (row_at t).tail ≡ by_set each
    is_set = set_told (row_at t).tail each (sym tail_is ∙ by-set)

    pub set_inside : 2 ≤ row.fixed
    set_inside = omega (arith, fixed_is, set_held each (row_at t).fixed (rw is_set at (row_at_bounds t).tail_held))

  module _ (place most each : ℕ) (by-count : row.tail ≡ ByCount place most each) where
    is_counted : (row_at t).tail ≡ by_count place most each
    is_counted = counted_told (row_at t).tail place most each (sym tail_is ∙ by-count)

    pub counter_le : place ≤ row.fixed
    counter_le = omega (arith, fixed_is, counter_held place most each (row_at t).fixed (rw is_counted at (row_at_bounds t).tail_held))

  module _ (whole : (row_at t).fixed < length t) where
    pub fixed_inside : row.fixed < length t
    fixed_inside = omega (arith, fixed_is)

    pub counter_inside : (place most each : ℕ) → row.tail ≡ ByCount place most each → place < length t
    counter_inside place most each f = omega (arith, counter_le place most each f, fixed_inside)

-- ---- a head

module _ (t : List ℕ) (head : Head) (e : head ≡ head_at t) where
  kind_is : head.kind ≡ kind_of (kind_at t)
  unfolding head_at
  kind_is = ap (λ (h : Head). h.kind) e

  pub kind_of_lem : kind_at t < 16 → number_of head.kind ≡ kind_at t
  kind_of_lem h = ap number_of kind_is ∙ number_back (kind_at t) h

  count_is : head.count ≡ count_of t
  unfolding head_at
  count_is = ap (λ (h : Head). h.count) e

  pub row_of_lem : head.row ≡ layout (row_at t)
  unfolding head_at
  row_of_lem = ap (λ (h : Head). h.row) e

  pub count_lt : head.count < 2 ^ 28
  unfolding count_of
  count_lt = omega (arith, count_is)

  -- the words that the head counts, by the tail
  pub counts_alone : head.row.tail ≡ Alone → eqb head.count head.row.fixed ≡ count_ok (row_at t).tail (row_at t).fixed t
  unfolding count_ok tail_ok tail_length
  counts_alone f =
      let is : (row_at t).tail ≡ alone = alone_told (row_at t).tail (sym (tail_is t head.row row_of_lem) ∙ f) in
      rw (count_is, fixed_is t head.row row_of_lem, is, add-zero) refl

  module _ (each : ℕ) (by-set : head.row.tail ≡ BySet each) (set : Set) (n : ℕ) (l : n ≡ length (tags_of set.low set.high)) where
    is_tail : (row_at t).tail ≡ by_set each
    is_tail = is_set t head.row row_of_lem each by-set

    -- of any set
    pub set_fits : head.row.fixed + each * n ≤ longest_count
    unfolding longest_of
    set_fits =
        let few : n ≤ most_tags = rw l (tags_length_le set.low set.high) in
        let longest = rw is_tail at (row_at_bounds t).longest_le in
        omega (arith, fixed_is t head.row row_of_lem, set_longest each n few, longest)

    module _ (s : set ≡ set_of (get_or t (head.row.fixed - 1) 0) (get_or t head.row.fixed 0)) where
      tags_are : n ≡ length (tags_at (row_at t).fixed t)
      unfolding tags_at
      tags_are =
          l ∙ ap (λ (x : Set). length (tags_of x.low x.high)) s ∙ rw (fixed_is t head.row row_of_lem) refl

      pub counts_set : eqb head.count (head.row.fixed + each * n) ≡ count_ok (row_at t).tail (row_at t).fixed t
      unfolding count_ok tail_ok tail_length
      counts_set = rw (count_is, fixed_is t head.row row_of_lem, is_tail, tags_are) refl

  module _ (place most each : ℕ) (by-count : head.row.tail ≡ ByCount place most each) where
    counted_tail : (row_at t).tail ≡ by_count place most each
    counted_tail = is_counted t head.row row_of_lem place most each by-count

    pub counts_over : most < get_or t place 0 → false ≡ count_ok (row_at t).tail (row_at t).fixed t
    unfolding count_ok tail_ok
    counts_over o = rw (counted_tail, lt-leb (get_or t place 0) most o) refl

    module _ (few : get_or t place 0 ≤ most) where
      pub counted_fits : head.row.fixed + each * get_or t place 0 ≤ longest_count
      unfolding longest_of
      counted_fits =
          let longest = rw counted_tail at (row_at_bounds t).longest_le in
          omega (arith, fixed_is t head.row row_of_lem, counted_longest place most each (get_or t place 0) few, longest)

      pub counts_counted : eqb head.count (head.row.fixed + each * get_or t place 0) ≡ count_ok (row_at t).tail (row_at t).fixed t
      unfolding count_ok tail_ok tail_length
      counts_counted =
          rw (count_is, fixed_is t head.row row_of_lem, counted_tail, le-leb (get_or t place 0) most few) refl

  pub counts_absent : head.row.tail ≡ Absent → false ≡ count_ok (row_at t).tail (row_at t).fixed t
  unfolding count_ok tail_ok
  counts_absent f =
      let is : (row_at t).tail ≡ absent = absent_told (row_at t).tail (sym (tail_is t head.row row_of_lem) ∙ f) in
      rw is refl

  -- ---- the whole test

  pub shape_short : length t ≤ head.row.fixed → false ≡ shape_ok t
  unfolding shape_ok
  shape_short h = rw (le-ltb (row_at t).fixed (length t) (omega (arith, fixed_is t head.row row_of_lem))) refl

  module _ (long : head.row.fixed < length t) where
    pub whole : (row_at t).fixed < length t
    whole = omega (arith, fixed_is t head.row row_of_lem)

    pub shape_count : (length t ≡ head.count + 1 → ⊥) → false ≡ shape_ok t
    unfolding shape_ok
    shape_count h =
        rw (lt-ltb (row_at t).fixed (length t) whole, ne_eqb (length t) (count_of t + 1) (λ f. h (f ∙ ap (λ (n : ℕ). n + 1) (sym count_is)))) refl

    pub shape_counted : length t ≡ head.count + 1 → (b : Bool) → b ≡ count_ok (row_at t).tail (row_at t).fixed t → b ≡ shape_ok t
    unfolding shape_ok
    shape_counted h b o =
        rw (lt-ltb (row_at t).fixed (length t) whole, eq-eqb (length t) (count_of t + 1) (h ∙ ap (λ (m : ℕ). m + 1) count_is)) o
