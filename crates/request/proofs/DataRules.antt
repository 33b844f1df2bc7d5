-- The refusal of a request of kinds 1 to 7, from the tests that the code makes on its length, its count, its fields and its index.
use mathlib.Core.Path.{◌≡◌, refl, sym, ap, ◌∙◌}
use mathlib.Core.Bool.{Bool, true, false, cond, ◌&&◌}
use mathlib.Core.List.{List}
use Prim.Native.Nat.{ℕ, zero, suc, ◌+◌, ◌-◌, ◌/◌, ◌%◌, ◌^◌, ◌≤◌, ◌<◌}
use native.Mathlib.Nat.{add-zero}
use native.Mathlib.Omega.{arith}
use lib.Dec.{eqb, leb, ltb}
use lib.ListN.{length, get_or, take, drop}
use lib.Seq.{get_or-take, get_or-drop}
use borrow.Author.Tests.{lt-ltb, eq-eqb, ne_eqb, eqb-true}
use Rattle.lists.proofs.Bools.{and_three}
use Rattle.types.specs.Value.{value_width, value_at, value_ok, is_exchanged}
use Rattle.types.specs.Response.{count_in}
use Rattle.types.specs.Refusal.{wrong_count, bad_field, index_too_high}
use Rattle.request.specs.Table.{Kind, number_of, LastCommitted, Base, Write, AddDelta, Estimate, Remove, Fetch, Materialize, GroupBase, Exchange, GroupWrite, GroupEstimate, GroupRemove, GroupFetch, GroupSize, Finalize, alone, row, at, table, row_of, index_place}
use Rattle.request.specs.Request.{row_at, count_of, tail_length, tail_ok, count_ok, shape_ok, exchanged_ok, fields_ok, last_index, index_in, index_ok, refusal_of}
use Rattle.request.specs.Rows.{added_to, cells_of}
use Rattle.request.specs.Fields.{kind_at, asked_by, RoomIn, rule_in}
use Rattle.request.specs.declared.table.Cells.{Cells}
use Rattle.request.proofs.KindNumbers.{row_named}
use Rattle.request.proofs.CheckAnswers.{shape_length}
use Rattle.request.proofs.AskedRules.{room_alone, kind_rule}

-- ---- the rows of the data kinds

-- What holds of each of the seven numbers.
pub each_data : (P : ℕ → Type 0) → P 1 → P 2 → P 3 → P 4 → P 5 → P 6 → P 7 → (k : ℕ) → 1 ≤ k → k ≤ 7 → P k
each_data P a b c d e f g zero low high = absurd (omega arith)
each_data P a b c d e f g (suc zero) low high = a
each_data P a b c d e f g (suc (suc zero)) low high = b
each_data P a b c d e f g (suc (suc (suc zero))) low high = c
each_data P a b c d e f g (suc (suc (suc (suc zero)))) low high = d
each_data P a b c d e f g (suc (suc (suc (suc (suc zero))))) low high = e
each_data P a b c d e f g (suc (suc (suc (suc (suc (suc zero)))))) low high = f
each_data P a b c d e f g (suc (suc (suc (suc (suc (suc (suc zero))))))) low high = g
each_data P a b c d e f g (suc (suc (suc (suc (suc (suc (suc (suc k)))))))) low high = absurd (omega arith)

pub data_alone : (k : ℕ) → 1 ≤ k → k ≤ 7 → (row_of k).tail ≡ alone
unfolding row_of table row
data_alone = each_data (λ k. (row_of k).tail ≡ alone) refl refl refl refl refl refl refl

-- A key and one word more, at the least.
pub data_fixed : (k : ℕ) → 1 ≤ k → k ≤ 7 → 2 ≤ (row_of k).fixed
unfolding row_of table row
data_fixed =
    each_data (λ k. 2 ≤ (row_of k).fixed) (omega arith) (omega arith) (omega arith) (omega arith) (omega arith) (omega arith) (omega arith)

index_bound_lem : (t : List ℕ) (k : ℕ) → 1 ≤ k → k ≤ 7 → 1 < k
    → leb (get_or t index_place 0) (4294967295 - added_to (row_of k).index) ≡ index_in (row_of k).index t
unfolding row_of table row at added_to last_index index_in
index_bound_lem t =
    each_data (λ k. 1 < k → leb (get_or t index_place 0) (4294967295 - added_to (row_of k).index) ≡ index_in (row_of k).index t) (λ h. absurd (omega arith)) (λ h. refl)
    (λ h. refl) (λ h. refl) (λ h. refl) (λ h. refl) (λ h. refl)

no_index : (t : List ℕ) (k : ℕ) → k ≡ 1 → index_in (row_of k).index t ≡ true
unfolding row_of table row index_in
no_index t k e = rw e refl

-- The first of them has no index.
pub not_first : (k : Kind) → 1 ≤ number_of k → (k ≡ Base → ⊥) → 1 < number_of k
not_first LastCommitted low a = absurd (omega arith)
not_first Base low a = absurd (a refl)
not_first Write low a = omega arith
not_first AddDelta low a = omega arith
not_first Estimate low a = omega arith
not_first Remove low a = omega arith
not_first Fetch low a = omega arith
not_first Materialize low a = omega arith
not_first GroupBase low a = omega arith
not_first Exchange low a = omega arith
not_first GroupWrite low a = omega arith
not_first GroupEstimate low a = omega arith
not_first GroupRemove low a = omega arith
not_first GroupFetch low a = omega arith
not_first GroupSize low a = omega arith
not_first Finalize low a = omega arith

-- ---- the fields

and-true : (b : Bool) → b ≡ (b && true)
and-true true = refl
and-true false = refl

and-false : (b : Bool) → false ≡ (b && false)
and-false true = refl
and-false false = refl

-- The bit of the value at a place, from its head.
head_at_lem : (t : List ℕ) (place : ℕ) → get_or (take value_width (drop place t)) 0 0 ≡ get_or t place 0
head_at_lem t place =
    get_or-take value_width (drop place t) 0 0 (omega arith) ∙ get_or-drop place t 0 0 ∙ ap (λ (n : ℕ). get_or t n 0) (add-zero place)

exchanged_at : (t : List ℕ) (place : ℕ) → is_exchanged (value_at place t) ≡ eqb (get_or t place 0 / 2 ^ 29 % 2) 1
unfolding is_exchanged value_at
exchanged_at t place = ap (λ (x : ℕ). eqb (x / 2 ^ 29 % 2) 1) (head_at_lem t place)

pub data_raw : (t : List ℕ) (place : ℕ) → (get_or t place 0 / 2 ^ 29 % 2 ≡ 1 → ⊥) → false ≡ exchanged_ok (value_at place t)
unfolding exchanged_ok
data_raw t place h = rw (exchanged_at t place, ne_eqb (get_or t place 0 / 2 ^ 29 % 2) 1 h) (and-false (value_ok (value_at place t)))

pub data_exchanged : (t : List ℕ) (place : ℕ) → get_or t place 0 / 2 ^ 29 % 2 ≡ 1 → (b : Bool) → b ≡ value_ok (value_at place t) → b ≡ exchanged_ok (value_at place t)
unfolding exchanged_ok
data_exchanged t place h b o =
    rw (exchanged_at t place, eq-eqb (get_or t place 0 / 2 ^ 29 % 2) 1 h) (o ∙ and-true (value_ok (value_at place t)))

-- ---- the whole

refused_shape : (t : List ℕ) → shape_ok t ≡ false → wrong_count ≡ refusal_of t
unfolding refusal_of
refused_shape t e = rw e refl

module _ (t : List ℕ) (k : Kind) (e : number_of k ≡ kind_at t) (low : 1 ≤ number_of k) (high : number_of k ≤ 7) where
  row_is : row_at t ≡ row_of (number_of k)
  row_is = row_named t (number_of k) e (number_of k) refl

  tail_is : (row_at t).tail ≡ alone
  tail_is = rw row_is (data_alone (number_of k) low high)

  -- What a request of the right shape counts, and has.
  counts : shape_ok t ≡ true → (length t ≡ (row_at t).fixed + 1) × (count_of t ≡ (row_at t).fixed)
  unfolding shape_ok tail_length
  counts s =
      let whole : length t ≡ (row_at t).fixed + 1 = rw (tail_is, add-zero) at (shape_length t s) in
      let parts = and_three (ltb (row_at t).fixed (length t)) (eqb (length t) (count_of t + 1)) (count_ok (row_at t).tail (row_at t).fixed t) s in
      (whole, omega (arith, eqb-true (length t) (count_of t + 1) parts.1))

  module _ (c : Cells) (l : c ≡ cells_of (row_of (number_of k))) where
    fixed_is : c.0 ≡ (row_at t).fixed
    fixed_is = rw row_is (ap (λ (x : Cells). x.0) l)

    added_is : c.3 ≡ added_to (row_of (number_of k)).index
    added_is = ap (λ (x : Cells). x.3) l

    pub refused_length : (length t ≡ c.0 + 1 → ⊥) → wrong_count ≡ refusal_of t
    refused_length h = refused_shape t (go (shape_ok t) refl)
      where
        go : (b : Bool) → shape_ok t ≡ b → b ≡ false
        go false s = refl
        go true s = absurd (h (rw fixed_is (counts s).0))

    pub index_inside : c.0 < length t → index_place < length t
    index_inside h = let a : 2 ≤ (row_at t).fixed = rw row_is (data_fixed (number_of k) low high) in omega (arith, fixed_is)

    pub data_room : c.0 < length t → RoomIn t (asked_by k t)
    data_room h = room_alone t k (data_alone (number_of k) low high) (omega (arith, ap (λ (x : Cells). x.0) l))

    module _ (n : ℕ) (m : n ≡ count_in (get_or t 0 0)) where
      count_is : n ≡ count_of t
      unfolding count_of
      count_is = m

      pub refused_count : (n ≡ c.0 → ⊥) → wrong_count ≡ refusal_of t
      refused_count h = refused_shape t (go (shape_ok t) refl)
        where
          go : (b : Bool) → shape_ok t ≡ b → b ≡ false
          go false s = refl
          go true s = absurd (h (rw fixed_is (count_is ∙ (counts s).1)))

      module _ (long : length t ≡ c.0 + 1) (f : n ≡ c.0) where
        data_shape : shape_ok t ≡ true
        unfolding shape_ok count_ok tail_ok tail_length
        data_shape =
            let m : count_of t ≡ (row_at t).fixed = sym count_is ∙ f ∙ fixed_is in
            let a : (row_at t).fixed < length t = omega (arith, fixed_is) in
            let b : length t ≡ count_of t + 1 = omega (arith, fixed_is) in
            rw (tail_is, lt-ltb (row_at t).fixed (length t) a, eq-eqb (length t) (count_of t + 1) b, eq-eqb (count_of t) ((row_at t).fixed + 0) (omega arith)) refl

        module _ (b : Bool) (o : b ≡ rule_in t (asked_by k t)) where
          g : b ≡ fields_ok (row_at t).kind t
          g = kind_rule t data_shape k e b o

          pub refused_field : b ≡ false → bad_field ≡ refusal_of t
          unfolding refusal_of
          refused_field h = rw (data_shape, sym g ∙ h) refl

          pub none_refused : b ≡ true → k ≡ Base → 0 ≡ refusal_of t
          unfolding refusal_of index_ok
          none_refused h base = rw (data_shape, sym g ∙ h, row_is, no_index t (number_of k) (ap number_of base)) refl

          pub refused_index : (x : ℕ) → x ≡ cond (leb (get_or t index_place 0) (4294967295 - c.3)) 0 index_too_high → b ≡ true → 1 < number_of k → x ≡ refusal_of t
          unfolding refusal_of index_ok
          refused_index x y h more =
              let i : x ≡ cond (index_in (row_of (number_of k)).index t) 0 index_too_high = y ∙ rw (added_is, index_bound_lem t (number_of k) low high more) refl in
              rw (data_shape, sym g ∙ h, row_is) i
