-- What a caller knows of a request of kinds 1 to 7 that is not refused: its length, its index, its delta, and what it asks by the places of its words.
use mathlib.Core.Path.{◌≡◌, refl, sym, ap, ◌∙◌}
use mathlib.Core.Bool.{true}
use mathlib.Core.List.{List}
use Prim.Native.Nat.{ℕ, ◌+◌, ◌≤◌, ◌<◌}
use native.Mathlib.Nat.{add-zero}
use native.Mathlib.Omega.{arith}
use lib.ListN.{length, get_or, take, drop, length-drop}
use lib.Seq.{take_all}
use lib.Dec.{leb}
use borrow.Author.Tests.{leb-true}
use Rattle.delta.specs.Delta.{delta_width, delta_at, delta_ok}
use Rattle.types.specs.Value.{value_width, value_at}
use Rattle.request.specs.Table.{row, at, table, row_of, key_place, index_place, incarnation_place}
use Rattle.request.specs.Request.{row_at, value_in, delta_in, tail_length, last_index, index_in, index_ok, fields_ok, refusal_of, base, write, add_delta, estimate, remove, fetch, materialize, request_as, request_of}
use Rattle.request.specs.Fields.{kind_at, asked_at}
use Rattle.request.specs.Checked.{check_of}
use Rattle.request.proofs.KindNumbers.{row_named}
use Rattle.request.proofs.CheckAnswers.{Passed, shape_length, accepted_passed}
use Rattle.request.proofs.DataRules.{each_data, data_alone}

index_le : (t : List ℕ) (k : ℕ) → 1 ≤ k → k ≤ 7 → 1 < k → index_in (row_of k).index t ≡ true → get_or t index_place 0 ≤ 4294967294
unfolding row_of table row at index_in last_index
index_le t =
    each_data (λ k. 1 < k → index_in (row_of k).index t ≡ true → get_or t index_place 0 ≤ 4294967294) (λ h e. absurd (omega arith)) (λ h. low) (λ h. low)
    (λ h. low) (λ h. low) (λ h. low) (λ h e. omega (arith, leb-true (get_or t index_place 0) 4294967293 e))
  where
    low : leb (get_or t index_place 0) 4294967294 ≡ true → get_or t index_place 0 ≤ 4294967294
    low e = leb-true (get_or t index_place 0) 4294967294 e

plain_fixed : (k : ℕ) → 1 ≤ k → k ≤ 7 → 3 < k → (row_of k).fixed ≡ 2
unfolding row_of table row
plain_fixed =
    each_data (λ k. 3 < k → (row_of k).fixed ≡ 2) (λ h. absurd (omega arith)) (λ h. absurd (omega arith)) (λ h. absurd (omega arith)) (λ h. refl)
    (λ h. refl) (λ h. refl) (λ h. refl)

-- ---- what is asked, in words

module _ (t : List ℕ) where
  named : (n : ℕ) → kind_at t ≡ n → row_at t ≡ row_of n
  named n k = row_named t (kind_at t) refl n k

  place : (n : ℕ) → kind_at t ≡ n → (row_at t).value ≡ (row_of n).value
  place n k = rw (named n k) refl

  asked : (n : ℕ) → kind_at t ≡ n → request_of t ≡ request_as (row_of n).kind t
  unfolding request_of
  asked n k = rw (named n k) refl

  pub words_base : kind_at t ≡ 1 → request_of t ≡ base (get_or t key_place 0) (value_at 2 t)
  unfolding request_as value_in row_of table row
  words_base k = asked 1 k ∙ ap (λ (p : ℕ). base (get_or t key_place 0) (value_at p t)) (place 1 k)

  pub words_write : kind_at t ≡ 2 → request_of t ≡ write (get_or t key_place 0) (get_or t index_place 0) (get_or t incarnation_place 0) (value_at 4 t)
  unfolding request_as value_in row_of table row
  words_write k =
      asked 2 k ∙ ap (λ (p : ℕ). write (get_or t key_place 0) (get_or t index_place 0) (get_or t incarnation_place 0) (value_at p t)) (place 2 k)

  pub words_add_delta : kind_at t ≡ 3 → request_of t ≡ add_delta (get_or t key_place 0) (get_or t index_place 0) (delta_at (drop 3 t))
  unfolding request_as delta_in row_of table row
  words_add_delta k = asked 3 k ∙ ap (λ (p : ℕ). add_delta (get_or t key_place 0) (get_or t index_place 0) (delta_at (drop p t))) (place 3 k)

  pub words_estimate : kind_at t ≡ 4 → request_of t ≡ estimate (get_or t key_place 0) (get_or t index_place 0)
  unfolding request_as row_of table row
  words_estimate k = asked 4 k

  pub words_remove : kind_at t ≡ 5 → request_of t ≡ remove (get_or t key_place 0) (get_or t index_place 0)
  unfolding request_as row_of table row
  words_remove k = asked 5 k

  pub words_fetch : kind_at t ≡ 6 → request_of t ≡ fetch (get_or t key_place 0) (get_or t index_place 0)
  unfolding request_as row_of table row
  words_fetch k = asked 6 k

  pub words_materialize : kind_at t ≡ 7 → request_of t ≡ materialize (get_or t key_place 0) (get_or t index_place 0)
  unfolding request_as row_of table row
  words_materialize k = asked 7 k

-- ---- a request that is not refused

module _ (t : List ℕ) (z : refusal_of t ≡ 0) where
  passed : Passed t (asked_at t)
  unfolding check_of
  passed = accepted_passed t (asked_at t) (rw z refl)

  -- A request has its fixed words, and no more.
  pub data_length : (n : ℕ) → kind_at t ≡ n → 1 ≤ n → n ≤ 7 → length t ≡ (row_of n).fixed + 1
  unfolding tail_length
  data_length n k low high = rw (named t n k, data_alone n low high, add-zero) at (shape_length t passed.shape)

  pub base_length : kind_at t ≡ 1 → length t ≡ 2 + value_width
  unfolding row_of table row
  base_length k = data_length 1 k (omega arith) (omega arith)

  pub write_length : kind_at t ≡ 2 → length t ≡ 4 + value_width
  unfolding row_of table row
  write_length k = data_length 2 k (omega arith) (omega arith)

  pub delta_length : kind_at t ≡ 3 → length t ≡ 3 + delta_width
  unfolding row_of table row
  delta_length k = data_length 3 k (omega arith) (omega arith)

  -- Kinds 4 to 7.
  pub plain_length : 3 < kind_at t → kind_at t ≤ 7 → length t ≡ 3
  plain_length low high =
      omega (arith, data_length (kind_at t) refl (omega arith) high, plain_fixed (kind_at t) (omega arith) high low)

  served : (n : ℕ) → kind_at t ≡ n → index_in (row_of n).index t ≡ true
  unfolding index_ok
  served n k = rw (named t n k) at passed.served

  -- The index of kinds 2 to 7 can be shifted, that of kind 7 twice.
  pub data_served : 1 < kind_at t → kind_at t ≤ 7 → get_or t index_place 0 ≤ 4294967294
  data_served low high = index_le t (kind_at t) (omega arith) high low (served (kind_at t) refl)

  pub materialize_served : kind_at t ≡ 7 → get_or t index_place 0 ≤ 4294967293
  unfolding row_of table row at index_in last_index
  materialize_served k = leb-true (get_or t index_place 0) 4294967293 (served 7 k)

  -- A delta is all that follows the index.
  pub delta_words_lem : kind_at t ≡ 3 → take delta_width (drop 3 t) ≡ drop 3 t
  delta_words_lem k = take_all delta_width (drop 3 t) (omega (arith, length-drop 3 t, delta_length k))

  pub delta_ok_lem : kind_at t ≡ 3 → delta_ok (take delta_width (drop 3 t)) ≡ true
  unfolding row_of table row fields_ok delta_in
  delta_ok_lem k =
      let rule : fields_ok (row_of 3).kind t ≡ true = rw (named t 3 k) at passed.rules in
      ap delta_ok (delta_words_lem k) ∙ ap (λ (p : ℕ). delta_ok (drop p t)) (sym (place t 3 k)) ∙ rule
