-- A request for the data store that 1 to 4 do not refuse: the work that it asks for and the words that it has, kind by kind.
-- Assumes nothing.
use mathlib.Core.Path.{◌≡◌, sym, ap, ◌∙◌}
use mathlib.Core.Bool.{Bool, true, ◌&&◌}
use mathlib.Core.List.{List}
use Prim.Native.Nat.{ℕ, zero, suc, ◌+◌, ◌≤◌, ◌<◌}
use native.Mathlib.Omega.{arith}
use lib.Dec.{eqb}
use lib.ListN.{length, get_or, take, drop}
use Rattle.lists.specs.Lists.{every}
use Rattle.lists.proofs.Bools.{and_left, and_right}
use Rattle.delta.specs.Delta.{delta_width, delta_at, delta_ok}
use Rattle.types.specs.Index.{index_bound, materialize_bound}
use Rattle.types.specs.Value.{value_at, value_width, value_ok, is_exchanged}
use Rattle.request.specs.Table.{key_place, index_place, incarnation_place}
use Rattle.request.specs.Request.{request_of}
use Rattle.request.proofs.DataFields as Fields
use Rattle.model.specs.Data as Rule
use Rattle.model.specs.Model.{Work, read_data, edit_data, work_of}
use Rattle.model.specs.Fine.{is_word, fine_value, fine_request}
use Rattle.model.proofs.FineRequests.{request_of_fine}
use Rattle.mvhashmap.specs.Served.{DataAsked}

-- The work that a request asks for. Its fields are fine.
pub record Asks (t : List ℕ) (w : Work) : Type 0 where
  pub work : work_of (request_of t) ≡ w
  pub fine : fine_request (request_of t) ≡ true

-- ---- the data store's kinds: the fields are words of the request

module _ (t : List ℕ) where
  asks_data : (n : ℕ) → DataAsked t n → (w : Work) → work_of (request_of t) ≡ w → Asks t w
  asks_data n a w e = record { work = e; fine = request_of_fine t a.words a.passed }

  -- The words of each kind.
  pub base_inside : DataAsked t 1 → 2 + value_width ≤ length t
  base_inside a = omega (arith, Fields.base_length t a.passed a.kind)

  pub write_inside : DataAsked t 2 → 4 + value_width ≤ length t
  write_inside a = omega (arith, Fields.write_length t a.passed a.kind)

  pub delta_inside : DataAsked t 3 → 3 + delta_width ≤ length t
  delta_inside a = omega (arith, Fields.delta_length t a.passed a.kind)

  plain_inside : (n : ℕ) → DataAsked t n → 3 < n → n ≤ 7 → length t ≡ 3
  plain_inside n a low high = Fields.plain_length t a.passed (omega (arith, a.kind)) (omega (arith, a.kind))

  -- A key and an index, or a key and a value.
  pub words_inside : (n : ℕ) → DataAsked t n → 1 ≤ n → n ≤ 7 → 3 ≤ length t
  words_inside zero a low high = absurd (omega arith)
  words_inside (suc zero) a low high = omega (arith, base_inside a)
  words_inside (suc (suc zero)) a low high = omega (arith, write_inside a)
  words_inside (suc (suc (suc zero))) a low high = omega (arith, delta_inside a)
  words_inside (suc (suc (suc (suc n)))) a low high = omega (arith, plain_inside (suc (suc (suc (suc n)))) a (omega arith) high)

  pub data_served : (n : ℕ) → DataAsked t n → 1 < n → n ≤ 7 → get_or t index_place 0 < index_bound
  data_served n a low high = omega (arith, Fields.data_served t a.passed (omega (arith, a.kind)) (omega (arith, a.kind)))

  pub materialize_served : DataAsked t 7 → get_or t index_place 0 < materialize_bound
  materialize_served a = omega (arith, Fields.materialize_served t a.passed a.kind)

  pub delta_ok_lem : DataAsked t 3 → delta_ok (take delta_width (drop 3 t)) ≡ true
  delta_ok_lem a = Fields.delta_ok_lem t a.passed a.kind

  -- The value of a base and of a write.
  base_fine : DataAsked t 1 → (is_word (get_or t key_place 0) && fine_value (value_at 2 t)) ≡ true
  unfolding fine_request
  base_fine a = ap fine_request (sym (Fields.words_base t a.kind)) ∙ request_of_fine t a.words a.passed

  write_fine : DataAsked t 2 →
      (is_word (get_or t key_place 0) && is_word (suc (get_or t index_place 0)) && is_word (get_or t incarnation_place 0) && fine_value (value_at 4 t) && is_exchanged (value_at 4 t)) ≡ true
  unfolding fine_request
  write_fine a = ap fine_request (sym (Fields.words_write t a.kind)) ∙ request_of_fine t a.words a.passed

  value_fine : (v : List ℕ) → fine_value v ≡ true → value_ok v ≡ true
  unfolding fine_value
  value_fine v h = and_right (eqb (length v) value_width && every is_word v) (value_ok v) h

  pub base_ok : DataAsked t 1 → value_ok (value_at 2 t) ≡ true
  base_ok a = value_fine (value_at 2 t) (and_right (is_word (get_or t key_place 0)) (fine_value (value_at 2 t)) (base_fine a))

  pub write_ok_lem : DataAsked t 2 → (value_ok (value_at 4 t) ≡ true) × (is_exchanged (value_at 4 t) ≡ true)
  write_ok_lem a =
      let words : Bool = is_word (get_or t key_place 0) && is_word (suc (get_or t index_place 0)) && is_word (get_or t incarnation_place 0) in
      let h : (words && fine_value (value_at 4 t)) ≡ true = and_left (words && fine_value (value_at 4 t)) (is_exchanged (value_at 4 t)) (write_fine a) in
      (value_fine (value_at 4 t) (and_right words (fine_value (value_at 4 t)) h), and_right (words && fine_value (value_at 4 t)) (is_exchanged (value_at 4 t)) (write_fine a))

  -- The work of each kind.
  pub asks_base : DataAsked t 1 → Asks t (edit_data (get_or t key_place 0) 0 0 (λ own seen. Rule.set_base_value (value_at 2 t) own))
  unfolding work_of
  asks_base a = asks_data 1 a _ (ap work_of (Fields.words_base t a.kind))

  pub asks_write : DataAsked t 2 → Asks t (edit_data (get_or t key_place 0) (suc (get_or t index_place 0)) 0 (λ own seen. Rule.write_value (get_or t incarnation_place 0) (value_at 4 t) own))
  unfolding work_of
  asks_write a = asks_data 2 a _ (ap work_of (Fields.words_write t a.kind))

  pub asks_add_delta : DataAsked t 3 → Asks t (edit_data (get_or t key_place 0) (suc (get_or t index_place 0)) 0 (λ own seen. Rule.add_delta (delta_at (take delta_width (drop 3 t))) own))
  unfolding work_of
  asks_add_delta a = asks_data 3 a _ (rw (Fields.delta_words_lem t a.passed a.kind) (ap work_of (Fields.words_add_delta t a.kind)))

  pub asks_estimate : DataAsked t 4 → Asks t (edit_data (get_or t key_place 0) (suc (get_or t index_place 0)) 0 (λ own seen. Rule.mark_estimate own))
  unfolding work_of
  asks_estimate a = asks_data 4 a _ (ap work_of (Fields.words_estimate t a.kind))

  pub asks_remove : DataAsked t 5 → Asks t (edit_data (get_or t key_place 0) (suc (get_or t index_place 0)) 0 (λ own seen. Rule.remove own))
  unfolding work_of
  asks_remove a = asks_data 5 a _ (ap work_of (Fields.words_remove t a.kind))

  pub asks_fetch : DataAsked t 6 → Asks t (read_data (get_or t key_place 0) (get_or t index_place 0) Rule.fetch_data)
  unfolding work_of
  asks_fetch a = asks_data 6 a _ (ap work_of (Fields.words_fetch t a.kind))

  pub asks_materialize : DataAsked t 7 → Asks t (edit_data (get_or t key_place 0) (suc (get_or t index_place 0)) (suc (get_or t index_place 0)) Rule.materialize_delta)
  unfolding work_of
  asks_materialize a = asks_data 7 a _ (ap work_of (Fields.words_materialize t a.kind))
