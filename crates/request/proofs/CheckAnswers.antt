-- What the shape of a request says of its length, and what the whole check says to a caller.
use mathlib.Core.Path.{◌≡◌, refl, sym, ap, ◌∙◌}
use mathlib.Core.Bool.{Bool, true, false, cond}
use mathlib.Core.List.{List}
use Prim.Native.Nat.{ℕ, ◌+◌, ◌≤◌, ◌<◌}
use native.Mathlib.Omega.{arith}
use lib.Dec.{eqb, ltb}
use lib.ListN.{length}
use Rattle.std.specs.Prelude.{Ok, Err}
use borrow.Author.Tests.{ltb-true, eqb-true}
use Rattle.lists.proofs.Bools.{and_left, and_right, and_three}
use Rattle.types.specs.Refusal.{wrong_count, bad_field, index_too_high, refusal_number, result_number}
use Rattle.request.specs.Table.{longest_of, longest_count}
use Rattle.request.specs.Request.{row_at, count_of, tail_length, tail_ok, count_ok, shape_ok, fields_ok, index_ok, refusal_of}
use Rattle.request.specs.Fields.{kind_at, asked_at}
use Rattle.request.specs.Checked.{refusal_named, check_of}
use Rattle.request.specs.declared.asked.Request.{Request}
use Rattle.types.specs.declared.refusal.Refusal.{Refusal}
use Rattle.request.proofs.KindNumbers.{there_small}
use Rattle.request.proofs.Shapes.{row_at_bounds}
use Rattle.request.proofs.TableTails.{tail_length_le}

-- ---- lengths

module _ (t : List ℕ) (s : shape_ok t ≡ true) where
  parts : (ltb (row_at t).fixed (length t) ≡ true) × (eqb (length t) (count_of t + 1) ≡ true) × (count_ok (row_at t).tail (row_at t).fixed t ≡ true)
  unfolding shape_ok
  parts = and_three (ltb (row_at t).fixed (length t)) (eqb (length t) (count_of t + 1)) (count_ok (row_at t).tail (row_at t).fixed t) s

  pub shape_whole : (row_at t).fixed < length t
  shape_whole = ltb-true _ _ parts.0

  counted : count_of t ≡ (row_at t).fixed + tail_length (row_at t).tail (row_at t).fixed t
  unfolding count_ok
  counted = eqb-true _ _ (and_right (tail_ok (row_at t).tail t) _ parts.2)

  pub shape_length : length t ≡ (row_at t).fixed + tail_length (row_at t).tail (row_at t).fixed t + 1
  shape_length = eqb-true _ _ parts.1 ∙ ap (λ (n : ℕ). n + 1) counted

  -- No request of the right shape is of a kind that is absent.
  pub shape_small : kind_at t < 16
  unfolding count_ok row_at kind_at
  shape_small = there_small (kind_at t) t (and_left (tail_ok (row_at t).tail t) _ parts.2)

  -- No request of the right shape counts more words than the longest.
  pub shape_longest : count_of t ≤ longest_count
  unfolding count_ok longest_of
  shape_longest =
      let tail = tail_length_le (row_at t).fixed t (row_at t).tail (and_left (tail_ok (row_at t).tail t) _ parts.2) in
      omega (arith, counted, (row_at_bounds t).longest_le)

-- ---- what a caller of the check learns

pub record Passed (t : List ℕ) (f : Request) : Type 0 where
  pub refusal : refusal_of t ≡ 0
  pub shape : shape_ok t ≡ true
  pub rules : fields_ok (row_at t).kind t ≡ true
  pub served : index_ok t ≡ true
  pub asked : f ≡ asked_at t

refusal_by : Bool → Bool → Bool → ℕ
refusal_by a b c = cond a (cond b (cond c 0 index_too_high) bad_field) wrong_count

none_shape : (a b c : Bool) → refusal_by a b c ≡ 0 → a ≡ true
unfolding refusal_by
none_shape true b c e = refl
none_shape false b c e = absurd (omega arith)

none_fields : (a b c : Bool) → refusal_by a b c ≡ 0 → b ≡ true
unfolding refusal_by
none_fields a true c e = refl
none_fields true false c e = absurd (omega arith)
none_fields false false c e = absurd (omega arith)

none_index : (a b c : Bool) → refusal_by a b c ≡ 0 → c ≡ true
unfolding refusal_by
none_index a b true e = refl
none_index true true false e = absurd (omega arith)
none_index true false false e = absurd (omega arith)
none_index false b false e = absurd (omega arith)

by_accepted : (b : Bool) (n : ℕ) (g f : Request) → eqb n 0 ≡ b → cond b (Ok g) (Err (refusal_named n)) ≡ Ok f → n ≡ 0
by_accepted true n g f e h = eqb-true n 0 e
by_accepted false n g f e h = absurd (let z : ◌≡◌ {A = ℕ} 0 1 = cc in omega arith)

by_fields : (b : Bool) (n : ℕ) (g f : Request) → cond b (Ok g) (Err (refusal_named n)) ≡ Ok f → f ≡ g
by_fields true n g f h = cc
by_fields false n g f h = absurd (let z : ◌≡◌ {A = ℕ} 0 1 = cc in omega arith)

module _ (t : List ℕ) where
  refusal_parts : refusal_of t ≡ refusal_by (shape_ok t) (fields_ok (row_at t).kind t) (index_ok t)
  unfolding refusal_of refusal_by
  refusal_parts = refl

  pub accepted_passed : (f : Request) → check_of t ≡ Ok f → Passed t f
  unfolding check_of
  accepted_passed f h =
      let z : refusal_of t ≡ 0 = by_accepted (eqb (refusal_of t) 0) (refusal_of t) (asked_at t) f refl h in
      let p : refusal_by (shape_ok t) (fields_ok (row_at t).kind t) (index_ok t) ≡ 0 = sym refusal_parts ∙ z in
      record {
        refusal = z;
        shape = none_shape (shape_ok t) (fields_ok (row_at t).kind t) (index_ok t) p;
        rules = none_fields (shape_ok t) (fields_ok (row_at t).kind t) (index_ok t) p;
        served = none_index (shape_ok t) (fields_ok (row_at t).kind t) (index_ok t) p;
        asked = by_fields (eqb (refusal_of t) 0) (refusal_of t) (asked_at t) f h;
      }

-- ---- the whole check, by its number

number_by : (a b c : Bool) (g : Request)
    → result_number (cond (eqb (refusal_by a b c) 0) (Ok g) (Err (refusal_named (refusal_by a b c)))) ≡ refusal_by a b c
unfolding refusal_by
number_by true true true g = refl
number_by true true false g = refl
number_by true false c g = refl
number_by false b c g = refl

module _ (t : List ℕ) where
  pub check_number : result_number (check_of t) ≡ refusal_of t
  unfolding check_of
  check_number =
      rw (refusal_parts t) (number_by (shape_ok t) (fields_ok (row_at t).kind t) (index_ok t) (asked_at t))

  pub refused_told : (refusal : Refusal) → check_of t ≡ Err refusal → refusal_number refusal ≡ refusal_of t
  refused_told refusal e = rw e at check_number
