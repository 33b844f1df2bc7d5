-- What a caller learns from each answer.
use mathlib.Core.Path.{◌≡◌, refl, ap}
use mathlib.Core.Bool.{Bool, true, false, cond}
use mathlib.Core.List.{List}
use mathlib.Core.Option.{Option as Maybe}
use mathlib.Core.Option.{none, some}
use Rattle.std.specs.Prelude.{Option, Result, Some, None, Ok, Err}
use Prim.Native.Nat.{ℕ, zero, suc}
use native.Mathlib.Omega.{arith}
use Rattle.number.specs.declared.Number.{Number}
use Rattle.number.specs.Number.{number_of}
use Rattle.types.specs.Index.{index_of}
use Rattle.types.specs.Value.{is_deletion, has_number, number_in, bytes_len}
use Rattle.types.specs.ValueWithLayout.{length_answer, bytes_len_of, as_u128_of}
use Rattle.types.specs.declared.index.StorageVersion.{StorageVersion}
use Rattle.types.specs.declared.value.NotANumber.{NotANumber}

-- ---- indexes

pub index_told : (word index : ℕ) → index_of word ≡ Ok index → word ≡ suc index
unfolding index_of
index_told zero index e = absurd (let z : ◌≡◌ {A = ℕ} 0 1 = cc in omega arith)
index_told (suc word) index e = cc

pub storage_told : (word : ℕ) (base : StorageVersion) → index_of word ≡ Err base → word ≡ 0
unfolding index_of
storage_told zero base e = refl
storage_told (suc word) base e = absurd (let z : ◌≡◌ {A = ℕ} 0 1 = cc in omega arith)

-- ---- lengths and numbers

length_by : (o : Maybe ℕ) (n : ℕ) → length_answer o ≡ Some n → o ≡ some n
unfolding length_answer
length_by none n e = absurd (let z : ◌≡◌ {A = ℕ} 0 1 = cc in omega arith)
length_by (some m) n e = let f : m ≡ n = cc in ap some f

no_bytes_by : (o : Maybe ℕ) → length_answer o ≡ None → o ≡ none
unfolding length_answer
no_bytes_by none e = refl
no_bytes_by (some m) e = absurd (let z : ◌≡◌ {A = ℕ} 0 1 = cc in omega arith)

pub length_told : (ws : List ℕ) (n : ℕ) → bytes_len_of ws ≡ Some n → bytes_len ws ≡ some n
unfolding bytes_len_of
length_told ws n e = length_by (bytes_len ws) n e

pub no_bytes_told : (ws : List ℕ) → bytes_len_of ws ≡ None → bytes_len ws ≡ none
unfolding bytes_len_of
no_bytes_told ws e = no_bytes_by (bytes_len ws) e

number_by : Bool → Bool → Number → Result (Option Number) NotANumber
number_by deleted number n = cond deleted (Ok None) (cond number (Ok (Some n)) (Err (record {})))

-- What stands below deltas is a number.
pub record IsNumber (ws : List ℕ) (n : Number) : Type 0 where
  pub kept : is_deletion ws ≡ false
  pub has : has_number ws ≡ true
  pub number : n ≡ number_of (number_in ws)

value_by : (a b : Bool) (m n : Number) → number_by a b m ≡ Ok (Some n) → (a ≡ false) × (b ≡ true) × (n ≡ m)
unfolding number_by
value_by true b m n e = absurd (let z : ◌≡◌ {A = ℕ} 0 1 = cc in omega arith)
value_by false true m n e = (refl, refl, cc)
value_by false false m n e = absurd (let z : ◌≡◌ {A = ℕ} 0 1 = cc in omega arith)

module _ (ws : List ℕ) where
  pub value_told : (n : Number) → as_u128_of ws ≡ Ok (Some n) → IsNumber ws n
  unfolding as_u128_of number_by
  value_told n e =
      let v = value_by (is_deletion ws) (has_number ws) (number_of (number_in ws)) n e in
      record { kept = v.0; has = v.1; number = v.2 }
