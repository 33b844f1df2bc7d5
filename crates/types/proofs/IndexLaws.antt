-- Shifted indexes: what a word of one stands for.
use mathlib.Core.Path.{◌≡◌, refl, ◌∙◌, ap}
use Rattle.std.specs.Prelude.{Option, Some, None, Result, Ok, Err, SomeIff, ok_or}
use Prim.Native.Nat.{ℕ, zero, suc, ◌-◌, ◌≤◌}
use native.Mathlib.Numerals.{add-one}
use native.Mathlib.Omega.{arith}
use Rattle.types.specs.Index.{shift, shifted_of, word_of, index_of}
use Rattle.types.specs.declared.index.ShiftedTxnIndex.{ShiftedTxnIndex}
use Rattle.types.specs.declared.index.StorageVersion.{StorageVersion}

pub shifted_word : (x : ShiftedTxnIndex) (index : ℕ) → x ≡ shifted_of (shift index) → word_of x ≡ suc index
shifted_word x index e = ap word_of e ∙ add-one index

pub base_word : (x : ShiftedTxnIndex) → x ≡ shifted_of 0 → word_of x ≡ 0
base_word x e = ap word_of e

pub index_base : index_of 0 ≡ Err (record {})
unfolding index_of
index_base = refl

pub index_suc : (index : ℕ) → index_of (suc index) ≡ Ok index
unfolding index_of
index_suc index = refl

-- a word without its one shift, and the base that has none to take away
pub index_checked : (word : ℕ) (o : Option ℕ) (r : Result ℕ StorageVersion) → SomeIff o (1 ≤ word) (word - 1) → r ≡ ok_or o (record {}) → r ≡ index_of word
unfolding index_of
index_checked zero None r s e = e
index_checked zero (Some x) r (s, f) e = absurd (omega arith)
index_checked (suc word) None r s e = absurd (s (omega arith))
index_checked (suc word) (Some x) r (s, f) e = let g : x ≡ word = omega (arith, f) in rw g at e
