-- 01, "Index": "A transaction index is a u32. A shifted index is the transaction index plus 1; shifted 0 is the base."
use Rattle.std.specs.Prelude.{ℕ, zero, suc, ◌+◌, Result, Ok, Err}
use Rattle.types.specs.declared.index.ShiftedTxnIndex.{ShiftedTxnIndex}
use Rattle.types.specs.declared.index.StorageVersion.{StorageVersion}

abbrev pub shift : ℕ → ℕ
shift index = index + 1

-- "Indexes up to 4,294,967,294 are served; materialising adds twice, so there 4,294,967,293 is the last." The first that is not served, and the first
-- that is not materialised.
abbrev pub index_bound : ℕ
index_bound = 4294967295

abbrev pub materialize_bound : ℕ
materialize_bound = 4294967294

-- A shifted index, and the word that it is stored as.
abbrev pub shifted_of : ℕ → ShiftedTxnIndex
shifted_of word = record { 0 = word }

abbrev pub word_of : ShiftedTxnIndex → ℕ
word_of index = index.0

-- What the word of a shifted index stands for.
unfoldable pub index_of : ℕ → Result ℕ StorageVersion
index_of zero = Err (record {})
index_of (suc index) = Ok index
