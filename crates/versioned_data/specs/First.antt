-- A read that ends at the first row that it meets, which is a write.
use Rattle.std.specs.Prelude.{◌≡◌, List, ℕ, ◌+◌, ◌≤◌, length, get_or}
use Rattle.types.specs.Value.{value_at}
use Rattle.model.specs.Rows.{down_from}
use Rattle.model.specs.Data.{versioned, read_of}
use Rattle.versioned_data.specs.Layout.{entries_in}

-- A reader of a key at an index finds the write whose content begins at a word: its incarnation, and then its value.
pub record Wrote (s : List ℕ) (key index content place : ℕ) : Type 0 where
  pub inside : content + 20 ≤ length s
  pub read : read_of (down_from key index (entries_in s)) ≡ versioned place (get_or s content 0) (value_at (content + 1) s)
