-- What an operation on the data store promises: the number that it answers and what it leaves are those of its rule (specs of `model`) for the entry
-- at its key and shifted index.
use Rattle.std.specs.Prelude.{◌≡◌, List, ℕ}
use Rattle.std.proofs.Math.Option.{Option}
use Rattle.model.specs.Rows.{find, Edit}
use Rattle.model.specs.Data.{Entry, Ruling}
use Rattle.versioned_data.specs.Layout.{entries_in, result_of}
use Rattle.versioned_data.specs.Left.{LeftBy}

pub record Edited (s : List ℕ) (key place : ℕ) (rule : Option Entry → Ruling (Edit Entry)) (r : ℕ) (after : List ℕ) : Type 0 where
  pub result : r ≡ result_of s key place (rule (find key place (entries_in s)))
  pub left : LeftBy s key place (rule (find key place (entries_in s))) after
