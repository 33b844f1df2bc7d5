-- An edit of a valid store that needs no unit more lacks none.
-- Assumes nothing.
use mathlib.Core.Path.{◌≡◌, ◌∙◌, ap}
use mathlib.Core.Bool.{true}
use mathlib.Core.List.{List}
use mathlib.Core.Option.{some}
use Prim.Native.Nat.{ℕ}
use native.Mathlib.Omega.{arith}
use lib.ListN.{length, length-set}
use Rattle.types.specs.Units.{units_in}
use Rattle.types.proofs.UnitLaws.{lack_none}
use Rattle.model.specs.Rows.{find, put, Edit, leave, edited, rank, row_at}
use Rattle.model.specs.Rows
use Rattle.model.specs.Data.{Entry}
use Rattle.model.proofs.RowPlaces.{put_present}
use Rattle.versioned_data.specs.Layout.{entries_in, data_valid, lack_in}
use Rattle.versioned_data.proofs.EntriesHeld.{rising_valid, few_valid}

module _ (s : List ℕ) (v : data_valid s ≡ true) (k p : ℕ) where
  pub lack_leave : lack_in s (edited k p leave (entries_in s)) ≡ 0
  unfolding lack_in edited
  lack_leave = lack_none (length (entries_in s)) (units_in (length s)) (few_valid s v)

  pub lack_present : (b : Entry) → find k p (entries_in s) ≡ some b → (a : Entry) → lack_in s (edited k p (Rows.set a) (entries_in s)) ≡ 0
  unfolding lack_in edited
  lack_present b e a =
      lack_none (length (put k p a (entries_in s))) (units_in (length s))
      (omega (arith, few_valid s v, ap length (put_present k p (entries_in s) (rising_valid s v) b e a) ∙ length-set (entries_in s) (rank k p (entries_in s)) (row_at k p a)))
