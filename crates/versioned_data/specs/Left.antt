-- What an operation leaves of the data store, without a word about where in its words an entry lies: the papers leave that free.
use Rattle.std.specs.Prelude.{◌≡◌, Bool, true, false, List, ℕ, ◌*◌, length, drop}
use Rattle.types.specs.Units.{units_in}
use Rattle.model.specs.Rows.{Row, Edit, edited}
use Rattle.model.specs.Data.{Entry, Ruling, refuse, accept}
use Rattle.versioned_data.specs.Layout.{entries_in, data_valid, fits_in}

-- A valid store like `s`, of as many words, that holds these rows. The words past its last unit are as they were.
pub record Holds (s : List ℕ) (rows : List (Row Entry)) (after : List ℕ) : Type 0 where
  pub valid : data_valid after ≡ true
  pub entries : entries_in after ≡ rows
  pub size : length after ≡ length s
  pub past : drop (32 * units_in (length s)) after ≡ drop (32 * units_in (length s)) s

-- Rows that a store has the units for are held; for others every word stays.
unfoldable pub LeftIf : Bool → List ℕ → List (Row Entry) → List ℕ → Type 0
LeftIf true s rows after = Holds s rows after
LeftIf false s rows after = after ≡ s

-- What a ruling at a key and place leaves. A refusal leaves every word.
unfoldable pub LeftBy : List ℕ → ℕ → ℕ → Ruling (Edit Entry) → List ℕ → Type 0
LeftBy s key place (refuse n) after = after ≡ s
LeftBy s key place (accept answer e) after = LeftIf (fits_in s (edited key place e (entries_in s))) s (edited key place e (entries_in s)) after
