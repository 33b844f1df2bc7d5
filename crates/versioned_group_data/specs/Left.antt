-- What an operation leaves of the group store, without a word about where in its words an update or a committed value lies: the papers leave that
-- free.
use Rattle.std.specs.Prelude.{◌≡◌, Bool, true, false, List, ℕ, ◌*◌, length, drop}
use Rattle.types.specs.Units.{units_in}
use Rattle.model.specs.Data.{Ruling, refuse, accept}
use Rattle.group_slots.specs.Layout.{Groups, groups_in, group_valid, fits_in}

-- A valid store like `s`, of as many words, that holds these updates and committed values. The words past its last unit are as they were.
pub record Holds (s : List ℕ) (x : Groups) (after : List ℕ) : Type 0 where
  pub valid : group_valid after ≡ true
  pub groups : groups_in after ≡ x
  pub size : length after ≡ length s
  pub past : drop (32 * units_in (length s)) after ≡ drop (32 * units_in (length s)) s

-- What a store has the units for is held; for other groups every word stays.
unfoldable pub LeftIf : Bool → List ℕ → Groups → List ℕ → Type 0
LeftIf true s x after = Holds s x after
LeftIf false s x after = after ≡ s

-- What a ruling leaves. A refusal leaves every word.
unfoldable pub LeftBy : List ℕ → Ruling Groups → List ℕ → Type 0
LeftBy s (refuse n) after = after ≡ s
LeftBy s (accept answer x) after = LeftIf (fits_in s x) s x after
