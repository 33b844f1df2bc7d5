-- A store's units, and lack of them: the one place where it is decided.
use Rattle.std.specs.Prelude.{cond, ℕ, ◌/◌, min, leb}
use Rattle.types.specs.Refusal.{units_exhausted}

-- "A store of W words has W / 32 units, rounded down, at most 4,096; all zero is empty."
unfoldable pub units_in : ℕ → ℕ
units_in words = min (words / 32) 4096

-- 14: "more units after the ticket than the store has". For the units that a store would hold and those that it has: 0 where they suffice, else the
-- number of the refusal.
unfoldable pub lack_of : ℕ → ℕ → ℕ
lack_of held slots = cond (leb held slots) 0 units_exhausted
