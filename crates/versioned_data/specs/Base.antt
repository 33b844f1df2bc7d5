-- What a base value does to what was found at shifted index 0, as the code learns it, and the ruling that this is (`set_base_value` of `model`).
use Rattle.std.specs.Prelude.{Bool, true, cond, List, ℕ, ◌%◌, ltb, eqb, get_or}
use Rattle.std.proofs.Math.Option.{Option, none, some}
use Rattle.types.specs.Refusal.{base_differs}
use Rattle.types.specs.Value.{value_at, is_exchanged, same_bytes}
use Rattle.model.specs.Rows.{Edit, leave, set}
use Rattle.model.specs.Data.{write, Entry, done, Ruling, refuse, accept, done_answer, same_exchanged}
use Rattle.versioned_data.specs.Layout.{StoreRow}
use Rattle.versioned_data.specs.declared.base.Base.{Base}
use Rattle.versioned_data.specs.declared.base.Base.TheVariants.{Keep, Set, Differs}

unfoldable pub kept_if : Bool → Base
kept_if same = cond same Keep Differs

-- A new value over the one there.
unfoldable pub over_base : List ℕ → List ℕ → Base
over_base new old =
    cond (is_exchanged new) (cond (is_exchanged old) (kept_if (same_exchanged new old)) Set)
    (cond (is_exchanged old) Keep (kept_if (same_bytes new old)))

-- A new value where a base was looked for: a base is a write, and its value stands in its row's content after the incarnation.
unfoldable pub base_at : List ℕ → Option StoreRow → Base
base_at new none = Set
base_at new (some u) = over_base new (value_at 1 u.payload)

unfoldable pub base_ruling : List ℕ → Base → Ruling (Edit Entry)
base_ruling new Keep = accept done_answer leave
base_ruling new Set = accept done_answer (set (done (write 0 new)))
base_ruling new Differs = refuse base_differs

-- Whether a write of an incarnation may go where a row was looked for: over a write, form 0, only if it is higher than the write's, the first word of
-- its content.
unfoldable pub may_put : ℕ → Option StoreRow → Bool
may_put incarnation none = true
may_put incarnation (some u) = cond (eqb (u.marks % 4) 0) (ltb (get_or u.payload 0 0) incarnation) true
