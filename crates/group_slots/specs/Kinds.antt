-- The first word of a slot in use, by what the slot is of.
use Rattle.std.specs.Prelude.{cond, ℕ, eqb, Option, Some, None}
use Rattle.group_slots.specs.declared.layout.SlotKind.{SlotKind}
use Rattle.group_slots.specs.declared.layout.SlotKind.TheVariants.{Update, Committed}

abbrev pub kind_word : SlotKind → ℕ
kind_word Update = 1
kind_word Committed = 2

unfoldable pub kind_read : ℕ → Option SlotKind
kind_read n = cond (eqb n 1) (Some Update) (cond (eqb n 2) (Some Committed) None)
