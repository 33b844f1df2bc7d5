-- The form that a row's marks have, and its number.
use Rattle.std.specs.Prelude.{ℕ, Option, Some, None}
use Rattle.versioned_data.specs.declared.marks.Form.{Form}
use Rattle.versioned_data.specs.declared.marks.Form.TheVariants.{Write, Delta, DeltaWithShortcut}

abbrev pub form_number : Option Form → ℕ
form_number (Some Write) = 0
form_number (Some Delta) = 1
form_number (Some DeltaWithShortcut) = 2
form_number None = 3
