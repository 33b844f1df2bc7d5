-- The words of what is put into a content.
use Rattle.std.specs.Prelude.{ℕ, zero, suc}

-- How many words a cell of a form has in a content.
unfoldable pub body_width : ℕ → ℕ
body_width zero = 8
body_width (suc zero) = 16
body_width (suc (suc n)) = 20
