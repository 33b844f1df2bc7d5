-- 01, "Value, 7 words": a value is its words. Head; then layout (0 none), handle, and a 128-bit number, low word first.
use Rattle.std.specs.Prelude.{Bool, true, false, cond, not, ◌&&◌, ◌||◌, List, ℕ, ◌/◌, ◌%◌, ◌^◌, leb, eqb, get_or, take, drop}
use Rattle.std.proofs.Math.Option.{Option, none, some}
use Rattle.number.specs.Words.{value_of_words}

-- How many words a value has: its one home.
abbrev pub value_width : ℕ
value_width = 7

-- The value that begins at a place of a list of words.
unfoldable pub value_at : ℕ → List ℕ → List ℕ
value_at at ws = take value_width (drop at ws)

-- "bits 30-31 kind (0 creation, 1 modification, 2 deletion)"
unfoldable pub write_op_kind : List ℕ → ℕ
write_op_kind v = get_or v 0 0 / 2 ^ 30

unfoldable pub is_creation : List ℕ → Bool
is_creation v = eqb (write_op_kind v) 0

unfoldable pub is_deletion : List ℕ → Bool
is_deletion v = eqb (write_op_kind v) 2

-- "bit 29 is 1 for `Exchanged`, 0 for `RawFromStorage`"
unfoldable pub is_exchanged : List ℕ → Bool
is_exchanged v = eqb (get_or v 0 0 / 2 ^ 29 % 2) 1

-- "bits 0-28 byte length, at most 1,048,576"
unfoldable pub byte_length : List ℕ → ℕ
byte_length v = get_or v 0 0 % 2 ^ 29

-- "Then layout (0 none)"
unfoldable pub layout_of : List ℕ → ℕ
layout_of v = get_or v 1 0

-- "and a 128-bit number, low word first"
unfoldable pub number_words : List ℕ → List ℕ
number_words v = take 4 (drop 3 v)

-- "Only a non-deletion of length 16 has a number"
unfoldable pub has_number : List ℕ → Bool
has_number v = not (is_deletion v) && eqb (byte_length v) 16

unfoldable pub number_in : List ℕ → ℕ
number_in v = value_of_words (number_words v)

-- "A deletion has length 0 and no bytes; that is not the same as 0 bytes."
unfoldable pub bytes_len : List ℕ → Option ℕ
bytes_len v = cond (is_deletion v) none (some (byte_length v))

-- "lengths equal, deletion matching only deletion"
unfoldable pub same_length : Option ℕ → Option ℕ → Bool
same_length none none = true
same_length none (some n) = false
same_length (some m) none = false
same_length (some m) (some n) = eqb m n

unfoldable pub same_bytes : List ℕ → List ℕ → Bool
same_bytes v w = same_length (bytes_len v) (bytes_len w)

-- The rule of a value's fields: a kind, a length, raw without layout, a deletion without length, and no number but where there is one.
unfoldable pub value_ok : List ℕ → Bool
value_ok v =
    leb (write_op_kind v) 2 && leb (byte_length v) 1048576
    && (is_exchanged v || eqb (layout_of v) 0)
    && (not (is_deletion v) || eqb (byte_length v) 0)
    && (has_number v || eqb (number_in v) 0)
