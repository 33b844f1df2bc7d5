-- A number in 32-bit words, low word first, at any width.
-- 01: "A word is 32 bits"; "a 128-bit number, low word first".
-- Assumes nothing.
use Rattle.std.specs.Prelude.{ℕ, zero, suc, ◌+◌, ◌*◌, ◌/◌, ◌%◌, ◌^◌, ◌<◌, List, [], ◌∷◌, slice_index}

-- the n lowest words of v
unfoldable pub digits : ℕ → ℕ → List ℕ
digits zero v = []
digits (suc n) v = v % 2 ^ 32 ∷ digits n (v / 2 ^ 32)

-- the number that words stand for
unfoldable pub value_of_words : List ℕ → ℕ
value_of_words [] = 0
value_of_words (w ∷ ws) = w + 2 ^ 32 * value_of_words ws

-- each is a word: what a slice's rule tells of its list
abbrev pub AreWords : List ℕ → Type 0
AreWords ws = (i : ℕ) → slice_index ws i < 2 ^ 32
