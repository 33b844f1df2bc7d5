-- 01, "History program": "prints a line a ticket: the answer's words as 8 hexadecimal digits with single spaces, or `no ` and the decimal number".
-- Characters are their codes: 10 ends a line, 32 is a space, 48 is `0`, 65 is `A`, 110 and 111 are `no`.
use Rattle.std.specs.Prelude.{ℕ, ◌+◌, ◌/◌, ◌%◌, ◌^◌, cond, List, [], ◌∷◌, ◌++◌, nat_lt}
use Rattle.model.specs.Model.{Outcome, refused, answered}

-- A digit below 16, in capitals.
unfoldable pub digit_of : ℕ → ℕ
digit_of d = cond (nat_lt d 10) (48 + d) (55 + d)

-- The digit of a word that counts 16 ^ k.
unfoldable pub hex_at : ℕ → ℕ → ℕ
hex_at k w = digit_of (w / 16 ^ k % 16)

unfoldable pub hex_word : ℕ → List ℕ
hex_word w = hex_at 7 w ∷ hex_at 6 w ∷ hex_at 5 w ∷ hex_at 4 w ∷ hex_at 3 w ∷ hex_at 2 w ∷ hex_at 1 w ∷ hex_at 0 w ∷ []

-- Words, each after a space.
unfoldable pub spaced : List ℕ → List ℕ
spaced [] = []
spaced (w ∷ ws) = 32 ∷ (hex_word w ++ spaced ws)

-- Words with single spaces.
unfoldable pub hex_words : List ℕ → List ℕ
hex_words [] = []
hex_words (w ∷ ws) = hex_word w ++ spaced ws

-- A number below 100.
unfoldable pub decimal : ℕ → List ℕ
decimal n = cond (nat_lt n 10) (digit_of n ∷ []) (digit_of (n / 10) ∷ digit_of (n % 10) ∷ [])

unfoldable pub line_of : Outcome → List ℕ
line_of (answered words) = hex_words words ++ (10 ∷ [])
line_of (refused n) = 110 ∷ 111 ∷ 32 ∷ (decimal n ++ (10 ∷ []))
