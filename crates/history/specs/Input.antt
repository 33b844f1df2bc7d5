-- 01, "History program": "It reads words, little-endian, from standard input". "A head counting over 453 words, or a cut end, prints `no 2` and
-- stops."
use Rattle.std.specs.Prelude.{ℕ, zero, suc, ◌+◌, ◌*◌, ◌^◌, Bool, true, false, cond, List, [], ◌∷◌, length, drop, nat_le, nat_lt, slice_index}
use Rattle.types.specs.Response.{count_in}
use Rattle.request.specs.Table.{longest_count}

-- The word that bytes start with, the lowest byte first.
unfoldable pub word_from : List ℕ → ℕ
word_from b = slice_index b 0 + 2 ^ 8 * slice_index b 1 + 2 ^ 16 * slice_index b 2 + 2 ^ 24 * slice_index b 3

-- The first n words of bytes.
unfoldable pub words_from : ℕ → List ℕ → List ℕ
words_from zero b = []
words_from (suc n) b = word_from b ∷ words_from n (drop 4 b)

-- The words of the request that bytes start with: the head and those that it counts.
unfoldable pub words_in : List ℕ → ℕ
words_in b = count_in (word_from b) + 1

-- That request, or no words where its head counts too many or its end is cut. Every call refuses no words by 2 (`call_of_nothing`).
unfoldable pub request_in : List ℕ → List ℕ
request_in b =
    cond (nat_lt (length b) 4) []
    (cond (nat_lt (suc longest_count) (words_in b)) []
    (cond (nat_lt (length b) (4 * words_in b)) []
    (words_from (words_in b) b)))

-- Whether bytes decide the request that they start with: whatever follows them, it is that one (`request_in_decided`).
unfoldable pub decided : List ℕ → Bool
decided b = cond (nat_lt (length b) 4) false (cond (nat_lt (suc longest_count) (words_in b)) true (nat_le (4 * words_in b) (length b)))
