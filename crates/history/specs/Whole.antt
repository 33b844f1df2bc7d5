-- 01, "History program": what is printed for the bytes of a whole input, and what is known of what the calls leave. "A head counting over 453 words, or a cut end,
-- prints `no 2` and stops." "prints a line a ticket".
use Rattle.std.specs.Prelude.{ℕ, zero, suc, ◌*◌, cond, List, [], ◌∷◌, ◌++◌, length, drop, ◌==◌}
use Rattle.mvhashmap.specs.Call.{View, call_of}
use Rattle.mvhashmap.specs.Run.{seen_of}
use Rattle.history.specs.Input.{request_in}
use Rattle.history.specs.Line.{line_of}

-- At most n requests of bytes. One of no words stands for a head over the most or a cut end: it is the last, and prints `no 2` (`prints_no_2`).
unfoldable pub requests_by : ℕ → List ℕ → List (List ℕ)
requests_by zero b = []
requests_by (suc n) b =
    cond (length b == 0) []
    (request_in b ∷ cond (length (request_in b) == 0) [] (requests_by n (drop (4 * length (request_in b)) b)))

-- Each but the last uses bytes, so that there are no more requests than bytes.
unfoldable pub requests_in : List ℕ → List (List ℕ)
requests_in b = requests_by (length b) b

-- A line for each request, in their order; each call meets what the one before it left.
unfoldable pub lines_of : List (List ℕ) → View → List ℕ
lines_of [] v = []
lines_of (t ∷ ts) v = line_of (seen_of (call_of t v)) ++ lines_of ts (call_of t v).view

unfoldable pub view_after : List (List ℕ) → View → View
view_after [] v = v
view_after (t ∷ ts) v = view_after ts (call_of t v).view
