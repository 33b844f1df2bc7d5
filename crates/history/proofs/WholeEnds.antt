-- 01, "History program": "A head counting over 453 words, or a cut end, prints `no 2` and stops." Both are requests of no words.
use Rattle.std.proofs.Common.{◌≡◌, ℕ, ◌≤◌, List, [], ◌∷◌, ◌++◌, length, refl, ap, ◌∙◌}
use Rattle.types.specs.Response.{answer_width}
use Rattle.mvhashmap.specs.Call.{View, CalledView, call_of, refused_by}
use Rattle.mvhashmap.specs.Run.{shown, seen_of}
use Rattle.history.specs.Input.{request_in}
use Rattle.history.specs.Line.{digit_of, decimal, line_of}
use Rattle.history.specs.Whole.{requests_in, lines_of, view_after}
use Rattle.history.proofs.WholeLaws.{lines_of_next, view_after_next}
use Rattle.history.proofs.TurnCalls.{call_of_nothing}

module _ (l : View) (long : answer_width ≤ length l.out) where
  no_2 : line_of (seen_of (call_of [] l)) ≡ 110 ∷ 111 ∷ 32 ∷ 50 ∷ 10 ∷ []
  unfolding line_of seen_of shown refused_by decimal digit_of
  no_2 = rw (call_of_nothing l long) refl

  module _ (b : List ℕ) (some : length b ≡ 0 → ⊥) (none : request_in b ≡ []) where
    pub prints_no_2 : lines_of (requests_in b) l ≡ 110 ∷ 111 ∷ 32 ∷ 50 ∷ 10 ∷ []
    prints_no_2 = lines_of_next b [] l some none ∙ ap (λ (line : List ℕ). line ++ []) no_2

    pub leaves_all : view_after (requests_in b) l ≡ l
    unfolding refused_by
    leaves_all = view_after_next b [] l some none ∙ ap (λ (k : CalledView). k.view) (call_of_nothing l long)
