-- Lists of calls: "Each meets the stores as the one before it left them, accepted or refused, and nothing else writes them in between."
use Rattle.std.specs.Prelude.{Bool, true, cond, List, [], ◌∷◌, map, ℕ, suc, leb, eqb, length, get_or, take, replicate}
use Rattle.lists.specs.Lists.{every}
use Rattle.types.specs.Response.{count_in, answer_width}
use Rattle.model.specs.Data.{Ruling}
use Rattle.model.specs.Model.{Model, Fixed, Outcome, refused, answered, Turn, unless_refused, step, left_by}
use Rattle.model.specs.Fine.{is_word}
use Rattle.mvhashmap.specs.Call.{Stores, stores, Lent, Called, Known, known, View, view_of, CalledView, called_view, slice_refusal, called_by, call_of, Calls}

-- A request and the answer slice that is lent with it.
pub record Call : Type 0 where
  pub request : List ℕ
  pub out : List ℕ

-- "all zero is empty"
unfoldable pub cleared : ℕ → ℕ → Stores
cleared n k = stores (replicate n 0) (replicate k 0)

-- ---- on words

unfoldable pub lent_to : Call → Stores → Lent
lent_to c s = record { stores = s; out = c.out }

-- Calls and what each of them left: each keeps to `Calls`, and the next one meets the stores that it left.
unfoldable pub Chain : Stores → List Call → List Called → Type 0
Chain s [] [] = Unit
Chain s [] (d ∷ ds) = ⊥
Chain s (c ∷ cs) [] = ⊥
Chain s (c ∷ cs) (d ∷ ds) = Calls c.request (lent_to c s) d.result d.lent × Chain d.lent.stores cs ds

-- The stores that they leave.
unfoldable pub stores_after : Stores → List Called → Stores
stores_after s [] = s
stores_after s (d ∷ ds) = stores_after d.lent.stores ds

-- What a caller can know of each call: its result and answer slice, and of the stores after it their units, whether they are sound and what they
-- hold.
unfoldable pub viewed : Called → CalledView
viewed d = called_view d.result (view_of d.lent)

unfoldable pub views : List Called → List CalledView
views ds = map viewed ds

-- ---- on what is known

unfoldable pub view_to : Call → Known → View
view_to c s = record { stores = s; out = c.out }

unfoldable pub call_on : Known → Call → CalledView
call_on s c = call_of c.request (view_to c s)

-- The calls of a list, one after the other.
unfoldable pub calls : Known → List Call → List CalledView
calls s [] = []
calls s (c ∷ cs) = call_on s c ∷ calls (call_on s c).view.stores cs

-- The requests that were accepted.
unfoldable pub accepted_in : List Call → List CalledView → List (List ℕ)
accepted_in [] xs = []
accepted_in (c ∷ cs) [] = []
accepted_in (c ∷ cs) (x ∷ xs) = cond (eqb x.result 0) (c.request ∷ accepted_in cs xs) (accepted_in cs xs)

-- What a caller sees of a call: the result, and the answer's words where that is 0. "Answer head, same shape": bits 0 to 27 count the words after it.
unfoldable pub answer_words : List ℕ → List ℕ
answer_words out = take (suc (count_in (get_or out 0 0))) out

unfoldable pub shown : ℕ → List ℕ → Outcome
shown result out = cond (eqb result 0) (answered (answer_words out)) (refused result)

unfoldable pub seen_of : CalledView → Outcome
seen_of x = shown x.result x.view.out

unfoldable pub turns_in : List Call → List CalledView → List Turn
turns_in [] xs = []
turns_in (c ∷ cs) [] = []
turns_in (c ∷ cs) (x ∷ xs) = record { request = c.request; outcome = seen_of x } ∷ turns_in cs xs

-- A word is 32 bits, in a request too.
unfoldable pub are_words : List Call → Bool
are_words cs = every (λ c. every is_word c.request) cs

-- "1 never applies"
unfoldable pub is_long : Call → Bool
is_long c = leb answer_width (length c.out)

unfoldable pub long_enough : List Call → Bool
long_enough cs = every is_long cs

-- ---- the same calls by the definition: sound stores of these units that hold what the requests accepted before left

unfoldable pub ruling_on : Fixed → Model → Call → Ruling Model
ruling_on f m c = unless_refused (slice_refusal c.out) (step f m c.request)

unfoldable pub call_by : Fixed → Model → Call → CalledView
call_by f m c = called_by (view_to c (known f true m)) (ruling_on f m c)

unfoldable pub model_left : Fixed → Model → Call → Model
model_left f m c = left_by m (ruling_on f m c)

unfoldable pub calls_by : Fixed → Model → List Call → List CalledView
calls_by f m [] = []
calls_by f m (c ∷ cs) = call_by f m c ∷ calls_by f (model_left f m c) cs
