-- Demand 3: what the calls of a list show is what the model's turns are, and those do not interfere.
-- Assumes nothing.
use mathlib.Core.Path.{◌≡◌, refl, sym, ◌∙◌, ap}
use mathlib.Core.Bool.{true}
use mathlib.Core.List.{List, [], ◌∷◌, map}
use Prim.Native.Nat.{ℕ, suc, ◌≤◌}
use native.Mathlib.Omega.{arith}
use lib.Dec.{leb}
use lib.ListN.{length, drop}
use lib.Seq.{take_at}
use borrow.Author.Tests.{leb-true, eqb-true}
use Rattle.lists.specs.Lists.{every}
use Rattle.lists.proofs.Bools.{and_left, and_right}
use Rattle.types.specs.Response.{count_in, answer_width}
use Rattle.types.proofs.RefusalLaws.{refusal_nonzero}
use Rattle.model.specs.Data.{Ruling, refuse, accept}
use Rattle.model.specs.Model.{Model, Fixed, empty, unless_refused, step, Outcome, answered, outcome_of, Turn, turns}
use Rattle.model.specs.Fine.{is_word, fine, fine_answer}
use Rattle.model.specs.Noninterference.{kept_turns}
use Rattle.model.proofs.FineModel.{empty_fine}
use Rattle.model.proofs.RuleFacts.{head_counts, answers}
use Rattle.model.proofs.StepFacts.{proper, step_proper, step_answers}
use Rattle.model.proofs.BlindAtIndex.{noninterference}
use Rattle.versioned_group_data.specs.Ruled.{answer_in}
use Rattle.mvhashmap.specs.Call.{Called, fixed_of, known, View, CalledView, refused_by, called_by}
use Rattle.mvhashmap.specs.Run.{Call, cleared, Chain, views, view_to, answer_words, shown, seen_of, turns_in, are_words, is_long, long_enough, ruling_on, call_by, model_left, calls_by}
use Rattle.mvhashmap.specs.Demands.{Blind}
use Rattle.mvhashmap.proofs.CallOrder.{long_slice}
use Rattle.mvhashmap.proofs.StoresSound.{model_left_long, model_left_fine}
use Rattle.mvhashmap.proofs.DemandRight.{right}

-- The answer is taken back from the slice by the count in its head.
answer_words_answer_in : (answer out : List ℕ) → head_counts answer ≡ true → fine_answer answer ≡ true → answer_words (answer_in answer out) ≡ answer
unfolding head_counts fine_answer answer_words answer_in
answer_words_answer_in [] out c f = absurd (let z : ◌≡◌ {A = ℕ} 0 1 = cc in omega arith)
answer_words_answer_in (head ∷ words) out c f =
    let few : suc (length words) ≤ answer_width = leb-true (suc (length words)) answer_width (and_left (leb (suc (length words)) answer_width) (every is_word (head ∷ words)) f) in
    let count : count_in head ≡ count_in (length words) = eqb-true (count_in head) (count_in (length words)) c in
    take_at (head ∷ words) (drop (length (head ∷ words)) out) (suc (count_in head)) (omega arith)

pub seen_of_called_by : (v : View) (r : Ruling Model) → proper r ≡ true → answers fine_answer r ≡ true → seen_of (called_by v r) ≡ outcome_of r
unfolding seen_of shown called_by refused_by outcome_of proper answers
seen_of_called_by v (refuse n) p a = rw (refusal_nonzero n p) refl
seen_of_called_by v (accept answer m) p a = ap answered (answer_words_answer_in answer v.out p a)

seen_of_call_by : (f : Fixed) (m : Model) (c : Call) → fine m ≡ true → every is_word c.request ≡ true → answer_width ≤ length c.out →
    seen_of (call_by f m c) ≡ outcome_of (step f m c.request)
unfolding call_by ruling_on unless_refused
seen_of_call_by f m c h w l =
    rw (long_slice c.out l)
    (seen_of_called_by (view_to c (known f true m)) (step f m c.request) (step_proper f m c.request) (step_answers f m c.request h w))

abbrev turn : Call → Outcome → Turn
turn c o = record { request = c.request; outcome = o }

-- The words of the first request of a list, and of the others.
first_words : (c : Call) (cs : List Call) → are_words (c ∷ cs) ≡ true → every is_word c.request ≡ true
unfolding are_words every
first_words c cs w = and_left (every is_word c.request) (every (λ c. every is_word c.request) cs) w

later_words : (c : Call) (cs : List Call) → are_words (c ∷ cs) ≡ true → are_words cs ≡ true
unfolding are_words every
later_words c cs w = and_right (every is_word c.request) (every (λ c. every is_word c.request) cs) w

first_long : (c : Call) (cs : List Call) → long_enough (c ∷ cs) ≡ true → answer_width ≤ length c.out
unfolding long_enough every is_long
first_long c cs l = leb-true answer_width (length c.out) (and_left (is_long c) (every is_long cs) l)

later_long : (c : Call) (cs : List Call) → long_enough (c ∷ cs) ≡ true → long_enough cs ≡ true
unfolding long_enough every
later_long c cs l = and_right (is_long c) (every is_long cs) l

turns_calls_by : (f : Fixed) (m : Model) (cs : List Call) → fine m ≡ true → are_words cs ≡ true → long_enough cs ≡ true →
    turns_in cs (calls_by f m cs) ≡ turns f m (map (λ c. c.request) cs)
unfolding turns_in calls_by turns
turns_calls_by f m [] h w l = refl
turns_calls_by f m (c ∷ cs) h w l =
    let words = first_words c cs w in
    let long = first_long c cs l in
    let ih = turns_calls_by f (model_left f m c) cs (model_left_fine f m c h words) (later_words c cs w) (later_long c cs l) in
    ap (λ (ts : List Turn). turn c (seen_of (call_by f m c)) ∷ ts) ih
    ∙ ap (λ (o : Outcome). turn c o ∷ turns f (model_left f m c) (map (λ c. c.request) cs)) (seen_of_call_by f m c h words long)
    ∙ ap (λ (n : Model). turn c (outcome_of (step f m c.request)) ∷ turns f n (map (λ c. c.request) cs)) (model_left_long f m c long)

-- From cleared stores a list of calls shows the model's turns.
pub turns_cleared : (n k : ℕ) (cs : List Call) (ds : List Called) → Chain (cleared n k) cs ds → are_words cs ≡ true → long_enough cs ≡ true →
    turns_in cs (views ds) ≡ turns (fixed_of (cleared n k)) empty (map (λ c. c.request) cs)
turns_cleared n k cs ds x w l =
    ap (λ (xs : List CalledView). turns_in cs xs) (right n k cs ds x) ∙ turns_calls_by (fixed_of (cleared n k)) empty cs empty_fine w l

pub blind : Blind
blind n k t xs ys ds es a b wx wy lx ly e qx qy =
    let x = turns_cleared n k xs ds a wx lx in
    let y = turns_cleared n k ys es b wy ly in
    ap (kept_turns t) x
    ∙ noninterference (fixed_of (cleared n k)) t (map (λ c. c.request) xs) (map (λ c. c.request) ys) e (rw x at qx) (rw y at qy)
    ∙ sym (ap (kept_turns t) y)
