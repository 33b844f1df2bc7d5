-- Laws of the call that the next request makes, and of what it leaves.
use Rattle.std.proofs.Common.{◌≡◌, ℕ, suc, ◌+◌, ◌-◌, ◌*◌, ◌<◌, ◌≤◌, Bool, true, false, ◌||◌, eqb, ltb, leb, List, [], ◌∷◌, length, get_or, take, sym, refl, ap, ◌∙◌, subst, arith, ltb-true, le-ltb, eq-eqb, ne_eqb, eqb-true, leb-true}
use lib.Seq.{sets}
use Rattle.lists.specs.Lists.{every}
use Rattle.lists.proofs.Bools.{and_left, true_not_false}
use Rattle.number.specs.Words.{AreWords}
use Rattle.types.specs.Refusal.{wrong_count, of_slice, of_request, of_store, of_entry, of_commit, of_materialize, of_units, of_rules, refusals, is_in, is_refusal, is_result}
use Rattle.types.specs.Response.{count_in, answer_width}
use Rattle.types.proofs.RefusalLaws.{is_in_every, refusal_nonzero}
use Rattle.request.specs.Request.{row_at, shape_ok, refusal_of}
use Rattle.model.specs.Data.{Ruling, refuse, accept}
use Rattle.model.specs.Model.{Model, first_of, unless_refused, step}
use Rattle.model.specs.Fine.{is_word, fine_answer}
use Rattle.model.proofs.FineParts.{words_every}
use Rattle.model.proofs.RuleFacts.{head_counts, answers}
use Rattle.model.proofs.StepFacts.{proper, step_proper, step_answers}
use Rattle.versioned_group_data.specs.Ruled.{answer_in}
use Rattle.mvhashmap.specs.Call.{Lent, sound, model_in, fixed_of, View, view_of, CalledView, early_refusal, refused_by, called_by, call_of, Calls}
use Rattle.mvhashmap.specs.Run.{shown, seen_of}
use Rattle.mvhashmap.proofs.DemandTotal.{total}
use Rattle.mvhashmap.proofs.StoresSound.{model_in_fine, call_of_long}
use Rattle.mvhashmap.proofs.CallOrder.{long_slice}
use Rattle.history.specs.Input.{request_in}
use Rattle.history.specs.Line.{line_of}
use Rattle.history.specs.State.{State, unread}
use Rattle.history.specs.Turn.{line_for, after, Answered}
use Rattle.history.proofs.InputRequests.{Loads, request_taken, request_fits, request_none}
use Rattle.history.proofs.StateLaws.{length_unread}

-- Every call refuses no words by 2.
pub call_of_nothing : (v : View) → answer_width ≤ length v.out → call_of [] v ≡ refused_by wrong_count v
unfolding call_of early_refusal first_of unless_refused called_by refusal_of shape_ok
call_of_nothing v h =
    let short : ltb (row_at []).fixed 0 ≡ false = le-ltb (row_at []).fixed 0 (omega arith) in
    rw (long_slice v.out h, short) refl

-- ---- an answer's head counts fewer words than the longest answer has

few_answer : (answer out : List ℕ) → head_counts answer ≡ true → fine_answer answer ≡ true → count_in (get_or (answer_in answer out) 0 0) < answer_width
unfolding head_counts fine_answer answer_in
few_answer [] out c f = absurd (let z : ◌≡◌ {A = ℕ} 0 1 = cc in omega arith)
few_answer (head ∷ words) out c f =
    let few : suc (length words) ≤ answer_width = leb-true (suc (length words)) answer_width (and_left (leb (suc (length words)) answer_width) (every is_word (head ∷ words)) f) in
    let count : count_in head ≡ count_in (length words) = eqb-true (count_in head) (count_in (length words)) c in
    omega arith

few_called : (v : View) (r : Ruling Model) → proper r ≡ true → answers fine_answer r ≡ true → (called_by v r).result ≡ 0 → count_in (get_or (called_by v r).view.out 0 0) < answer_width
unfolding called_by refused_by proper answers
few_called v (refuse n) p f e = true_not_false (eqb n 0) (eq-eqb n 0 e) (refusal_nonzero n p)
few_called v (accept answer m) p f e = few_answer answer v.out p f

module _ (t : List ℕ) (l : Lent) (valid : sound l.stores ≡ true) (words : every is_word t ≡ true) (long : answer_width ≤ length l.out) where
  pub call_of_few : (call_of t (view_of l)).result ≡ 0 → count_in (get_or (call_of t (view_of l)).view.out 0 0) < answer_width
  call_of_few =
      rw (call_of_long t (view_of l) valid long)
      (few_called (view_of l) (step (fixed_of l.stores) (model_in l.stores) t) (step_proper (fixed_of l.stores) (model_in l.stores) t)
      (step_answers (fixed_of l.stores) (model_in l.stores) t (model_in_fine l.stores valid) words))

few_digits : every (λ m. ltb m 100) refusals ≡ true
unfolding every refusals of_slice of_request of_store of_rules of_entry of_commit of_materialize of_units
few_digits = refl

-- a result has at most two digits
number_small : (n : ℕ) → is_result n ≡ true → n < 100
unfolding is_result is_refusal
number_small n h = go (eqb n 0) refl h
  where
    go : (b : Bool) → eqb n 0 ≡ b → (eqb n 0 || is_in n refusals) ≡ true → n < 100
    go true e k = omega (arith, eqb-true n 0 e)
    go false e k = ltb-true n 100 (is_in_every (λ m. ltb m 100) n refusals few_digits (rw e at k))

shown_seen : (t : List ℕ) (l : Lent) (r : ℕ) (after : Lent) → Calls t l r after → shown r after.out ≡ seen_of (call_of t (view_of l))
unfolding seen_of
shown_seen t l r after k = ap seen_of k.called

-- Nothing is unread, so nothing is put, and the run stops.
module _ (s : State) (b : List ℕ) (l : View) (o : List ℕ) (long : answer_width ≤ length l.out) (empty : length (unread s b) ≡ 0) where
  none : request_in (unread s b) ≡ []
  none = request_none (unread s b) (omega (arith, empty))

  same : call_of (request_in (unread s b)) l ≡ refused_by wrong_count l
  same = ap (λ (t : List ℕ). call_of t l) none ∙ call_of_nothing l long

  no_line : line_for (unread s b) l ≡ []
  unfolding line_for
  no_line = rw (eq-eqb _ 0 empty) refl

  pub answered_nothing : Answered s (unread s b) l o (record { at = s.at; end = s.end; put = s.put; got = s.got; sent = s.sent; over = s.over; stop = true; failed = s.failed }) l o
  unfolding after refused_by
  answered_nothing =
      record {
        view = sym (ap (λ (c : CalledView). c.view) same);
        line = rw no_line refl;
        state = rw (no_line, none, at, put) refl;
      }
    where
      at : s.at + 4 * 0 ≡ s.at
      at = omega arith

      put : s.put + 0 ≡ s.put
      put = omega arith

-- What a call shows is a number of two digits, or an answer no longer than its slice.
module _ (t : List ℕ) (l : Lent) (r : ℕ) (l' : Lent) (valid : sound l.stores ≡ true) (words : AreWords t) (calls : Calls t l r l') where
  pub shows_small : r < 100
  shows_small = number_small r (total t l r l' calls).number

  pub shows_few : answer_width ≤ length l.out → r ≡ 0 → count_in (get_or l'.out 0 0) < answer_width
  shows_few long e =
      let h = call_of_few t l valid (words_every t words) long (ap (λ (c : CalledView). c.result) (sym calls.called) ∙ e) in
      subst (λ (v : View). count_in (get_or v.out 0 0) < answer_width) (ap (λ (c : CalledView). c.view) (sym calls.called)) h

-- The next request is called: l' is left, n words were used and r is the result.
pub record Served (s : State) (b : List ℕ) (l l' : Lent) (n r : ℕ) : Type 0 where
  pub called : Calls (request_in (unread s b)) l r l'
  pub count : n ≡ length (request_in (unread s b))
  pub used : 4 * n ≤ s.end - s.at

-- The words w that the call has are those of the unread bytes u.
pub served : (s : State) (b u w₀ w : List ℕ) (l l' : Lent) (n r : ℕ) → s.at ≤ s.end → s.end ≤ length b → u ≡ unread s b → Loads u w₀ w n
    → Calls (take n w) l r l' → Served s b l l' n r
served s b u w₀ w l l' n r from to same loads calls =
    let used : (4 * n) ≤ length u = omega (arith, loads.1, (request_fits u).1) in
    record {
      called = subst (λ (v : List ℕ). Calls (request_in v) l r l') same (rw (request_taken u w₀ w n loads) at calls);
      count = loads.1 ∙ ap (λ (v : List ℕ). length (request_in v)) same;
      used = omega (arith, used, ap (λ (v : List ℕ). length v) same, length_unread s b (record { from = from; to = to }));
    }

-- Its line is put.
module _ (s : State) (b : List ℕ) (l l' : Lent) (n r put : ℕ) (m : Served s b l l' n r) (end : put ≡ s.put + length (line_of (shown r l'.out))) where
  module _ (o p : List ℕ) (some : length (unread s b) ≡ 0 → ⊥) (line : p ≡ sets o s.put (line_of (shown r l'.out))) where
    its_line : line_of (shown r l'.out) ≡ line_for (unread s b) (view_of l)
    unfolding line_for
    its_line =
        rw (ne_eqb (length (unread s b)) 0 some) (ap line_of (shown_seen (request_in (unread s b)) l r l' m.called))

    pub answered_request : Answered s (unread s b) (view_of l) o (record { at = s.at + 4 * n; end = s.end; put = put; got = s.got; sent = s.sent; over = s.over; stop = eqb n 0; failed = s.failed }) (view_of l') p
    unfolding after
    answered_request =
        record {
          view = ap (λ (c : CalledView). c.view) m.called.called;
          line = line ∙ ap (λ (x : List ℕ). sets o s.put x) its_line;
          state =
              λ i.
              record {
                at = s.at + 4 * m.count i;
                end = s.end;
                put = (end ∙ ap (λ (x : List ℕ). s.put + length x) its_line) i;
                got = s.got;
                sent = s.sent;
                over = s.over;
                stop = eqb (m.count i) 0;
                failed = s.failed;
              };
        }
