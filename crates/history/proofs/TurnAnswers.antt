-- Laws of a turn that answers: the next request is that of all the input to come, and its line follows those that wait.
use Rattle.std.proofs.Common.{◌≡◌, ℕ, ◌+◌, ◌-◌, ◌*◌, ◌^◌, ◌<◌, ◌≤◌, Bool, true, false, cond, ◌||◌, eqb, List, [], ◌++◌, length, take, drop, sym, refl, ap, ◌∙◌, append_assoc, append-nil, arith, length-append, length-drop, length-take-le, drop-drop, take-add, drop_at, eq-eqb, ne_eqb, eqb-true}
use Rattle.std.specs.declared.option.Option.{Option}
use lib.Seq.{sets, sets-eq, length-sets, drop-append-le, take-append-add}
use borrow.Author.Tests.{eqb-false}
use Rattle.lists.proofs.Bools.{never}
use Rattle.types.specs.Response.{answer_width}
use Rattle.mvhashmap.specs.Call.{View, CalledView, call_of, refused_by}
use Rattle.mvhashmap.specs.Run.{seen_of}
use Rattle.history.specs.Input.{request_in, decided}
use Rattle.history.specs.Line.{line_of}
use Rattle.history.specs.Whole.{requests_in, lines_of, view_after}
use Rattle.history.specs.State.{State, Within, unread, budget}
use Rattle.history.specs.Turn.{line_for, after, Answered, lines_ahead, view_ahead, Turned}
use Rattle.history.specs.Moved.{TurnedBy}
use Rattle.history.proofs.InputRequests.{request_fits, request_none}
use Rattle.history.proofs.InputDecided.{decided_few, request_in_decided}
use Rattle.history.proofs.WholeLaws.{lines_of_none, view_after_none, lines_of_next, view_after_next}
use Rattle.history.proofs.StateLaws.{length_unread, less_answered}
use Rattle.history.proofs.TurnCalls.{call_of_nothing}
use Rattle.history.proofs.TurnSteps.{none_read, none_sent}
use Rattle.history.proofs.MovedLaws.{moved_none}

settled_request : (over : Bool) (u rest : List ℕ) → over || decided u ≡ true → (over ≡ true → rest ≡ []) → request_in (u ++ rest) ≡ request_in u
settled_request true u rest e h = ap (λ (k : List ℕ). request_in (u ++ k)) (h refl) ∙ ap request_in (append-nil u)
settled_request false u rest e h = request_in_decided u rest e

settled_nothing : (over : Bool) (u rest : List ℕ) → over || decided u ≡ true → (over ≡ true → rest ≡ []) → length u ≡ 0 → length (u ++ rest) ≡ 0
settled_nothing true u rest e h z = omega (arith, z, length-append u rest, ap (λ (k : List ℕ). length k) (h refl))
settled_nothing false u rest e h z = never (sym (decided_few u (omega arith) ∙ e))

-- What is left of a front of bytes after its first m.
drop_take : (n m : ℕ) (l : List ℕ) → m ≤ n → m ≤ length l → drop m (take n l) ≡ take (n - m) (drop m l)
drop_take n m l h k =
    let e : n ≡ m + (n - m) = omega arith in
    ap (λ (i : ℕ). drop m (take i l)) e
    ∙ ap (λ (r : List ℕ). drop m r) (take-add m (n - m) l)
    ∙ drop_at (take m l) (take (n - m) (drop m l)) m (length-take-le m l k)

unread_used : (at end k : ℕ) (b : List ℕ) → at + k ≤ end → end ≤ length b
    → take (end - (at + k)) (drop (at + k) b) ≡ drop k (take (end - at) (drop at b))
unread_used at end k b h m =
    let e : end - at - k ≡ end - (at + k) = omega arith in
    sym
    (drop_take (end - at) k (drop at b) (omega arith) (omega (arith, length-drop at b))
    ∙ ap (λ (i : ℕ). take i (drop k (drop at b))) e
    ∙ ap (λ (r : List ℕ). take (end - (at + k)) r) (drop-drop k at b))

after_put : (s : State) (u line : List ℕ) → (after s u line).put ≡ s.put + length line
unfolding after
after_put s u line = refl

budget_after : (s : State) (u line : List ℕ) → s.stop ≡ false → s.at + 4 * length (request_in u) ≤ s.end → budget (after s u line) < budget s
unfolding budget after
budget_after s u line e h =
    rw e
    (less_answered (2 * (2 ^ 64 - 1 - s.got)) s.at s.end (length (request_in u)) s.put (length line) (cond s.over 0 1)
    (cond s.failed 0 1) h)

-- A line that is put after n bytes follows them.
take_sets : (o line : List ℕ) (n : ℕ) → n + length line ≤ length o → take (n + length line) (sets o n line) ≡ take n o ++ line
take_sets o line n h =
    let first : length (take n o ++ line) ≡ n + length line = omega (arith, length-append (take n o) line, length-take-le n o (omega arith)) in
    ap (λ (k : List ℕ). take (n + length line) k) (sets-eq line o n h)
    ∙ ap (λ (k : ℕ). take k ((take n o ++ line) ++ drop (n + length line) o)) (sym first ∙ none_read (length (take n o ++ line)))
    ∙ take-append-add (take n o ++ line) (drop (n + length line) o) 0
    ∙ append-nil (take n o ++ line)

module _ (s : State) (b : List ℕ) (l : View) (o : List ℕ) (within : Within (length b) s) (long : answer_width ≤ length l.out)
    (ready : s.over || decided (unread s b) ≡ true) (stop : s.stop ≡ false) where
  abbrev u : List ℕ
  u = unread s b

  abbrev t : List ℕ
  t = request_in (unread s b)

  abbrev left : View
  left = (call_of (request_in (unread s b)) l).view

  line_some : (length u ≡ 0 → ⊥) → line_for u l ≡ line_of (seen_of (call_of t l))
  unfolding line_for
  line_some some = rw (ne_eqb (length u) 0 some) refl

  line_none : length u ≡ 0 → line_for u l ≡ []
  unfolding line_for
  line_none z = rw (eq-eqb (length u) 0 z) refl

  request_empty : length u ≡ 0 → t ≡ []
  request_empty z = request_none u (omega arith)

  left_none : length u ≡ 0 → left ≡ l
  unfolding refused_by
  left_none z = ap (λ (k : List ℕ). (call_of k l).view) (request_empty z) ∙ ap (λ (k : CalledView). k.view) (call_of_nothing l long)

  module _ (rest : List ℕ) (h : s.over ≡ true → rest ≡ []) where
    next_drop : drop (4 * length t) (u ++ rest) ≡ drop (4 * length t) u ++ rest
    next_drop = drop-append-le (4 * length t) u rest (request_fits u).1

    first : request_in (u ++ rest) ≡ t
    first = settled_request s.over u rest ready h

    more : (length u ≡ 0 → ⊥) → length (u ++ rest) ≡ 0 → ⊥
    more some z = some (omega (arith, length-append u rest))

    lines_next : lines_of (requests_in (u ++ rest)) l
        ≡ line_for u l ++ cond (eqb (length t) 0) [] (lines_of (requests_in (drop (4 * length t) u ++ rest)) left)
    lines_next = go (eqb (length u) 0) refl
      where
        go : (v : Bool) → eqb (length u) 0 ≡ v → lines_of (requests_in (u ++ rest)) l
            ≡ line_for u l ++ cond (eqb (length t) 0) [] (lines_of (requests_in (drop (4 * length t) u ++ rest)) left)
        go true e =
            let z : length u ≡ 0 = eqb-true (length u) 0 e in
            let last : eqb (length t) 0 ≡ true = ap (λ (k : List ℕ). eqb (length k) 0) (request_empty z) in
            rw (line_none z, last) (lines_of_none (u ++ rest) l (settled_nothing s.over u rest ready h z))
        go false e =
            let some : length u ≡ 0 → ⊥ = eqb-false (length u) 0 e in
            rw (line_some some, sym next_drop) (lines_of_next (u ++ rest) t l (more some) first)

    view_next : view_after (requests_in (u ++ rest)) l
        ≡ cond (eqb (length t) 0) left (view_after (requests_in (drop (4 * length t) u ++ rest)) left)
    view_next = go (eqb (length u) 0) refl
      where
        go : (v : Bool) → eqb (length u) 0 ≡ v → view_after (requests_in (u ++ rest)) l
            ≡ cond (eqb (length t) 0) left (view_after (requests_in (drop (4 * length t) u ++ rest)) left)
        go true e =
            let z : length u ≡ 0 = eqb-true (length u) 0 e in
            let last : eqb (length t) 0 ≡ true = ap (λ (k : List ℕ). eqb (length k) 0) (request_empty z) in
            rw last (view_after_none (u ++ rest) l (settled_nothing s.over u rest ready h z) ∙ sym (left_none z))
        go false e =
            let some : length u ≡ 0 → ⊥ = eqb-false (length u) 0 e in
            rw (sym next_drop) (view_after_next (u ++ rest) t l (more some) first)

  used : s.at + 4 * length t ≤ s.end
  used = omega (arith, within.from, within.to, (request_fits u).1, length_unread s b within)

  unread_after : (line : List ℕ) → unread (after s u line) b ≡ drop (4 * length t) u
  unfolding unread after
  unread_after line = unread_used s.at s.end (4 * length t) b used within.to

  pub budget_answered : (r : State) (line : List ℕ) → r ≡ after s u line → budget r < budget s
  budget_answered r line e = rw e (budget_after s u line stop used)

  module _ (fits : s.put + length (line_for u l) ≤ length o) where
    module _ (rest : List ℕ) (h : s.over ≡ true → rest ≡ []) where
      after_lines : lines_ahead s b l o rest ≡ lines_ahead (after s u (line_for u l)) b left (sets o s.put (line_for u l)) rest
      unfolding lines_ahead after
      after_lines =
          ap (λ (v : Bool). take s.put o ++ cond v [] (lines_of (requests_in (u ++ rest)) l)) stop
          ∙ ap (λ (k : List ℕ). take s.put o ++ k) (lines_next rest h)
          ∙ sym (append_assoc (take s.put o) (line_for u l) (cond (eqb (length t) 0) [] (lines_of (requests_in (drop (4 * length t) u ++ rest)) left)))
          ∙ ap (λ (k : List ℕ). k ++ cond (eqb (length t) 0) [] (lines_of (requests_in (drop (4 * length t) u ++ rest)) left))
          (sym (take_sets o (line_for u l) s.put fits))
          ∙ ap
          (λ (k : List ℕ).
          take (s.put + length (line_for u l)) (sets o s.put (line_for u l)) ++ cond (eqb (length t) 0) [] (lines_of (requests_in (k ++ rest)) left))
          (sym (unread_after (line_for u l)))

      after_view : view_ahead s b l rest ≡ view_ahead (after s u (line_for u l)) b left rest
      unfolding view_ahead after
      after_view =
          ap (λ (v : Bool). cond v l (view_after (requests_in (u ++ rest)) l)) stop
          ∙ view_next rest h
          ∙ ap (λ (k : List ℕ). cond (eqb (length t) 0) left (view_after (requests_in (k ++ rest)) left)) (sym (unread_after (line_for u l)))

    unfoldable turned_after : Turned s b l o (after s u (line_for u l)) b left (sets o s.put (line_for u l))
    unfolding after
    turned_after =
        record {
          read = [];
          written = [];
          got = none_read s.got;
          sent = none_sent s.sent;
          ended = λ e. (refl, e);
          lines = after_lines;
          view = after_view;
        }

    by_after : (a w : Option (List ℕ)) → TurnedBy a a w w s b l o (after s u (line_for u l)) b left (sets o s.put (line_for u l))
    unfolding turned_after
    by_after a w = record { turned = turned_after; moved = moved_none a w (after s u (line_for u l)).failed }

  pub by_answered : (a w : Option (List ℕ)) (r : State) (l' : View) (p : List ℕ) → r.put ≤ length p → Answered s u l o r l' p → TurnedBy a a w w s b l o r b l' p
  by_answered a w r l' p h x = rw (x.state, x.view, x.line) (by_after fits a w)
    where
      put_after : (after s u (line_for u l)).put ≡ s.put + length (line_for u l)
      put_after = after_put s u (line_for u l)

      fits : s.put + length (line_for u l) ≤ length o
      fits =
          omega
          (arith, h, put_after, ap (λ (k : State). k.put) x.state, ap (λ (k : List ℕ). length k) x.line, length-sets o s.put (line_for u l))
