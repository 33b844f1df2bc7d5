-- Laws of a whole run: its turns, from the start on, give what it promises.
use Rattle.std.proofs.Common.{◌≡◌, ℕ, ◌+◌, ◌%◌, ◌^◌, true, false, List, [], ◌++◌, length, sym, refl, ap, ◌∙◌, append-nil, arith, lit≤}
use Rattle.std.specs.declared.option.Option.{Option}
use Rattle.lists.proofs.Bools.{true_not_false}
use Rattle.mvhashmap.specs.Call.{View}
use Rattle.history.specs.Whole.{requests_in, lines_of, view_after}
use Rattle.history.specs.State.{State, unread, start}
use Rattle.history.specs.Turn.{lines_ahead, view_ahead, Turned}
use Rattle.history.specs.Ran.{Ran}
use Rattle.history.specs.Moved.{TurnedBy, RanBy}

-- At the start nothing waits and nothing is unread.
start_lines : (b : List ℕ) (l : View) (o rest : List ℕ) → lines_ahead start b l o rest ≡ lines_of (requests_in rest) l
unfolding lines_ahead unread
start_lines b l o rest = refl

start_view : (b : List ℕ) (l : View) (rest : List ℕ) → view_ahead start b l rest ≡ view_after (requests_in rest) l
unfolding view_ahead unread
start_view b l rest = refl

-- At the end too.
end_lines : (s : State) (b : List ℕ) (l : View) (o rest : List ℕ) → s.stop ≡ true → s.put ≡ 0 → lines_ahead s b l o rest ≡ []
unfolding lines_ahead
end_lines s b l o rest e f = rw (e, f) refl

end_view : (s : State) (b : List ℕ) (l : View) (rest : List ℕ) → s.stop ≡ true → view_ahead s b l rest ≡ l
unfolding view_ahead
end_view s b l rest e = rw e refl

module _ (b : List ℕ) (l : View) (o : List ℕ) (r : State) (c : List ℕ) (m : View) (p : List ℕ) (x : Turned start b l o r c m p) where
  start_got : r.got ≡ length x.read
  start_got = omega (arith, x.got)

  start_sent : r.sent ≡ length x.written % 2 ^ 64
  start_sent = let e : 0 + length x.written ≡ length x.written = omega arith in x.sent (lit≤ tt) ∙ ap (λ (k : ℕ). k % 2 ^ 64) e

  all_lines : (rest : List ℕ) → (r.over ≡ true → rest ≡ []) → lines_of (requests_in (x.read ++ rest)) l ≡ x.written ++ lines_ahead r c m p rest
  all_lines rest h = sym (start_lines b l o (x.read ++ rest)) ∙ x.lines rest h

  all_view : (rest : List ℕ) → (r.over ≡ true → rest ≡ []) → view_after (requests_in (x.read ++ rest)) l ≡ view_ahead r c m rest
  all_view rest h = sym (start_view b l (x.read ++ rest)) ∙ x.view rest h

  unfoldable ran : (r.failed ≡ false → (r.stop ≡ true) × (r.put ≡ 0)) → Ran l r m
  ran done =
      record {
        read = x.read;
        written = x.written;
        got = start_got;
        sent = start_sent;
        stop = λ f. (done f).0;
        lines =
            λ f rest h.
            all_lines rest h ∙ ap (λ (k : List ℕ). x.written ++ k) (end_lines r c m p rest (done f).0 (done f).1) ∙ append-nil x.written;
        view = λ f rest h. all_view rest h ∙ end_view r c m rest (done f).0;
        front = λ rest h. (lines_ahead r c m p rest, all_lines rest h);
      }

module _ (a d u w : Option (List ℕ)) (b : List ℕ) (l : View) (o : List ℕ) where
  ran_by : (r : State) (c : List ℕ) (m : View) (p : List ℕ) → TurnedBy a d u w start b l o r c m p → (r.failed ≡ false → (r.stop ≡ true) × (r.put ≡ 0))
      → RanBy a d u w l r m
  unfolding ran
  ran_by r c m p x done = record { ran = ran b l o r c m p x.turned done; moved = x.moved }

  pub ran_failed : (s : State) → s ≡ start → (r : State) (c : List ℕ) (m : View) (p : List ℕ) → TurnedBy a d u w s b l o r c m p → r.failed ≡ true
      → RanBy a d u w l r m
  ran_failed s first r c m p x e = ran_by r c m p (rw first at x) (λ f. true_not_false r.failed e f)

  -- It stopped, and nothing waits.
  pub ran_stopped : (s : State) → s ≡ start → (r : State) (c : List ℕ) (m : View) (p : List ℕ) → TurnedBy a d u w s b l o r c m p → r.stop ≡ true → r.put ≡ 0
      → RanBy a d u w l r m
  ran_stopped s first r c m p x e f = ran_by r c m p (rw first at x) (λ _. (e, f))
