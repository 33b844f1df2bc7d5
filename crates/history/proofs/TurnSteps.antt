-- Laws of turns: none, one after the other, and those that write, give up or read on.
use Rattle.std.proofs.Common.{◌≡◌, ℕ, ◌+◌, ◌%◌, ◌^◌, ◌<◌, ◌≤◌, Bool, true, false, cond, List, [], ◌++◌, length, take, sym, refl, ap, ◌∙◌, append_assoc, mod-lt, mod-eq_of_lt, arith, lit≤, length-append, length-take-le}
use native.Mathlib.Nat.{mod-add-mod}
use Rattle.lists.proofs.Bools.{true_not_false}
use Rattle.mvhashmap.specs.Call.{View}
use Rattle.history.specs.Whole.{requests_in, lines_of, view_after}
use Rattle.history.specs.State.{State, unread, emptied, read_on, ReadOn, gave_up}
use Rattle.history.specs.Turn.{lines_ahead, view_ahead, Turned}

-- ---- none, and one after the other

pub none_read : (n : ℕ) → n ≡ n + 0
none_read n = omega arith

pub none_sent : (n : ℕ) → n < 2 ^ 64 → n ≡ (n + 0) % 2 ^ 64
none_sent n h = sym (mod-eq_of_lt h) ∙ ap (λ (k : ℕ). k % 2 ^ 64) (none_read n)

unfoldable pub turned_none : (s : State) (b : List ℕ) (l : View) (o : List ℕ) → Turned s b l o s b l o
turned_none s b l o =
    record {
      read = [];
      written = [];
      got = none_read s.got;
      sent = none_sent s.sent;
      ended = λ e. (refl, e);
      lines = λ rest h. refl;
      view = λ rest h. refl;
    }

module _ (s : State) (b : List ℕ) (l : View) (o : List ℕ) (r : State) (c : List ℕ) (m : View) (p : List ℕ) (t : State) (d : List ℕ) (n : View) (q : List ℕ)
    (x : Turned s b l o r c m p) (y : Turned r c m p t d n q) where
  pub both_sent : s.sent < 2 ^ 64 → t.sent ≡ (s.sent + length (x.written ++ y.written)) % 2 ^ 64
  both_sent h =
      let fits : r.sent < 2 ^ 64 = rw (x.sent h) (mod-lt (s.sent + length x.written) (lit≤ tt)) in
      let sum : s.sent + length x.written + length y.written ≡ s.sent + length (x.written ++ y.written) =
      omega (arith, length-append x.written y.written) in
      y.sent fits
      ∙ ap (λ (k : ℕ). (k + length y.written) % 2 ^ 64) (x.sent h)
      ∙ mod-add-mod (s.sent + length x.written) (2 ^ 64) (length y.written)
      ∙ ap (λ (k : ℕ). k % 2 ^ 64) sum

  pub both_ended : s.over ≡ true → (x.read ++ y.read ≡ []) × (t.over ≡ true)
  both_ended e =
      let over : r.over ≡ true = (x.ended e).1 in
      (ap (λ (k : List ℕ). k ++ y.read) (x.ended e).0 ∙ (y.ended over).0, (y.ended over).1)

  module _ (rest : List ℕ) (h : t.over ≡ true → rest ≡ []) where
    then_rest : r.over ≡ true → y.read ++ rest ≡ []
    then_rest e = ap (λ (k : List ℕ). k ++ rest) (y.ended e).0 ∙ h (y.ended e).1

    pub both_lines : lines_ahead s b l o ((x.read ++ y.read) ++ rest) ≡ (x.written ++ y.written) ++ lines_ahead t d n q rest
    both_lines =
        ap (λ (k : List ℕ). lines_ahead s b l o k) (append_assoc x.read y.read rest)
        ∙ x.lines (y.read ++ rest) then_rest
        ∙ ap (λ (k : List ℕ). x.written ++ k) (y.lines rest h)
        ∙ sym (append_assoc x.written y.written (lines_ahead t d n q rest))

    pub both_view : view_ahead s b l ((x.read ++ y.read) ++ rest) ≡ view_ahead t d n rest
    both_view =
        ap (λ (k : List ℕ). view_ahead s b l k) (append_assoc x.read y.read rest) ∙ x.view (y.read ++ rest) then_rest ∙ y.view rest h

  unfoldable pub turned_then : Turned s b l o t d n q
  turned_then =
      record {
        read = x.read ++ y.read;
        written = x.written ++ y.written;
        got = omega (arith, x.got, y.got, length-append x.read y.read);
        sent = both_sent;
        ended = both_ended;
        lines = both_lines;
        view = both_view;
      }

-- ---- what waits is written

unfoldable pub turned_written : (s : State) (b : List ℕ) (l : View) (o : List ℕ) (failed : Bool) → s.put ≤ length o → Turned s b l o (emptied s failed) b l o
unfolding lines_ahead view_ahead emptied unread
turned_written s b l o failed h =
    record {
      read = [];
      written = take s.put o;
      got = none_read s.got;
      sent = λ k. ap (λ (n : ℕ). (s.sent + n) % 2 ^ 64) (sym (length-take-le s.put o h));
      ended = λ e. (refl, e);
      lines = λ rest e. refl;
      view = λ rest e. refl;
    }

-- ---- no more bytes can be counted

unfoldable pub turned_gave_up : (s : State) (b : List ℕ) (l : View) (o : List ℕ) → Turned s b l o (gave_up s) b l o
unfolding lines_ahead view_ahead gave_up unread
turned_gave_up s b l o =
    record {
      read = [];
      written = [];
      got = none_read s.got;
      sent = none_sent s.sent;
      ended = λ e. (refl, e);
      lines = λ rest h. refl;
      view = λ rest h. refl;
    }

-- ---- more is read

module _ (s : State) (b : List ℕ) (l : View) (o : List ℕ) (r : State) (c : List ℕ) (goes_on_lem : s.over ≡ false) (x : ReadOn s b r c) where
  pub got : r.got ≡ s.got + length x.more
  unfolding read_on
  got = ap (λ (t : State). t.got) x.state

  pub sent : r.sent ≡ s.sent
  unfolding read_on
  sent = ap (λ (t : State). t.sent) x.state

  put : r.put ≡ s.put
  unfolding read_on
  put = ap (λ (t : State). t.put) x.state

  stop : r.stop ≡ s.stop
  unfolding read_on
  stop = ap (λ (t : State). t.stop) x.state

  more_first : (rest : List ℕ) → unread r c ++ rest ≡ unread s b ++ (x.more ++ rest)
  more_first rest = ap (λ (u : List ℕ). u ++ rest) x.follows ∙ append_assoc (unread s b) x.more rest

  pub read_lines : (rest : List ℕ) → lines_ahead s b l o (x.more ++ rest) ≡ lines_ahead r c l o rest
  unfolding lines_ahead
  read_lines rest =
      ap (λ (k : List ℕ). take s.put o ++ cond s.stop [] (lines_of (requests_in k) l)) (sym (more_first rest))
      ∙ ap (λ (n : ℕ). take n o ++ cond s.stop [] (lines_of (requests_in (unread r c ++ rest)) l)) (sym put)
      ∙ ap (λ (v : Bool). take r.put o ++ cond v [] (lines_of (requests_in (unread r c ++ rest)) l)) (sym stop)

  pub read_view : (rest : List ℕ) → view_ahead s b l (x.more ++ rest) ≡ view_ahead r c l rest
  unfolding view_ahead
  read_view rest =
      ap (λ (k : List ℕ). cond s.stop l (view_after (requests_in k) l)) (sym (more_first rest))
      ∙ ap (λ (v : Bool). cond v l (view_after (requests_in (unread r c ++ rest)) l)) (sym stop)

  unfoldable pub turned_read : Turned s b l o r c l o
  turned_read =
      record {
        read = x.more;
        written = [];
        got = got;
        sent = λ h. sent ∙ none_sent s.sent h;
        ended = λ e. true_not_false s.over e goes_on_lem;
        lines = λ rest h. read_lines rest;
        view = λ rest h. read_view rest;
      }
