-- Laws of what reads and writes moved: nothing, one after the other, and at turns that write, give up or read on.
use Rattle.std.proofs.Common.{None, Some, ◌≡◌, ℕ, ◌+◌, ◌-◌, ◌≤◌, Bool, true, false, List, [], ◌++◌, length, take, drop, sym, refl, ap, ◌∙◌, subst, append_assoc, append-nil, take-append-drop, drop_of_length-le}
use Rattle.std.specs.Io.KnownBytes.{Appends, Consumes, Keeps}
use Rattle.std.specs.declared.option.Option.{Option}
use Rattle.std.proofs.lemmas.List.{take_rest}
use Rattle.std.proofs.KnownBytes.{Appends-nil, Appends-trans, Consumes-nil, Consumes-trans}
use lib.Seq.{take-add}
use Rattle.mvhashmap.specs.Call.{View}
use Rattle.history.specs.State.{State, emptied, ReadOn, gave_up}
use Rattle.history.specs.Moved.{Handed, Moved, TurnedBy}
use Rattle.history.proofs.TurnSteps.{turned_none, turned_then, turned_written, turned_gave_up, turned_read}

-- ---- bytes that are handed to a writer

pub handed_none : (w : Option (List ℕ)) (f : Bool) → Handed w w [] f
handed_none w f = record { took = []; left = []; split = refl; takes = Appends-nil w; all = λ e. refl }

pub handed_front : (a b : Option (List ℕ)) (bs : List ℕ) (n : ℕ) (f : Bool) → Appends a b (take n bs) → (f ≡ false → length bs ≤ n) → Handed a b bs f
handed_front a b bs n f h all =
    record {
      took = take n bs;
      left = drop n bs;
      split = sym (take-append-drop n bs);
      takes = h;
      all = λ e. drop_of_length-le bs (all e);
    }

-- more of the bytes from i on were taken
pub appends_more : (a b c : Option (List ℕ)) (bs : List ℕ) (i n : ℕ) → Appends a b (take i bs) → Appends b c (take n (take (length bs - i) (drop i bs)))
    → Appends a c (take (i + n) bs)
appends_more a b c bs i n h k =
    subst (Appends a c) (sym (take-add i n bs))
    (Appends-trans a b c (take i bs) (take n (drop i bs)) h (subst (λ (l : List ℕ). Appends b c (take n l)) (take_rest bs i) k))

-- nothing more was taken
pub appends_kept : (a b c : Option (List ℕ)) (bs : List ℕ) → Appends a b bs → Keeps b c → Appends a c bs
appends_kept None b c bs h k = tt
appends_kept (Some x) None c bs h k = absurd h
appends_kept (Some x) (Some y) None bs h k = absurd k
appends_kept (Some x) (Some y) (Some z) bs h k = k ∙ h

pub handed_then : (a b c : Option (List ℕ)) (xs ys : List ℕ) (f g : Bool) → Handed a b xs f → f ≡ false → Handed b c ys g → Handed a c (xs ++ ys) g
handed_then a b c xs ys f g x e y =
    record {
      took = x.took ++ y.took;
      left = y.left;
      split = ap (λ (k : List ℕ). k ++ ys) whole ∙ ap (λ (k : List ℕ). x.took ++ k) y.split ∙ sym (append_assoc x.took y.took y.left);
      takes = Appends-trans a b c x.took y.took x.takes y.takes;
      all = y.all;
    }
  where
    whole : xs ≡ x.took
    whole = x.split ∙ ap (λ (k : List ℕ). x.took ++ k) (x.all e) ∙ append-nil x.took

-- ---- what is moved

pub moved_none : (a w : Option (List ℕ)) (f : Bool) → Moved a a w w [] [] f
moved_none a w f = record { gave = Consumes-nil a; handed = handed_none w f }

pub moved_then : (a b c u v w : Option (List ℕ)) (r x s y : List ℕ) (f g : Bool) → Moved a b u v r x f → f ≡ false → Moved b c v w s y g → Moved a c u w (r ++ s) (x ++ y) g
moved_then a b c u v w r x s y f g m e n =
    record { gave = Consumes-trans a b c r s m.gave n.gave; handed = handed_then u v w x y f g m.handed e n.handed }

-- ---- turns

pub by_none : (a w : Option (List ℕ)) (s : State) (b : List ℕ) (l : View) (o : List ℕ) → TurnedBy a a w w s b l o s b l o
unfolding turned_none
by_none a w s b l o = record { turned = turned_none s b l o; moved = moved_none a w s.failed }

pub by_then : (a b c u v w : Option (List ℕ)) (s : State) (i : List ℕ) (l : View) (o : List ℕ) (r : State) (j : List ℕ) (m : View) (p : List ℕ) (t : State) (k : List ℕ) (n : View) (q : List ℕ)
    → TurnedBy a b u v s i l o r j m p → r.failed ≡ false → TurnedBy b c v w r j m p t k n q → TurnedBy a c u w s i l o t k n q
unfolding turned_then
by_then a b c u v w s i l o r j m p t k n q x e y =
    record {
      turned = turned_then s i l o r j m p t k n q x.turned y.turned;
      moved = moved_then a b c u v w x.turned.read x.turned.written y.turned.read y.turned.written r.failed t.failed x.moved e y.moved;
    }

pub by_written : (a u w : Option (List ℕ)) (s : State) (b : List ℕ) (l : View) (o : List ℕ) (failed : Bool) → s.put ≤ length o → Handed u w (take s.put o) failed → TurnedBy a a u w s b l o (emptied s failed) b l o
unfolding turned_written emptied
by_written a u w s b l o failed h x =
    record { turned = turned_written s b l o failed h; moved = record { gave = Consumes-nil a; handed = x } }

pub by_gave_up : (a w : Option (List ℕ)) (s : State) (b : List ℕ) (l : View) (o : List ℕ) → TurnedBy a a w w s b l o (gave_up s) b l o
unfolding turned_gave_up gave_up
by_gave_up a w s b l o = record { turned = turned_gave_up s b l o; moved = moved_none a w true }

pub by_read : (a b w : Option (List ℕ)) (s : State) (i : List ℕ) (l : View) (o : List ℕ) (r : State) (j : List ℕ) (e : s.over ≡ false) (x : ReadOn s i r j) → Consumes a b x.more → TurnedBy a b w w s i l o r j l o
unfolding turned_read
by_read a b w s i l o r j e x h =
    record { turned = turned_read s i l o r j e x; moved = record { gave = h; handed = handed_none w r.failed } }
