-- What the function `turn` ensures, from what the function that it ends in does.
use Rattle.std.proofs.Common.{◌≡◌, ℕ, ◌+◌, ◌-◌, ◌^◌, ◌<◌, ◌≤◌, true, false, List, length, take, drop, sym, ap, ◌∙◌, subst, arith, drop_at}
use Rattle.std.specs.declared.option.Option.{Option}
use Rattle.std.specs.Io.KnownBytes.{Consumes}
use Rattle.types.specs.Response.{answer_width}
use Rattle.mvhashmap.specs.Call.{View}
use Rattle.history.specs.State.{State, Within, unread, wants_more, emptied, read_on, ReadOn, gave_up, budget}
use Rattle.history.specs.Turn.{line_for, Answered}
use Rattle.history.specs.Moved.{Handed, TurnedBy}
use Rattle.history.proofs.StateLaws.{length_unread, wanted, settled, budget_written, budget_gave_up, budget_read}
use Rattle.history.proofs.MovedLaws.{by_written, by_gave_up, by_read}
use Rattle.history.proofs.TurnAnswers.{budget_answered, by_answered}

-- The reader's and the writer's known bytes before and after stand first.
abbrev Goes : (had has held holds : Option (List ℕ)) → State → List ℕ → View → List ℕ → State → List ℕ → View → List ℕ → Type 0
Goes had has held holds s b l o r c m p = (budget r < budget s) × TurnedBy had has held holds s b l o r c m p

module _ (s : State) (b : List ℕ) (l : View) (o : List ℕ) where
  module _ (waits : s.put ≤ length o) (goes_on_lem : s.failed ≡ false) (a u w : Option (List ℕ)) where
    pub goes_written : 0 < s.put → (r : State) (p : List ℕ) → r ≡ emptied s r.failed → p ≡ o → Handed u w (take s.put o) r.failed
        → Goes a a u w s b l o r b l p
    goes_written some r p e kept x =
        subst (λ (q : List ℕ). Goes a a u w s b l o r b l q) (sym kept)
        (subst (λ (k : State). Goes a a u w s b l o k b l o) (sym e)
        (budget_written s r.failed some goes_on_lem, by_written a u w s b l o r.failed waits x))

  pub goes_gave_up : (a w : Option (List ℕ)) → s.failed ≡ false → Goes a a w w s b l o (gave_up s) b l o
  goes_gave_up a w e = (budget_gave_up s e, by_gave_up a w s b l o)

  module _ (within : Within (length b) s) (wants : wants_more s b ≡ true) (r : State) (c : List ℕ) (to : r.end ≤ length c)
      (x : ReadOn s b r c) (counts : s.got + length c < 2 ^ 64)
      (p q w : Option (List ℕ)) (gave : Consumes p q (drop (s.end - s.at) (unread r c))) where
    end_read : r.end ≡ s.end - s.at + length x.more
    unfolding read_on
    end_read = ap (λ (k : State). k.end) x.state

    less : budget r < budget s
    less =
        subst (λ (k : State). budget k < budget s) (sym x.state)
        (budget_read s (length x.more) (wanted s b wants).0 (omega (arith, to, end_read)))

    more : drop (s.end - s.at) (unread r c) ≡ x.more
    more =
        ap (λ (k : List ℕ). drop (s.end - s.at) k) x.follows
        ∙ drop_at (unread s b) x.more (s.end - s.at) (length_unread s b within)

    pub goes_read : (m : View) (n : List ℕ) → m ≡ l → n ≡ o → Goes p q w w s b l o r c m n
    goes_read m n e f = rw (e, f) (less, by_read p q w s b l o r c (wanted s b wants).0 x (subst (Consumes p q) more gave))

  module _ (within : Within (length b) s) (long : answer_width ≤ length l.out) (settles : wants_more s b ≡ false) (stop : s.stop ≡ false)
      (r : State) (m : View) (p : List ℕ) (waits : r.put ≤ length p) (x : Answered s (unread s b) l o r m p)
      (a w : Option (List ℕ)) where
    pub goes_answered : (c : List ℕ) → c ≡ b → Goes a a w w s b l o r c m p
    goes_answered c e = rw e (
      budget_answered s b l o within long (settled s b settles) stop r (line_for (unread s b) l) x.state,
      by_answered s b l o within long (settled s b settles) stop a w r m p waits x,
    )
