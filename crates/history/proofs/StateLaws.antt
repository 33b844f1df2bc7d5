-- Laws of the state: what is unread, what reading on and writing make of it, and that each of them lowers its budget.
use Rattle.std.proofs.Common.{◌≡◌, ℕ, ◌+◌, ◌-◌, ◌*◌, ◌%◌, ◌^◌, ◌<◌, ◌≤◌, min, Bool, true, false, cond, not, ◌||◌, eqb, List, ◌++◌, length, take, drop, sym, refl, ap, ◌∙◌, subst, arith, length-drop, length-take, length-take-le, drop_at, eqb-true}
use Rattle.std.specs.declared.option.Option.{Option}
use Rattle.std.specs.Io.KnownBytes.{Consumes}
use lib.Seq.{paste, take-append-add, take-paste, length-paste}
use borrow.Author.Tests.{eqb-false, not-true, not-false}
use Rattle.lists.proofs.Bools.{never}
use Rattle.history.specs.Input.{decided}
use Rattle.history.specs.State.{State, longest_request, Within, unread, wants_more, emptied, read_on, ReadOn, gave_up, budget}
use Rattle.history.proofs.InputDecided.{undecided_short}

pub length_unread : (s : State) (b : List ℕ) → Within (length b) s → length (unread s b) ≡ s.end - s.at
unfolding unread
length_unread s b h = omega (arith, h.from, h.to, length-take (s.end - s.at) (drop s.at b), length-drop s.at b)

-- ---- whether more is read

pub wants_over : (s : State) (b : List ℕ) → s.over ≡ true → false ≡ wants_more s b
unfolding wants_more
wants_over s b e = rw e refl

pub wants_decided : (s : State) (b : List ℕ) (t : Bool) → s.over ≡ false → t ≡ decided (unread s b) → not t ≡ wants_more s b
unfolding wants_more unread
wants_decided s b t e d = rw e (ap not d)

pub wanted : (s : State) (b : List ℕ) → wants_more s b ≡ true → (s.over ≡ false) × (decided (unread s b) ≡ false)
unfolding wants_more
wanted s b e = go s.over e
  where
    go : (t : Bool) → cond t false (not (decided (unread s b))) ≡ true → (t ≡ false) × (decided (unread s b) ≡ false)
    go true e = never (sym e)
    go false e = (refl, not-true (decided (unread s b)) e)

pub settled : (s : State) (b : List ℕ) → wants_more s b ≡ false → s.over || decided (unread s b) ≡ true
unfolding wants_more
settled s b e = go s.over e
  where
    go : (t : Bool) → cond t false (not (decided (unread s b))) ≡ false → t || decided (unread s b) ≡ true
    go true e = refl
    go false e = not-false (decided (unread s b)) e

pub room_to_read : (s : State) (b : List ℕ) → Within (length b) s → longest_request ≤ length b → wants_more s b ≡ true → s.end - s.at < length b
room_to_read s b within room e = omega (arith, undecided_short (unread s b) (wanted s b e).1, length_unread s b within)

-- ---- writing

pub written_is : (s : State) (o : List ℕ) (total : ℕ) (failed : Bool) → s.put ≤ length o → total ≡ (s.sent + length (take s.put o)) % 2 ^ 64
    → ◌≡◌ {A = State} (record { at = s.at; end = s.end; put = 0; got = s.got; sent = total; over = s.over; stop = s.stop; failed = failed })
    (emptied s failed)
unfolding emptied
written_is s o total failed h e =
    λ i. record { at = s.at; end = s.end; put = 0; got = s.got; sent = counted i; over = s.over; stop = s.stop; failed = failed }
  where
    counted : total ≡ (s.sent + s.put) % 2 ^ 64
    counted = e ∙ ap (λ (n : ℕ). (s.sent + n) % 2 ^ 64) (length-take-le s.put o h)

-- ---- reading on: the bytes that are left are moved down, and m follow them, of which the read brought n

module _ (s : State) (b moved m : List ℕ) (n : ℕ) (within : Within (length b) s) (down : moved ≡ paste b 0 (drop s.at b) (s.end - s.at))
    (few : n ≤ length m) where
  abbrev left : ℕ
  left = s.end - s.at

  inside : left ≤ length (drop s.at b)
  inside = omega (arith, within.from, within.to, length-drop s.at b)

  long : length (take left moved) ≡ left
  long =
      let same = length-paste b 0 (drop s.at b) left (omega (arith, within.from, within.to)) inside in
      length-take-le left moved (omega (arith, within.from, within.to, ap (λ (l : List ℕ). length l) down))

  front : take left moved ≡ take left (drop s.at b)
  front =
      let z : left ≡ 0 + left = omega arith in
      ap (λ (l : List ℕ). take left l) down
      ∙ ap (λ (k : ℕ). take k (paste b 0 (drop s.at b) left)) z
      ∙ take-paste b 0 (drop s.at b) left (omega arith) inside

  follows : take (left + n - 0) (drop 0 (take left moved ++ m)) ≡ take left (drop s.at b) ++ take n m
  follows =
      let z : left + n - 0 ≡ length (take left moved) + n = omega (arith, long) in
      ap (λ (k : ℕ). take k (take left moved ++ m)) z ∙ take-append-add (take left moved) m n ∙ ap (λ (l : List ℕ). l ++ take n m) front

  pub read_follows : ReadOn s b
      (record { at = 0; end = left + n; put = s.put; got = s.got + n; sent = s.sent; over = eqb n 0; stop = s.stop; failed = s.failed })
      (take left moved ++ m)
  unfolding unread read_on
  read_follows =
      record {
        more = take n m;
        follows = follows;
        state =
            λ i.
            record {
              at = 0;
              end = left + brought i;
              put = s.put;
              got = s.got + brought i;
              sent = s.sent;
              over = eqb (brought i) 0;
              stop = s.stop;
              failed = s.failed;
            };
      }
    where
      brought : n ≡ length (take n m)
      brought = sym (length-take-le n m few)

  -- what follows them is what a reader gave
  pub read_gives : (p q : Option (List ℕ)) → Consumes p q (take n m)
      → Consumes p q
      (drop left
      (unread (record { at = 0; end = left + n; put = s.put; got = s.got + n; sent = s.sent; over = eqb n 0; stop = s.stop; failed = s.failed })
      (take left moved ++ m)))
  unfolding unread
  read_gives p q h = subst (Consumes p q) (sym last) h
    where
      last : drop left (take (left + n - 0) (drop 0 (take left moved ++ m))) ≡ take n m
      last =
          ap (λ (l : List ℕ). drop left l) follows
          ∙ drop_at (take left (drop s.at b)) (take n m) left (length-take-le left (drop s.at b) inside)

-- ---- budgets

one_at_most : (t : Bool) → cond {A = ℕ} t 0 1 ≤ 1
one_at_most true = omega arith
one_at_most false = omega arith

less_written : (a b c d f p : ℕ) → 0 < p → f ≤ 1 → a + b + min 1 0 + c + d + f < a + b + min 1 p + c + d + 1
less_written a b c d f p h k = omega arith

pub budget_written : (s : State) (failed : Bool) → 0 < s.put → s.failed ≡ false → budget (emptied s failed) < budget s
unfolding budget emptied
budget_written s failed h e =
    rw e
    (less_written (2 * (2 ^ 64 - 1 - s.got)) (s.end - s.at) (cond s.over 0 1) (cond s.stop 0 2) (cond failed 0 1) s.put h
    (one_at_most failed))

less_gave_up : (a b p c d : ℕ) → a + b + p + c + d + 0 < a + b + p + c + d + 1
less_gave_up a b p c d = omega arith

pub budget_gave_up : (s : State) → s.failed ≡ false → budget (gave_up s) < budget s
unfolding budget gave_up
budget_gave_up s e =
    rw e (less_gave_up (2 * (2 ^ 64 - 1 - s.got)) (s.end - s.at) (min 1 s.put) (cond s.over 0 1) (cond s.stop 0 2))

less_read : (got n left p d f : ℕ) → got + n < 2 ^ 64
    → 2 * (2 ^ 64 - 1 - (got + n)) + (left + n - 0) + p + cond (eqb n 0) 0 1 + d + f < 2 * (2 ^ 64 - 1 - got) + left + p + 1 + d + f
less_read got n left p d f h = go (eqb n 0) refl
  where
    go : (t : Bool) → eqb n 0 ≡ t → 2 * (2 ^ 64 - 1 - (got + n)) + (left + n - 0) + p + cond t 0 1 + d + f < 2 * (2 ^ 64 - 1 - got) + left + p + 1 + d + f
    go true e = omega (arith, eqb-true n 0 e)
    go false e = let some : n ≡ 0 → ⊥ = eqb-false n 0 e in omega arith

pub budget_read : (s : State) (n : ℕ) → s.over ≡ false → s.got + n < 2 ^ 64 → budget (read_on s n) < budget s
unfolding budget read_on
budget_read s n e h = rw e (less_read s.got n (s.end - s.at) (min 1 s.put) (cond s.stop 0 2) (cond s.failed 0 1) h)

pub less_answered : (a at end n put line c f : ℕ) → at + 4 * n ≤ end
    → a + (end - (at + 4 * n)) + min 1 (put + line) + c + cond (eqb n 0) 0 2 + f < a + (end - at) + min 1 put + c + 2 + f
less_answered a at end n put line c f h = go (eqb n 0) refl
  where
    go : (t : Bool) → eqb n 0 ≡ t → a + (end - (at + 4 * n)) + min 1 (put + line) + c + cond t 0 2 + f < a + (end - at) + min 1 put + c + 2 + f
    go true e = omega (arith, eqb-true n 0 e)
    go false e = let some : n ≡ 0 → ⊥ = eqb-false n 0 e in omega arith
