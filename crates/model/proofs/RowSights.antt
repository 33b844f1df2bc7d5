-- Laws of rows under a test of key and place: what is looked up and edited in sight is the same there, and an edit out of sight is not seen.
-- Assumes nothing.
use mathlib.Core.Path.{◌≡◌, refl, sym, ◌∙◌, ap}
use mathlib.Core.Bool.{Bool, true, false, not}
use mathlib.Core.List.{List, ◌∷◌, ◌++◌, reverse}
use Prim.Native.Nat.{ℕ, ◌≤◌}
use lib.Dec.{leb, eqb}
use borrow.Author.Tests.{leb-true, eqb-true}
use Rattle.lists.specs.Lists.{keep}
use Rattle.lists.proofs.Bools.{and_left, and_right, true_not_false}
use Rattle.lists.proofs.Lists.{every_kept, keep_append, keep_none, keep_stronger, keep_swap}
use Rattle.model.specs.Rows.{Row, is_below, is_at, is_above, rising, held_first, find, put, erase, is_up_to, down_from, Edit, leave, set, clear, edited}
use Rattle.model.specs.Sight.{is_seen, seen_rows}
use Rattle.model.proofs.Rows.{at_key, at_place, split}

module _ {A : Type 0} (test : ℕ → ℕ → Bool) (k p : ℕ) where
  -- the row at a place has the test of the place
  at_seen : (b : Bool) → test k p ≡ b → (r : Row A) → is_at k p r ≡ true → is_seen test r ≡ b
  unfolding is_seen
  at_seen b h r e = rw (at_key k p r e, at_place k p r e) h

  -- in sight, a look-up sees the same, and an edit is the same edit of what is seen
  pub find_seen : (rs : List (Row A)) → test k p ≡ true → find k p (seen_rows test rs) ≡ find k p rs
  unfolding find seen_rows
  find_seen rs h = ap held_first (keep_stronger (is_at k p) (is_seen test) (at_seen true h) rs)

  pub seen_put : (a : A) (rs : List (Row A)) → test k p ≡ true → seen_rows test (put k p a rs) ≡ put k p a (seen_rows test rs)
  unfolding put seen_rows keep is_seen
  seen_put a rs h =
      keep_append (is_seen test) (keep (is_below k p) rs) (record { key = k; place = p; held = a } ∷ keep (is_above k p) rs)
      ∙ rw (h, keep_swap (is_seen test) (is_below k p) rs, keep_swap (is_seen test) (is_above k p) rs)

  pub seen_erase : (rs : List (Row A)) → seen_rows test (erase k p rs) ≡ erase k p (seen_rows test rs)
  unfolding erase seen_rows
  seen_erase rs = keep_swap (is_seen test) (λ r. not (is_at k p r)) rs

  pub seen_edited : (e : Edit A) (rs : List (Row A)) → test k p ≡ true → seen_rows test (edited k p e rs) ≡ edited k p e (seen_rows test rs)
  unfolding edited
  seen_edited leave rs h = refl
  seen_edited (set a) rs h = seen_put a rs h
  seen_edited clear rs h = seen_erase rs

  -- out of sight, an edit is not seen
  pub seen_put_beyond : (a : A) (rs : List (Row A)) → test k p ≡ false → rising rs ≡ true → seen_rows test (put k p a rs) ≡ seen_rows test rs
  unfolding put seen_rows keep is_seen
  seen_put_beyond a rs h g =
      keep_append (is_seen test) (keep (is_below k p) rs) (record { key = k; place = p; held = a } ∷ keep (is_above k p) rs)
      ∙ rw h
      (sym
      (ap (keep (is_seen test)) (split k p rs g)
      ∙ keep_append (is_seen test) (keep (is_below k p) rs) (keep (is_at k p) rs ++ keep (is_above k p) rs)
      ∙ ap (λ (l : List (Row A)). keep (is_seen test) (keep (is_below k p) rs) ++ l)
      (keep_append (is_seen test) (keep (is_at k p) rs) (keep (is_above k p) rs)
      ∙ ap (λ (l : List (Row A)). l ++ keep (is_seen test) (keep (is_above k p) rs))
      (keep_none (is_seen test) (is_at k p) (at_seen false h) (keep (is_at k p) rs) (every_kept (is_at k p) rs)))))

  pub seen_erase_beyond : (rs : List (Row A)) → test k p ≡ false → seen_rows test (erase k p rs) ≡ seen_rows test rs
  unfolding erase seen_rows
  seen_erase_beyond rs h = keep_stronger (is_seen test) (λ r. not (is_at k p r)) (λ r e. kept r e (is_at k p r) refl) rs
    where
      kept : (r : Row A) → is_seen test r ≡ true → (b : Bool) → is_at k p r ≡ b → not (is_at k p r) ≡ true
      kept r e true f = true_not_false (is_seen test r) e (at_seen false h r f)
      kept r e false f = rw f

  pub seen_edited_beyond : (e : Edit A) (rs : List (Row A)) → test k p ≡ false → rising rs ≡ true → seen_rows test (edited k p e rs) ≡ seen_rows test rs
  unfolding edited
  seen_edited_beyond leave rs h g = refl
  seen_edited_beyond (set a) rs h g = seen_put_beyond a rs h g
  seen_edited_beyond clear rs h g = seen_erase_beyond rs h

-- what a walk down from a place meets, where all of that is in sight
pub down_from_seen : {A : Type 0} (test : ℕ → ℕ → Bool) (k reach : ℕ) (rs : List (Row A)) →
    ((place : ℕ) → place ≤ reach → test k place ≡ true) → down_from k reach (seen_rows test rs) ≡ down_from k reach rs
unfolding down_from seen_rows is_up_to is_seen
down_from_seen test k reach rs h = ap reverse (keep_stronger (is_up_to k reach) (is_seen test) (λ r e. rw (eqb-true r.key k (and_left (eqb r.key k) (leb r.place reach) e)) (h r.place (leb-true r.place reach (and_right (eqb r.key k) (leb r.place reach) e)))) rs)
