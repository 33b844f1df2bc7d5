-- A run of deltas above a number: the walk merges them newest first, and gives what applying them one by one, oldest first, gives.
-- Assumes nothing.
use mathlib.Core.Path.{◌≡◌, refl, sym, ◌∙◌, ap}
use mathlib.Core.Bool.{Bool, true, false, not, ◌&&◌}
use mathlib.Core.List.{List, [], ◌∷◌, ◌++◌}
use mathlib.Core.Option.{Option, none, some}
use Prim.Native.Nat.{ℕ}
use native.Mathlib.Omega.{arith}
use lib.Dec.{eqb}
use borrow.Author.Tests.{eqb-true, not-true}
use Rattle.lists.specs.Lists.{every}
use Rattle.lists.proofs.Bools.{and_left, and_right}
use Rattle.delta.specs.Delta.{Delta, valid, apply_next, merge, Accumulated, nothing, merged, failed, gathered, accumulate}
use Rattle.delta.proofs.DeltaMerges.{joined_limit, merge_joins, merge_valid, merge_apply, merge_apart}
use Rattle.types.specs.Value.{layout_of, is_deletion, byte_length, has_number, number_in}
use Rattle.request.specs.Request.{fetch}
use Rattle.model.specs.Rows.{Row, down_from}
use Rattle.model.specs.Data
use Rattle.model.specs.Data.{Entry, Read, walk, at_row, at_cell, at_write, below_deltas, onto, resolved_or, past, read_of, read_ruling, fetch_data}
use Rattle.model.specs.Model.{Model, work_of, ruled, perform, Outcome, outcome_of}
use Rattle.model.specs.Tickets.{outcome, resolved, application_failure}

-- Done deltas without a shortcut, the newest first, as a walk meets them.
unfoldable pub run : List (Row Delta) → List (Row Entry)
run [] = []
run (r ∷ rs) = record { key = r.key; place = r.place; held = Data.done (Data.delta r.held none) } ∷ run rs

-- Applied one by one, the oldest first.
unfoldable pub one_by_one : List (Row Delta) → Option ℕ → Option ℕ
one_by_one [] v = v
one_by_one (r ∷ rs) v = apply_next r.held (one_by_one rs v)

-- A valid delta under a limit.
unfoldable pub is_under : ℕ → Row Delta → Bool
is_under limit r = valid r.held && eqb r.held.limit limit

-- What a fetch answers for the number that deltas come to, if they come to one.
unfoldable pub resolved_to : Option ℕ → Outcome
resolved_to none = application_failure
resolved_to (some n) = resolved n

-- ---- what has been gathered, applied

unfoldable applied : Accumulated → Option ℕ → Option ℕ
applied nothing v = v
applied (merged d) v = apply_next d v
applied failed v = none

unfoldable Good : ℕ → Accumulated → Type 0
Good limit nothing = Unit {0}
Good limit (merged d) = (valid d ≡ true) × (d.limit ≡ limit)
Good limit failed = Unit {0}

module _ (limit : ℕ) (d : Delta) (vd : valid d ≡ true) (ld : d.limit ≡ limit) where
  merge_limit : (n x : Delta) → merge n d ≡ some x → n.limit ≡ limit → x.limit ≡ limit
  merge_limit n x e l = ap (λ (y : Delta). y.limit) (sym (merge_joins n d x e).is) ∙ joined_limit n d ∙ l

  gathered_good : (n : Delta) → valid n ≡ true → n.limit ≡ limit → (o : Option Delta) → merge n d ≡ o → Good limit (gathered o)
  unfolding Good gathered
  gathered_good n vn ln none e = tt
  gathered_good n vn ln (some x) e = (merge_valid n d x vn vd e, merge_limit n x e ln)

  accumulate_good : (a : Accumulated) → Good limit a → Good limit (accumulate a d)
  unfolding Good accumulate
  accumulate_good nothing g = (vd, ld)
  accumulate_good (merged n) g = gathered_good n g.0 g.1 (merge n d) refl
  accumulate_good failed g = tt

  gathered_applied : (n : Delta) → valid n ≡ true → n.limit ≡ limit → (o : Option Delta) → merge n d ≡ o → (v : Option ℕ) → applied (gathered o) v ≡ apply_next n (apply_next d v)
  unfolding applied gathered apply_next
  gathered_applied n vn ln none e none = refl
  gathered_applied n vn ln none e (some v) = sym (merge_apart n d vn vd (ln ∙ sym ld) e v)
  gathered_applied n vn ln (some x) e none = refl
  gathered_applied n vn ln (some x) e (some v) = merge_apply n d x vn vd e v

  -- one more delta below what has been gathered is applied before it
  accumulate_applied : (a : Accumulated) → Good limit a → (v : Option ℕ) → applied (accumulate a d) v ≡ applied a (apply_next d v)
  unfolding Good applied accumulate
  accumulate_applied nothing g v = refl
  accumulate_applied (merged n) g v = gathered_applied n g.0 g.1 (merge n d) refl v
  accumulate_applied failed g v = refl

-- ---- a run

unfoldable gathered_over : Accumulated → List (Row Delta) → Accumulated
gathered_over a [] = a
gathered_over a (r ∷ rs) = gathered_over (accumulate a r.held) rs

module _ (limit : ℕ) where
  under_valid : (r : Row Delta) → is_under limit r ≡ true → valid r.held ≡ true
  unfolding is_under
  under_valid r e = and_left (valid r.held) (eqb r.held.limit limit) e

  under_limit : (r : Row Delta) → is_under limit r ≡ true → r.held.limit ≡ limit
  unfolding is_under
  under_limit r e = eqb-true r.held.limit limit (and_right (valid r.held) (eqb r.held.limit limit) e)

  over_applied : (rs : List (Row Delta)) (a : Accumulated) → Good limit a → every (is_under limit) rs ≡ true → (v : Option ℕ) → applied (gathered_over a rs) v ≡ applied a (one_by_one rs v)
  unfolding gathered_over one_by_one every
  over_applied [] a g h v = refl
  over_applied (r ∷ rs) a g h v =
      let u = and_left (is_under limit r) (every (is_under limit) rs) h in
      over_applied rs (accumulate a r.held)
      (accumulate_good limit r.held (under_valid r u) (under_limit r u) a g) (and_right (is_under limit r) (every (is_under limit) rs) h) v
      ∙ accumulate_applied limit r.held (under_valid r u) (under_limit r u) a g (one_by_one rs v)

walk_run : (rs : List (Row Delta)) (a : Accumulated) (rest : List (Row Entry)) → walk a (run rs ++ rest) ≡ walk (gathered_over a rs) rest
unfolding run walk at_row at_cell past gathered_over Data.done
walk_run [] a rest = refl
walk_run (r ∷ rs) a rest = walk_run rs (accumulate a r.held) rest

-- a run that is not empty has gathered something
unfoldable is_nothing : Accumulated → Bool
is_nothing nothing = true
is_nothing (merged d) = false
is_nothing failed = false

gathered_something : (o : Option Delta) → is_nothing (gathered o) ≡ false
unfolding is_nothing gathered
gathered_something none = refl
gathered_something (some d) = refl

accumulate_something : (a : Accumulated) (d : Delta) → is_nothing (accumulate a d) ≡ false
unfolding is_nothing accumulate
accumulate_something nothing d = refl
accumulate_something (merged n) d = gathered_something (merge n d)
accumulate_something failed d = refl

over_something : (rs : List (Row Delta)) (a : Accumulated) → is_nothing a ≡ false → is_nothing (gathered_over a rs) ≡ false
unfolding gathered_over
over_something [] a h = h
over_something (r ∷ rs) a h = over_something rs (accumulate a r.held) (accumulate_something a r.held)

onto_applied : (a : Accumulated) (n : ℕ) → onto a n ≡ resolved_or (applied a (some n))
unfolding onto resolved_or applied apply_next
onto_applied nothing n = refl
onto_applied (merged d) n = refl
onto_applied failed n = refl

module _ (place incarnation : ℕ) (value : List ℕ) (plain : layout_of value ≡ 0) (number : has_number value ≡ true) where
  not_deleted : is_deletion value ≡ false
  unfolding has_number
  not_deleted = not-true (is_deletion value) (and_left (not (is_deletion value)) (eqb (byte_length value) 16) number)

  below_number : (a : Accumulated) → below_deltas a place incarnation value ≡ onto a (number_in value)
  unfolding below_deltas
  below_number a = rw (plain, not_deleted, number)

  write_number : (a : Accumulated) → is_nothing a ≡ false → at_write a place incarnation value ≡ onto a (number_in value)
  unfolding is_nothing at_write
  write_number nothing h = absurd (let z : ◌≡◌ {A = ℕ} 0 1 = cc in omega arith)
  write_number (merged d) h = below_number (merged d)
  write_number failed h = below_number failed

read_resolved : (m : Model) (o : Option ℕ) → outcome_of (ruled (λ same. m) (read_ruling (tt {0}) (resolved_or o))) ≡ resolved_to o
unfolding ruled read_ruling resolved_or outcome_of resolved_to resolved application_failure
read_resolved m none = refl
read_resolved m (some n) = refl

module _ (limit : ℕ) (newest : Row Delta) (older : List (Row Delta)) (key place incarnation : ℕ) (value : List ℕ) (rest : List (Row Entry)) where
  base : Row Entry
  base = record { key = key; place = place; held = Data.done (Data.write incarnation value) }

  read_base : (a : Accumulated) → walk a (base ∷ rest) ≡ at_write a place incarnation value
  unfolding base walk at_row at_cell Data.done
  read_base a = refl

  read_run : every (is_under limit) (newest ∷ older) ≡ true → layout_of value ≡ 0 → has_number value ≡ true →
      read_of (run (newest ∷ older) ++ (base ∷ rest)) ≡ resolved_or (one_by_one (newest ∷ older) (some (number_in value)))
  unfolding read_of gathered_over Good applied
  read_run under plain number =
      walk_run (newest ∷ older) nothing (base ∷ rest)
      ∙ read_base (gathered_over nothing (newest ∷ older))
      ∙ write_number place incarnation value plain number (gathered_over nothing (newest ∷ older))
      (over_something older (accumulate nothing newest.held) (accumulate_something nothing newest.held))
      ∙ onto_applied (gathered_over nothing (newest ∷ older)) (number_in value)
      ∙ ap resolved_or (over_applied limit (newest ∷ older) nothing tt under (some (number_in value)))

  -- A fetch that meets a run of valid deltas with equal limits, and below it a done write with a number and no layout, resolves to what applying
  -- them one by one gives, oldest first, or fails where that fails.
  pub fetch_run : (m : Model) (t : ℕ) →
      down_from key t m.entries ≡ run (newest ∷ older) ++ (record { key = key; place = place; held = Data.done (Data.write incarnation value) } ∷ rest) →
      every (is_under limit) (newest ∷ older) ≡ true →
      layout_of value ≡ 0 →
      has_number value ≡ true →
      outcome (fetch key t) m ≡ resolved_to (one_by_one (newest ∷ older) (some (number_in value)))
  unfolding outcome work_of perform fetch_data base
  fetch_run m t seen under plain number =
      ap (λ (r : Read). outcome_of (ruled (λ same. m) (read_ruling (tt {0}) r))) (ap read_of seen ∙ read_run under plain number)
      ∙ read_resolved m (one_by_one (newest ∷ older) (some (number_in value)))
