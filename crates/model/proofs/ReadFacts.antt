-- The facts of a read: it refuses by numbers of a rule alone, and what a walk over fine rows finds is fine, with values, numbers, deltas and
-- indexes in range. Assumes nothing.
use mathlib.Core.Path.{◌≡◌, refl}
use mathlib.Core.Bool.{Bool, true, false, cond, not, ◌&&◌}
use mathlib.Core.List.{List, [], ◌∷◌}
use mathlib.Core.Option.{Option, none, some}
use Prim.Native.Nat.{ℕ, ◌-◌, ◌<◌}
use native.Mathlib.Omega.{arith}
use lib.Dec.{eqb}
use Rattle.lists.specs.Lists.{every}
use Rattle.lists.proofs.Bools.{and_both, and_left, and_right}
use Rattle.number.specs.Number.{range}
use Rattle.delta.specs.Delta.{apply_to, Accumulated, nothing, merged, failed}
use Rattle.types.specs.Refusal.{layout_under_delta, no_number_under_delta, of_entry, of_commit, of_materialize, of_rules, is_in}
use Rattle.types.specs.Value.{layout_of, is_deletion, has_number, number_in}
use Rattle.model.specs.Rows.{Row, down_from}
use Rattle.model.specs.Data.{Cell, write, delta, Entry, Read, versioned, resolved, unresolved, uninitialized, dependency, application_failure, refusal, resolved_or, onto, below_deltas, at_write, at_cell, at_row, at_end, past, walk, read_of}
use Rattle.model.specs.Fine.{is_word, fine_value, fine_shortcut, fine_cell, fine_entry, fine_read}
use Rattle.model.proofs.RowMaps.{every_down_from}
use Rattle.model.proofs.FineParts.{word_told, word_tell, number_told, number_tell, value_number, fine_so_far, apply_fine, accumulate_fine, write_incarnation, write_value_lem, delta_delta, delta_shortcut, entry_place, entry_cell}

-- Whether a read refuses by a number of a rule, if it refuses.
unfoldable pub read_refuses : Read → Bool
read_refuses (versioned place incarnation v) = true
read_refuses (resolved n) = true
read_refuses (unresolved d) = true
read_refuses uninitialized = true
read_refuses (dependency index) = true
read_refuses application_failure = true
read_refuses (refusal n) = is_in n of_rules

-- Its number needs nothing; what it finds is fine where what the read meets is.
pub record ReadFacts (given : Type 0) (r : Read) : Type 0 where
  pub number : read_refuses r ≡ true
  pub found : given → fine_read r ≡ true

resolved_or_refuses : (o : Option ℕ) → read_refuses (resolved_or o) ≡ true
unfolding resolved_or read_refuses
resolved_or_refuses none = refl
resolved_or_refuses (some n) = refl

past_fine : (place : ℕ) (estimate : Bool) (a : Accumulated) (c : Cell) → fine_so_far a ≡ true → fine_cell place estimate c ≡ true → fine_so_far (past a c) ≡ true
unfolding past
past_fine place estimate a (write incarnation v) s f = s
past_fine place estimate a (delta d shortcut) s f = accumulate_fine a d s (delta_delta place estimate d shortcut f)

module _ {given : Type 0} where
  onto_facts : (a : Accumulated) (n : ℕ) → (given → fine_so_far a ≡ true) → (given → n < range) → ReadFacts given (onto a n)
  unfolding onto fine_so_far fine_read read_refuses
  onto_facts nothing n f h = record { number = refl; found = λ g. number_tell n (h g) }
  onto_facts (merged d) n f h = record { number = resolved_or_refuses (apply_to d n); found = λ g. apply_fine d (f g) n }
  onto_facts failed n f h = record { number = refl; found = λ g. refl }

  module _ (place incarnation : ℕ) (v : List ℕ) (p : given → is_word place ≡ true) (i : given → is_word incarnation ≡ true) (f : given → fine_value v ≡ true) where
    versioned_facts : ReadFacts given (versioned place incarnation v)
    unfolding read_refuses fine_read
    versioned_facts =
        record { number = refl; found = λ g. and_both (is_word place && is_word incarnation) (fine_value v) (and_both (is_word place) (is_word incarnation) (p g) (i g)) (f g) }

    below_deltas_facts : (a : Accumulated) → (given → fine_so_far a ≡ true) → ReadFacts given (below_deltas a place incarnation v)
    unfolding below_deltas read_refuses fine_read is_in of_rules of_entry of_commit of_materialize
    below_deltas_facts a s = go (eqb (layout_of v) 0) (is_deletion v) (has_number v)
      where
        go : (x y z : Bool) → ReadFacts given (cond (not x) (refusal layout_under_delta) (cond y (versioned place incarnation v) (cond (not z) (refusal no_number_under_delta) (onto a (number_in v)))))
        go false y z = record { number = refl; found = λ g. refl }
        go true true z = versioned_facts
        go true false false = record { number = refl; found = λ g. refl }
        go true false true = onto_facts a (number_in v) s (λ g. value_number v (f g))

    at_write_facts : (a : Accumulated) → (given → fine_so_far a ≡ true) → ReadFacts given (at_write a place incarnation v)
    unfolding at_write
    at_write_facts nothing s = versioned_facts
    at_write_facts (merged d) s = below_deltas_facts (merged d) s
    at_write_facts failed s = below_deltas_facts failed s

  module _ (a : Accumulated) (s : given → fine_so_far a ≡ true) (lower : Read) (l : ReadFacts given lower) where
    at_cell_facts : (place : ℕ) (estimate : Bool) (c : Cell) → (given → is_word place ≡ true) → (given → fine_cell place estimate c ≡ true) → ReadFacts given (at_cell a place c lower)
    unfolding at_cell fine_shortcut
    at_cell_facts place estimate (write incarnation v) p f =
        at_write_facts place incarnation v p (λ g. write_incarnation place estimate incarnation v (f g)) (λ g. write_value_lem place estimate incarnation v (f g)) a s
    at_cell_facts place estimate (delta d (some n)) p f =
        onto_facts a n s (λ g. number_told n (delta_shortcut place estimate d (some n) (f g)))
    at_cell_facts place estimate (delta d none) p f = l

    at_row_facts : (r : Row Entry) → (given → fine_entry r ≡ true) → ReadFacts given (at_row a r lower)
    unfolding at_row read_refuses fine_read
    at_row_facts r f = go r.held.estimate
      where
        go : (b : Bool) → ReadFacts given (cond b (dependency (r.place - 1)) (at_cell a r.place r.held.cell lower))
        go true =
            record { number = refl; found = λ g. word_tell (r.place - 1) (omega (arith, word_told r.place (entry_place r (f g)))) }
        go false = at_cell_facts r.place r.held.estimate r.held.cell (λ g. entry_place r (f g)) (λ g. entry_cell r (f g))

  walk_facts : (a : Accumulated) (rows : List (Row Entry)) → (given → fine_so_far a ≡ true) → (given → every fine_entry rows ≡ true) → ReadFacts given (walk a rows)
  unfolding walk every at_end read_refuses fine_read fine_so_far
  walk_facts nothing [] s h = record { number = refl; found = λ g. refl }
  walk_facts (merged d) [] s h = record { number = refl; found = s }
  walk_facts failed [] s h = record { number = refl; found = λ g. refl }
  walk_facts a (r ∷ rows) s h =
      let f : given → fine_entry r ≡ true = λ g. and_left (fine_entry r) (every fine_entry rows) (h g) in
      at_row_facts a s (walk (past a r.held.cell) rows)
      (walk_facts (past a r.held.cell) rows (λ g. past_fine r.place r.held.estimate a r.held.cell (s g) (entry_cell r (f g))) (λ g. and_right (fine_entry r) (every fine_entry rows) (h g)))
      r f

-- what a reader of rows finds
pub read_of_facts : (seen : List (Row Entry)) → ReadFacts (every fine_entry seen ≡ true) (read_of seen)
unfolding read_of fine_so_far
read_of_facts seen = walk_facts nothing seen (λ g. refl) (λ g. g)

pub read_of_fine : (seen : List (Row Entry)) → every fine_entry seen ≡ true → fine_read (read_of seen) ≡ true
read_of_fine seen h = (read_of_facts seen).found h

pub read_of_down_from_fine : (key reach : ℕ) (rows : List (Row Entry)) → every fine_entry rows ≡ true → fine_read (read_of (down_from key reach rows)) ≡ true
read_of_down_from_fine key reach rows h = read_of_fine (down_from key reach rows) (every_down_from fine_entry key reach rows h)
