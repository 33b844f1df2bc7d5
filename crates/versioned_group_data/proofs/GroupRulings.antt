-- What an operation promises, from what its rule comes to.
-- Assumes nothing.
use mathlib.Core.Path.{◌≡◌, sym, ◌∙◌}
use mathlib.Core.Bool.{true, false}
use mathlib.Core.List.{List}
use Prim.Native.Nat.{ℕ, ◌≤◌}
use lib.ListN.{length}
use borrow.Author.Tests.{eq-eqb, ne_eqb, eqb-true}
use Rattle.types.proofs.UnitLaws.{lack_none, lack_told}
use Rattle.types.specs.Units.{units_in}
use Rattle.model.specs.Data.{Ruling, refuse, accept}
use Rattle.group_slots.specs.Layout.{Groups, groups_in, holding, group_valid, held_by, lack_in, fits_in}
use Rattle.versioned_group_data.specs.Ruled.{Ruled, Answered, result_of, words_after, answer_in, answer_after}
use Rattle.group_slots.proofs.GroupHolding.{holding_groups, few_valid}

module _ (s : List ℕ) (g : Groups) where
  pub lack_in_few : held_by g ≤ units_in (length s) → lack_in s g ≡ 0
  unfolding lack_in
  lack_in_few h = lack_none (held_by g) (units_in (length s)) h

  pub held_lack_in : lack_in s g ≡ 0 → held_by g ≤ units_in (length s)
  unfolding lack_in
  held_lack_in e = lack_told (held_by g) (units_in (length s)) e

  pub fits_few : held_by g ≤ units_in (length s) → fits_in s g ≡ true
  unfolding fits_in
  fits_few h = eq-eqb (lack_in s g) 0 (lack_in_few h)

  pub fits_held : fits_in s g ≡ true → held_by g ≤ units_in (length s)
  unfolding fits_in
  fits_held e = held_lack_in (eqb-true (lack_in s g) 0 e)

  fits_lack : (lack_in s g ≡ 0 → ⊥) → fits_in s g ≡ false
  unfolding fits_in
  fits_lack h = ne_eqb (lack_in s g) 0 h

module _ (s out : List ℕ) (ruling : Ruling Groups) where
  module _ (n : ℕ) (e : ruling ≡ refuse n) where
    pub ruled_refused : Ruled s ruling n s
    unfolding result_of words_after
    ruled_refused = record { result = rw e; words = rw e }

    pub answered_refused : Answered s out ruling n s out
    unfolding result_of words_after answer_after
    answered_refused = record { result = rw e; words = rw e; answer = rw e }

  module _ (answer : List ℕ) (g : Groups) (e : ruling ≡ accept answer g) where
    module _ (lack : ℕ) (l : lack ≡ lack_in s g) (h : lack ≡ 0 → ⊥) where
      not_fit : fits_in s g ≡ false
      not_fit = fits_lack s g (λ z. h (l ∙ z))

      pub ruled_full : Ruled s ruling lack s
      unfolding result_of words_after
      ruled_full = record { result = rw e l; words = rw (e, not_fit) }

      pub answered_full : Answered s out ruling lack s out
      unfolding result_of words_after answer_after
      answered_full = record { result = rw e l; words = rw (e, not_fit); answer = rw (e, not_fit) }

    module _ (h : held_by g ≤ units_in (length s)) (after : List ℕ) (w : after ≡ holding s g) where
      pub ruled_done : Ruled s ruling 0 after
      unfolding result_of words_after
      ruled_done = record { result = rw (e, lack_in_few s g h); words = rw (e, fits_few s g h) w }

      pub answered_done : (outAfter : List ℕ) → outAfter ≡ answer_in answer out → Answered s out ruling 0 after outAfter
      unfolding result_of words_after answer_after
      answered_done outAfter a =
          record { result = rw (e, lack_in_few s g h); words = rw (e, fits_few s g h) w; answer = rw (e, fits_few s g h) a }

-- a rule that leaves a valid store as it is
pub ruled_kept : (s : List ℕ) (ruling : Ruling Groups) (answer : List ℕ) → group_valid s ≡ true → ruling ≡ accept answer (groups_in s) → Ruled s ruling 0 s
ruled_kept s ruling answer v e = ruled_done s s ruling answer (groups_in s) e (few_valid s v) s (sym (holding_groups s v))
