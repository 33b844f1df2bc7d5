-- The table's index fields against what each kind's work edits and reads: a kept request is within the sight of a reader at t, a dropped one is beyond
-- it or finalises.
-- Assumes nothing.
use mathlib.Core.Path.{◌≡◌, refl, sym, ◌∙◌}
use mathlib.Core.Bool.{Bool, true, false, ◌&&◌, ◌||◌}
use mathlib.Core.Logic.{◌⊎◌, inl, inr}
use mathlib.Core.List.{List, [], ◌∷◌}
use mathlib.Core.Option.{Option}
use Prim.Native.Nat.{ℕ, suc, ◌≤◌, ◌<◌, zero-le}
use native.Mathlib.Omega.{arith}
use lib.Dec.{leb, ltb, eqb}
use lib.ListN.{get_or, get_or-map}
use borrow.Author.Tests.{ltb-true, ltb-false, eqb-true, le-leb, lt-leb}
use Rattle.lists.specs.Lists.{keep}
use Rattle.lists.proofs.Bools.{never}
use Rattle.request.specs.declared.kind.Kind.{Kind}
use Rattle.request.specs.declared.kind.Kind.TheVariants
use Rattle.request.specs.Table.{IndexField, row, at, table, no_row, row_of}
use Rattle.request.specs.Request.{request_as}
use Rattle.request.specs.Table.{number_of}
use Rattle.model.specs.Data.{Ruling, refuse, accept}
use Rattle.model.specs.Group.{Update, Committed, Commits, commits}
use Rattle.model.specs.Model.{work_of, Outcome}
use Rattle.model.specs.Noninterference.{named_in, is_read, is_finalize, kept_as, is_answered, finalizes_from}
use Rattle.model.specs.Sight.{is_seen, seen_rows, by_key, seen_commits, Sees, Within, Beyond, reader_sight}

-- The index field that a row gives its kind fits the work of the kind.
pub record Sound (k : Kind) (i : Option IndexField) : Type 0 where
  pub low : (t : ℕ) (x : List ℕ) → kept_as t (named_in i x) ≡ true → Within (reader_sight t) (work_of (request_as k x))
  pub high : (t : ℕ) (x : List ℕ) →
      kept_as t (named_in i x) ≡ false →
      Beyond (reader_sight t) (work_of (request_as k x)) ⊎ ((o : Outcome) → finalizes_from t (named_in i x) o ≡ is_answered o)

-- a rule that sees every committed value
all_seen : (g : Committed) → seen_rows (by_key (λ key. true)) g ≡ g
unfolding seen_rows is_seen keep
all_seen [] = refl
all_seen (r ∷ rs) = λ i. r ∷ all_seen rs i

sees_all : (rule : Option Update → Committed → Ruling Commits) → Sees (λ key. true) rule
unfolding Sees seen_commits commits
sees_all rule own g = rw (all_seen g) (go (rule own g))
  where
    go : (r : Ruling Commits) → r ≡ seen_commits (λ key. true) r
    go (refuse n) = refl
    go (accept answer c) = λ i. accept answer (record { edit = c.edit; group = sym (all_seen c.group) i })

module _ (t : ℕ) where
  -- the base, and what a reader up to t reaches
  base : leb 0 t ≡ true
  base = le-leb 0 t zero-le

  to : (reach : ℕ) → reach ≤ t → (place : ℕ) → place ≤ reach → leb place t ≡ true
  to reach h place g = le-leb place t (omega arith)

  -- What the tests say of the index: below t, for an edit; at most t, for a read; at t or above, for an edit that is dropped.
  edit_below : (i : ℕ) → (ltb i t || false) ≡ true → suc i ≤ t
  edit_below i e = go (ltb i t) refl
    where
      go : (b : Bool) → ltb i t ≡ b → suc i ≤ t
      go true f = ltb-true i t f
      go false f = never (sym (rw f at e))

  edit_above : (i : ℕ) → (ltb i t || false) ≡ false → t < suc i
  edit_above i e = go (ltb i t) refl
    where
      go : (b : Bool) → ltb i t ≡ b → t < suc i
      go true f = never (rw f at e)
      go false f = omega (arith, ltb-false i t f)

  edit_low : (i : ℕ) → (ltb i t || false) ≡ true → leb (suc i) t ≡ true
  edit_low i e = le-leb (suc i) t (edit_below i e)

  edit_high : (i : ℕ) → (ltb i t || false) ≡ false → leb (suc i) t ≡ false
  edit_high i e = lt-leb (suc i) t (edit_above i e)

  read_low : (i : ℕ) → (ltb i t || eqb i t) ≡ true → i ≤ t
  read_low i e = go (ltb i t) refl
    where
      go : (b : Bool) → ltb i t ≡ b → i ≤ t
      go true f = omega (arith, ltb-true i t f)
      go false f = let z : eqb i t ≡ true = rw f at e in omega (arith, eqb-true i t z)

  -- finalising at t or above
  final_high : (i : ℕ) (b : Bool) → (ltb i t || false) ≡ false → (leb t i && b) ≡ b
  final_high i b e = let h : t < suc i = edit_above i e in rw (le-leb t i (omega arith))

-- the row of each kind
sound_kind : (k : Kind) → Sound k (row_of (number_of k)).index
unfolding row_of table row at request_as work_of Within Beyond reader_sight named_in kept_as is_read is_finalize finalizes_from
sound_kind TheVariants.LastCommitted = record { low = λ t x e. (base t, sees_all _); high = λ t x e. never e }
sound_kind TheVariants.Base = record { low = λ t x e. (base t, to t 0 zero-le); high = λ t x e. never e }
sound_kind TheVariants.Write = record { low = λ t x e. (edit_low t (get_or x 2 0) e, to t 0 zero-le); high = λ t x e. inl (edit_high t (get_or x 2 0) e) }
sound_kind TheVariants.AddDelta = record { low = λ t x e. (edit_low t (get_or x 2 0) e, to t 0 zero-le); high = λ t x e. inl (edit_high t (get_or x 2 0) e) }
sound_kind TheVariants.Estimate = record { low = λ t x e. (edit_low t (get_or x 2 0) e, to t 0 zero-le); high = λ t x e. inl (edit_high t (get_or x 2 0) e) }
sound_kind TheVariants.Remove = record { low = λ t x e. (edit_low t (get_or x 2 0) e, to t 0 zero-le); high = λ t x e. inl (edit_high t (get_or x 2 0) e) }
sound_kind TheVariants.Fetch = record { low = λ t x e. to t (get_or x 2 0) (read_low t (get_or x 2 0) e); high = λ t x e. inl tt }
sound_kind TheVariants.Materialize =
    record {
      low = λ t x e. (edit_low t (get_or x 2 0) e, to t (suc (get_or x 2 0)) (edit_below t (get_or x 2 0) e));
      high = λ t x e. inl (edit_high t (get_or x 2 0) e);
    }
sound_kind TheVariants.GroupBase = record { low = λ t x e. (base t, sees_all _); high = λ t x e. never e }
sound_kind TheVariants.Exchange = record { low = λ t x e. (base t, sees_all _); high = λ t x e. never e }
sound_kind TheVariants.GroupWrite = record { low = λ t x e. edit_low t (get_or x 2 0) e; high = λ t x e. inl (edit_high t (get_or x 2 0) e) }
sound_kind TheVariants.GroupEstimate = record { low = λ t x e. edit_low t (get_or x 2 0) e; high = λ t x e. inl (edit_high t (get_or x 2 0) e) }
sound_kind TheVariants.GroupRemove = record { low = λ t x e. edit_low t (get_or x 2 0) e; high = λ t x e. inl (edit_high t (get_or x 2 0) e) }
sound_kind TheVariants.GroupFetch = record { low = λ t x e. to t (get_or x 3 0) (read_low t (get_or x 3 0) e); high = λ t x e. inl tt }
sound_kind TheVariants.GroupSize = record { low = λ t x e. to t (get_or x 2 0) (read_low t (get_or x 2 0) e); high = λ t x e. inl tt }
sound_kind TheVariants.Finalize =
    record {
      low = λ t x e. (edit_low t (get_or x 2 0) e, sees_all _);
      high = λ t x e. inr (λ o. final_high t (get_or x 2 0) (is_answered o) e);
    }

-- Every row has the index field of its kind's number, and so has the row of a number that no kind has.
row_index : (n : ℕ) → (row_of (number_of (row_of n).kind)).index ≡ (row_of n).index
unfolding row_of table row at no_row
row_index n =
    sym (get_or-map (λ r. (row_of (number_of r.kind)).index) table n no_row) ∙ get_or-map (λ r. r.index) table n no_row

pub sound : (n : ℕ) → Sound (row_of n).kind (row_of n).index
sound n = rw (← (row_index n)) (sound_kind (row_of n).kind)
