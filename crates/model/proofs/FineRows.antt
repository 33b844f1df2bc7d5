-- Rows that are fine where their key and place are words and what they hold is fine at its place: what is found among them, and the edits that keep
-- them fine. Assumes nothing.
use mathlib.Core.Path.{◌≡◌, refl, sym, ◌∙◌}
use mathlib.Core.Bool.{Bool, true, ◌&&◌}
use mathlib.Core.List.{List}
use mathlib.Core.Option.{Option, none, some}
use Prim.Native.Nat.{ℕ}
use Rattle.lists.specs.Lists.{every}
use Rattle.lists.proofs.Bools.{and_both, and_right}
use Rattle.model.specs.Rows.{Row, row_at, rising, find, Edit, leave, set, clear, edited}
use Rattle.model.specs.Fine.{is_word}
use Rattle.model.proofs.RowMaps.{passes, edit_passes_lem, every_find, rising_every_edited}

-- What stands at a rule's own place, and its edit there, by a test of what a row holds.
unfoldable pub fine_own : {A : Type 0} → (ℕ → A → Bool) → ℕ → Option A → Bool
fine_own held place none = true
fine_own held place (some a) = held place a

unfoldable pub fine_edit : {A : Type 0} → (ℕ → A → Bool) → ℕ → Edit A → Bool
fine_edit held place leave = true
fine_edit held place (set a) = held place a
fine_edit held place clear = true

-- The key and place of an edit are words.
abbrev pub InRange : ℕ → ℕ → Type 0
InRange key place = (is_word key ≡ true) × (is_word place ≡ true)

module _ {A : Type 0} (test : Row A → Bool) (held : ℕ → A → Bool) (is : (r : Row A) → test r ≡ (is_word r.key && is_word r.place && held r.place r.held)) (key place : ℕ) where
  own_passes : (o : Option A) → passes test key place o ≡ true → fine_own held place o ≡ true
  unfolding passes fine_own row_at
  own_passes none f = refl
  own_passes (some a) f = and_right (is_word key && is_word place) (held place a) (sym (is (row_at key place a)) ∙ f)

  edit_passes : (e : Edit A) → InRange key place → fine_edit held place e ≡ true → edit_passes_lem test key place e ≡ true
  unfolding edit_passes_lem fine_edit row_at
  edit_passes leave w f = refl
  edit_passes (set a) w f =
      is (row_at key place a) ∙ and_both (is_word key && is_word place) (held place a) (and_both (is_word key) (is_word place) w.0 w.1) f
  edit_passes clear w f = refl

  -- what is found among fine rows is fine
  pub own_fine : (rows : List (Row A)) → every test rows ≡ true → fine_own held place (find key place rows) ≡ true
  own_fine rows h = own_passes (find key place rows) (every_find test key place rows h)

  -- an edit that is fine at its place keeps fine rows fine
  pub edited_fine : (e : Edit A) (rows : List (Row A)) → InRange key place → fine_edit held place e ≡ true → (rising rows && every test rows) ≡ true → (rising (edited key place e rows) && every test (edited key place e rows)) ≡ true
  edited_fine e rows w f h = rising_every_edited test key place e rows (edit_passes e w f) h
