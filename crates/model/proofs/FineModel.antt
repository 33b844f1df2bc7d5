-- The parts of a fine model: entries, updates and committed values.
-- Assumes nothing.
use mathlib.Core.Path.{◌≡◌, refl}
use mathlib.Core.Bool.{true}
use Rattle.lists.specs.Lists.{every}
use Rattle.lists.proofs.Bools.{and_three}
use Rattle.model.specs.Rows.{rising}
use Rattle.model.specs.Model.{Model, empty}
use Rattle.model.specs.Fine.{fine_entries, fine_updates, fine_group, fine}

pub empty_fine : fine empty ≡ true
unfolding fine empty fine_entries fine_updates fine_group rising every
empty_fine = refl

module _ (m : Model) (f : fine m ≡ true) where
  fine_parts : (fine_entries m.entries ≡ true) × (fine_updates m.updates ≡ true) × (fine_group m.committed ≡ true)
  unfolding fine
  fine_parts = and_three (fine_entries m.entries) (fine_updates m.updates) (fine_group m.committed) f

  pub fine_entries_lem : fine_entries m.entries ≡ true
  fine_entries_lem = fine_parts.0

  pub fine_updates_lem : fine_updates m.updates ≡ true
  fine_updates_lem = fine_parts.1

  pub fine_committed_lem : fine_group m.committed ≡ true
  fine_committed_lem = fine_parts.2

pub fine_tell : (m : Model) → fine_entries m.entries ≡ true → fine_updates m.updates ≡ true → fine_group m.committed ≡ true → fine m ≡ true
unfolding fine
fine_tell m e u g = rw (e, u, g)
