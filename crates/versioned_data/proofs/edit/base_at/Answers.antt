-- `versioned_data::edit::base_at` meets its contract.
-- Assumes nothing.
use native.Mathlib.Omega.{arith}
use Rattle.versioned_data.proofs.RowEdits.{row_valid, row_there}
use Rattle.versioned_data.proofs.EntryWrites.{content_room, content_few}
use Rattle.versioned_data.proofs.EntryOperations.{is_row, base_absent, base_there}
use Rattle.versioned_data.proofs.edit.base_at.Goals as goal

pub returns-in-Err : goal.returns-in-Err
returns-in-Err c =
    record { base = base_absent _ _ _ _ c.in-Err.is }

pub invariant_of-rows : goal.invariant_of-rows
invariant_of-rows c = record { valid = row_valid _ c.requires.valid _ c.units-n.ensures.units _ _ (is_row _ _ c.requires.row _ c.in-Ok.is) }

pub content_at-b-requires : goal.content_at-b-requires
content_at-b-requires c = (omega arith, row_there _ c.requires.valid _ c.units-n.ensures.units _ _ (is_row _ _ c.requires.row _ c.in-Ok.is))

pub overflow_add-b : goal.overflow_add-b
overflow_add-b c = record { fits = omega (arith, content_few _ c.requires.valid _ c.units-n.ensures.units _ _ (is_row _ _ c.requires.row _ c.in-Ok.is) _ c.content_at-b.ensures.content) }

pub read-existing-requires : goal.read-existing-requires
read-existing-requires c =
    record { inside = omega (arith, content_room _ c.requires.valid _ c.units-n.ensures.units _ _ (is_row _ _ c.requires.row _ c.in-Ok.is) _ c.content_at-b.ensures.content) }

pub returns-in-Ok : goal.returns-in-Ok
returns-in-Ok c =
    record { base = base_there _ _ _ c.requires.valid _ c.units-n.ensures.units (is_row _ _ c.requires.row _ c.in-Ok.is) c.in-Ok.is _ c.content_at-b.ensures.content (λ j. (c.type_inv.s j).fits) _ _ (λ j. (c.type_inv.value j).fits) c.requires.inside _ _ c.read-existing.ensures.value c.read-value.ensures.value _ c.over_base.ensures.base }
