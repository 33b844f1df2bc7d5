-- `versioned_data::edit::may_write` meets its contract.
-- Assumes nothing.
use native.Mathlib.Omega.{arith}
use Rattle.versioned_data.proofs.MarksTold.{told, told_not}
use Rattle.versioned_data.proofs.RowEdits.{row_valid, row_there}
use Rattle.versioned_data.proofs.EntryWrites.{content_room, content_few}
use Rattle.versioned_data.proofs.EntryOperations.{is_row, may_absent, may_delta, may_higher}
use Rattle.versioned_data.proofs.edit.may_write.Goals as goal

pub returns-in-Err : goal.returns-in-Err
returns-in-Err c =
    record { may = may_absent _ _ _ _ c.in-Err.is }

pub invariant_of-rows : goal.invariant_of-rows
invariant_of-rows c = record { valid = row_valid _ c.requires.valid _ c.units-n.ensures.units _ _ (is_row _ _ c.requires.row _ c.in-Ok.is) }

pub marks_at-requires : goal.marks_at-requires
marks_at-requires c = (omega arith, row_there _ c.requires.valid _ c.units-n.ensures.units _ _ (is_row _ _ c.requires.row _ c.in-Ok.is))

pub returns-then-not-is_write : goal.returns-then-not-is_write
returns-then-not-is_write c =
    record { may = may_delta _ _ _ c.requires.valid _ c.units-n.ensures.units (is_row _ _ c.requires.row _ c.in-Ok.is) c.in-Ok.is _ c.marks_at.ensures.marks _ (told_not _ _ _ c.is_write.ensures.write c.if-not-is_write.true) }

pub content_at-b-requires : goal.content_at-b-requires
content_at-b-requires c = (omega arith, row_there _ c.requires.valid _ c.units-n.ensures.units _ _ (is_row _ _ c.requires.row _ c.in-Ok.is))

pub offset_bounds-s-b : goal.offset_bounds-s-b
offset_bounds-s-b c = record { fits = omega (arith, content_few _ c.requires.valid _ c.units-n.ensures.units _ _ (is_row _ _ c.requires.row _ c.in-Ok.is) _ c.content_at-b.ensures.content) }

pub bounds-s-b : goal.bounds-s-b
bounds-s-b c = omega (arith, content_room _ c.requires.valid _ c.units-n.ensures.units _ _ (is_row _ _ c.requires.row _ c.in-Ok.is) _ c.content_at-b.ensures.content)

pub returns-else-not-is_write : goal.returns-else-not-is_write
returns-else-not-is_write c =
    record { may = may_higher _ _ _ c.requires.valid _ c.units-n.ensures.units (is_row _ _ c.requires.row _ c.in-Ok.is) c.in-Ok.is _ c.marks_at.ensures.marks _ (told _ _ _ c.is_write.ensures.write c.if-not-is_write.false) _ c.content_at-b.ensures.content }
