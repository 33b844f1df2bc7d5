-- `versioned_data::materialize::record_delta_shortcut` meets its contract.
-- Assumes nothing.
use native.Mathlib.Omega.{arith}
use Rattle.versioned_data.proofs.MarksTold.{told, told_not}
use Rattle.versioned_data.proofs.RowEdits.{row_valid, row_there, then_valid, then_there, then_part}
use Rattle.versioned_data.proofs.EntryWrites.{content_room, content_few}
use Rattle.versioned_data.proofs.ShortcutWords.{shortcut_none, shortcut_few, shortcut_rewritten, shortcut_put}
use Rattle.versioned_data.proofs.materialize.record_delta_shortcut.Goals as goal

pub invariant_of-rows : goal.invariant_of-rows
invariant_of-rows c = record { valid = row_valid _ c.requires.valid _ c.units-n.ensures.units _ _ c.requires.row }

pub marks_at-requires : goal.marks_at-requires
marks_at-requires c = (omega arith, row_there _ c.requires.valid _ c.units-n.ensures.units _ _ c.requires.row)

pub returns-then-is_write : goal.returns-then-is_write
returns-then-is_write c =
    record { recorded = shortcut_none _ c.requires.valid _ c.units-n.ensures.units _ _ c.requires.row _ c.marks_at.ensures.marks _ (told _ _ _ c.is_write.ensures.write c.if-is_write.true) }

pub content_at-b-requires : goal.content_at-b-requires
content_at-b-requires c = (omega arith, row_there _ c.requires.valid _ c.units-n.ensures.units _ _ c.requires.row)

pub overflow_add-b : goal.overflow_add-b
overflow_add-b c = record { fits = omega (arith, content_few _ c.requires.valid _ c.units-n.ensures.units _ _ c.requires.row _ c.content_at-b.ensures.content) }

pub write-requires : goal.write-requires
write-requires c =
    record { fits = omega (arith, content_room _ c.requires.valid _ c.units-n.ensures.units _ _ c.requires.row _ c.content_at-b.ensures.content) }

pub set_marks-requires : goal.set_marks-requires
set_marks-requires c =
    let w = shortcut_rewritten _ c.requires.valid _ c.units-n.ensures.units _ _ c.requires.row _ c.marks_at.ensures.marks _ (told_not _ _ _ c.is_write.ensures.write c.if-is_write.false) _ c.content_at-b.ensures.content _ c.write.ensures.written in
    record { valid = then_valid _ c.requires.valid _ c.units-n.ensures.units _ _ c.requires.row _ w; there = then_there _ c.requires.valid _ c.units-n.ensures.units _ _ c.requires.row _ w; part = then_part _ c.requires.valid _ c.units-n.ensures.units _ _ c.requires.row _ w _ (shortcut_few _ c.requires.valid _ c.units-n.ensures.units _ _ c.requires.row _ c.marks_at.ensures.marks 0 _ c.with_shortcut.ensures.marks) }

pub returns : goal.returns
returns c =
    record { recorded = shortcut_put _ c.requires.valid _ c.units-n.ensures.units _ _ c.requires.row _ c.marks_at.ensures.marks _ (told_not _ _ _ c.is_write.ensures.write c.if-is_write.false) _ c.content_at-b.ensures.content _ c.write.ensures.written _ c.with_shortcut.ensures.marks _ c.set_marks.ensures.left }
