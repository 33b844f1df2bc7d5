-- `versioned_data::edit::mark_estimate` meets its contract.
-- Assumes nothing.
use native.Mathlib.Omega.{arith}
use borrow.Author.Rules.{rules}
use Rattle.types.proofs.IndexLaws.{shifted_word}
use Rattle.versioned_data.proofs.RowEdits.{row_valid, row_there, marks_part, mark_few}
use Rattle.versioned_data.proofs.EntryOperations.{pos_suc, small_of, found_row_lem, mark_refused, mark_done}
use Rattle.versioned_data.proofs.edit.mark_estimate.Goals as goal

pub returns-in-Err : goal.returns-in-Err
returns-in-Err c =
    record { edited = mark_refused _ c.requires.valid _ _ _ (search rules) (small_of _ _ (shifted_word _ _ c.new.ensures.shifted) c.requires.served) (shifted_word _ _ c.new.ensures.shifted) _ c.find_entry-found.ensures.found (pos_suc _) _ c.in-Err.is }

pub invariant_of-rows : goal.invariant_of-rows
invariant_of-rows c = record { valid = row_valid _ c.requires.valid _ c.units-n.ensures.units _ _ (found_row_lem _ _ _ _ c.find_entry-found.ensures.found _ c.in-Ok.is) }

pub marks_at-requires : goal.marks_at-requires
marks_at-requires c = (omega arith, row_there _ c.requires.valid _ c.units-n.ensures.units _ _ (found_row_lem _ _ _ _ c.find_entry-found.ensures.found _ c.in-Ok.is))

pub set_marks-requires : goal.set_marks-requires
set_marks-requires c =
    record { valid = row_valid _ c.requires.valid _ c.units-n.ensures.units _ _ (found_row_lem _ _ _ _ c.find_entry-found.ensures.found _ c.in-Ok.is); there = row_there _ c.requires.valid _ c.units-n.ensures.units _ _ (found_row_lem _ _ _ _ c.find_entry-found.ensures.found _ c.in-Ok.is); part = marks_part _ c.requires.valid _ c.units-n.ensures.units _ _ (found_row_lem _ _ _ _ c.find_entry-found.ensures.found _ c.in-Ok.is) _ (mark_few _ c.requires.valid _ c.units-n.ensures.units _ _ (found_row_lem _ _ _ _ c.find_entry-found.ensures.found _ c.in-Ok.is) _ c.marks_at.ensures.marks _ c.estimated-marks.ensures.marks) }

pub returns-in-Ok : goal.returns-in-Ok
returns-in-Ok c =
    record { edited = mark_done _ c.requires.valid _ _ _ (search rules) (small_of _ _ (shifted_word _ _ c.new.ensures.shifted) c.requires.served) (shifted_word _ _ c.new.ensures.shifted) _ c.find_entry-found.ensures.found (pos_suc _) _ c.in-Ok.is _ c.units-n.ensures.units _ c.marks_at.ensures.marks _ c.estimated-marks.ensures.marks _ c.set_marks.ensures.left }
