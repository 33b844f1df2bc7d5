-- `versioned_data::edit::remove` meets its contract.
-- Assumes nothing.
use borrow.Author.Rules.{rules}
use Rattle.types.proofs.IndexLaws.{shifted_word}
use Rattle.versioned_data.proofs.RowEdits.{row_valid, row_there}
use Rattle.versioned_data.proofs.EntryOperations.{pos_suc, small_of, found_row_lem, remove_refused, remove_done}
use Rattle.versioned_data.proofs.edit.remove.Goals as goal

pub returns-in-Err : goal.returns-in-Err
returns-in-Err c =
    record { edited = remove_refused _ c.requires.valid _ _ _ (search rules) (small_of _ _ (shifted_word _ _ c.new.ensures.shifted) c.requires.served) (shifted_word _ _ c.new.ensures.shifted) _ c.find_entry-found.ensures.found (pos_suc _) _ c.in-Err.is }

pub erase-requires : goal.erase-requires
erase-requires c =
    record { valid = row_valid _ c.requires.valid _ c.units-n.ensures.units _ _ (found_row_lem _ _ _ _ c.find_entry-found.ensures.found _ c.in-Ok.is); there = row_there _ c.requires.valid _ c.units-n.ensures.units _ _ (found_row_lem _ _ _ _ c.find_entry-found.ensures.found _ c.in-Ok.is) }

pub returns-in-Ok : goal.returns-in-Ok
returns-in-Ok c =
    record { edited = remove_done _ c.requires.valid _ _ _ (search rules) (small_of _ _ (shifted_word _ _ c.new.ensures.shifted) c.requires.served) (shifted_word _ _ c.new.ensures.shifted) _ c.find_entry-found.ensures.found (pos_suc _) _ c.in-Ok.is _ c.units-n.ensures.units _ c.erase.ensures.left }
