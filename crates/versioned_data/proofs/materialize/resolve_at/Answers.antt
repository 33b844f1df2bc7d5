-- `versioned_data::materialize::resolve_at` meets its contract.
-- Assumes nothing.
use borrow.Author.Rules.{rules}
use Rattle.versioned_data.proofs.EntryOperations.{found_row_lem}
use Rattle.versioned_data.proofs.MaterializeRulings.{resolve_refused, resolve_done}
use Rattle.versioned_data.proofs.materialize.resolve_at.Goals as goal

pub returns-in-Err : goal.returns-in-Err
returns-in-Err c =
    record { recorded = resolve_refused _ c.requires.valid _ _ (search rules) (search rules) c.requires.above_base _ _ c.find_entry-found.ensures.found _ c.in-Err.is }

pub record_delta_shortcut-requires : goal.record_delta_shortcut-requires
record_delta_shortcut-requires c =
    record { valid = c.requires.valid; row = found_row_lem _ _ _ _ c.find_entry-found.ensures.found _ c.in-Ok.is }

pub returns-in-Ok : goal.returns-in-Ok
returns-in-Ok c =
    record { recorded = resolve_done _ c.requires.valid _ _ (search rules) (search rules) c.requires.above_base _ _ c.find_entry-found.ensures.found _ c.in-Ok.is (search rules) _ c.record_delta_shortcut.ensures.recorded }
