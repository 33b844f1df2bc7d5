-- `versioned_data::edit::set_base_value` meets its contract.
-- Assumes nothing.
use mathlib.Core.Path.{sym, ◌∙◌}
use borrow.Author.Rules.{rules}
use Rattle.types.proofs.IndexLaws.{base_word}
use Rattle.versioned_data.proofs.EntryOperations.{found_at, row_in, base_kept, base_refused, base_done}
use Rattle.versioned_data.proofs.edit.set_base_value.Goals as goal

pub base_at-requires : goal.base_at-requires
base_at-requires c =
    record { valid = c.requires.valid; row = row_in _ _ _ _ c.find_entry-found.ensures.found; inside = c.requires.inside }

pub returns-in-Keep : goal.returns-in-Keep
returns-in-Keep c =
    record { edited = base_kept _ c.requires.valid _ _ (search rules) (base_word _ c.zero_idx-place.ensures.base) _ c.find_entry-found.ensures.found _ _ _ c.base_at.ensures.base c.in-Keep.is }

pub returns-in-Differs : goal.returns-in-Differs
returns-in-Differs c =
    record { edited = base_refused _ c.requires.valid _ _ (search rules) (base_word _ c.zero_idx-place.ensures.base) _ c.find_entry-found.ensures.found _ _ _ c.base_at.ensures.base c.in-Differs.is }

pub put-requires : goal.put-requires
put-requires c =
    record { valid = c.requires.valid; found = (found_at _ _ _ _ _ (sym c.word.ensures.stored) c.find_entry-found.ensures.found) }

pub returns-in-Set : goal.returns-in-Set
returns-in-Set c =
    record { edited = base_done _ c.requires.valid _ _ (search rules) (c.word.ensures.stored ∙ base_word _ c.zero_idx-place.ensures.base) _ (found_at _ _ _ _ _ (sym c.word.ensures.stored) c.find_entry-found.ensures.found) _ _ _ c.base_at.ensures.base c.in-Set.is (λ j. (c.type_inv.value j).fits) c.requires.inside c.requires.value _ _ c.put.ensures.put }
