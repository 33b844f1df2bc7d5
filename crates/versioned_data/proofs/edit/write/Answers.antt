-- `versioned_data::edit::write` meets its contract.
-- Assumes nothing.
use mathlib.Core.Path.{sym, ◌∙◌}
use borrow.Author.Rules.{rules}
use Rattle.types.proofs.IndexLaws.{shifted_word}
use Rattle.versioned_data.proofs.EntryOperations.{pos_suc, small_of, found_at, row_in, write_refused, write_done}
use Rattle.versioned_data.proofs.edit.write.Goals as goal

pub may_write-requires : goal.may_write-requires
may_write-requires c =
    record { valid = c.requires.valid; row = row_in _ _ _ _ c.find_entry-found.ensures.found }

pub returns-then-not-may_write : goal.returns-then-not-may_write
returns-then-not-may_write c =
    record { edited = write_refused _ c.requires.valid _ _ _ (search rules) (small_of _ _ (shifted_word _ _ c.new-place.ensures.shifted) c.requires.served) (shifted_word _ _ c.new-place.ensures.shifted) _ c.find_entry-found.ensures.found (pos_suc _) _ _ _ _ c.may_write.ensures.may c.if-not-may_write.true-raw }

pub put-requires : goal.put-requires
put-requires c =
    record { valid = c.requires.valid; found = (found_at _ _ _ _ _ (sym c.word.ensures.stored) c.find_entry-found.ensures.found) }

pub returns : goal.returns
returns c =
    record { edited = write_done _ c.requires.valid _ _ _ (search rules) (small_of _ _ (c.word.ensures.stored ∙ shifted_word _ _ c.new-place.ensures.shifted) c.requires.served) (c.word.ensures.stored ∙ shifted_word _ _ c.new-place.ensures.shifted) _ (found_at _ _ _ _ _ (sym c.word.ensures.stored) c.find_entry-found.ensures.found) (pos_suc _) _ _ _ _ c.may_write.ensures.may c.if-not-may_write.false-raw (search rules) (λ j. (c.type_inv.value j).fits) c.requires.inside c.requires.value c.requires.exchanged _ _ c.put.ensures.put }
