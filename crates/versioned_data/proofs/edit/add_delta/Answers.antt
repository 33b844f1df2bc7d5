-- `versioned_data::edit::add_delta` meets its contract.
-- Assumes nothing.
use mathlib.Core.Path.{sym, ◌∙◌}
use borrow.Author.Rules.{rules}
use Rattle.types.proofs.IndexLaws.{shifted_word}
use Rattle.versioned_data.proofs.EntryOperations.{pos_suc, small_of, found_at, delta_added}
use Rattle.versioned_data.proofs.edit.add_delta.Goals as goal

pub put-requires : goal.put-requires
put-requires c =
    record { valid = c.requires.valid; found = (found_at _ _ _ _ _ (sym c.word.ensures.stored) c.find_entry-found.ensures.found) }

pub returns : goal.returns
returns c =
    record { edited = delta_added _ c.requires.valid _ _ _ (search rules) (small_of _ _ (c.word.ensures.stored ∙ shifted_word _ _ c.new-place.ensures.shifted) c.requires.served) (c.word.ensures.stored ∙ shifted_word _ _ c.new-place.ensures.shifted) _ (found_at _ _ _ _ _ (sym c.word.ensures.stored) c.find_entry-found.ensures.found) (pos_suc _) _ (λ j. (c.type_inv.delta j).fits) c.requires.inside c.requires.delta _ _ c.put.ensures.put }
