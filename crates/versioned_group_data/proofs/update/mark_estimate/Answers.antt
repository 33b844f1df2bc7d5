-- `versioned_group_data::update::mark_estimate` meets its contract.
-- Assumes nothing.
use Rattle.types.proofs.IndexLaws.{shifted_word}
use Rattle.versioned_group_data.proofs.UpdateEdits.{mark_refused, mark_done}
use Rattle.versioned_group_data.proofs.update.mark_estimate.Goals as goal

pub returns-then-run-eq0 : goal.returns-then-run-eq0
returns-then-run-eq0 c =
    record { edited = mark_refused _ c.requires.valid _ _ _ (shifted_word _ _ c.new.ensures.shifted) _ c.find_update-run.ensures.run c.if-run-eq0.true }

pub returns : goal.returns
returns c =
    record { edited = mark_done _ c.requires.valid _ _ _ (shifted_word _ _ c.new.ensures.shifted) _ c.find_update-run.ensures.run c.if-run-eq0.false _ c.mark_slots.ensures.marked }
