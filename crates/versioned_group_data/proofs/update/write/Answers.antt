-- `versioned_group_data::update::write` meets its contract.
-- Assumes nothing.
use Rattle.versioned_group_data.proofs.Results.{none_refused, number_refused}
use Rattle.std.proofs.lemmas.Result.{err_from_is_err_and}
use Rattle.types.proofs.IndexLaws.{shifted_word}
use Rattle.versioned_group_data.proofs.UpdateReports.{write_refused, write_outside, write_done}
use Rattle.versioned_group_data.proofs.update.write.Goals as goal

pub returns-in_err-put : goal.returns-in_err-put
returns-in_err-put c =
    let p = err_from_is_err_and c.from_residual.result c.from_residual.ensures.1 in
    rw (p.1, p.2) (record { written = write_refused _ _ _ _ (shifted_word _ _ c.new-place.ensures.shifted) _ _ _ c.writes_outside-outside.ensures.outside _ _ c.put.ensures.recorded _ (number_refused _ _ c.in_err-put.was) })

pub returns-then-outside : goal.returns-then-outside
returns-then-outside c =
    record { written = write_outside _ _ _ _ (shifted_word _ _ c.new-place.ensures.shifted) _ _ _ c.writes_outside-outside.ensures.outside _ _ c.put.ensures.recorded (none_refused _ _ c.in_ok-put.was) c.if-outside.true }

pub returns-else-outside : goal.returns-else-outside
returns-else-outside c =
    record { written = write_done _ _ _ _ (shifted_word _ _ c.new-place.ensures.shifted) _ _ _ c.writes_outside-outside.ensures.outside _ _ c.put.ensures.recorded (none_refused _ _ c.in_ok-put.was) c.if-outside.false }
