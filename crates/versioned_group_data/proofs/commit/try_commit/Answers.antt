-- `versioned_group_data::commit::try_commit` meets its contract.
-- Assumes nothing.
use mathlib.Core.Path.{refl, ◌∙◌}
use Rattle.std.proofs.lemmas.Result.{err_from_is_err_and}
use lib.ListN.{length}
use Rattle.types.specs.Units.{units_in}
use Rattle.versioned_group_data.proofs.CommitTried.{deletions_few, tried_refused, tried_full, tried_done}
use Rattle.versioned_group_data.proofs.Results.{refusal_some, none_refused, number_refused}
use Rattle.versioned_group_data.proofs.commit.try_commit.Goals as goal

pub returns-in_err-growth : goal.returns-in_err-growth
returns-in_err-growth c =
    let p = err_from_is_err_and c.from_residual.result c.from_residual.ensures.1 in
    rw (p.1, p.2) (record { tried = tried_refused _ c.requires.valid _ _ c.requires.members _ _ c.growth_of.ensures.growth _ c.in_err-growth.was })

pub overflow_sub-held : goal.overflow_sub-held
overflow_sub-held c =
    deletions_few _ c.requires.valid _ _ c.requires.members c.args.more _ c.growth_of.ensures.growth _ c.in_ok-growth.was (units_in (length c.args.s.now)) _ refl c.used.ensures.used

pub returns-in_err-enough : goal.returns-in_err-enough
returns-in_err-enough c =
    let p = err_from_is_err_and c.from_residual-in_err-enough.result c.from_residual-in_err-enough.ensures.1 in
    rw (p.1, p.2) (record { tried = tried_full _ c.requires.valid _ _ c.requires.members c.args.more _ c.growth_of.ensures.growth _ c.in_ok-growth.was _ _ c.units.ensures.units c.used.ensures.used _ (number_refused _ _ c.in_err-enough.was ∙ c.enough.ensures.lack) (refusal_some _) })

pub returns : goal.returns
returns c =
    record { tried = tried_done _ c.requires.valid _ _ c.requires.members c.args.more _ c.growth_of.ensures.growth _ c.in_ok-growth.was _ _ c.units.ensures.units c.used.ensures.used _ c.enough.ensures.lack (none_refused _ _ c.in_ok-enough.was) _ c.commit.ensures.committed }
