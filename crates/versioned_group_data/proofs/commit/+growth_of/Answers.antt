-- `versioned_group_data::commit::growth_of` meets its contract.
-- Assumes nothing.
use Rattle.std.proofs.lemmas.Result.{err_from_is_err_and}
use Rattle.versioned_group_data.proofs.CommitSteps.{growth_stop, growth_refused, growth_more}
use Rattle.versioned_group_data.proofs.commit.+growth_of.Goals as goal

pub returns-then-not-passes : goal.returns-then-not-passes
returns-then-not-passes t c = record { growth = growth_stop _ _ _ _ _ c.in-Some.ensures.some _ c.passes.ensures.rule c.if-not-passes.true }

pub returns-in_err-rest : goal.returns-in_err-rest
returns-in_err-rest t c =
    let p = err_from_is_err_and c.from_residual.result c.from_residual.ensures.1 in
    rw (p.1, p.2) (record { growth = growth_refused _ _ _ _ _ c.in-Some.ensures.some _ c.passes.ensures.rule c.if-not-passes.false _ c.growth_of.ensures.growth _ c.in_err-rest.was })

pub returns : goal.returns
returns t c =
    record { growth = growth_more _ _ _ _ _ c.in-Some.ensures.some _ c.passes.ensures.rule c.if-not-passes.false _ c.growth_of.ensures.growth _ c.in_ok-rest.was _ c.with.ensures.grown }
