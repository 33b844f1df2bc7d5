-- `versioned_group_data::commit::commit` meets its contract.
-- Assumes nothing.
use borrow.Author.Rules.{rules}
use native.Mathlib.Omega.{arith}
use mathlib.Core.Path.{sym, ap, ◌∙◌}
use lib.ListN.{length}
use Rattle.versioned_group_data.proofs.CommitSteps.{fine_rest, key_word, valid_erased, fits_erased, commit_deletion, fits_rest, valid_rest, fits_put, commit_other}
use Rattle.versioned_group_data.proofs.commit.+commit.Goals as goal

pub commit-requires : goal.commit-requires
commit-requires t c =
    (omega (arith, ap length c.in-Some.ensures.some, c.decreases), (valid_erased _ c.requires.valid _ _ _ _ c.in-Some.ensures.some c.requires.fits (sym c.is_deletion.ensures.deletion ∙ c.if-is_deletion.true) _ c.erase_committed.ensures.erased, ((fine_rest _ _ _ c.in-Some.ensures.some c.requires.members, fits_erased _ c.requires.valid _ _ _ _ c.in-Some.ensures.some c.requires.fits (sym c.is_deletion.ensures.deletion ∙ c.if-is_deletion.true) _ c.erase_committed.ensures.erased))))

pub returns-then-is_deletion : goal.returns-then-is_deletion
returns-then-is_deletion t c =
    record { committed = commit_deletion _ c.requires.valid _ _ _ _ c.in-Some.ensures.some c.requires.fits (sym c.is_deletion.ensures.deletion ∙ c.if-is_deletion.true) _ c.erase_committed.ensures.erased _ c.commit.ensures.committed }

pub commit-requires-2 : goal.commit-requires-2
commit-requires-2 t c =
    (omega (arith, ap length c.in-Some.ensures.some, c.decreases), (c.requires.valid, ((fine_rest _ _ _ c.in-Some.ensures.some c.requires.members, fits_rest _ c.requires.valid _ _ _ _ c.in-Some.ensures.some c.requires.fits (sym c.is_deletion.ensures.deletion ∙ c.if-is_deletion.false)))))

pub put_committed-requires : goal.put_committed-requires
put_committed-requires t c =
    record { valid = valid_rest _ c.requires.valid _ _ _ _ c.in-Some.ensures.some c.requires.fits (sym c.is_deletion.ensures.deletion ∙ c.if-is_deletion.false) (key_word _ (search rules)) (fine_rest _ _ _ c.in-Some.ensures.some c.requires.members) _ c.commit-2.ensures.committed; fits = fits_put _ c.requires.valid _ _ _ _ c.in-Some.ensures.some c.requires.fits (sym c.is_deletion.ensures.deletion ∙ c.if-is_deletion.false) (key_word _ (search rules)) (fine_rest _ _ _ c.in-Some.ensures.some c.requires.members) _ c.commit-2.ensures.committed }

pub returns : goal.returns
returns t c =
    record { committed = commit_other _ c.requires.valid _ _ _ _ c.in-Some.ensures.some c.requires.fits (sym c.is_deletion.ensures.deletion ∙ c.if-is_deletion.false) (key_word _ (search rules)) (fine_rest _ _ _ c.in-Some.ensures.some c.requires.members) _ c.commit-2.ensures.committed _ c.put_committed.ensures.put }
