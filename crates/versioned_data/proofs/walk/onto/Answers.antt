-- `versioned_data::walk::onto` meets its contract.
-- Assumes nothing.
use borrow.Author.Rules.{rules}
use Rattle.versioned_data.proofs.WalkAnswers.{onto_empty, onto_value, onto_outside, onto_failed}
use Rattle.versioned_data.proofs.walk.onto.Goals as goal

pub returns-in-Empty : goal.returns-in-Empty
returns-in-Empty c =
    record { resolved = onto_empty _ _ c.in-Empty.is (search rules) }

pub returns-in-Some : goal.returns-in-Some
returns-in-Some c =
    record { resolved = onto_value _ _ _ c.in-Gathered.is _ c.apply_to.ensures.applies _ c.in-Some.is }

pub returns-in-None : goal.returns-in-None
returns-in-None c =
    record { resolved = onto_outside _ _ _ c.in-Gathered.is _ c.apply_to.ensures.applies c.in-None.is }

pub returns-in-Failed : goal.returns-in-Failed
returns-in-Failed c =
    record { resolved = onto_failed _ _ c.in-Failed.is }
