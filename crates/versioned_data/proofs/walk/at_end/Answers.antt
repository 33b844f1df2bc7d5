-- `versioned_data::walk::at_end` meets its contract.
-- Assumes nothing.
use Rattle.versioned_data.proofs.WalkAnswers.{end_empty, end_gathered, end_failed}
use Rattle.versioned_data.proofs.walk.at_end.Goals as goal

pub returns-in-Empty : goal.returns-in-Empty
returns-in-Empty c =
    record { end = end_empty _ c.in-Empty.is }

pub returns-in-Gathered : goal.returns-in-Gathered
returns-in-Gathered c =
    record { end = end_gathered _ _ c.in-Gathered.is _ c.from.ensures }

pub returns-in-Failed : goal.returns-in-Failed
returns-in-Failed c =
    record { end = end_failed _ c.in-Failed.is }
