-- `versioned_data::walk::at_write` meets its contract.
-- Assumes nothing.
use mathlib.Core.Path.{refl}
use native.Mathlib.Omega.{arith}
use Rattle.types.proofs.ValueLaws.{read_words}
use Rattle.versioned_data.proofs.WalkAnswers.{write_empty, write_gathered, write_failed}
use Rattle.versioned_data.proofs.walk.at_write.Goals as goal

pub returns-in-Empty : goal.returns-in-Empty
returns-in-Empty c =
    record { write = write_empty _ _ _ _ refl _ _ c.in-Empty.is c.read-v.ensures.value }

pub returns-in-Gathered : goal.returns-in-Gathered
returns-in-Gathered c =
    record {
      write = write_gathered _ _ _ _ refl _ _ _ _ c.in-Gathered.is
          (read_words c.args.s.now _ _ (λ i. (c.type_inv.s i).fits) (omega (arith, c.requires.inside)) c.read-v.ensures.value)
          c.below_deltas.ensures.below;
    }

pub returns-in-Failed : goal.returns-in-Failed
returns-in-Failed c =
    record {
      write = write_failed _ _ _ _ refl _ _ _ c.in-Failed.is
          (read_words c.args.s.now _ _ (λ i. (c.type_inv.s i).fits) (omega (arith, c.requires.inside)) c.read-v.ensures.value)
          c.below_deltas-in-Failed.ensures.below;
    }
