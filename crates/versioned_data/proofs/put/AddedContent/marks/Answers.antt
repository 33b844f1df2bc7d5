-- `versioned_data::put::Added::marks` meets its contract.
-- Assumes nothing.
use mathlib.Core.Path.{◌∙◌}
use native.Mathlib.Omega.{arith}
use Rattle.versioned_data.proofs.EntryWrites.{delta_sign, delta_marks}
use Rattle.versioned_data.proofs.put.AddedContent.marks.Goals as goal

pub of_delta-requires : goal.of_delta-requires
of_delta-requires c = record { sign = delta_sign _ c.args.self.valid }

pub returns : goal.returns
returns c =
    record { marks = c.of_delta.ensures.marks ∙ delta_marks _ c.args.self.valid; small = omega (arith, c.of_delta.ensures.marks, delta_sign _ c.args.self.valid) }
