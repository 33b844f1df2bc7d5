-- `versioned_data::put::Write::marks` meets its contract.
-- Assumes nothing.
use mathlib.Core.Path.{sym}
use native.Mathlib.Omega.{arith}
use Rattle.versioned_data.proofs.EntryWrites.{write_marks}
use Rattle.versioned_data.proofs.put.WriteContent.marks.Goals as goal

pub returns : goal.returns
returns c = record { marks = sym (write_marks _ _); small = omega arith }
