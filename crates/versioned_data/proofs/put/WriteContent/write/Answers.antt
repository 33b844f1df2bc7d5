-- `versioned_data::put::Write::write` meets its contract.
-- Assumes nothing.
use native.Mathlib.Omega.{arith}
use lib.ListN.{length-set}
use Rattle.versioned_data.proofs.EntryWrites.{copy_part, write_put, write_long}
use Rattle.versioned_data.proofs.put.WriteContent.write.Goals as goal

pub returns : goal.returns
returns c = record { put = write_put _ _ _ _ _ (copy_part _ _ _ _ _ (rw length-set (omega (arith, c.requires.room))) c.args.self.inside c.copy_from_slice.ensures.after); long = write_long _ _ c.args.self.inside }
