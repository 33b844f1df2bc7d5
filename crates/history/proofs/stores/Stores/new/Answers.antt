use Rattle.std.proofs.Common.{replicate}
use Rattle.versioned_data.proofs.EntriesCleared as Data
use Rattle.group_slots.proofs.GroupCleared as Group
use Rattle.mvhashmap.proofs.StoresSound.{sound_both}
use Rattle.history.proofs.stores.Stores.new.Goals as goal

pub invariant_of-result : goal.invariant_of-result
invariant_of-result g c =
    record { valid = sound_both (replicate g.row.N 0) (replicate g.row.N 0) (Data.valid_cleared g.row.N) (Group.valid_cleared g.row.N) }
