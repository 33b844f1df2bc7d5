-- `group_slots::scan::first_ok` meets its contract.
-- Assumes nothing.
use Rattle.group_slots.proofs.ScanExits.{first_there}
use Rattle.group_slots.proofs.scan.first_ok.Goals as goal

pub returns-in-Some : goal.returns-in-Some
returns-in-Some c = record { first = rw c.is_member.ensures.member (first_there _ _ c.slots_of.ensures.slots _ (rw c.in-Some.is at c.first.ensures.value)) }
