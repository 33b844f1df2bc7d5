-- `versioned_group_data::exchange::write_value` meets its contract.
-- Assumes nothing.
use native.Mathlib.Omega.{arith}
use Rattle.versioned_group_data.proofs.BaseExchanges.{slot_room}
use Rattle.versioned_group_data.proofs.exchange.write_value.Goals as goal

pub overflow_mul-i : goal.overflow_mul-i
overflow_mul-i c =
    record { fits = omega (arith, (slot_room c.args.i _ c.requires.slot).0) }

pub overflow_add-i : goal.overflow_add-i
overflow_add-i c =
    record { fits = omega (arith, (slot_room c.args.i _ c.requires.slot).0) }

pub write-requires : goal.write-requires
write-requires c =
    record { inside = omega (arith, (slot_room c.args.i _ c.requires.slot).1) }
