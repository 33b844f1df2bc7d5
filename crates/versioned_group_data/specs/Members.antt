-- The update that a request's members make.
use Rattle.std.specs.Prelude.{false, List, ℕ, set as set_at}
use Rattle.request.specs.Set.{Member}
use Rattle.slots.specs.Slots.{Slot}
use Rattle.model.specs.Rows.{set}
use Rattle.model.specs.Data.{Ruling, accept, done_answer}
use Rattle.model.specs.Group.{Update}
use Rattle.group_slots.specs.Layout.{Groups}
use Rattle.versioned_group_data.specs.Ruled.{editing}

-- An update that is done.
unfoldable pub done_update : ℕ → List Member → Update
done_update incarnation ms = record { incarnation = incarnation; estimate = false; members = ms }

-- An update recorded at a key and shifted index, whatever stood there.
unfoldable pub recording : ℕ → ℕ → Update → Groups → Ruling Groups
recording key place u g = editing g key place (λ own. accept done_answer (set u))

-- A slot with the flag of an estimate.
unfoldable pub marked : Slot → Slot
marked u = set_at u 5 1
