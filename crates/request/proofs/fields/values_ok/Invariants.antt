use mathlib.Core.Path.{◌≡◌}
use Prim.Native.Nat.{◌-◌, ◌*◌, ◌≤◌}
use lib.ListN.{length}
use Rattle.types.specs.Value.{value_width}
use Rattle.request.specs.Members.{members_in}
use Rattle.request.specs.Request.{all}
use Rattle.request.specs.Fields.{side_ok}
use Rattle.request.proofs.FieldRules.{values_ok_lem}
use Rattle.request.proofs.fields.values_ok.Given as goal

abbrev pub invariant-loop-i : goal.invariant-loop-i
invariant-loop-i l =
    (all (side_ok l.exchanged) (members_in l.members) ≡ values_ok_lem l.exchanged (length (members_in l.members) - l._i) l.words)
    × (value_width * (length (members_in l.members) - l._i) ≤ length l.words)
