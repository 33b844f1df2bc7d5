-- The members that a request hands over: how many, and how wide their values.
-- Assumes nothing.
use mathlib.Core.Path.{◌≡◌, refl, ap}
use mathlib.Core.Bool.{Bool, true}
use mathlib.Core.List.{List, [], ◌∷◌}
use Prim.Native.Nat.{ℕ, ◌*◌, ◌≤◌, ◌<◌}
use native.Mathlib.Omega.{arith}
use lib.Dec.{eqb}
use lib.ListN.{length, take, drop, length-drop}
use lib.Seq.{length-take-le}
use borrow.Author.Tests.{eq-eqb}
use Rattle.lists.specs.Lists.{every}
use Rattle.lists.proofs.Bools.{and_both}
use Rattle.types.specs.Value.{value_width}
use Rattle.types.specs.Response.{most_tags}
use Rattle.request.specs.Set.{Member, tags_of, members_of}
use Rattle.request.specs.Members.{members_in}
use Rattle.request.specs.declared.members.Members.{Members}
use Rattle.request.proofs.SetTags.{tags_length_le}
use Rattle.request.proofs.MemberViews.{members_length}

pub handed_few : (m : Members) → length (members_in m) ≤ most_tags
handed_few m = omega (arith, members_length m, tags_length_le m.set.low m.set.high)

-- one member is taken off
pub handed_rest : (m : Member) (ms : List Member) (x : Members) → members_in x ≡ m ∷ ms → length ms < most_tags
handed_rest m ms x e = omega (arith, handed_few x, ap length e)

unfoldable pub is_wide : Member → Bool
is_wide m = eqb (length m.value) value_width

wide_of : (ts ws : List ℕ) → value_width * length ts ≤ length ws → every is_wide (members_of ts ws) ≡ true
unfolding every members_of is_wide
wide_of [] ws h = refl
wide_of (t ∷ ts) ws h =
    and_both (eqb (length (take value_width ws)) value_width) (every is_wide (members_of ts (drop value_width ws)))
    (eq-eqb (length (take value_width ws)) value_width (length-take-le value_width ws (omega arith)))
    (wide_of ts (drop value_width ws) (rw (length-drop value_width ws) (omega arith)))

pub handed_wide : (m : Members) → every is_wide (members_in m) ≡ true
unfolding members_in
handed_wide m = wide_of (tags_of m.set.low m.set.high) m.values.now m.inside
