-- The values of a request held against the base that is recorded.
-- Assumes nothing.
use mathlib.Core.Path.{◌≡◌, sym, ◌∙◌, ap}
use mathlib.Core.Bool.{Bool, true, false, ◌&&◌}
use mathlib.Core.List.{List, [], ◌∷◌}
use mathlib.Core.Option.{some}
use Prim.Native.Nat.{ℕ, ◌<◌}
use native.Mathlib.Omega.{arith}
use lib.ListN.{length, get_or}
use Rattle.types.specs.Value.{value_at}
use Rattle.request.specs.Set.{Member}
use Rattle.slots.specs.Slots.{Slot, slots}
use Rattle.slots.proofs.StoreWords.{slots_many, slots_are}
use Rattle.types.specs.Units.{units_in}
use Rattle.std.proofs.Common.{Ok, Err}
use Rattle.slots.proofs.StoreEncoding.{held_fits}
use Rattle.model.specs.Rows.{find}
use Rattle.model.specs.Group.{member_value, members_in, agrees, all_agree}
use Rattle.group_slots.specs.Layout.{groups_in, group_valid}
use Rattle.group_slots.specs.Found.{member_found}
use Rattle.group_slots.proofs.GroupStanding.{MemberAt, member_at, member_none, slot_at_value}

-- The value of a tag that is looked for in the base.
pub tag_absent : (s : List ℕ) (k tag i : ℕ) (v : List ℕ) → member_found k 0 tag (groups_in s) ≡ Err i → false ≡ agrees v (member_value tag (members_in (find k 0 (groups_in s).updates)))
unfolding agrees
tag_absent s k tag i v e = rw (member_none s k 0 tag i e).0

module _ (s : List ℕ) (valid : group_valid s ≡ true) (k tag i : ℕ) (e : member_found k 0 tag (groups_in s) ≡ Ok i) where
  there : MemberAt k 0 tag i s
  there = member_at s valid k 0 i tag e

  pub tag_inside : i < units_in (length s)
  tag_inside = omega (arith, there.inside, held_fits s)

  value_there : member_value tag (members_in (find k 0 (groups_in s).updates)) ≡ some there.value
  unfolding members_in
  value_there = rw there.found there.valued

  module _ (us : List Slot) (all : us ≡ slots (units_in (length s)) s) where
    pub tag_bound : i < length us
    tag_bound = omega (arith, slots_many s us all, tag_inside)

    pub tag_there : (v old : List ℕ) → old ≡ value_at 7 (get_or us i []) → (b : Bool) → b ≡ agrees v (some old) → b ≡ agrees v (member_value tag (members_in (find k 0 (groups_in s).updates)))
    tag_there v old read b f =
        f
        ∙ ap (λ (l : List ℕ). agrees v (some l)) (read ∙ ap (value_at 7) (slots_are s us all i [] tag_bound) ∙ slot_at_value i s ∙ there.words)
        ∙ ap (agrees v) (sym value_there)

-- The members that are left.
pub agree_end : (ms es : List Member) (b : Bool) → ms ≡ [] → all_agree ms es ≡ b → true ≡ b
unfolding all_agree
agree_end ms es b e h = ap (λ (l : List Member). all_agree l es) (sym e) ∙ h

module _ (m : Member) (ms all es : List Member) (is : all ≡ m ∷ ms) (b : Bool) (rest : all_agree all es ≡ b) (r : Bool) (told : r ≡ agrees m.value (member_value m.tag es)) where
  split : (r && all_agree ms es) ≡ b
  unfolding all_agree
  split = rw told (ap (λ (l : List Member). all_agree l es) (sym is) ∙ rest)

  pub agree_stop : r ≡ false → false ≡ b
  agree_stop h = ap (λ (x : Bool). x && all_agree ms es) (sym h) ∙ split

  pub agree_again : r ≡ true → all_agree ms es ≡ b
  agree_again h = ap (λ (x : Bool). x && all_agree ms es) (sym h) ∙ split
