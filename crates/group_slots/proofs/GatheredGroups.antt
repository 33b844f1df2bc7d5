-- What is gathered from the slots of fine updates and committed values is those.
-- Assumes nothing.
use mathlib.Core.Path.{◌≡◌, refl, ◌∙◌, ap}
use mathlib.Core.Bool.{Bool, true, false, cond}
use mathlib.Core.List.{List, [], ◌∷◌, ◌++◌, map, append_assoc, append-nil}
use Prim.Native.Nat.{ℕ, suc, ◌+◌, ◌-◌, ◌≤◌}
use native.Mathlib.Omega.{arith}
use lib.Dec.{eqb, eqb-suc-zero}
use lib.ListN.{length, get_or, replicate}
use lib.Seq.{take_at}
use Rattle.types.proofs.FlagLaws.{flag_back}
use Rattle.lists.specs.Lists.{every}
use Rattle.lists.proofs.Bools.{and_left, and_right}
use Rattle.types.specs.Value.{value_at, value_width}
use Rattle.request.specs.Set.{Member}
use Rattle.slots.specs.Slots.{Slot, slot_width, padded}
use Rattle.model.specs.Rows.{Row}
use Rattle.model.specs.Group.{Update, Committed}
use Rattle.model.specs.Model.{updates_held}
use Rattle.model.specs.Fine.{fine_value, fine_member, fine_update, fine_committed}
use Rattle.model.proofs.FineParts.{value_length}
use Rattle.model.proofs.FineUpdates.{member_value_lem}
use Rattle.group_slots.specs.Layout.{Groups, Gathered, part_slot, member_slot, update_slots, updates_slots, committed_slot, group_slots, member_of, update_of, committed_of, with_member, with_update, with_committed, with_slot, gathered, fine_groups}
use Rattle.group_slots.proofs.SlotParts.{update_values, committed_value, fine_every, fine_committed_every}

pub part_value : (r : Row Update) (part : ℕ) (v : List ℕ) → fine_value v ≡ true → value_at 7 (part_slot r part v) ≡ v
unfolding part_slot padded value_at
part_value r part v f = take_at v (replicate (slot_width - suc (suc (suc (suc (suc (suc (suc (length v)))))))) 0) value_width (value_length v f)

pub committed_slot_value : (r : Row (List ℕ)) → fine_value r.held ≡ true → value_at 7 (committed_slot r) ≡ r.held
unfolding committed_slot padded value_at
committed_slot_value r f =
    take_at r.held (replicate (slot_width - suc (suc (suc (suc (suc (suc (suc (length r.held)))))))) 0) value_width (value_length r.held f)

tag_back : (t : ℕ) → suc t - 1 ≡ t
tag_back t = omega arith

member_back : (r : Row Update) (m : Member) → fine_member r.place m ≡ true → member_of (member_slot r m) ≡ m
unfolding member_of member_slot part_slot padded
member_back r m f i =
    record { tag = tag_back m.tag i; value = part_value r (suc m.tag) m.value (member_value_lem r.place m f) i }

update_back : (r : Row Update) (ms : List Member) → update_of (part_slot r 0 []) ms ≡ record { key = r.key; place = r.place; held = record { incarnation = r.held.incarnation; estimate = r.held.estimate; members = ms } }
unfolding update_of part_slot padded
update_back r ms i =
    record { key = r.key; place = r.place; held = record { incarnation = r.held.incarnation; estimate = flag_back r.held.estimate i; members = ms } }

committed_back : (r : Row (List ℕ)) → fine_committed r ≡ true → committed_of (committed_slot r) ≡ r
unfolding committed_of committed_slot padded
committed_back r f i = record { key = r.key; place = r.place; held = committed_slot_value r (committed_value r f) i }

-- A slot gathered.
gather_member : (r : Row Update) (m : Member) (g : Gathered) → fine_member r.place m ≡ true →
    with_slot (member_slot r m) g ≡ record { waiting = m ∷ g.waiting; updates = g.updates; committed = g.committed }
unfolding with_slot with_member member_slot part_slot padded
gather_member r m g f =
    rw (eqb-suc-zero m.tag) (λ i. record { waiting = member_back r m f i ∷ g.waiting; updates = g.updates; committed = g.committed })

gather_update : (r : Row Update) (g : Gathered) → g.waiting ≡ r.held.members →
    with_slot (part_slot r 0 []) g ≡ record { waiting = []; updates = r ∷ g.updates; committed = g.committed }
unfolding with_slot with_update part_slot padded
gather_update r g e =
    ap (λ (ms : List Member). record { waiting = []; updates = update_of (part_slot r 0 []) ms ∷ g.updates; committed = g.committed }) e
    ∙ ap (λ (x : Row Update). record { waiting = []; updates = x ∷ g.updates; committed = g.committed }) (update_back r r.held.members)

gather_committed : (r : Row (List ℕ)) (g : Gathered) → fine_committed r ≡ true →
    with_slot (committed_slot r) g ≡ record { waiting = g.waiting; updates = g.updates; committed = r ∷ g.committed }
unfolding with_slot with_committed committed_slot padded
gather_committed r g f i = record { waiting = g.waiting; updates = g.updates; committed = committed_back r f i ∷ g.committed }

-- Many slots gathered, those after them first.
gather_members : (r : Row Update) (ms : List Member) (us : List Slot) → every (fine_member r.place) ms ≡ true → (gathered us).waiting ≡ [] →
    gathered (map (member_slot r) ms ++ us) ≡ record { waiting = ms; updates = (gathered us).updates; committed = (gathered us).committed }
unfolding gathered every
gather_members r [] us f e = λ i. record { waiting = e i; updates = (gathered us).updates; committed = (gathered us).committed }
gather_members r (m ∷ ms) us f e =
    ap (with_slot (member_slot r m)) (gather_members r ms us (and_right (fine_member r.place m) (every (fine_member r.place) ms) f) e)
    ∙ gather_member r m (record { waiting = ms; updates = (gathered us).updates; committed = (gathered us).committed })
    (and_left (fine_member r.place m) (every (fine_member r.place) ms) f)

gather_update_slots : (r : Row Update) (us : List Slot) → fine_update r ≡ true → (gathered us).waiting ≡ [] →
    gathered (update_slots r ++ us) ≡ record { waiting = []; updates = r ∷ (gathered us).updates; committed = (gathered us).committed }
unfolding gathered update_slots
gather_update_slots r us f e =
    let g : gathered (map (member_slot r) r.held.members ++ us) ≡ record { waiting = r.held.members; updates = (gathered us).updates; committed = (gathered us).committed } =
    gather_members r r.held.members us (update_values r f) e
    in
    ap (with_slot (part_slot r 0 [])) g
    ∙ gather_update r (record { waiting = r.held.members; updates = (gathered us).updates; committed = (gathered us).committed }) refl

gather_updates : (rs : List (Row Update)) (us : List Slot) → every fine_update rs ≡ true → (gathered us).waiting ≡ [] →
    gathered (updates_slots rs ++ us) ≡ record { waiting = []; updates = rs ++ (gathered us).updates; committed = (gathered us).committed }
unfolding updates_slots every
gather_updates [] us f e = λ i. record { waiting = e i; updates = (gathered us).updates; committed = (gathered us).committed }
gather_updates (r ∷ rs) us f e =
    let ih : gathered (updates_slots rs ++ us) ≡ record { waiting = []; updates = rs ++ (gathered us).updates; committed = (gathered us).committed } =
    gather_updates rs us (and_right (fine_update r) (every fine_update rs) f) e
    in
    ap gathered (append_assoc (update_slots r) (updates_slots rs) us)
    ∙ gather_update_slots r (updates_slots rs ++ us) (and_left (fine_update r) (every fine_update rs) f) (ap (λ (x : Gathered). x.waiting) ih)
    ∙ ap (λ (x : Gathered). record { waiting = []; updates = r ∷ x.updates; committed = x.committed }) ih

gather_values : (rs : Committed) → every fine_committed rs ≡ true → gathered (map committed_slot rs) ≡ record { waiting = []; updates = []; committed = rs }
unfolding gathered every
gather_values [] f = refl
gather_values (r ∷ rs) f =
    ap (with_slot (committed_slot r)) (gather_values rs (and_right (fine_committed r) (every fine_committed rs) f))
    ∙ gather_committed r (record { waiting = []; updates = []; committed = rs }) (and_left (fine_committed r) (every fine_committed rs) f)

pub gathered_group_slots : (g : Groups) → fine_groups g ≡ true →
    gathered (group_slots g) ≡ record { waiting = []; updates = g.updates; committed = g.committed }
unfolding group_slots
gathered_group_slots g f =
    let v : gathered (map committed_slot g.committed) ≡ record { waiting = []; updates = []; committed = g.committed } =
    gather_values g.committed (fine_committed_every g f)
    in
    gather_updates g.updates (map committed_slot g.committed) (fine_every g f) (ap (λ (x : Gathered). x.waiting) v)
    ∙ ap (λ (x : Gathered). record { waiting = []; updates = g.updates ++ x.updates; committed = x.committed }) v
    ∙ ap (λ (l : List (Row Update)). record { waiting = []; updates = l; committed = g.committed }) (append-nil g.updates)

-- Every slot is gathered once, whatever its words.
gathers : Gathered → ℕ
gathers g = length g.waiting + (updates_held g.updates + length g.committed)

gathers_slot : (u : Slot) (g : Gathered) → gathers (with_slot u g) ≡ suc (gathers g)
unfolding gathers with_slot with_member with_update with_committed updates_held update_of
gathers_slot u g = go (eqb (get_or u 0 0) 2) (eqb (get_or u 3 0) 0)
  where
    go : (b c : Bool) → gathers (cond b (with_committed u g) (cond c (with_update u g) (with_member u g))) ≡ suc (gathers g)
    go true c = omega arith
    go false true = omega arith
    go false false = omega arith

gathers_all : (us : List Slot) → gathers (gathered us) ≡ length us
unfolding gathered gathers updates_held
gathers_all [] = refl
gathers_all (u ∷ us) = gathers_slot u (gathered us) ∙ ap suc (gathers_all us)

pub gathered_few : (us : List Slot) → updates_held (gathered us).updates + length (gathered us).committed ≤ length us
unfolding gathers
gathered_few us = omega (arith, gathers_all us)
