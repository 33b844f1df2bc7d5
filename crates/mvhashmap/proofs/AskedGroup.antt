-- A request for the group store that 1 to 4 do not refuse: the work that it asks for, its index, its tag and its members, kind by kind.
-- Assumes nothing.
use mathlib.Core.Path.{◌≡◌, refl, sym, ap, subst, ◌∙◌}
use mathlib.Core.Bool.{true, false}
use mathlib.Core.List.{List}
use Prim.Native.Nat.{ℕ, suc, ◌+◌, ◌*◌, ◌≤◌, ◌<◌}
use native.Mathlib.Omega.{arith}
use lib.ListN.{length, drop}
use Rattle.lists.proofs.Bools.{and_right, never}
use Rattle.types.specs.Index.{index_bound}
use Rattle.types.specs.Value.{value_at, value_width}
use Rattle.request.specs.Table.{number_of}
use Rattle.request.specs.Set.{tags_of, members_of}
use Rattle.request.specs.Request.{request_of}
use Rattle.request.specs.Fields.{kind_asked, members_from, meaning_in, RoomIn}
use Rattle.request.specs.declared.set.Set.{Set}
use Rattle.request.specs.declared.asked.Request.{Request}
use Rattle.request.specs.declared.asked.Request.TheVariants as Code
use Rattle.request.proofs.CheckAnswers.{Passed, accepted_passed}
use Rattle.request.proofs.CheckPasses.{passed_room, passed_served}
use Rattle.request.proofs.CheckPasses as Passes
use Rattle.request.proofs.AskedRules.{Served}
use Rattle.model.specs.Group as Groups
use Rattle.model.specs.Model.{Work, read_group, edit_group, commit_group, work_of}
use Rattle.model.specs.Fine.{is_word, fine_members, fine_request}
use Rattle.model.proofs.FineRequests.{request_of_fine}
use Rattle.mvhashmap.specs.Served.{is_data, Asked}
use Rattle.mvhashmap.proofs.AskedData.{Asks}

module _ (t : List ℕ) (f : Request) (a : Asked t f) where
  passed : Passed t f
  passed = accepted_passed t f a.checked

  means : request_of t ≡ meaning_in t f
  means = Passes.asks t f passed

  fine : fine_request (request_of t) ≡ true
  fine = request_of_fine t a.words passed.refusal

  served : Served f
  served = passed_served t f passed

  asks : (w : Work) → work_of (meaning_in t f) ≡ w → Asks t w
  asks w e = record { work = ap work_of means ∙ e; fine = fine }

  -- ---- the work of each kind

  pub asks_last_committed : (key : ℕ) → f ≡ Code.LastCommitted key → Asks t (commit_group key 0 (Groups.get_last_committed_group key))
  unfolding work_of meaning_in
  asks_last_committed key e = asks _ (ap (λ (g : Request). work_of (meaning_in t g)) e)

  pub asks_group_base : (key : ℕ) (set : Set) (values : ℕ) → f ≡ Code.GroupBase key set values → Asks t (commit_group key 0 (Groups.set_raw_base_values key (members_from set values t)))
  unfolding work_of meaning_in
  asks_group_base key set values e = asks _ (ap (λ (g : Request). work_of (meaning_in t g)) e)

  pub asks_exchange : (key : ℕ) (tag : ℕ) (value : ℕ) → f ≡ Code.Exchange key tag value → Asks t (commit_group key 0 (Groups.update_tagged_base_value key tag (value_at value t)))
  unfolding work_of meaning_in
  asks_exchange key tag value e = asks _ (ap (λ (g : Request). work_of (meaning_in t g)) e)

  pub asks_group_write : (key : ℕ) (index : ℕ) (incarnation : ℕ) (set : Set) (values : ℕ) → f ≡ Code.GroupWrite key index incarnation set values → Asks t (edit_group key (suc index) (Groups.write_group incarnation (members_from set values t)))
  unfolding work_of meaning_in
  asks_group_write key index incarnation set values e = asks _ (ap (λ (g : Request). work_of (meaning_in t g)) e)

  pub asks_group_estimate : (key : ℕ) (index : ℕ) → f ≡ Code.GroupEstimate key index → Asks t (edit_group key (suc index) Groups.mark_group)
  unfolding work_of meaning_in
  asks_group_estimate key index e = asks _ (ap (λ (g : Request). work_of (meaning_in t g)) e)

  pub asks_group_remove : (key : ℕ) (index : ℕ) → f ≡ Code.GroupRemove key index → Asks t (edit_group key (suc index) Groups.remove_group)
  unfolding work_of meaning_in
  asks_group_remove key index e = asks _ (ap (λ (g : Request). work_of (meaning_in t g)) e)

  pub asks_group_fetch : (key : ℕ) (tag : ℕ) (index : ℕ) → f ≡ Code.GroupFetch key tag index → Asks t (read_group key index (Groups.fetch_tagged_data tag))
  unfolding work_of meaning_in
  asks_group_fetch key tag index e = asks _ (ap (λ (g : Request). work_of (meaning_in t g)) e)

  pub asks_group_size : (key : ℕ) (index : ℕ) → f ≡ Code.GroupSize key index → Asks t (read_group key index Groups.get_group_size)
  unfolding work_of meaning_in
  asks_group_size key index e = asks _ (ap (λ (g : Request). work_of (meaning_in t g)) e)

  pub asks_finalize : (key : ℕ) (index : ℕ) → f ≡ Code.Finalize key index → Asks t (commit_group key (suc index) (Groups.finalize_group key))
  unfolding work_of meaning_in
  asks_finalize key index e = asks _ (ap (λ (g : Request). work_of (meaning_in t g)) e)

  -- ---- indices and tags

  pub group_write_served : (key : ℕ) (index : ℕ) (incarnation : ℕ) (set : Set) (values : ℕ) → f ≡ Code.GroupWrite key index incarnation set values → index < index_bound
  unfolding Served
  group_write_served key index incarnation set values e = let h : Served (Code.GroupWrite key index incarnation set values) = subst Served e served in omega (arith, h)

  pub group_estimate_served : (key : ℕ) (index : ℕ) → f ≡ Code.GroupEstimate key index → index < index_bound
  unfolding Served
  group_estimate_served key index e = let h : Served (Code.GroupEstimate key index) = subst Served e served in omega (arith, h)

  pub group_remove_served : (key : ℕ) (index : ℕ) → f ≡ Code.GroupRemove key index → index < index_bound
  unfolding Served
  group_remove_served key index e = let h : Served (Code.GroupRemove key index) = subst Served e served in omega (arith, h)

  pub group_fetch_served : (key : ℕ) (tag : ℕ) (index : ℕ) → f ≡ Code.GroupFetch key tag index → index < index_bound
  unfolding Served
  group_fetch_served key tag index e = let h : Served (Code.GroupFetch key tag index) = subst Served e served in omega (arith, h.1)

  pub group_size_served : (key : ℕ) (index : ℕ) → f ≡ Code.GroupSize key index → index < index_bound
  unfolding Served
  group_size_served key index e = let h : Served (Code.GroupSize key index) = subst Served e served in omega (arith, h)

  pub finalize_served : (key : ℕ) (index : ℕ) → f ≡ Code.Finalize key index → index < index_bound
  unfolding Served
  finalize_served key index e = let h : Served (Code.Finalize key index) = subst Served e served in omega (arith, h)

  pub exchange_tag : (key tag value : ℕ) → f ≡ Code.Exchange key tag value → tag ≤ 63
  unfolding Served
  exchange_tag key tag value e = subst Served e served

  pub group_fetch_tag : (key tag index : ℕ) → f ≡ Code.GroupFetch key tag index → tag ≤ 63
  unfolding Served
  group_fetch_tag key tag index e = (subst Served e served).0

  -- ---- the words of each kind

  pub group_base_inside : (key : ℕ) (set : Set) (values : ℕ) → f ≡ Code.GroupBase key set values → values + value_width * length (tags_of set.low set.high) ≤ length t
  unfolding RoomIn
  group_base_inside key set values e = subst (RoomIn t) e (passed_room t f passed)

  pub exchange_inside : (key tag value : ℕ) → f ≡ Code.Exchange key tag value → value + value_width ≤ length t
  unfolding RoomIn
  exchange_inside key tag value e = subst (RoomIn t) e (passed_room t f passed)

  pub group_write_inside : (key index incarnation : ℕ) (set : Set) (values : ℕ) → f ≡ Code.GroupWrite key index incarnation set values → values + value_width * length (tags_of set.low set.high) ≤ length t
  unfolding RoomIn
  group_write_inside key index incarnation set values e = subst (RoomIn t) e (passed_room t f passed)

  -- ---- the members of a base

  pub group_base_fine : (key : ℕ) (set : Set) (values : ℕ) → f ≡ Code.GroupBase key set values → fine_members 0 (members_from set values t) ≡ true
  unfolding meaning_in members_from fine_request
  group_base_fine key set values e =
      and_right (is_word key) (fine_members 0 (members_of (tags_of set.low set.high) (drop values t)))
      (sym (ap fine_request (means ∙ ap (meaning_in t) e)) ∙ fine)

-- A request for the group store is of one of its kinds.
pub group_kinds : (f : Request) → is_data (number_of (kind_asked f)) ≡ false
    → ((key : ℕ) → f ≡ Code.LastCommitted key → ⊥)
    → ((key : ℕ) (set : Set) (values : ℕ) → f ≡ Code.GroupBase key set values → ⊥)
    → ((key tag value : ℕ) → f ≡ Code.Exchange key tag value → ⊥)
    → ((key index incarnation : ℕ) (set : Set) (values : ℕ) → f ≡ Code.GroupWrite key index incarnation set values → ⊥)
    → ((key index : ℕ) → f ≡ Code.GroupEstimate key index → ⊥)
    → ((key index : ℕ) → f ≡ Code.GroupRemove key index → ⊥)
    → ((key tag index : ℕ) → f ≡ Code.GroupFetch key tag index → ⊥)
    → ((key index : ℕ) → f ≡ Code.GroupSize key index → ⊥)
    → ((key index : ℕ) → f ≡ Code.Finalize key index → ⊥)
    → ⊥
unfolding is_data kind_asked
group_kinds (Code.LastCommitted key) g a b c d e x y z l = a key refl
group_kinds (Code.Base key value) g a b c d e x y z l = never g
group_kinds (Code.Write key index incarnation value) g a b c d e x y z l = never g
group_kinds (Code.AddDelta key index delta) g a b c d e x y z l = never g
group_kinds (Code.Estimate key index) g a b c d e x y z l = never g
group_kinds (Code.Remove key index) g a b c d e x y z l = never g
group_kinds (Code.Fetch key index) g a b c d e x y z l = never g
group_kinds (Code.Materialize key index) g a b c d e x y z l = never g
group_kinds (Code.GroupBase key set values) g a b c d e x y z l = b key set values refl
group_kinds (Code.Exchange key tag value) g a b c d e x y z l = c key tag value refl
group_kinds (Code.GroupWrite key index incarnation set values) g a b c d e x y z l = d key index incarnation set values refl
group_kinds (Code.GroupEstimate key index) g a b c d e x y z l = e key index refl
group_kinds (Code.GroupRemove key index) g a b c d e x y z l = x key index refl
group_kinds (Code.GroupFetch key tag index) g a b c d e x y z l = y key tag index refl
group_kinds (Code.GroupSize key index) g a b c d e x y z l = z key index refl
group_kinds (Code.Finalize key index) g a b c d e x y z l = l key index refl
