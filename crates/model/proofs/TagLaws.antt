-- What a reader of one tag of a group sees, for requests on any model whose rows are rising.
-- Assumes nothing.
use mathlib.Core.Path.{◌≡◌, refl, sym, ◌∙◌, ap}
use mathlib.Core.Bool.{Bool, true, false, cond}
use mathlib.Core.List.{List, [], ◌∷◌, ◌++◌, append-nil}
use mathlib.Core.Option.{Option, none, some}
use Prim.Native.Nat.{ℕ, zero, suc, ◌-◌, ◌≤◌, ◌<◌}
use native.Mathlib.Omega.{arith}
use native.Mathlib.Decide.{ℕ_discrete}
use Rattle.types.specs.Response.{response, versioned_kind, dependency_kind}
use Rattle.request.specs.Set.{Member}
use Rattle.request.specs.Request.{group_write, group_estimate, group_remove, group_fetch}
use Rattle.model.specs.Rows.{Row, rising, find, put, edited}
use Rattle.model.specs.Data.{versioned_answer}
use Rattle.model.specs.Group.{Update, member_value, write_group, mark_group, remove_group, Latest, nearest, latest, dependency_answer, latest_answer, fetch_tagged_data}
use Rattle.model.specs.Model.{Model, work_of, ruled, with_updates, perform, left_by, outcome_of, answered}
use Rattle.model.specs.Tickets.{outcome, left, versioned, dependency}
use Rattle.model.proofs.Rows.{rising_put}
use Rattle.model.proofs.RowLookups.{find_put_same, find_put_other, rows_at, down, down_from_find, erase_put}

-- The value of a tag in what stands at a place.
unfoldable pub value_in : ℕ → Option Update → Option (List ℕ)
value_in tag none = none
value_in tag (some u) = member_value tag u.members

-- No update of a key has the tag at the indexes from the one after `index` up to the one before t.
abbrev pub NoneTagged : Model → ℕ → ℕ → ℕ → ℕ → Type 0
NoneTagged m key tag index t = (p : ℕ) → suc index < p → p ≤ t → value_in tag (find key p m.updates) ≡ none

unfoldable latest_of : ℕ → Update → List ℕ → Latest
latest_of place u v = record { place = place; incarnation = u.incarnation; estimate = u.estimate; value = v }

latest_above : (tag k p : ℕ) (o : Option Update) (rest : List (Row Update)) → value_in tag o ≡ none → latest tag (rows_at k p o ++ rest) ≡ latest tag rest
unfolding value_in latest rows_at nearest
latest_above tag k p none rest e = refl
latest_above tag k p (some u) rest e = rw e

latest_here : (tag k p : ℕ) (u : Update) (v : List ℕ) (rest : List (Row Update)) → member_value tag u.members ≡ some v → latest tag (rows_at k p (some u) ++ rest) ≡ some (latest_of p u v)
unfolding latest rows_at nearest latest_of
latest_here tag k p u v rest e = rw e

-- the nearest update that has the tag is the one that is found
latest_down : (tag k p n : ℕ) (at : ℕ → Option Update) (u : Update) (v : List ℕ) → p ≤ n → at p ≡ some u → member_value tag u.members ≡ some v →
    ((q : ℕ) → p < q → q ≤ n → value_in tag (at q) ≡ none) → latest tag (down k at n) ≡ some (latest_of p u v)
unfolding down
latest_down tag k p zero at u v h e f free =
    let z : p ≡ 0 = omega arith in
    rw (← z, e) (ap (latest tag) (sym (append-nil (rows_at k p (some u)))) ∙ latest_here tag k p u v [] f)
latest_down tag k p (suc n) at u v h e f free =
    go (ℕ_discrete p (suc n)) (λ l. latest_down tag k p n at u v l e f (λ q g i. free q g (omega arith)))
  where
    go : Dec (p ≡ suc n) → (p ≤ n → latest tag (down k at n) ≡ some (latest_of p u v)) → latest tag (rows_at k (suc n) (at (suc n)) ++ down k at n) ≡ some (latest_of p u v)
    go (yes z) ih = rw (← z, e) (latest_here tag k p u v (down k at n) f)
    go (no z) ih = latest_above tag k (suc n) (at (suc n)) (down k at n) (free (suc n) (omega arith) (omega arith)) ∙ ih (omega arith)

-- A tag's value in an update is what every reader above sees, or waits for where the update is an estimate, up to the next nearer update that
-- has the tag.
module _ (m : Model) (key tag index t : ℕ) (g : rising m.updates ≡ true) (h : index < t) (free : NoneTagged m key tag index t) where
  pub fetch_tag : (u : Update) (v : List ℕ) → find key (suc index) m.updates ≡ some u → member_value tag u.members ≡ some v →
      outcome (group_fetch key tag t) m ≡ cond u.estimate (dependency index) (versioned index u.incarnation v)
  unfolding outcome work_of perform ruled outcome_of fetch_tagged_data latest_answer dependency versioned versioned_answer dependency_answer latest_of
  fetch_tag u v e f = rw (down_from_find key t m.updates g, latest_down tag key (suc index) t (λ p. find key p m.updates) u v h e f free) (go u.estimate)
    where
      go : (b : Bool) → answered (cond b (response dependency_kind ((suc index - 1) ∷ [])) (response versioned_kind (index ∷ u.incarnation ∷ v))) ≡ cond b (answered (response 6 (index ∷ []))) (answered (response 1 (index ∷ u.incarnation ∷ v)))
      go true = ap (λ (i : ℕ). answered (response dependency_kind (i ∷ []))) (omega arith)
      go false = refl

-- ---- a request, and the reads after it

-- a model with an update put in
unfoldable with : Model → ℕ → ℕ → Update → Model
with m key index u = with_updates m (put key (suc index) u m.updates)

unfoldable written : ℕ → List Member → Update
written incarnation members = record { incarnation = incarnation; estimate = false; members = members }

unfoldable marked : Update → Update
marked u = record { incarnation = u.incarnation; estimate = true; members = u.members }

module _ (m : Model) (key index : ℕ) (u : Update) where
  with_rising : rising m.updates ≡ true → rising (with m key index u).updates ≡ true
  unfolding with with_updates
  with_rising g = rising_put key (suc index) u m.updates g

  with_here : find key (suc index) (with m key index u).updates ≡ some u
  unfolding with with_updates
  with_here = find_put_same key (suc index) u m.updates

  with_between : (tag t : ℕ) → NoneTagged m key tag index t → NoneTagged (with m key index u) key tag index t
  unfolding with with_updates
  with_between tag t free p h l =
      ap (value_in tag) (find_put_other key (suc index) key p (λ a b. omega arith) u m.updates) ∙ free p h l

module _ (m : Model) (key index : ℕ) where
  left_write : (incarnation : ℕ) (members : List Member) → left (group_write key index incarnation members) m ≡ with m key index (written incarnation members)
  unfolding left with written work_of perform ruled write_group left_by edited
  left_write incarnation members = refl

  left_mark : (u : Update) → find key (suc index) m.updates ≡ some u → left (group_estimate key index) m ≡ with m key index (marked u)
  unfolding left with marked work_of perform ruled mark_group left_by edited
  left_mark u e = rw e

  module _ (tag t : ℕ) (g : rising m.updates ≡ true) (h : index < t) (free : NoneTagged m key tag index t) (v : List ℕ) where
    -- What is written to a tag is what a reader above sees until something nearer is written to it.
    pub group_write_fetch : (incarnation : ℕ) (members : List Member) → member_value tag members ≡ some v →
        outcome (group_fetch key tag t) (left (group_write key index incarnation members) m) ≡ versioned index incarnation v
    unfolding written
    group_write_fetch incarnation members f =
        let u = written incarnation members in
        ap (outcome (group_fetch key tag t)) (left_write incarnation members)
        ∙ fetch_tag (with m key index u) key tag index t (with_rising m key index u g) h (with_between m key index u tag t free) u v (with_here m key index u) f

    -- An estimated update is a dependency to every reader of its tags above it, until something nearer is written to the tag.
    pub group_estimate_fetch : (u : Update) → find key (suc index) m.updates ≡ some u → member_value tag u.members ≡ some v →
        outcome (group_fetch key tag t) (left (group_estimate key index) m) ≡ dependency index
    unfolding marked
    group_estimate_fetch u e f =
        ap (outcome (group_fetch key tag t)) (left_mark u e)
        ∙ fetch_tag (with m key index (marked u)) key tag index t (with_rising m key index (marked u) g) h (with_between m key index (marked u) tag t free)
        (marked u) v (with_here m key index (marked u)) f

  -- Removing an update that was written where none stood brings back the model, and so every outcome, of before the write.
  pub group_write_remove : (incarnation : ℕ) (members : List Member) → rising m.updates ≡ true → find key (suc index) m.updates ≡ none →
      left (group_remove key index) (left (group_write key index incarnation members) m) ≡ m
  unfolding left work_of perform ruled write_group remove_group left_by edited with_updates
  group_write_remove incarnation members g free =
      λ i. record { entries = m.entries; updates = erase_put key (suc index) (record { incarnation = incarnation; estimate = false; members = members }) m.updates g free i; committed = m.committed }
