-- What the functions of commit.rt come to.
-- Assumes nothing.
use mathlib.Core.Path.{◌≡◌, refl, sym, ◌∙◌, ap}
use mathlib.Core.Bool.{Bool, true, false, cond, not, ◌&&◌}
use mathlib.Core.List.{List, [], ◌∷◌}
use mathlib.Core.Option.{Option, none, some}
use Prim.Native.Nat.{ℕ, suc, ◌+◌, ◌^◌, ◌≤◌, ◌<◌}
use native.Mathlib.Omega.{arith}
use native.Mathlib.Numerals.{add-one}
use lib.Dec.{leb}
use lib.ListN.{length, replicate}
use borrow.Author.Tests.{le-leb, lt-ltb}
use lib.Seq.{sets}
use mir.Val.{bool_byte}
use Rattle.lists.specs.Lists.{every}
use Rattle.lists.proofs.Bools.{and_both, and_left, and_right}
use Rattle.number.specs.Words.{digits}
use Rattle.types.specs.Value.{is_creation, is_deletion}
use Rattle.types.specs.Response.{most_tags}
use Rattle.types.specs.ValueWithLayout.{words_of}
use Rattle.types.specs.declared.value.ValueWithLayout.{ValueWithLayout}
use Rattle.request.specs.Set.{Member}
use Rattle.slots.specs.Slots.{padded}
use Rattle.types.specs.Units.{units_in}
use Rattle.std.proofs.Common.{Result, Ok, Err}
use Rattle.model.specs.Rows.{find, put, erase, row_at}
use Rattle.model.specs.Group.{Committed, is_some}
use Rattle.model.specs.Fine.{is_word, rising_from, fine_member, fine_members, fine_updates, fine_group}
use Rattle.model.proofs.FineCommitted.{erase_committed_lem}
use Rattle.group_slots.specs.Layout.{Groups, committed_slot, groups_in, holding, fine_groups, group_valid, held_by, lack_in, fits_in, with_group}
use Rattle.group_slots.specs.Found.{committed_found}
use Rattle.versioned_group_data.specs.Commit.{passes, commit_to, creations, deletions}
use Rattle.versioned_group_data.specs.Growth.{grown, growth_of}
use Rattle.versioned_group_data.specs.declared.commit.Growth.{Growth}
use Rattle.types.specs.declared.refusal.Refusal.{Refusal}
use Rattle.types.specs.declared.refusal.Refusal.TheVariants.{CommitRule}
use Rattle.versioned_group_data.proofs.CommitOrder.{put_length_le, rising_least, rising_tag, rising_rest, commit_to_rising, commit_to_fine}
use Rattle.group_slots.proofs.GroupHolding.{groups_holding, length_holding, holding_again, valid_holding, holding_groups, updates_valid, committed_valid, committed_rising_valid, few_valid}
use Rattle.group_slots.proofs.GroupSplits.{held_erase_none, held_erase_some}
use Rattle.versioned_group_data.proofs.GroupRulings.{fits_few, fits_held}
use Rattle.group_slots.proofs.GroupStanding.{committed_at, committed_none}

-- ---- the commit rule

module _ (s : List ℕ) (valid : group_valid s ≡ true) (key tag : ℕ) (f : Result ℕ ℕ) (found : f ≡ committed_found key tag (groups_in s)) (i : ℕ) (v : List ℕ) (c : Bool) (creation : c ≡ is_creation v) where
  passes_is : (b : Bool) → is_some (find key tag (groups_in s).committed) ≡ b → passes key (groups_in s).committed (record { tag = tag; value = v }) ≡ cond c (not b) b
  unfolding passes
  passes_is b e = rw (e, ← creation)

  pub passes_there : f ≡ Ok i → not c ≡ passes key (groups_in s).committed (record { tag = tag; value = v })
  unfolding is_some
  passes_there t = both c ∙ sym (passes_is true (rw (committed_at s valid key tag i (sym found ∙ t)).found))
    where
      both : (c : Bool) → not c ≡ cond c (not true) true
      both true = refl
      both false = refl

  pub passes_absent : f ≡ Err i → c ≡ passes key (groups_in s).committed (record { tag = tag; value = v })
  unfolding is_some
  passes_absent t = both c ∙ sym (passes_is false (rw (committed_none s key tag i (sym found ∙ t)).0))
    where
      both : (c : Bool) → c ≡ cond c (not false) false
      both true = refl
      both false = refl

-- ---- growth

one_more : (n : ℕ) (b : Bool) → n + bool_byte b ≡ cond b (suc n) n
one_more n true = add-one n
one_more n false = omega arith

pub one_fits : (b : Bool) → bool_byte b ≤ 1
one_fits true = omega arith
one_fits false = omega arith

pub with_grown : (v : List ℕ) (g : Growth) (c d : Bool) → c ≡ is_creation v → d ≡ is_deletion v →
    ◌≡◌ {A = Growth} (record { creations = g.creations + bool_byte c; deletions = g.deletions + bool_byte d }) (grown v g)
unfolding grown
with_grown v g c d e f =
    λ i. record {
      creations = (one_more g.creations c ∙ ap (λ (b : Bool). cond b (suc g.creations) g.creations) e) i;
      deletions = (one_more g.deletions d ∙ ap (λ (b : Bool). cond b (suc g.deletions) g.deletions) f) i;
    }

-- what a growth, or none, tells
growth_ok : (b : Bool) (x y : Growth) → cond b (Ok x) (Err CommitRule) ≡ Ok y → (b ≡ true) × (x ≡ y)
growth_ok true x y e = (refl, cc)
growth_ok false x y e = absurd (let z : ◌≡◌ {A = ℕ} 0 1 = cc in omega arith)

growth_err : (b : Bool) (x : Growth) (n : Refusal) → cond b (Ok x) (Err CommitRule) ≡ Err n → (b ≡ false) × (n ≡ CommitRule)
growth_err true x n e = absurd (let z : ◌≡◌ {A = ℕ} 0 1 = cc in omega arith)
growth_err false x n e = (refl, cc)

-- each member counts once at most
few : (ms : List Member) → (creations ms ≤ length ms) × (deletions ms ≤ length ms)
unfolding creations deletions
few [] = (omega arith, omega arith)
few (m ∷ ms) = (go (is_creation m.value) (creations ms) (few ms).0, go (is_deletion m.value) (deletions ms) (few ms).1)
  where
    go : (b : Bool) (n : ℕ) → n ≤ length ms → cond b (suc n) n ≤ suc (length ms)
    go true n h = omega arith
    go false n h = omega arith

-- the counts of all members, whether they pass or not
pub counted_none : (ms : List Member) → ms ≡ [] → (0 ≡ creations ms) × (0 ≡ deletions ms)
unfolding creations deletions
counted_none ms e = (rw e refl, rw e refl)

module _ (ms : List Member) (x : Growth) (c : x.creations ≡ creations ms) (d : x.deletions ≡ deletions ms) where
  pub counted_few : length ms < most_tags → (x.creations < most_tags) × (x.deletions < most_tags)
  counted_few l = (omega (arith, (few ms).0, c), omega (arith, (few ms).1, d))

  pub counted_more : (m : Member) (all : List Member) → all ≡ m ∷ ms → (w : Growth) → w ≡ grown m.value x → (w.creations ≡ creations all) × (w.deletions ≡ deletions all)
  unfolding grown creations deletions
  counted_more m all is w e = (rw (e, is, c) refl, rw (e, is, d) refl)

module _ (key : ℕ) (g : Committed) where
  pub growth_none : (ms : List Member) → ms ≡ [] → ◌≡◌ {A = Result Growth Refusal} (Ok (record { creations = 0; deletions = 0 })) (growth_of key g ms)
  unfolding growth_of creations deletions every
  growth_none ms e = rw e

  module _ (ms : List Member) (r : Result Growth Refusal) (e : r ≡ growth_of key g ms) where
    pub growth_passes : (x : Growth) → r ≡ Ok x → (every (passes key g) ms ≡ true) × (x.creations ≡ creations ms) × (x.deletions ≡ deletions ms)
    unfolding growth_of
    growth_passes x h =
        let f = growth_ok (every (passes key g) ms) (record { creations = creations ms; deletions = deletions ms }) x (sym e ∙ h) in
        (f.0, ap (λ (y : Growth). y.creations) (sym f.1), ap (λ (y : Growth). y.deletions) (sym f.1))

    pub growth_stops : (n : Refusal) → r ≡ Err n → (every (passes key g) ms ≡ false) × (n ≡ CommitRule)
    unfolding growth_of
    growth_stops n h = growth_err (every (passes key g) ms) (record { creations = creations ms; deletions = deletions ms }) n (sym e ∙ h)

    pub growth_few : length ms < most_tags → (x : Growth) → r ≡ Ok x → (x.creations < most_tags) × (x.deletions < most_tags)
    growth_few l x h =
        let f = growth_passes x h in
        (omega (arith, (few ms).0, f.1), omega (arith, (few ms).1, f.2))

  module _ (m : Member) (ms all : List Member) (is : all ≡ m ∷ ms) (p : Bool) (told : p ≡ passes key g m) where
    pub growth_stop : p ≡ false → Err CommitRule ≡ growth_of key g all
    unfolding growth_of every
    growth_stop h = rw (is, ← told, h)

    module _ (h : p ≡ true) (r : Result Growth Refusal) (e : r ≡ growth_of key g ms) where
      pub growth_refused : (n : Refusal) → r ≡ Err n → Err n ≡ growth_of key g all
      unfolding growth_of every
      growth_refused n f =
          let q = growth_stops ms r e n f in
          rw (is, ← told, h, q.0, q.1)

      pub growth_more : (x : Growth) → r ≡ Ok x → (w : Growth) → w ≡ grown m.value x → Ok w ≡ growth_of key g all
      unfolding growth_of grown creations deletions every
      growth_more x f w k =
          let q = growth_passes ms r e x f in
          rw (k, is, ← told, h, q.0, q.1, q.2)

-- ---- the slot of a committed value

pub committed_built : (key tag : ℕ) (v : ValueWithLayout) (r : List ℕ) → r ≡ sets (2 ∷ key ∷ tag ∷ replicate 29 0) 7 (words_of v) → r ≡ committed_slot (row_at key tag (words_of v))
unfolding committed_slot padded row_at words_of digits
committed_built key tag v r e = e

-- ---- a commit

rising_below : (ms : List Member) (least lower : ℕ) → lower ≤ least → rising_from least ms ≡ true → rising_from lower ms ≡ true
unfolding rising_from
rising_below [] least lower h r = refl
rising_below (m ∷ ms) least lower h r =
    and_both (leb lower m.tag && leb m.tag 63) (rising_from (suc m.tag) ms)
    (and_both (leb lower m.tag) (leb m.tag 63) (le-leb lower m.tag (omega (arith, rising_least m ms least r))) (rising_tag m ms least r))
    (rising_rest m ms least r)

pub fine_rest : (m : Member) (ms all : List Member) → all ≡ m ∷ ms → fine_members 0 all ≡ true → fine_members 0 ms ≡ true
unfolding fine_members every
fine_rest m ms all is f =
    let p = and_left (rising_from 0 (m ∷ ms)) (every (fine_member 0) (m ∷ ms)) (rw is at f) in
    let q = and_right (rising_from 0 (m ∷ ms)) (every (fine_member 0) (m ∷ ms)) (rw is at f) in
    and_both (rising_from 0 ms) (every (fine_member 0) ms) (rising_below ms (suc m.tag) 0 (omega arith) (rising_rest m ms 0 p))
    (and_right (fine_member 0 m) (every (fine_member 0) ms) q)

pub key_word : (key : ℕ) → key < 2 ^ 32 → is_word key ≡ true
unfolding is_word
key_word key h = lt-ltb key (2 ^ 32) h

-- A store that holds other committed values, which are fine and fit.
module _ (s : List ℕ) (v : group_valid s ≡ true) (c : Committed) (fine : fine_group c ≡ true) (few : held_by (with_group (groups_in s) c) ≤ units_in (length s)) (x : List ℕ) (e : x ≡ holding s (with_group (groups_in s) c)) where
  fine_with : fine_groups (with_group (groups_in s) c) ≡ true
  unfolding fine_groups with_group
  fine_with = and_both (fine_updates (groups_in s).updates) (fine_group c) (updates_valid s v) fine

  valid_with : group_valid x ≡ true
  valid_with = ap group_valid e ∙ valid_holding s (with_group (groups_in s) c) fine_with few

  groups_with : groups_in x ≡ with_group (groups_in s) c
  groups_with = ap groups_in e ∙ groups_holding s (with_group (groups_in s) c) fine_with few

  committed_with : (groups_in x).committed ≡ c
  unfolding with_group
  committed_with = ap (λ (g : Groups). g.committed) groups_with

  again : (d : Committed) → with_group (groups_in x) d ≡ with_group (groups_in s) d
  unfolding with_group
  again d = ap (λ (g : Groups). record { updates = g.updates; committed = d }) groups_with

  holding_with : (d : Committed) → holding x (with_group (groups_in x) d) ≡ holding s (with_group (groups_in s) d)
  holding_with d =
      ap (holding x) (again d) ∙ ap (λ (l : List ℕ). holding l (with_group (groups_in s) d)) e
      ∙ holding_again s (with_group (groups_in s) c) fine_with few (with_group (groups_in s) d)

  fits_with : (d : Committed) → fits_in s (with_group (groups_in s) d) ≡ true → fits_in x (with_group (groups_in x) d) ≡ true
  unfolding fits_in lack_in
  fits_with d f =
      let size : length x ≡ length s = ap length e ∙ length_holding s (with_group (groups_in s) c) fine_with few in
      rw (again d, size) f

module _ (s : List ℕ) (v : group_valid s ≡ true) (key : ℕ) where
  pub commit_none : (ms : List Member) → ms ≡ [] → s ≡ holding s (with_group (groups_in s) (commit_to key ms (groups_in s).committed))
  unfolding commit_to with_group
  commit_none ms e = rw e (sym (holding_groups s v))

  module _ (m : Member) (ms all : List Member) (is : all ≡ m ∷ ms) (fits : fits_in s (with_group (groups_in s) (commit_to key all (groups_in s).committed)) ≡ true) where
    -- a deletion, then the rest
    module _ (d : is_deletion m.value ≡ true) (x : List ℕ) (erased : x ≡ holding s (with_group (groups_in s) (erase key m.tag (groups_in s).committed))) where
      deletion_is : commit_to key all (groups_in s).committed ≡ commit_to key ms (erase key m.tag (groups_in s).committed)
      unfolding commit_to
      deletion_is = rw (is, d)

      fine_erased : fine_group (erase key m.tag (groups_in s).committed) ≡ true
      fine_erased = erase_committed_lem key m.tag (groups_in s).committed (committed_valid s v)

      few_erased : held_by (with_group (groups_in s) (erase key m.tag (groups_in s).committed)) ≤ units_in (length s)
      unfolding with_group
      few_erased = go (find key m.tag (groups_in s).committed) refl
        where
          go : (o : Option (List ℕ)) → find key m.tag (groups_in s).committed ≡ o → held_by (with_group (groups_in s) (erase key m.tag (groups_in s).committed)) ≤ units_in (length s)
          go none f = omega (arith, held_erase_none key m.tag (groups_in s) (committed_rising_valid s v) f, few_valid s v)
          go (some w) f = omega (arith, held_erase_some key m.tag (groups_in s) (committed_rising_valid s v) w f, few_valid s v)

      pub valid_erased : group_valid x ≡ true
      valid_erased = valid_with s v (erase key m.tag (groups_in s).committed) fine_erased few_erased x erased

      rest_is : commit_to key ms (groups_in x).committed ≡ commit_to key all (groups_in s).committed
      rest_is = ap (commit_to key ms) (committed_with s v (erase key m.tag (groups_in s).committed) fine_erased few_erased x erased) ∙ sym deletion_is

      pub fits_erased : fits_in x (with_group (groups_in x) (commit_to key ms (groups_in x).committed)) ≡ true
      fits_erased = rw rest_is (fits_with s v (erase key m.tag (groups_in s).committed) fine_erased few_erased x erased (commit_to key all (groups_in s).committed) fits)

      pub commit_deletion : (after : List ℕ) → after ≡ holding x (with_group (groups_in x) (commit_to key ms (groups_in x).committed)) →
          after ≡ holding s (with_group (groups_in s) (commit_to key all (groups_in s).committed))
      commit_deletion after a =
          a ∙ ap (λ (c : Committed). holding x (with_group (groups_in x) c)) rest_is
          ∙ holding_with s v (erase key m.tag (groups_in s).committed) fine_erased few_erased x erased (commit_to key all (groups_in s).committed)

    -- the rest, then a value put
    module _ (d : is_deletion m.value ≡ false) where
      other_is : commit_to key all (groups_in s).committed ≡ put key m.tag m.value (commit_to key ms (groups_in s).committed)
      unfolding commit_to
      other_is = rw (is, d)

      few_rest : held_by (with_group (groups_in s) (commit_to key ms (groups_in s).committed)) ≤ units_in (length s)
      unfolding held_by with_group
      few_rest =
          omega (
            arith,
            put_length_le key m.tag (commit_to key ms (groups_in s).committed) (commit_to_rising key ms (groups_in s).committed (committed_rising_valid s v)) m.value,
            ap length other_is,
            fits_held s (with_group (groups_in s) (commit_to key all (groups_in s).committed)) fits,
          )

      pub fits_rest : fits_in s (with_group (groups_in s) (commit_to key ms (groups_in s).committed)) ≡ true
      fits_rest = fits_few s (with_group (groups_in s) (commit_to key ms (groups_in s).committed)) few_rest

      module _ (k : is_word key ≡ true) (f : fine_members 0 ms ≡ true) (x : List ℕ) (rest : x ≡ holding s (with_group (groups_in s) (commit_to key ms (groups_in s).committed))) where
        fine_committed_lem : fine_group (commit_to key ms (groups_in s).committed) ≡ true
        fine_committed_lem = commit_to_fine key 0 ms (groups_in s).committed k (committed_valid s v) f

        pub valid_rest : group_valid x ≡ true
        valid_rest = valid_with s v (commit_to key ms (groups_in s).committed) fine_committed_lem few_rest x rest

        put_is : put key m.tag m.value (groups_in x).committed ≡ commit_to key all (groups_in s).committed
        put_is = ap (put key m.tag m.value) (committed_with s v (commit_to key ms (groups_in s).committed) fine_committed_lem few_rest x rest) ∙ sym other_is

        pub fits_put : fits_in x (with_group (groups_in x) (put key m.tag m.value (groups_in x).committed)) ≡ true
        fits_put = rw put_is (fits_with s v (commit_to key ms (groups_in s).committed) fine_committed_lem few_rest x rest (commit_to key all (groups_in s).committed) fits)

        pub commit_other : (after : List ℕ) → after ≡ holding x (with_group (groups_in x) (put key m.tag m.value (groups_in x).committed)) →
            after ≡ holding s (with_group (groups_in s) (commit_to key all (groups_in s).committed))
        commit_other after a =
            a ∙ ap (λ (c : Committed). holding x (with_group (groups_in x) c)) put_is
            ∙ holding_with s v (commit_to key ms (groups_in s).committed) fine_committed_lem few_rest x rest (commit_to key all (groups_in s).committed)
