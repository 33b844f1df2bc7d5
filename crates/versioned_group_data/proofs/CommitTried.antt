-- Members tried against the commit rule and the slots that there are, and what a try tells.
-- Assumes nothing.
use mathlib.Core.Path.{◌≡◌, sym, ◌∙◌, ap₂}
use mathlib.Core.Bool.{Bool, true, false, cond}
use mathlib.Core.List.{List, [], ◌∷◌}
use mathlib.Core.Option.{Option, none, some}
use Prim.Native.Nat.{ℕ, suc, ◌+◌, ◌-◌, ◌≤◌}
use native.Mathlib.Omega.{arith}
use lib.Dec.{eqb}
use lib.ListN.{length}
use borrow.Author.Tests.{leb-true, ne_eqb}
use Rattle.lists.specs.Lists.{every}
use Rattle.lists.proofs.Bools.{and_left}
use Rattle.types.specs.Response.{most_tags}
use Rattle.types.specs.Value.{is_creation, is_deletion}
use Rattle.types.specs.Refusal.{commit_rule, refusal_number}
use Rattle.types.specs.declared.refusal.Refusal.{Refusal}
use Rattle.std.proofs.Common.{Result, Ok, Err}
use Rattle.types.specs.Units.{lack_of, units_in}
use Rattle.types.proofs.UnitLaws.{lack_told}
use Rattle.request.specs.Set.{Member}
use Rattle.slots.specs.Slots.{held}
use Rattle.model.specs.Group.{Committed, commit}
use Rattle.model.specs.Model.{updates_held}
use Rattle.model.specs.Fine.{fine_members, fine_member, rising_from}
use Rattle.group_slots.specs.Layout.{groups_in, holding, group_valid, held_by, fits_in, with_group}
use Rattle.versioned_group_data.specs.Commit.{passes, commit_to, creations, deletions}
use Rattle.versioned_group_data.specs.Growth.{growth_of}
use Rattle.versioned_group_data.specs.Tried.{lack_beside, tried_result, tried_words, Tried}
use Rattle.versioned_group_data.specs.declared.commit.Growth.{Growth}
use Rattle.group_slots.proofs.GroupHolding.{committed_rising_valid, length_held_valid}
use Rattle.versioned_group_data.proofs.CommitOrder.{rising_least, rising_tag, rising_rest, commit_passes, commit_to_length}
use Rattle.versioned_group_data.proofs.GroupRulings.{fits_few}
use Rattle.versioned_group_data.proofs.CommitSteps.{growth_passes, growth_stops}

-- no more creations, and no more deletions, than tags
counts_few : (ms : List Member) (least : ℕ) → least ≤ most_tags → rising_from least ms ≡ true → (creations ms + least ≤ most_tags) × (deletions ms + least ≤ most_tags)
unfolding creations deletions
counts_few [] least h r = (omega arith, omega arith)
counts_few (m ∷ ms) least h r = go (is_creation m.value) (is_deletion m.value) (counts_few ms (suc m.tag) (omega (arith, top)) (rising_rest m ms least r))
  where
    top : m.tag ≤ 63
    top = leb-true m.tag 63 (rising_tag m ms least r)

    low : least ≤ m.tag
    low = rising_least m ms least r

    go : (c d : Bool) → (creations ms + suc m.tag ≤ most_tags) × (deletions ms + suc m.tag ≤ most_tags) →
        (cond c (suc (creations ms)) (creations ms) + least ≤ most_tags) × (cond d (suc (deletions ms)) (deletions ms) + least ≤ most_tags)
    go true true ih = (omega (arith, ih.0, low), omega (arith, ih.1, low))
    go true false ih = (omega (arith, ih.0, low), omega (arith, ih.1, low))
    go false true ih = (omega (arith, ih.0, low), omega (arith, ih.1, low))
    go false false ih = (omega (arith, ih.0, low), omega (arith, ih.1, low))

module _ (s : List ℕ) (v : group_valid s ≡ true) (key : ℕ) (ms : List Member) (f : fine_members 0 ms ≡ true) where
  tags_rise : rising_from 0 ms ≡ true
  unfolding fine_members
  tags_rise = and_left (rising_from 0 ms) (every (fine_member 0) ms) f

  -- the commit rule tag by tag, or every tag tested first
  commit_is : commit key ms (groups_in s).committed ≡ cond (every (passes key (groups_in s).committed) ms) (some (commit_to key ms (groups_in s).committed)) none
  commit_is = commit_passes key ms 0 (groups_in s).committed (committed_rising_valid s v) tags_rise

  module _ (more : ℕ) (growth : Result Growth Refusal) (grows : growth ≡ growth_of key (groups_in s).committed ms) where
    pub tried_refused : (e : Refusal) → growth ≡ Err e → Tried more s (commit key ms (groups_in s).committed) (refusal_number e) s
    unfolding tried_result tried_words
    tried_refused e h =
        let p = growth_stops key (groups_in s).committed ms growth grows e h in
        record { result = rw (commit_is, p.0, p.1); words = rw (commit_is, p.0) }

    module _ (g : Growth) (is : growth ≡ Ok g) where
      all_pass : every (passes key (groups_in s).committed) ms ≡ true
      all_pass = (growth_passes key (groups_in s).committed ms growth grows g is).0

      creations_is : g.creations ≡ creations ms
      creations_is = (growth_passes key (groups_in s).committed ms growth grows g is).1

      deletions_is : g.deletions ≡ deletions ms
      deletions_is = (growth_passes key (groups_in s).committed ms growth grows g is).2

      pub growth_small : (g.creations ≤ most_tags) × (g.deletions ≤ most_tags)
      growth_small =
          let few = counts_few ms 0 (omega arith) tags_rise in
          (omega (arith, creations_is, few.0), omega (arith, deletions_is, few.1))

      module _ (n m : ℕ) (slots : n ≡ units_in (length s)) (used : m ≡ length (held s)) where
        committed : Committed
        committed = commit_to key ms (groups_in s).committed

        commits_to : commit key ms (groups_in s).committed ≡ some committed
        unfolding committed
        commits_to = rw (commit_is, all_pass)

        held_after : held_by (with_group (groups_in s) committed) + deletions ms ≡ m + creations ms
        unfolding held_by with_group committed
        held_after =
            let l : length (held s) ≡ updates_held (groups_in s).updates + length (groups_in s).committed = length_held_valid s v in
            omega (
              arith,
              commit_to_length key ms 0 (groups_in s).committed (committed_rising_valid s v) tags_rise all_pass,
            )

        -- no more is taken away than there is
        pub deletions_few : g.deletions ≤ m + g.creations + more
        deletions_few = omega (arith, held_after, creations_is, deletions_is)

        module _ (lack : ℕ) (told : lack ≡ lack_of (m + g.creations + more - g.deletions) n) where
          lack_is : lack ≡ lack_beside more s committed
          unfolding lack_beside
          lack_is =
              let h : m + g.creations + more - g.deletions ≡ held_by (with_group (groups_in s) committed) + more = omega (arith, held_after, creations_is, deletions_is) in
              told ∙ ap₂ lack_of h slots

          pub tried_full : (lack ≡ 0 → ⊥) → Tried more s (commit key ms (groups_in s).committed) lack s
          unfolding tried_result tried_words
          tried_full h =
              let no' : eqb (lack_beside more s committed) 0 ≡ false = ne_eqb (lack_beside more s committed) 0 (λ z. h (lack_is ∙ z)) in
              record { result = rw commits_to lack_is; words = rw (commits_to, no') }

          module _ (h : lack ≡ 0) where
            none_lacks : lack_beside more s committed ≡ 0
            none_lacks = sym lack_is ∙ h

            pub tried_fits : fits_in s (with_group (groups_in s) (commit_to key ms (groups_in s).committed)) ≡ true
            unfolding committed lack_beside
            tried_fits =
                fits_few s (with_group (groups_in s) committed)
                (omega (arith, lack_told (held_by (with_group (groups_in s) committed) + more) (units_in (length s)) none_lacks))

            pub tried_done : (after : List ℕ) → after ≡ holding s (with_group (groups_in s) (commit_to key ms (groups_in s).committed)) →
                Tried more s (commit key ms (groups_in s).committed) 0 after
            unfolding tried_result tried_words committed
            tried_done after w = record { result = rw (commits_to, none_lacks); words = rw (commits_to, none_lacks) w }

-- ---- what a try tells

module _ (more : ℕ) (s : List ℕ) (o : Option Committed) (r : ℕ) (after : List ℕ) (t : Tried more s o r after) where
  pub tried_none : o ≡ none → (r ≡ commit_rule) × (after ≡ s)
  unfolding tried_result tried_words
  tried_none h = (rw h at t.result, rw h at t.words)

  pub none_done : {A : Type 0} → o ≡ none → r ≡ 0 → A
  none_done h z = absurd (let w : ◌≡◌ {A = ℕ} 0 commit_rule = sym z ∙ (tried_none h).0 in omega arith)

  module _ (c : Committed) (h : o ≡ some c) where
    pub tried_lack : r ≡ lack_beside more s c
    unfolding tried_result
    tried_lack = rw h at t.result

    words_are : after ≡ cond (eqb (lack_beside more s c) 0) (holding s (with_group (groups_in s) c)) s
    unfolding tried_words
    words_are = rw h at t.words

    pub tried_held : r ≡ 0 → (held_by (with_group (groups_in s) c) + more ≤ units_in (length s)) × (after ≡ holding s (with_group (groups_in s) c))
    unfolding lack_beside
    tried_held z =
        let l : lack_beside more s c ≡ 0 = sym tried_lack ∙ z in
        (lack_told (held_by (with_group (groups_in s) c) + more) (units_in (length s)) l, rw l at words_are)

    pub tried_left : (r ≡ 0 → ⊥) → after ≡ s
    tried_left z = rw (ne_eqb (lack_beside more s c) 0 (λ e. z (tried_lack ∙ e))) at words_are
