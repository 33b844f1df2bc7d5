-- The values of a base: the first set is recorded and committed, a later one changes nothing.
-- Assumes nothing.
use mathlib.Core.Path.{◌≡◌, refl, sym, ◌∙◌, ap}
use mathlib.Core.Bool.{Bool, true, false, cond}
use mathlib.Core.List.{List}
use mathlib.Core.Option.{Option, none, some}
use Prim.Native.Nat.{ℕ, suc, ◌+◌, ◌≤◌, ◌<◌}
use native.Mathlib.Omega.{arith}
use lib.ListN.{length}
use Rattle.lists.proofs.Bools.{and_both}
use Rattle.types.specs.Refusal.{base_differs, commit_rule}
use Rattle.types.specs.Units.{lack_of, units_in}
use Rattle.request.specs.Set.{Member}
use Rattle.model.specs.Rows.{find, put, edited}
use Rattle.model.specs.Rows as Rows
use Rattle.model.specs.Data.{Ruling, refuse, accept, done_answer}
use Rattle.model.specs.Group.{Update, Committed, commits, commit, members_in, all_agree, first_base, set_raw_base_values}
use Rattle.model.specs.Model.{ruled}
use Rattle.model.specs.Fine.{is_word, fine_members, fine_group, fine_updates}
use Rattle.model.proofs.FineCommitted.{fine_option, commit_fine}
use Rattle.group_slots.specs.Layout.{Groups, groups_in, holding, group_valid, fine_groups, held_by, lack_in, with_group_updates, with_group}
use Rattle.group_slots.specs.Found.{slots_taken, run_of}
use Rattle.group_slots.specs.declared.find.Run.{Run}
use Rattle.versioned_group_data.specs.Ruled.{Ruled, committing, with_group_commits, editing, result_of, words_after}
use Rattle.versioned_group_data.specs.Members.{done_update, recording}
use Rattle.versioned_group_data.specs.Tried.{lack_beside, Tried}
use Rattle.group_slots.proofs.GroupHolding.{updates_valid, committed_valid, rising_valid, groups_holding, valid_holding, length_holding, holding_again}
use Rattle.group_slots.proofs.GroupSplits.{held_put}
use Rattle.versioned_group_data.proofs.CommitTried.{tried_none, none_done, tried_lack, tried_held, tried_left}
use Rattle.versioned_group_data.proofs.GroupRulings.{lack_in_few, fits_few, ruled_refused, ruled_full, ruled_done, ruled_kept}

-- what was promised of a rule that accepts what fits
accepted_done : (s : List ℕ) (ruling : Ruling Groups) (answer : List ℕ) (g : Groups) → ruling ≡ accept answer g → held_by g ≤ units_in (length s) → (n : ℕ) (after : List ℕ) → Ruled s ruling n after →
    (n ≡ 0) × (after ≡ holding s g)
unfolding result_of words_after
accepted_done s ruling answer g e h n after u =
    let result : result_of s ruling ≡ 0 = rw (e, lack_in_few s g h) in
    let words : words_after s ruling ≡ holding s g = rw (e, fits_few s g h) in
    (u.result ∙ result, u.words ∙ words)

module _ (s : List ℕ) (v : group_valid s ≡ true) (key p : ℕ) (base : p ≡ 0) (run : Run) (found : run ≡ run_of key p (groups_in s)) (ms : List Member) where
  abbrev own : Option Update
  own = find key 0 (groups_in s).updates

  abbrev ruling : Ruling Groups
  ruling = committing (groups_in s) key 0 (set_raw_base_values key ms)

  run_len : run.len ≡ slots_taken own
  unfolding run_of
  run_len = ap (λ (r : Run). r.len) found ∙ ap (λ (x : ℕ). slots_taken (find key x (groups_in s).updates)) base

  -- ---- a base is recorded

  module _ (there : 0 < run.len) (b : Bool) (agree : b ≡ all_agree ms (members_in own)) where
    later_is : (o : Option Update) → own ≡ o → 0 < slots_taken o → ruling ≡ cond b (accept done_answer (groups_in s)) (refuse base_differs)
    unfolding slots_taken members_in committing ruled set_raw_base_values with_group_commits commits edited
    later_is none e h = absurd (omega arith)
    later_is (some u) e h = rw (e, sym (rw e at agree)) (go b)
      where
        go : (x : Bool) → ruled (with_group_commits (groups_in s) key 0) (cond x (accept done_answer (commits Rows.leave (groups_in s).committed)) (refuse base_differs)) ≡ cond x (accept done_answer (groups_in s)) (refuse base_differs)
        go true = refl
        go false = refl

    later : ruling ≡ cond b (accept done_answer (groups_in s)) (refuse base_differs)
    later = later_is own refl (omega (arith, run_len))

    pub base_agrees : b ≡ true → Ruled s ruling 0 s
    base_agrees e = ruled_kept s ruling done_answer v (later ∙ rw e)

    pub base_differs_lem : b ≡ false → Ruled s ruling base_differs s
    base_differs_lem e = ruled_refused s s ruling base_differs (later ∙ rw e)

  -- ---- none is

  module _ (absent : run.len ≤ 0) (k : is_word key ≡ true) (f : fine_members 0 ms ≡ true) (more : ℕ) (takes : more ≡ suc (length ms)) (r : ℕ) (mid : List ℕ)
      (t : Tried more s (commit key ms (groups_in s).committed) r mid) where
    abbrev first : Update
    first = done_update 0 ms

    own_none : own ≡ none
    unfolding slots_taken
    own_none = go own refl
      where
        go : (o : Option Update) → own ≡ o → own ≡ none
        go none e = e
        go (some u) e = absurd (let l : slots_taken own ≡ suc (length u.members) = rw e in omega (arith, run_len, l, absent))

    first_is : ruling ≡ ruled (with_group_commits (groups_in s) key 0) (first_base ms (commit key ms (groups_in s).committed))
    unfolding committing set_raw_base_values
    first_is = rw own_none

    first_none : commit key ms (groups_in s).committed ≡ none → ruling ≡ refuse commit_rule
    unfolding ruled first_base
    first_none h = first_is ∙ rw h

    module _ (c : Committed) (h : commit key ms (groups_in s).committed ≡ some c) where
      abbrev between : Groups
      between = with_group (groups_in s) c

      -- what is held at the end
      abbrev new : Groups
      new = with_group_updates between (put key 0 first between.updates)

      first_some : ruling ≡ accept done_answer new
      unfolding ruled first_base with_group_commits commits edited with_group_updates with_group done_update
      first_some = first_is ∙ rw h

      held_new : held_by new ≡ held_by between + more
      unfolding with_group slots_taken done_update
      held_new =
          let none_held : slots_taken (find key 0 between.updates) ≡ 0 = rw own_none in
          omega (arith, held_put key 0 between (rising_valid s v) first, none_held, takes)

      between_fine : fine_groups between ≡ true
      unfolding fine_groups with_group fine_option
      between_fine =
          and_both (fine_updates (groups_in s).updates) (fine_group c) (updates_valid s v)
          (rw h at (commit_fine key 0 k ms (groups_in s).committed (committed_valid s v) f))

      tried : Tried more s (some c) r mid
      tried = rw h at t

      between_room : r ≡ 0 → (held_by between + more ≤ units_in (length s)) × (mid ≡ holding s between)
      between_room z = tried_held more s (some c) r mid tried c refl z

      lack_is : r ≡ lack_in s new
      unfolding lack_beside lack_in
      lack_is = tried_lack more s (some c) r mid tried c refl ∙ ap (λ (n : ℕ). lack_of n (units_in (length s))) (sym held_new)

      some_refused : (r ≡ 0 → ⊥) → Ruled s ruling r mid
      some_refused z = rw (tried_left more s (some c) r mid tried c refl z) (ruled_full s s ruling done_answer new first_some r lack_is z)

      module _ (z : r ≡ 0) where
        room : held_by between ≤ units_in (length s)
        room = omega (arith, (between_room z).0)

        mid_valid : group_valid mid ≡ true
        mid_valid = ap group_valid (between_room z).1 ∙ valid_holding s between between_fine room

        recording_is : (q : ℕ) → q ≡ 0 → recording key q first (groups_in mid) ≡ accept done_answer new
        unfolding recording editing ruled edited
        recording_is q same =
            let held_is : groups_in mid ≡ between = ap groups_in (between_room z).1 ∙ groups_holding s between between_fine room in
            ap (λ (x : ℕ). recording key x first (groups_in mid)) same ∙ ap (recording key 0 first) held_is

        some_done : (q n : ℕ) → q ≡ 0 → (after : List ℕ) → Ruled mid (recording key q first (groups_in mid)) n after → Ruled s ruling n after
        some_done q n same after u =
            let long : length mid ≡ length s = ap length (between_room z).1 ∙ length_holding s between between_fine room in
            let few : held_by new ≤ units_in (length s) = omega (arith, held_new, (between_room z).0) in
            let done = accepted_done mid (recording key q first (groups_in mid)) done_answer new (recording_is q same) (rw long few) n after u in
            rw done.0
            (ruled_done s s ruling done_answer new first_some few after
            (done.1 ∙ ap (λ (l : List ℕ). holding l new) (between_room z).1 ∙ holding_again s between between_fine room new))

    pub base_refused : (r ≡ 0 → ⊥) → Ruled s ruling r mid
    base_refused z = go (commit key ms (groups_in s).committed) refl
      where
        go : (o : Option Committed) → commit key ms (groups_in s).committed ≡ o → Ruled s ruling r mid
        go none h =
            let d = tried_none more s (commit key ms (groups_in s).committed) r mid t h in
            rw (d.0, d.1) (ruled_refused s s ruling commit_rule (first_none h))
        go (some c) h = some_refused c h z

    pub base_valid : r ≡ 0 → group_valid mid ≡ true
    base_valid z = go (commit key ms (groups_in s).committed) refl
      where
        go : (o : Option Committed) → commit key ms (groups_in s).committed ≡ o → group_valid mid ≡ true
        go none h = none_done more s (commit key ms (groups_in s).committed) r mid t h z
        go (some c) h = mid_valid c h z

    pub base_recorded : r ≡ 0 → (n : ℕ) (after : List ℕ) → Ruled mid (recording key p (done_update 0 ms) (groups_in mid)) n after → Ruled s ruling n after
    base_recorded z n after u = go (commit key ms (groups_in s).committed) refl
      where
        go : (o : Option Committed) → commit key ms (groups_in s).committed ≡ o → Ruled s ruling n after
        go none h = none_done more s (commit key ms (groups_in s).committed) r mid t h z
        go (some c) h = some_done c h z p n base after u
