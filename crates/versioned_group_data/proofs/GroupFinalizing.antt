-- A group finalised: what its update commits, and the group that is answered.
-- Assumes nothing.
use mathlib.Core.Path.{◌≡◌, refl, sym, ◌∙◌, ap}
use mathlib.Core.Bool.{true, cond}
use mathlib.Core.List.{List, []}
use mathlib.Core.Option.{Option, none, some}
use Prim.Native.Nat.{ℕ, suc, ◌+◌, ◌-◌, ◌≤◌}
use native.Mathlib.Nat.{add-zero}
use native.Mathlib.Omega.{arith}
use native.Mathlib.Decide.{ℕ_discrete}
use lib.Dec.{eqb}
use borrow.Author.Tests.{ne_eqb}
use lib.ListN.{length}
use Rattle.lists.proofs.Bools.{and_both}
use Rattle.types.specs.Refusal.{nothing_there, commit_rule}
use Rattle.types.specs.Units.{lack_of, units_in}
use Rattle.types.specs.Index.{shift, shifted_of, word_of}
use Rattle.types.specs.declared.index.ShiftedTxnIndex.{ShiftedTxnIndex}
use Rattle.request.specs.Set.{Member}
use Rattle.slots.proofs.StoreEncoding.{held_fits}
use Rattle.slots.proofs.StoreWords.{slots_few}
use Rattle.model.specs.Rows.{find, edited}
use Rattle.model.specs.Data.{Ruling, refuse, accept}
use Rattle.model.specs.Group.{Update, Committed, commits, commit, finalized_to, finalize_group, committed_answer}
use Rattle.model.specs.Model.{ruled}
use Rattle.model.specs.Fine.{is_word, fine_members, fine_group, fine_updates}
use Rattle.model.proofs.FineCommitted.{fine_option, commit_fine}
use Rattle.group_slots.specs.Layout.{Groups, groups_in, holding, group_valid, fine_groups, held_by, lack_in, fits_in, with_group}
use Rattle.group_slots.specs.Found.{start_of, slots_taken, run_of}
use Rattle.group_slots.specs.declared.find.Run.{Run}
use Rattle.versioned_group_data.specs.Ruled.{Ruled, Answered, committing, with_group_commits, result_of, words_after, answer_in, answer_after}
use Rattle.versioned_group_data.specs.Tried.{lack_beside, tried_result, tried_words, Tried}
use Rattle.group_slots.proofs.GroupHolding.{updates_valid, committed_valid, groups_holding, valid_holding}
use Rattle.group_slots.proofs.SlotRuns.{run_inside}
use Rattle.versioned_group_data.proofs.CollectedGroups.{members_fine}
use Rattle.versioned_group_data.proofs.GroupRulings.{answered_refused, answered_full, answered_done}
use Rattle.versioned_group_data.proofs.CommitTried.{tried_none, none_done, tried_lack, tried_held, tried_left}

-- nothing is recorded beside
lack_beside_lem : (s : List ℕ) (c : Committed) → lack_beside 0 s c ≡ lack_in s (with_group (groups_in s) c)
unfolding lack_beside lack_in
lack_beside_lem s c = ap (λ (n : ℕ). lack_of n (units_in (length s))) (add-zero (held_by (with_group (groups_in s) c)))

final_none : (key p : ℕ) (s : List ℕ) (o : Option Committed) → o ≡ none → ruled (with_group_commits (groups_in s) key p) (finalized_to key o) ≡ refuse commit_rule
unfolding ruled finalized_to
final_none key p s o h = rw h

final_some : (key p : ℕ) (s : List ℕ) (c : Committed) (o : Option Committed) → o ≡ some c →
    ruled (with_group_commits (groups_in s) key p) (finalized_to key o) ≡ accept (committed_answer key c) (with_group (groups_in s) c)
unfolding ruled finalized_to with_group_commits with_group commits edited
final_some key p s c o h = rw h

committed_in : (key : ℕ) (c : Committed) (out s : List ℕ) (g : Groups) → g ≡ with_group (groups_in s) c → answer_in (committed_answer key g.committed) out ≡ answer_in (committed_answer key c) out
unfolding with_group
committed_in key c out s g e = ap (λ (x : Groups). answer_in (committed_answer key x.committed) out) e

-- no update
pub finalize_absent : (s out : List ℕ) (key p : ℕ) → slots_taken (find key p (groups_in s).updates) ≡ 0 → Answered s out (committing (groups_in s) key p (finalize_group key)) nothing_there s out
unfolding committing ruled finalize_group slots_taken
finalize_absent s out key p e = answered_refused s out (committing (groups_in s) key p (finalize_group key)) nothing_there (rule (find key p (groups_in s).updates) e)
  where
    rule : (o : Option Update) → slots_taken o ≡ 0 → ruled (with_group_commits (groups_in s) key p) (finalize_group key o (groups_in s).committed) ≡ refuse nothing_there
    rule none h = refl
    rule (some u) h = absurd (omega arith)

module _ (s : List ℕ) (v : group_valid s ≡ true) (key p : ℕ) (k : is_word key ≡ true) (u : Update) (e : find key p (groups_in s).updates ≡ some u)
    (f : fine_members 0 u.members ≡ true) (r : ℕ) (after : List ℕ) (t : Tried 0 s (commit key u.members (groups_in s).committed) r after) where
  rule_is : committing (groups_in s) key p (finalize_group key) ≡ ruled (with_group_commits (groups_in s) key p) (finalized_to key (commit key u.members (groups_in s).committed))
  unfolding committing finalize_group
  rule_is = rw e

  -- what is committed, and the store that holds it
  after_done : (c : Committed) → commit key u.members (groups_in s).committed ≡ some c → r ≡ 0 → (held_by (with_group (groups_in s) c) ≤ units_in (length s)) × (after ≡ holding s (with_group (groups_in s) c))
  after_done c h z =
      let d = tried_held 0 s (commit key u.members (groups_in s).committed) r after t c h z in
      (omega (arith, d.0), d.1)

  after_fine : (c : Committed) → commit key u.members (groups_in s).committed ≡ some c → fine_groups (with_group (groups_in s) c) ≡ true
  unfolding fine_groups with_group fine_option
  after_fine c h =
      and_both (fine_updates (groups_in s).updates) (fine_group c) (updates_valid s v)
      (rw h at (commit_fine key 0 k u.members (groups_in s).committed (committed_valid s v) f))

  pub after_valid : r ≡ 0 → group_valid after ≡ true
  after_valid z = go (commit key u.members (groups_in s).committed) refl
    where
      go : (o : Option Committed) → commit key u.members (groups_in s).committed ≡ o → group_valid after ≡ true
      go none h = none_done 0 s (commit key u.members (groups_in s).committed) r after t h z
      go (some c) h =
          let d = after_done c h z in
          ap group_valid d.1 ∙ valid_holding s (with_group (groups_in s) c) (after_fine c h) d.0

  pub finalize_done : (out outAfter : List ℕ) → r ≡ 0 → outAfter ≡ answer_in (committed_answer key (groups_in after).committed) out →
      Answered s out (committing (groups_in s) key p (finalize_group key)) 0 after outAfter
  finalize_done out outAfter z a = go (commit key u.members (groups_in s).committed) refl
    where
      go : (o : Option Committed) → commit key u.members (groups_in s).committed ≡ o → Answered s out (committing (groups_in s) key p (finalize_group key)) 0 after outAfter
      go none h = none_done 0 s (commit key u.members (groups_in s).committed) r after t h z
      go (some c) h =
          let d = after_done c h z in
          let held_is : groups_in after ≡ with_group (groups_in s) c = ap groups_in d.1 ∙ groups_holding s (with_group (groups_in s) c) (after_fine c h) d.0 in
          answered_done s out (committing (groups_in s) key p (finalize_group key)) (committed_answer key c) (with_group (groups_in s) c) (rule_is ∙ final_some key p s c (commit key u.members (groups_in s).committed) h) d.0 after d.1
          outAfter (a ∙ committed_in key c out s (groups_in after) held_is)

  pub finalize_refused : (out : List ℕ) → (r ≡ 0 → ⊥) → (after ≡ s) × Answered s out (committing (groups_in s) key p (finalize_group key)) r after out
  finalize_refused out z = go (commit key u.members (groups_in s).committed) refl
    where
      ruling : Ruling Groups
      ruling = committing (groups_in s) key p (finalize_group key)

      at : (n : ℕ) → r ≡ n → after ≡ s → Answered s out ruling n s out → (after ≡ s) × Answered s out ruling r after out
      at n x y w = (y, rw (x, y) w)

      go : (o : Option Committed) → commit key u.members (groups_in s).committed ≡ o → (after ≡ s) × Answered s out ruling r after out
      go none h =
          let d = tried_none 0 s (commit key u.members (groups_in s).committed) r after t h in
          at commit_rule d.0 d.1 (answered_refused s out ruling commit_rule (rule_is ∙ final_none key p s (commit key u.members (groups_in s).committed) h))
      go (some c) h =
          at r refl (tried_left 0 s (commit key u.members (groups_in s).committed) r after t c h z)
          (answered_full s out ruling (committed_answer key c) (with_group (groups_in s) c) (rule_is ∙ final_some key p s c (commit key u.members (groups_in s).committed) h)
          r (tried_lack 0 s (commit key u.members (groups_in s).committed) r after t c h ∙ lack_beside_lem s c) z)

-- the same for members read back
pub tried_members : (more : ℕ) (s : List ℕ) (key : ℕ) (ms ns : List Member) (c : Committed) (r : ℕ) (after : List ℕ) → ms ≡ ns → Tried more s (commit key ms c) r after → Tried more s (commit key ns c) r after
tried_members more s key ms ns c r after e t = rw e at t

-- ---- the update that is looked for

pub record UpdateAt (s : List ℕ) (key p : ℕ) (run : Run) : Type 0 where
  pub update : Update
  pub found : find key p (groups_in s).updates ≡ some update
  pub start : run.at + 1 ≡ start_of key p (groups_in s) + 1
  pub size : run.len - 1 ≡ length update.members

module _ (s : List ℕ) (v : group_valid s ≡ true) (key index : ℕ) (place : ShiftedTxnIndex) (run : Run) (shifted : place ≡ shifted_of (shift index)) (is : run ≡ run_of key (word_of place) (groups_in s)) where
  run_is : run ≡ run_of key (suc index) (groups_in s)
  run_is = let e : index + 1 ≡ suc index = omega arith in is ∙ ap (λ (x : ShiftedTxnIndex). run_of key (word_of x) (groups_in s)) shifted ∙ ap (λ (n : ℕ). run_of key n (groups_in s)) e

  at_is : run.at ≡ start_of key (suc index) (groups_in s)
  unfolding run_of
  at_is = ap (λ (x : Run). x.at) run_is

  len_is : run.len ≡ slots_taken (find key (suc index) (groups_in s).updates)
  unfolding run_of
  len_is = ap (λ (x : Run). x.len) run_is

  pub run_none : run.len ≡ 0 → slots_taken (find key (suc index) (groups_in s).updates) ≡ 0
  run_none e = sym len_is ∙ e

  pub run_low : run.at ≤ 4096
  run_low = omega (arith, at_is, run_inside s v key (suc index), held_fits s, slots_few (length s))

  pub update_at : (run.len ≡ 0 → ⊥) → UpdateAt s key (suc index) run
  unfolding slots_taken
  update_at h = go (find key (suc index) (groups_in s).updates) refl
    where
      go : (o : Option Update) → find key (suc index) (groups_in s).updates ≡ o → UpdateAt s key (suc index) run
      go none e = absurd (h (len_is ∙ rw e))
      go (some u) e =
          let l : run.len ≡ suc (length u.members) = len_is ∙ rw e in
          record { update = u; found = e; start = ap (λ (n : ℕ). n + 1) at_is; size = omega arith }

-- ---- what is promised of the commit alone

none_taken : (o : Option Update) → o ≡ none → slots_taken o ≡ 0
unfolding slots_taken
none_taken o e = rw e

-- a refusal leaves the answer
answer_left : (s out : List ℕ) (x : Ruling Groups) (r : ℕ) → r ≡ result_of s x → (r ≡ 0 → ⊥) → out ≡ answer_after s x out
unfolding result_of answer_after fits_in
answer_left s out (refuse n) r e ne = refl
answer_left s out (accept answer g) r e ne = rw (ne_eqb (lack_in s g) 0 (λ z. ne (e ∙ z)))

pub answered_none : (s out : List ℕ) (ruling : Ruling Groups) (r : ℕ) (after : List ℕ) → Ruled s ruling r after → (r ≡ 0 → ⊥) → Answered s out ruling r after out
answered_none s out ruling r after ru ne = record { result = ru.result; words = ru.words; answer = answer_left s out ruling r ru.result ne }

module _ (s : List ℕ) (v : group_valid s ≡ true) (key p : ℕ) (k : is_word key ≡ true) where
  abbrev ruling : Ruling Groups
  ruling = committing (groups_in s) key p (finalize_group key)

  pub ruled_absent : slots_taken (find key p (groups_in s).updates) ≡ 0 → Ruled s ruling nothing_there s
  ruled_absent e = let a = finalize_absent s [] key p e in record { result = a.result; words = a.words }

  module _ (u : Update) (e : find key p (groups_in s).updates ≡ some u) (r : ℕ) (after : List ℕ) where
    fine : fine_members 0 u.members ≡ true
    fine = members_fine s v key p u e (start_of key p (groups_in s) + 1) (length u.members) refl refl

    abbrev tries : Option Committed
    tries = commit key u.members (groups_in s).committed

    ruling_is : ruling ≡ ruled (with_group_commits (groups_in s) key p) (finalized_to key tries)
    unfolding committing finalize_group
    ruling_is = rw e

    pub ruled_tried : Tried 0 s tries r after → Ruled s ruling r after
    ruled_tried t = go (ℕ_discrete r 0)
      where
        go : Dec (r ≡ 0) → Ruled s ruling r after
        go (yes z) =
            let a = finalize_done s v key p k u e fine r after t [] (answer_in (committed_answer key (groups_in after).committed) []) z refl in
            record { result = z ∙ a.result; words = a.words }
        go (no z) =
            let a = (finalize_refused s v key p k u e fine r after t [] z).1 in
            record { result = a.result; words = a.words }

    tried_ruled : Ruled s ruling r after → Tried 0 s tries r after
    unfolding result_of words_after tried_result tried_words fits_in
    tried_ruled ru = go tries refl
      where
        go : (o : Option Committed) → tries ≡ o → Tried 0 s tries r after
        go none h =
            let is : ruling ≡ refuse commit_rule = ruling_is ∙ final_none key p s tries h in
            record { result = rw h (ru.result ∙ ap (result_of s) is); words = rw h (ru.words ∙ ap (words_after s) is) }
        go (some c) h =
            let is : ruling ≡ accept (committed_answer key c) (with_group (groups_in s) c) = ruling_is ∙ final_some key p s c tries h in
            record {
              result = rw h (ru.result ∙ ap (result_of s) is ∙ sym (lack_beside_lem s c));
              words = rw h (ru.words ∙ ap (words_after s) is ∙ ap (λ (n : ℕ). cond (eqb n 0) (holding s (with_group (groups_in s) c)) s) (sym (lack_beside_lem s c)));
            }

  -- what was committed is answered
  module _ (r : ℕ) (after : List ℕ) (ru : Ruled s ruling r after) (z : r ≡ 0) where
    there : {A : Type 0} → ((u : Update) → find key p (groups_in s).updates ≡ some u → A) → A
    there {A} f = go (find key p (groups_in s).updates) refl
      where
        go : (o : Option Update) → find key p (groups_in s).updates ≡ o → A
        go none e =
            let l : slots_taken (find key p (groups_in s).updates) ≡ 0 = none_taken (find key p (groups_in s).updates) e in
            let w : ◌≡◌ {A = ℕ} 0 nothing_there = sym z ∙ ru.result ∙ sym (ruled_absent l).result in
            absurd (omega arith)
        go (some u) e = f u e

    pub finalized_valid : group_valid after ≡ true
    finalized_valid = there (λ u e. after_valid s v key p k u e (fine u e r after) r after (tried_ruled u e r after ru) z)

    pub finalized_answered : (out outAfter : List ℕ) → outAfter ≡ answer_in (committed_answer key (groups_in after).committed) out → Answered s out ruling 0 after outAfter
    finalized_answered out outAfter a = there (λ u e. finalize_done s v key p k u e (fine u e r after) r after (tried_ruled u e r after ru) out outAfter z a)
