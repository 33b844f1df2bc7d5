-- From the words that an operation leaves to what it leaves of the group store (`LeftBy`). A request of words that 1 to 4 do not refuse leaves fine rows, so
-- that the words hold them.
-- Assumes nothing.
use mathlib.Core.Path.{◌≡◌, refl, sym, subst, ◌∙◌}
use mathlib.Core.Bool.{Bool, true, false, cond}
use mathlib.Core.List.{List, []}
use mathlib.Core.Option.{Option}
use Prim.Native.Nat.{ℕ, ◌≤◌}
use lib.ListN.{length}
use borrow.Author.Tests.{leb-true}
use Rattle.lists.proofs.Bools.{and_both}
use Rattle.types.specs.Units.{units_in}
use Rattle.types.proofs.UnitLaws.{lack_test}
use Rattle.request.specs.Request.{request_of}
use Rattle.model.specs.Rows.{find, Edit, edited}
use Rattle.model.specs.Data.{Ruling, refuse, accept}
use Rattle.model.specs.Group.{Update, Committed, Commits}
use Rattle.model.specs.Model.{Model, Work, edit_group, commit_group, ruled, with_updates, with_commits, perform, empty}
use Rattle.model.specs.Fine.{fine_updates, fine_group, fine}
use Rattle.model.proofs.FineModel.{empty_fine, fine_entries_lem, fine_updates_lem, fine_committed_lem, fine_tell}
use Rattle.model.proofs.RuleFacts.{accepts}
use Rattle.model.proofs.RequestFacts.{request_facts}
use Rattle.group_slots.specs.Layout as Group
use Rattle.group_slots.specs.Layout.{Groups, groups_in, group_valid, fine_groups, held_by, with_group_updates}
use Rattle.group_slots.proofs.GroupHolding as Groups
use Rattle.versioned_group_data.specs.Ruled.{editing, with_group_commits, committing, words_after}
use Rattle.versioned_group_data.specs.Left as GroupLeft
use Rattle.mvhashmap.proofs.AskedData.{Asks}

-- What is asked for leaves a fine model fine.
performed : (t : List ℕ) (w : Work) (m : Model) → Asks t w → fine m ≡ true → accepts fine (perform w m) ≡ true
performed t w m a f = subst (λ (x : Work). accepts fine (perform x m) ≡ true) a.work ((request_facts (request_of t) m).edit (a.fine, f))

module _ (g : List ℕ) where
  group_holds : (x : Groups) → fine_groups x ≡ true → held_by x ≤ units_in (length g) → GroupLeft.Holds g x (Group.holding g x)
  group_holds x f h =
      record {
        valid = Groups.valid_holding g x f h;
        groups = Groups.groups_holding g x f h;
        size = Groups.length_holding g x f h;
        past = Groups.past_holding g x f h;
      }

  group_if : (x : Groups) (after : List ℕ) (b : Bool) → Group.fits_in g x ≡ b → fine_groups x ≡ true → after ≡ cond b (Group.holding g x) g →
      GroupLeft.LeftIf b g x after
  unfolding GroupLeft.LeftIf Group.fits_in Group.lack_in
  group_if x after true e f w =
      subst (λ (s : List ℕ). GroupLeft.Holds g x s) (sym w)
      (group_holds x f (leb-true (held_by x) (units_in (length g)) (sym (lack_test (held_by x) (units_in (length g))) ∙ e)))
  group_if x after false e f w = w

  left_group : (R : Ruling Groups) (after : List ℕ) → after ≡ words_after g R → accepts fine_groups R ≡ true → GroupLeft.LeftBy g R after
  unfolding words_after GroupLeft.LeftBy accepts
  left_group (refuse n) after w f = w
  left_group (accept answer x) after w f = group_if x after (Group.fits_in g x) refl f w

  groups_fine : (m : Model) → fine m ≡ true → fine_groups (record { updates = m.updates; committed = m.committed }) ≡ true
  unfolding fine_groups
  groups_fine m f = and_both (fine_updates m.updates) (fine_group m.committed) (fine_updates_lem m f) (fine_committed_lem m f)

  ruled_groups : {A : Type 0} (f : A → Model) (R : Ruling A) → accepts fine (ruled f R) ≡ true →
      accepts fine_groups (ruled (λ a. record { updates = (f a).updates; committed = (f a).committed }) R) ≡ true
  unfolding accepts ruled
  ruled_groups f (refuse n) h = refl
  ruled_groups f (accept answer a) h = groups_fine (f a) h

  module _ (v : group_valid g ≡ true) (t : List ℕ) (key place : ℕ) where
    abbrev groups_alone : Model
    groups_alone = record { entries = []; updates = (groups_in g).updates; committed = (groups_in g).committed }

    groups_alone_fine : fine groups_alone ≡ true
    unfolding empty
    groups_alone_fine = fine_tell groups_alone (fine_entries_lem empty empty_fine) (Groups.updates_valid g v) (Groups.committed_valid g v)

    pub group_left : (rule : Option Update → Ruling (Edit Update)) → Asks t (edit_group key place rule) → (after : List ℕ) →
        after ≡ words_after g (editing (groups_in g) key place rule) → GroupLeft.LeftBy g (editing (groups_in g) key place rule) after
    unfolding perform editing with_updates with_group_updates
    group_left rule a after w =
        left_group (editing (groups_in g) key place rule) after w
        (ruled_groups (λ e. with_updates groups_alone (edited key place e (groups_in g).updates)) (rule (find key place (groups_in g).updates))
        (performed t (edit_group key place rule) groups_alone a groups_alone_fine))

    pub committed_left : (rule : Option Update → Committed → Ruling Commits) → Asks t (commit_group key place rule) → (after : List ℕ) →
        after ≡ words_after g (committing (groups_in g) key place rule) → GroupLeft.LeftBy g (committing (groups_in g) key place rule) after
    unfolding perform committing with_commits with_group_commits
    committed_left rule a after w =
        left_group (committing (groups_in g) key place rule) after w
        (ruled_groups (with_commits key place groups_alone) (rule (find key place (groups_in g).updates) (groups_in g).committed)
        (performed t (commit_group key place rule) groups_alone a groups_alone_fine))
