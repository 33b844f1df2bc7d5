-- From the facts of a rule, whatever it sees, to those of the work on a model: one clause for each form of work.
-- Assumes nothing.
use mathlib.Core.Path.{◌≡◌}
use mathlib.Core.Bool.{Bool, true, ◌&&◌}
use mathlib.Core.List.{List}
use mathlib.Core.Option.{Option}
use Prim.Native.Nat.{ℕ}
use Rattle.lists.specs.Lists.{every}
use Rattle.lists.proofs.Bools.{and_left, and_right}
use Rattle.types.specs.Refusal.{of_rules}
use Rattle.model.specs.Rows.{Row, find, down_from, Edit, edited}
use Rattle.model.specs.Data.{Entry}
use Rattle.model.specs.Group.{Update, Committed, Commits}
use Rattle.model.specs.Model.{Model, BothEdits, Work, read_data, edit_data, read_group, edit_group, commit_group, edit_both, with_entries, with_updates, with_commits, with_both, perform}
use Rattle.model.specs.Fine.{fine_entry, fine_update, fine_group, fine}
use Rattle.model.proofs.RowMaps.{every_down_from}
use Rattle.model.proofs.FineRows.{fine_own, fine_edit, InRange}
use Rattle.model.proofs.FineEntries.{fine_held, fine_find, fine_edited, fine_down_from}
use Rattle.model.proofs.FineUpdates.{fine_recorded, fine_commits, fine_find_update, fine_edited_update, updates_every}
use Rattle.model.proofs.FineModel.{fine_entries_lem, fine_updates_lem, fine_committed_lem, fine_tell}
use Rattle.model.proofs.RuleFacts.{Facts, facts_given, ruled_facts}

-- Both edits of a rule over both stores are fine.
unfoldable pub fine_both : ℕ → BothEdits → Bool
fine_both place b = fine_edit fine_held place b.entry && fine_edit fine_recorded place b.update

-- The facts of a work's rule, whatever it sees; `given` is what is known of the request.
unfoldable pub WorkFacts : Type 0 → Work → Type 0
WorkFacts given (read_data key reach rule) =
    (seen : List (Row Entry)) → Facts of_rules (given × (every fine_entry seen ≡ true)) (λ same. true) (rule seen)
WorkFacts given (edit_data key place reach rule) =
    (given → InRange key place)
    × ((own : Option Entry) (seen : List (Row Entry)) → Facts of_rules (given × (fine_own fine_held place own ≡ true) × (every fine_entry seen ≡ true)) (fine_edit fine_held place) (rule own seen))
WorkFacts given (read_group key reach rule) =
    (seen : List (Row Update)) → Facts of_rules (given × (every fine_update seen ≡ true)) (λ same. true) (rule seen)
WorkFacts given (edit_group key place rule) =
    (given → InRange key place) × ((own : Option Update) → Facts of_rules (given × (fine_own fine_recorded place own ≡ true)) (fine_edit fine_recorded place) (rule own))
WorkFacts given (commit_group key place rule) =
    (given → InRange key place)
    × ((own : Option Update) (group : Committed) → Facts of_rules (given × (fine_own fine_recorded place own ≡ true) × (fine_group group ≡ true)) (fine_commits place) (rule own group))
WorkFacts given (edit_both key place rule) =
    (given → InRange key place)
    × ((own : Option Entry) (update : Option Update) → Facts of_rules (given × (fine_own fine_held place own ≡ true) × (fine_own fine_recorded place update ≡ true)) (fine_both place) (rule own update))

-- a fine edit leaves a fine model fine
module _ (m : Model) (h : fine m ≡ true) (key place : ℕ) (w : InRange key place) where
  entries_edited : (e : Edit Entry) → fine_edit fine_held place e ≡ true → fine (with_entries m (edited key place e m.entries)) ≡ true
  unfolding with_entries
  entries_edited e f =
      fine_tell (with_entries m (edited key place e m.entries)) (fine_edited key place e m.entries (fine_entries_lem m h) w f) (fine_updates_lem m h)
      (fine_committed_lem m h)

  updates_edited : (e : Edit Update) → fine_edit fine_recorded place e ≡ true → fine (with_updates m (edited key place e m.updates)) ≡ true
  unfolding with_updates
  updates_edited e f =
      fine_tell (with_updates m (edited key place e m.updates)) (fine_entries_lem m h) (fine_edited_update key place e m.updates (fine_updates_lem m h) w f)
      (fine_committed_lem m h)

  commits_edited : (c : Commits) → fine_commits place c ≡ true → fine (with_commits key place m c) ≡ true
  unfolding with_commits fine_commits
  commits_edited c f =
      fine_tell (with_commits key place m c) (fine_entries_lem m h)
      (fine_edited_update key place c.edit m.updates (fine_updates_lem m h) w (and_left (fine_edit fine_recorded place c.edit) (fine_group c.group) f))
      (and_right (fine_edit fine_recorded place c.edit) (fine_group c.group) f)

  both_edited : (b : BothEdits) → fine_both place b ≡ true → fine (with_both key place m b) ≡ true
  unfolding with_both fine_both
  both_edited b f =
      fine_tell (with_both key place m b)
      (fine_edited key place b.entry m.entries (fine_entries_lem m h) w (and_left (fine_edit fine_held place b.entry) (fine_edit fine_recorded place b.update) f))
      (fine_edited_update key place b.update m.updates (fine_updates_lem m h) w (and_right (fine_edit fine_held place b.entry) (fine_edit fine_recorded place b.update) f))
      (fine_committed_lem m h)

-- what a rule sees of a fine model
module _ (m : Model) (h : fine m ≡ true) where
  seen_entries : (key reach : ℕ) → every fine_entry (down_from key reach m.entries) ≡ true
  seen_entries key reach = fine_down_from key reach m.entries (fine_entries_lem m h)

  seen_updates : (key reach : ℕ) → every fine_update (down_from key reach m.updates) ≡ true
  seen_updates key reach = every_down_from fine_update key reach m.updates (updates_every m.updates (fine_updates_lem m h))

  own_entry : (key place : ℕ) → fine_own fine_held place (find key place m.entries) ≡ true
  own_entry key place = fine_find key place m.entries (fine_entries_lem m h)

  own_update : (key place : ℕ) → fine_own fine_recorded place (find key place m.updates) ≡ true
  own_update key place = fine_find_update key place m.updates (fine_updates_lem m h)

pub perform_facts : {given : Type 0} (w : Work) (m : Model) → WorkFacts given w → Facts of_rules (given × (fine m ≡ true)) fine (perform w m)
unfolding WorkFacts perform
perform_facts (read_data key reach rule) m f =
    let seen = down_from key reach m.entries in
    ruled_facts (λ same. true) fine (λ same. m) (λ g a e. g.1) (rule seen)
    (facts_given (rule seen) (λ g. (g.0, seen_entries m g.1 key reach)) (f seen))
perform_facts (edit_data key place reach rule) m f =
    let own = find key place m.entries in
    let seen = down_from key reach m.entries in
    ruled_facts (fine_edit fine_held place) fine (λ e. with_entries m (edited key place e m.entries)) (λ g. entries_edited m g.1 key place (f.0 g.0)) (rule own seen)
    (facts_given (rule own seen) (λ g. (g.0, own_entry m g.1 key place, seen_entries m g.1 key reach)) (f.1 own seen))
perform_facts (read_group key reach rule) m f =
    let seen = down_from key reach m.updates in
    ruled_facts (λ same. true) fine (λ same. m) (λ g a e. g.1) (rule seen)
    (facts_given (rule seen) (λ g. (g.0, seen_updates m g.1 key reach)) (f seen))
perform_facts (edit_group key place rule) m f =
    let own = find key place m.updates in
    ruled_facts (fine_edit fine_recorded place) fine (λ e. with_updates m (edited key place e m.updates)) (λ g. updates_edited m g.1 key place (f.0 g.0)) (rule own)
    (facts_given (rule own) (λ g. (g.0, own_update m g.1 key place)) (f.1 own))
perform_facts (commit_group key place rule) m f =
    let own = find key place m.updates in
    ruled_facts (fine_commits place) fine (with_commits key place m) (λ g. commits_edited m g.1 key place (f.0 g.0)) (rule own m.committed)
    (facts_given (rule own m.committed) (λ g. (g.0, own_update m g.1 key place, fine_committed_lem m g.1)) (f.1 own m.committed))
perform_facts (edit_both key place rule) m f =
    let own = find key place m.entries in
    let update = find key place m.updates in
    ruled_facts (fine_both place) fine (with_both key place m) (λ g. both_edited m g.1 key place (f.0 g.0)) (rule own update)
    (facts_given (rule own update) (λ g. (g.0, own_entry m g.1 key place, own_update m g.1 key place)) (f.1 own update))
