-- What a request's work does to a model of which some is hidden: work within sight does the same there, work beyond it is not seen.
-- Assumes nothing.
use mathlib.Core.Path.{◌≡◌, refl, sym, ap}
use mathlib.Core.Bool.{true, false}
use mathlib.Core.Option.{Option}
use Prim.Native.Nat.{ℕ}
use Rattle.lists.specs.Lists.{keep}
use Rattle.model.specs.Rows.{rising, find, down_from, Edit, edited}
use Rattle.model.specs.Data.{Entry, Ruling, refuse, accept}
use Rattle.model.specs.Group.{Update, Committed, Commits, commits}
use Rattle.model.specs.Model.{Model, empty, Work, read_data, edit_data, read_group, edit_group, commit_group, edit_both, BothEdits, ruled, with_entries, with_updates, with_commits, with_both, perform, left_by}
use Rattle.model.specs.Sight.{Sight, seen_rows, by_key, seen, seen_commits, Sees, LeftAlone, Leaves, Within, Beyond}
use Rattle.model.proofs.RulingLaws.{ruled_ruled, left_as, left_has}
use Rattle.model.proofs.Rows.{rising_edited}
use Rattle.model.proofs.RowSights.{find_seen, down_from_seen, seen_edited, seen_edited_beyond}

pub seen_empty : (s : Sight) → seen s empty ≡ empty
unfolding seen empty seen_rows keep
seen_empty s = refl

-- Entries, updates and committed values are rising.
unfoldable pub Rising : Model → Type 0
Rising m = (rising m.entries ≡ true) × (rising m.updates ≡ true) × (rising m.committed ≡ true)

pub empty_rising : Rising empty
unfolding Rising empty rising
empty_rising = (refl, refl, refl)

-- The rule leaves committed values rising, where they were.
abbrev pub Risen : Ruling Commits → Type 0
Risen (refuse n) = Unit {0}
Risen (accept answer c) = rising c.group ≡ true

unfoldable pub InOrder : Work → Type 0
InOrder (read_data key reach rule) = Unit {0}
InOrder (edit_data key place reach rule) = Unit {0}
InOrder (read_group key reach rule) = Unit {0}
InOrder (edit_group key place rule) = Unit {0}
InOrder (commit_group key place rule) = (own : Option Update) (group : Committed) → rising group ≡ true → Risen (rule own group)
InOrder (edit_both key place rule) = Unit {0}

-- an edit in sight is the same edit of what is seen
module _ (s : Sight) (key place : ℕ) (m : Model) (h : s.rows key place ≡ true) where
  entries_within : (e : Edit Entry) → with_entries (seen s m) (edited key place e (seen_rows s.rows m.entries)) ≡ seen s (with_entries m (edited key place e m.entries))
  unfolding seen with_entries
  entries_within e i =
      record {
        entries = sym (seen_edited s.rows key place e m.entries h) i;
        updates = seen_rows s.rows m.updates;
        committed = seen_rows (by_key s.values) m.committed;
      }

  updates_within : (e : Edit Update) → with_updates (seen s m) (edited key place e (seen_rows s.rows m.updates)) ≡ seen s (with_updates m (edited key place e m.updates))
  unfolding seen with_updates
  updates_within e i =
      record {
        entries = seen_rows s.rows m.entries;
        updates = sym (seen_edited s.rows key place e m.updates h) i;
        committed = seen_rows (by_key s.values) m.committed;
      }

  both_within : (b : BothEdits) → with_both key place (seen s m) b ≡ seen s (with_both key place m b)
  unfolding seen with_both
  both_within b i =
      record {
        entries = sym (seen_edited s.rows key place b.entry m.entries h) i;
        updates = sym (seen_edited s.rows key place b.update m.updates h) i;
        committed = seen_rows (by_key s.values) m.committed;
      }

  commits_within : (r : Ruling Commits) → ruled (with_commits key place (seen s m)) (seen_commits s.values r) ≡ ruled (seen s) (ruled (with_commits key place m) r)
  unfolding ruled seen seen_commits with_commits commits
  commits_within (refuse n) = refl
  commits_within (accept answer c) =
      ap (accept answer)
      (λ i.
      record {
        entries = seen_rows s.rows m.entries;
        updates = sym (seen_edited s.rows key place c.edit m.updates h) i;
        committed = seen_rows (by_key s.values) c.group;
      })

pub perform_within : (s : Sight) (w : Work) (m : Model) → Within s w → perform w (seen s m) ≡ ruled (seen s) (perform w m)
unfolding perform Within Sees seen
perform_within s (read_data key reach rule) m h =
    rw (down_from_seen s.rows key reach m.entries h)
    (ruled_ruled (seen s) (λ same. seen s m) (λ same. m) (λ a. refl) (rule (down_from key reach m.entries)))
perform_within s (edit_data key place reach rule) m h =
    rw (find_seen s.rows key place m.entries h.0, down_from_seen s.rows key reach m.entries h.1)
    (ruled_ruled (seen s) (λ e. with_entries (seen s m) (edited key place e (seen_rows s.rows m.entries))) (λ e. with_entries m (edited key place e m.entries))
    (entries_within s key place m h.0) (rule (find key place m.entries) (down_from key reach m.entries)))
perform_within s (read_group key reach rule) m h =
    rw (down_from_seen s.rows key reach m.updates h)
    (ruled_ruled (seen s) (λ same. seen s m) (λ same. m) (λ a. refl) (rule (down_from key reach m.updates)))
perform_within s (edit_group key place rule) m h =
    rw (find_seen s.rows key place m.updates h)
    (ruled_ruled (seen s) (λ e. with_updates (seen s m) (edited key place e (seen_rows s.rows m.updates))) (λ e. with_updates m (edited key place e m.updates))
    (updates_within s key place m h) (rule (find key place m.updates)))
perform_within s (commit_group key place rule) m h =
    rw (find_seen s.rows key place m.updates h.0, h.1 (find key place m.updates) m.committed)
    (commits_within s key place m h.0 (rule (find key place m.updates) m.committed))
perform_within s (edit_both key place rule) m h =
    rw (find_seen s.rows key place m.entries h, find_seen s.rows key place m.updates h)
    (ruled_ruled (seen s) (with_both key place (seen s m)) (with_both key place m) (both_within s key place m h)
    (rule (find key place m.entries) (find key place m.updates)))

left_commits : (s : Sight) (key place : ℕ) (m : Model) → Rising m → s.rows key place ≡ false → (r : Ruling Commits) → LeftAlone s.values m.committed r → seen s (left_by m (ruled (with_commits key place m) r)) ≡ seen s m
unfolding Rising ruled left_by with_commits seen
left_commits s key place m g h (refuse n) l = refl
left_commits s key place m g h (accept answer c) l =
    λ i.
    record {
      entries = seen_rows s.rows m.entries;
      updates = seen_edited_beyond s.rows key place c.edit m.updates h g.1 i;
      committed = l i;
    }

pub perform_beyond : (s : Sight) (w : Work) (m : Model) → Rising m → Beyond s w → seen s (left_by m (perform w m)) ≡ seen s m
unfolding perform Beyond Leaves Rising seen with_entries with_updates with_both
perform_beyond s (read_data key reach rule) m g h = left_as (seen s) m (λ same. m) (λ a. refl) (rule (down_from key reach m.entries))
perform_beyond s (edit_data key place reach rule) m g h =
    left_as (seen s) m (λ e. with_entries m (edited key place e m.entries))
    (λ e i.
    record {
      entries = seen_edited_beyond s.rows key place e m.entries h g.0 i;
      updates = seen_rows s.rows m.updates;
      committed = seen_rows (by_key s.values) m.committed;
    })
    (rule (find key place m.entries) (down_from key reach m.entries))
perform_beyond s (read_group key reach rule) m g h = left_as (seen s) m (λ same. m) (λ a. refl) (rule (down_from key reach m.updates))
perform_beyond s (edit_group key place rule) m g h =
    left_as (seen s) m (λ e. with_updates m (edited key place e m.updates))
    (λ e i.
    record {
      entries = seen_rows s.rows m.entries;
      updates = seen_edited_beyond s.rows key place e m.updates h g.1 i;
      committed = seen_rows (by_key s.values) m.committed;
    })
    (rule (find key place m.updates))
perform_beyond s (commit_group key place rule) m g h =
    left_commits s key place m g h.0 (rule (find key place m.updates) m.committed)
    (h.1 (find key place m.updates) m.committed g.2)
perform_beyond s (edit_both key place rule) m g h =
    left_as (seen s) m (with_both key place m)
    (λ b i.
    record {
      entries = seen_edited_beyond s.rows key place b.entry m.entries h g.0 i;
      updates = seen_edited_beyond s.rows key place b.update m.updates h g.1 i;
      committed = seen_rows (by_key s.values) m.committed;
    })
    (rule (find key place m.entries) (find key place m.updates))

-- rows stay rising
rising_commits : (key place : ℕ) (m : Model) → Rising m → (r : Ruling Commits) → Risen r → Rising (left_by m (ruled (with_commits key place m) r))
unfolding Rising ruled left_by with_commits
rising_commits key place m g (refuse n) h = g
rising_commits key place m g (accept answer c) h = (g.0, rising_edited key place c.edit m.updates g.1, h)

pub perform_rising : (w : Work) (m : Model) → InOrder w → Rising m → Rising (left_by m (perform w m))
unfolding perform InOrder Rising with_entries with_updates with_both
perform_rising (read_data key reach rule) m o g = left_has Rising m (λ same. m) g (λ a. g) (rule (down_from key reach m.entries))
perform_rising (edit_data key place reach rule) m o g =
    left_has Rising m (λ e. with_entries m (edited key place e m.entries)) g (λ e. (rising_edited key place e m.entries g.0, g.1, g.2))
    (rule (find key place m.entries) (down_from key reach m.entries))
perform_rising (read_group key reach rule) m o g = left_has Rising m (λ same. m) g (λ a. g) (rule (down_from key reach m.updates))
perform_rising (edit_group key place rule) m o g =
    left_has Rising m (λ e. with_updates m (edited key place e m.updates)) g (λ e. (g.0, rising_edited key place e m.updates g.1, g.2))
    (rule (find key place m.updates))
perform_rising (commit_group key place rule) m o g =
    rising_commits key place m g (rule (find key place m.updates) m.committed) (o (find key place m.updates) m.committed g.2)
perform_rising (edit_both key place rule) m o g =
    left_has Rising m (with_both key place m) g
    (λ b. (rising_edited key place b.entry m.entries g.0, rising_edited key place b.update m.updates g.1, g.2))
    (rule (find key place m.entries) (find key place m.updates))
