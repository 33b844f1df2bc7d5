-- What somebody sees of a model, and the keys of a request. A reader at t sees the rows up to t; whoever has some keys sees their rows alone.
-- Work within sight looks at nothing else and edits nothing else; work beyond it changes nothing that is seen.
use Rattle.std.specs.Prelude.{◌≡◌, Bool, true, false, List, [], ◌∷◌, ℕ, ◌≤◌, leb}
use Rattle.std.proofs.Math.Option.{Option}
use Rattle.lists.specs.Lists.{keep}
use Rattle.request.specs.Request.{Request}
use Rattle.model.specs.Rows.{Row, rising}
use Rattle.model.specs.Data.{Ruling, refuse, accept}
use Rattle.model.specs.Group.{Update, Committed, Commits, commits}
use Rattle.model.specs.Model.{Model, Work, read_data, edit_data, read_group, edit_group, commit_group, edit_both, work_of}

-- Entries and updates are seen by key and shifted index; committed values have no index, and are seen by key.
pub record Sight : Type 0 where
  pub rows : ℕ → ℕ → Bool
  pub values : ℕ → Bool

unfoldable pub is_seen : {A : Type 0} → (ℕ → ℕ → Bool) → Row A → Bool
is_seen test r = test r.key r.place

unfoldable pub seen_rows : {A : Type 0} → (ℕ → ℕ → Bool) → List (Row A) → List (Row A)
seen_rows test rows = keep (is_seen test) rows

abbrev pub by_key : (ℕ → Bool) → ℕ → ℕ → Bool
by_key p key place = p key

-- The model with all else hidden.
unfoldable pub seen : Sight → Model → Model
seen s m =
    record {
      entries = seen_rows s.rows m.entries;
      updates = seen_rows s.rows m.updates;
      committed = seen_rows (by_key s.values) m.committed;
    }

-- What a rule that commits gives, with the committed values of other keys hidden.
unfoldable pub seen_commits : (ℕ → Bool) → Ruling Commits → Ruling Commits
seen_commits p (refuse n) = refuse n
seen_commits p (accept answer c) = accept answer (commits c.edit (seen_rows (by_key p) c.group))

-- The rule goes by the committed values of some keys alone.
unfoldable pub Sees : (ℕ → Bool) → (Option Update → Committed → Ruling Commits) → Type 0
Sees p rule = (own : Option Update) (group : Committed) → rule own (seen_rows (by_key p) group) ≡ seen_commits p (rule own group)

-- It leaves the committed values of some keys as they were.
abbrev pub LeftAlone : (ℕ → Bool) → Committed → Ruling Commits → Type 0
LeftAlone p group (refuse n) = Unit {0}
LeftAlone p group (accept answer c) = seen_rows (by_key p) c.group ≡ seen_rows (by_key p) group

unfoldable pub Leaves : (ℕ → Bool) → (Option Update → Committed → Ruling Commits) → Type 0
Leaves p rule = (own : Option Update) (group : Committed) → rising group ≡ true → LeftAlone p group (rule own group)

-- A key's rows up to a shifted index are seen.
abbrev pub SeesTo : Sight → ℕ → ℕ → Type 0
SeesTo s key reach = (place : ℕ) → place ≤ reach → s.rows key place ≡ true

-- The work sees and edits only what is in sight.
unfoldable pub Within : Sight → Work → Type 0
Within s (read_data key reach rule) = SeesTo s key reach
Within s (edit_data key place reach rule) = (s.rows key place ≡ true) × SeesTo s key reach
Within s (read_group key reach rule) = SeesTo s key reach
Within s (edit_group key place rule) = s.rows key place ≡ true
Within s (commit_group key place rule) = (s.rows key place ≡ true) × Sees s.values rule
Within s (edit_both key place rule) = s.rows key place ≡ true

-- It changes nothing that is in sight.
unfoldable pub Beyond : Sight → Work → Type 0
Beyond s (read_data key reach rule) = Unit {0}
Beyond s (edit_data key place reach rule) = s.rows key place ≡ false
Beyond s (read_group key reach rule) = Unit {0}
Beyond s (edit_group key place rule) = s.rows key place ≡ false
Beyond s (commit_group key place rule) = (s.rows key place ≡ false) × Leaves s.values rule
Beyond s (edit_both key place rule) = s.rows key place ≡ false

-- The keys of a request: those whose rows its work looks at or edits.
unfoldable pub keys_in : Work → List ℕ
keys_in (read_data key reach rule) = key ∷ []
keys_in (edit_data key place reach rule) = key ∷ []
keys_in (read_group key reach rule) = key ∷ []
keys_in (edit_group key place rule) = key ∷ []
keys_in (commit_group key place rule) = key ∷ []
keys_in (edit_both key place rule) = key ∷ []

unfoldable pub keys_of : Request → List ℕ
keys_of q = keys_in (work_of q)

-- What whoever has some keys sees: their rows and their committed values.
unfoldable pub key_sight : (ℕ → Bool) → Sight
key_sight p = record { rows = by_key p; values = p }

-- What a reader at t sees: the rows up to shifted index t, and every committed value.
unfoldable pub reader_sight : ℕ → Sight
reader_sight t = record { rows = λ key place. leb place t; values = λ key. true }
