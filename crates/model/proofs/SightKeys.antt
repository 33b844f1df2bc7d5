-- Keys do not meet: for every test of keys, a request whose keys pass sees and changes only rows that pass, and one whose keys fail leaves them. A
-- key that nothing was ever written to and one whose rows are all removed have the same rows, none, and so answer alike.
-- Assumes nothing.
use mathlib.Core.Path.{◌≡◌, refl, sym, ◌∙◌, ap}
use mathlib.Core.Bool.{Bool, true, false, not, ◌&&◌}
use mathlib.Core.List.{[], ◌∷◌}
use mathlib.Core.Option.{Option}
use Prim.Native.Nat.{ℕ}
use lib.Dec.{eqb}
use borrow.Author.Tests.{eq-eqb}
use Rattle.lists.specs.Lists.{keep, every}
use Rattle.lists.proofs.Bools.{and_left, never}
use Rattle.request.specs.Request.{Request}
use Rattle.model.specs.Rows.{find}
use Rattle.model.specs.Data.{Ruling, refuse, accept}
use Rattle.model.specs.Group.{Update, Committed, Commits}
use Rattle.model.specs.Model.{Model, empty, Work, read_data, edit_data, read_group, edit_group, commit_group, edit_both, work_of, ruled, perform, left_by, outcome_of}
use Rattle.model.specs.Sight.{Sight, is_seen, seen_rows, by_key, seen, LeftAlone, Leaves, Within, Beyond, keys_in, keys_of, key_sight}
use Rattle.model.specs.Tickets.{outcome, left}
use Rattle.model.proofs.RulingLaws.{outcome_ruled, left_ruled}
use Rattle.model.proofs.RowSights.{find_seen}
use Rattle.model.proofs.Sight.{Rising, InOrder, seen_empty, perform_within, perform_beyond, perform_rising}
use Rattle.model.proofs.SightCommits.{Local, last_local, base_local, exchange_local, finalize_local, local_leaves, local_order}

-- Of the work of every request, a rule that commits is one of its key.
unfoldable pub LocalWork : Work → Type 0
LocalWork (read_data key reach rule) = Unit {0}
LocalWork (edit_data key place reach rule) = Unit {0}
LocalWork (read_group key reach rule) = Unit {0}
LocalWork (edit_group key place rule) = Unit {0}
LocalWork (commit_group key place rule) = Local key rule
LocalWork (edit_both key place rule) = Unit {0}

pub work_local : (q : Request) → LocalWork (work_of q)
unfolding LocalWork work_of
work_local (Request.last_committed key) = last_local key
work_local (Request.base key value) = tt
work_local (Request.write key index incarnation value) = tt
work_local (Request.add_delta key index d) = tt
work_local (Request.estimate key index) = tt
work_local (Request.remove key index) = tt
work_local (Request.fetch key index) = tt
work_local (Request.materialize key index) = tt
work_local (Request.group_base key members) = base_local key members
work_local (Request.exchange key tag value) = exchange_local key tag value
work_local (Request.group_write key index incarnation members) = tt
work_local (Request.group_estimate key index) = tt
work_local (Request.group_remove key index) = tt
work_local (Request.group_fetch key tag index) = tt
work_local (Request.group_size key index) = tt
work_local (Request.finalize key index) = finalize_local key

local_in_order : (w : Work) → LocalWork w → InOrder w
unfolding LocalWork InOrder
local_in_order (read_data key reach rule) l = tt
local_in_order (edit_data key place reach rule) l = tt
local_in_order (read_group key reach rule) l = tt
local_in_order (edit_group key place rule) l = tt
local_in_order (commit_group key place rule) l = local_order key rule l
local_in_order (edit_both key place rule) l = tt

-- Whatever the request, rows stay rising.
pub work_rising : (q : Request) (m : Model) → Rising m → Rising (left_by m (perform (work_of q) m))
work_rising q m g = perform_rising (work_of q) m (local_in_order (work_of q) (work_local q)) g

module _ (p : ℕ → Bool) where
  -- work whose keys all pass is within sight; it is beyond it where they do not, since what edits has one key
  module _ (key : ℕ) where
    one_passes : every p (key ∷ []) ≡ true → p key ≡ true
    unfolding every
    one_passes h = and_left (p key) true h

    one_fails : every p (key ∷ []) ≡ false → p key ≡ false
    unfolding every
    one_fails h = go (p key) refl
      where
        go : (b : Bool) → p key ≡ b → p key ≡ false
        go true e = never (rw e at h)
        go false e = e

    one_not : every (λ k. not (p k)) (key ∷ []) ≡ true → every p (key ∷ []) ≡ false
    unfolding every
    one_not h = go (p key) refl
      where
        go : (b : Bool) → p key ≡ b → every p (key ∷ []) ≡ false
        go true e = never (sym (rw e at h))
        go false e = rw e

  within_keys : (w : Work) → LocalWork w → every p (keys_in w) ≡ true → Within (key_sight p) w
  unfolding LocalWork keys_in Within key_sight
  within_keys (read_data key reach rule) l h = λ place below. one_passes key h
  within_keys (edit_data key place reach rule) l h = (one_passes key h, λ i below. one_passes key h)
  within_keys (read_group key reach rule) l h = λ place below. one_passes key h
  within_keys (edit_group key place rule) l h = one_passes key h
  within_keys (commit_group key place rule) l h = (one_passes key h, l.sees p (one_passes key h))
  within_keys (edit_both key place rule) l h = one_passes key h

  beyond_keys : (w : Work) → LocalWork w → every p (keys_in w) ≡ false → Beyond (key_sight p) w
  unfolding LocalWork keys_in Beyond key_sight
  beyond_keys (read_data key reach rule) l h = tt
  beyond_keys (edit_data key place reach rule) l h = one_fails key h
  beyond_keys (read_group key reach rule) l h = tt
  beyond_keys (edit_group key place rule) l h = one_fails key h
  beyond_keys (commit_group key place rule) l h = (one_fails key h, local_leaves key rule l p (one_fails key h))
  beyond_keys (edit_both key place rule) l h = one_fails key h

  pub request_within : (q : Request) → every p (keys_of q) ≡ true → Within (key_sight p) (work_of q)
  unfolding keys_of
  request_within q h = within_keys (work_of q) (work_local q) h

  pub request_beyond : (q : Request) → every p (keys_of q) ≡ false → Beyond (key_sight p) (work_of q)
  unfolding keys_of
  request_beyond q h = beyond_keys (work_of q) (work_local q) h

  -- what edits has a key, so where all fail not all pass
  fails_keys : (w : Work) → every (λ k. not (p k)) (keys_in w) ≡ true → every p (keys_in w) ≡ false
  unfolding keys_in every
  fails_keys (read_data key reach rule) h = one_not key h
  fails_keys (edit_data key place reach rule) h = one_not key h
  fails_keys (read_group key reach rule) h = one_not key h
  fails_keys (edit_group key place rule) h = one_not key h
  fails_keys (commit_group key place rule) h = one_not key h
  fails_keys (edit_both key place rule) h = one_not key h

  -- A request whose keys pass does to the rows that pass what it does to all.
  pub perform_keys_pass : (q : Request) (m : Model) → every p (keys_of q) ≡ true → perform (work_of q) (seen (key_sight p) m) ≡ ruled (seen (key_sight p)) (perform (work_of q) m)
  perform_keys_pass q m h = perform_within (key_sight p) (work_of q) m (request_within q h)

  -- One whose keys fail leaves the rows that pass as they were.
  pub left_keys_fail : (q : Request) (m : Model) → Rising m → every (λ k. not (p k)) (keys_of q) ≡ true → seen (key_sight p) (left q m) ≡ seen (key_sight p) m
  unfolding left keys_of
  left_keys_fail q m g h = perform_beyond (key_sight p) (work_of q) m g (beyond_keys (work_of q) (work_local q) (fails_keys (work_of q) h))

  -- So what it answers, and what it leaves of the rows that pass, depends on those alone.
  module _ (q : Request) (passes : every p (keys_of q) ≡ true) where
    pub outcome_keys : (m : Model) → outcome q (seen (key_sight p) m) ≡ outcome q m
    unfolding outcome
    outcome_keys m = ap outcome_of (perform_keys_pass q m passes) ∙ outcome_ruled (seen (key_sight p)) (perform (work_of q) m)

    pub left_keys : (m : Model) → left q (seen (key_sight p) m) ≡ seen (key_sight p) (left q m)
    unfolding left
    left_keys m = ap (left_by (seen (key_sight p) m)) (perform_keys_pass q m passes) ∙ left_ruled (seen (key_sight p)) m (perform (work_of q) m)

    pub outcome_same : (m n : Model) → seen (key_sight p) m ≡ seen (key_sight p) n → outcome q m ≡ outcome q n
    outcome_same m n e = sym (outcome_keys m) ∙ ap (outcome q) e ∙ outcome_keys n

    -- An absent key and an empty key answer alike: a key that has no row, whatever it had before, answers as in empty stores.
    pub outcome_absent : (m : Model) → seen (key_sight p) m ≡ empty → outcome q m ≡ outcome q empty
    outcome_absent m e = outcome_same m empty (e ∙ sym (seen_empty (key_sight p)))

-- ---- every place

-- Whether the work edits an entry or an update at a key and place.
unfoldable pub edits_at : ℕ → ℕ → Work → Bool
edits_at k p (read_data key reach rule) = false
edits_at k p (edit_data key place reach rule) = eqb key k && eqb place p
edits_at k p (read_group key reach rule) = false
edits_at k p (edit_group key place rule) = eqb key k && eqb place p
edits_at k p (commit_group key place rule) = eqb key k && eqb place p
edits_at k p (edit_both key place rule) = eqb key k && eqb place p

module _ (k p : ℕ) where
  -- one place in sight, and no committed value
  at_place : Sight
  at_place = record { rows = λ key place. eqb key k && eqb place p; values = λ key. false }

  none_seen : (g : Committed) → seen_rows (by_key (λ key. false)) g ≡ []
  unfolding seen_rows is_seen keep
  none_seen [] = refl
  none_seen (r ∷ rs) = none_seen rs

  leaves_none : (rule : Option Update → Committed → Ruling Commits) → Leaves (λ key. false) rule
  unfolding Leaves
  leaves_none rule own g r = go (rule own g)
    where
      go : (o : Ruling Commits) → LeftAlone (λ key. false) g o
      go (refuse n) = tt
      go (accept answer c) = none_seen c.group ∙ sym (none_seen g)

  elsewhere_beyond : (w : Work) → edits_at k p w ≡ false → Beyond at_place w
  unfolding edits_at Beyond at_place
  elsewhere_beyond (read_data key reach rule) h = tt
  elsewhere_beyond (edit_data key place reach rule) h = h
  elsewhere_beyond (read_group key reach rule) h = tt
  elsewhere_beyond (edit_group key place rule) h = h
  elsewhere_beyond (commit_group key place rule) h = (h, leaves_none rule)
  elsewhere_beyond (edit_both key place rule) h = h

  in_place : at_place.rows k p ≡ true
  unfolding at_place
  in_place = rw (eq-eqb k k refl, eq-eqb p p refl)

  -- A request leaves every entry and update but the one at its own key and index as it was.
  module _ (q : Request) (m : Model) (g : Rising m) (elsewhere : edits_at k p (work_of q) ≡ false) where
    as_seen : seen at_place (left q m) ≡ seen at_place m
    unfolding left
    as_seen = perform_beyond at_place (work_of q) m g (elsewhere_beyond (work_of q) elsewhere)

    pub left_entry : find k p (left q m).entries ≡ find k p m.entries
    unfolding seen
    left_entry =
        sym (find_seen at_place.rows k p (left q m).entries in_place) ∙ ap (λ (n : Model). find k p n.entries) as_seen
        ∙ find_seen at_place.rows k p m.entries in_place

    pub left_update : find k p (left q m).updates ≡ find k p m.updates
    unfolding seen
    left_update =
        sym (find_seen at_place.rows k p (left q m).updates in_place) ∙ ap (λ (n : Model). find k p n.updates) as_seen
        ∙ find_seen at_place.rows k p m.updates in_place
