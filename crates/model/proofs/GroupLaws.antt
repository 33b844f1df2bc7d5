-- What a user of the group store relies on: the size is the sum over what fetches of each tag see, and a finalise changes the committed group by
-- exactly the update.
-- Assumes nothing.
use mathlib.Core.Path.{◌≡◌, refl, sym, ◌∙◌, ap, subst}
use mathlib.Core.Bool.{Bool, true, false, cond, not, ◌&&◌}
use mathlib.Core.List.{List, [], ◌∷◌, ◌++◌, map}
use mathlib.Core.Option.{Option, none, some}
use Prim.Native.Nat.{ℕ, zero, suc, ◌+◌, ◌-◌}
use native.Mathlib.Omega.{arith}
use native.Mathlib.Decide.{ℕ_discrete}
use lib.Dec.{eqb, eqb-suc-zero}
use borrow.Author.Tests.{eqb-true, eqb-false, eq-eqb, ne_eqb}
use Rattle.lists.specs.Lists.{every}
use Rattle.lists.proofs.Bools.{and_left, and_right}
use Rattle.types.specs.Refusal.{commit_rule}
use Rattle.types.specs.Value.{write_op_kind, is_creation, is_deletion, bytes_len}
use Rattle.request.specs.Set.{Member}
use Rattle.request.specs.Request.{group_fetch, group_size, finalize}
use Rattle.model.specs.Rows.{Row, rising, find, put, erase, down_from, edited}
use Rattle.model.specs.Data.{versioned_answer}
use Rattle.model.specs.Group.{Update, Committed, commits, first_tagged, member_value, is_some, commit_over, commit_new, commit_one, commit_rest, commit, committed_answer, finalized_to, finalize_group, Latest, latest, has_base, dependency_answer, latest_answer, fetch_tagged_data, Size, counted, waits, with_bytes, with_latest, size_over, all_tags, size_answer, get_group_size}
use Rattle.model.specs.Sight.{seen_rows, by_key}
use Rattle.model.specs.Model.{Model, work_of, ruled, with_commits, perform, left_by, Outcome, outcome_of, refused, answered}
use Rattle.model.specs.Tickets.{outcome, left, uninitialized, tag_not_found, versioned, at_base, dependency, size}
use Rattle.model.proofs.SightCommits.{commit_after}
use Rattle.model.proofs.RowLookups.{find_put_same, find_put_other, find_erase_same, find_erase_other, rows_at, down, down_from_find}

-- ---- size

-- What a fetch of a tag shows of its bytes: nothing there, or a value, whose bytes a deletion does not have.
pub data Shows : Outcome → Option ℕ → Type 0 where
  absent : Shows tag_not_found none
  stored : (value : List ℕ) → Shows (at_base value) (bytes_len value)
  written : (index incarnation : ℕ) (value : List ℕ) → Shows (versioned index incarnation value) (bytes_len value)

-- "tags in rising order, the first estimate gives Dependency; else the members that have bytes, and the sum of their lengths plus 1 each":
-- the size, from what fetches of the tags give.
pub data SizedBy : List Outcome → Outcome → Type 0 where
  end : SizedBy [] (size 0 0)
  skip : {o r : Outcome} {os : List Outcome} → Shows o none → SizedBy os r → SizedBy (o ∷ os) r
  count : {o : Outcome} {os : List Outcome} {bytes : ℕ} (members sum : ℕ) → Shows o (some bytes) → SizedBy os (size members sum) → SizedBy (o ∷ os) (size (members + 1) (sum + bytes + 1))
  pass : {o : Outcome} {os : List Outcome} {bytes : ℕ} (index : ℕ) → Shows o (some bytes) → SizedBy os (dependency index) → SizedBy (o ∷ os) (dependency index)
  wait : {os : List Outcome} (index : ℕ) → SizedBy (dependency index ∷ os) (dependency index)

-- what the answer to a fetch shows of the latest value
shown : (place incarnation : ℕ) (value : List ℕ) → Shows (answered (versioned_answer place incarnation value)) (bytes_len value)
unfolding versioned_answer versioned at_base
shown zero incarnation value = stored value
shown (suc index) incarnation value = written index incarnation value

waiting : (os : List Outcome) (place : ℕ) → SizedBy (answered (dependency_answer place) ∷ os) (answered (size_answer (waits place)))
unfolding dependency_answer dependency size_answer
waiting os place = wait (place - 1)

-- one more tag: what it shows, and what the later tags come to
one_more : (os : List Outcome) (o : Outcome) (b : Option ℕ) (s : Size) → Shows o b → SizedBy os (answered (size_answer s)) → SizedBy (o ∷ os) (answered (size_answer (with_bytes b s)))
unfolding with_bytes size_answer size dependency dependency_answer
one_more os o none s h ih = skip h ih
one_more os o (some bytes) (counted members sum) h ih = count members sum h ih
one_more os o (some bytes) (waits place) h ih = pass (place - 1) h ih

one_latest : (os : List Outcome) (o : Option Latest) (s : Size) → SizedBy os (answered (size_answer s)) → SizedBy (answered (latest_answer true o) ∷ os) (answered (size_answer (with_latest o s)))
unfolding latest_answer with_latest tag_not_found
one_latest os none s ih = skip absent ih
one_latest os (some l) s ih = go l.estimate
  where
    go : (b : Bool) → SizedBy (answered (cond b (dependency_answer l.place) (versioned_answer l.place l.incarnation l.value)) ∷ os) (answered (size_answer (cond b (waits l.place) (with_bytes (bytes_len l.value) s))))
    go true = waiting os l.place
    go false = one_more os (answered (versioned_answer l.place l.incarnation l.value)) (bytes_len l.value) s (shown l.place l.incarnation l.value) ih

size_over_lem : (ts : List ℕ) (seen : List (Row Update)) → SizedBy (map (λ t. answered (latest_answer true (latest t seen))) ts) (answered (size_answer (size_over ts seen)))
unfolding size_over size_answer size
size_over_lem [] seen = end
size_over_lem (t ∷ ts) seen = one_latest (map (λ t. answered (latest_answer true (latest t seen))) ts) (latest t seen) (size_over ts seen) (size_over_lem ts seen)

-- a reader sees the base, wherever it reads
based_above : (k n : ℕ) (o : Option Update) (rs : List (Row Update)) → has_base (rows_at k (suc n) o ++ rs) ≡ has_base rs
unfolding has_base rows_at
based_above k n none rs = refl
based_above k n (some u) rs = rw (eqb-suc-zero n)

based_here : (k : ℕ) (o : Option Update) → has_base (rows_at k 0 o) ≡ is_some o
unfolding has_base rows_at is_some
based_here k none = refl
based_here k (some u) = refl

based_down : (k n : ℕ) (at : ℕ → Option Update) → has_base (down k at n) ≡ is_some (at 0)
unfolding down
based_down k zero at = based_here k (at 0)
based_down k (suc n) at = based_above k n (at (suc n)) (down k at n) ∙ based_down k n at

module _ (m : Model) (key t : ℕ) (g : rising m.updates ≡ true) where
  based : has_base (down_from key t m.updates) ≡ is_some (find key 0 m.updates)
  based = ap has_base (down_from_find key t m.updates g) ∙ based_down key t (λ p. find key p m.updates)

  -- Where there is a base, the size that a reader is given is the sum over what fetches of each tag give it.
  pub size_fetches : is_some (find key 0 m.updates) ≡ true → SizedBy (map (λ tag. outcome (group_fetch key tag t) m) all_tags) (outcome (group_size key t) m)
  unfolding outcome work_of perform ruled outcome_of fetch_tagged_data get_group_size
  size_fetches b = rw (based ∙ b) (size_over_lem all_tags (down_from key t m.updates))

  -- Without one, the size is Uninitialized.
  pub size_unbased : find key 0 m.updates ≡ none → outcome (group_size key t) m ≡ uninitialized
  unfolding outcome work_of perform ruled outcome_of get_group_size uninitialized is_some
  size_unbased e = rw (based, e)

-- ---- finalise

-- Members of one update have distinct tags.
unfoldable pub distinct : List Member → Bool
distinct [] = true
distinct (m ∷ ms) = not (is_some (member_value m.tag ms)) && distinct ms

-- What is committed of a tag after an update: its value, or nothing for a deletion; where the update has no such tag, what was committed before.
unfoldable pub committed_by : Option (List ℕ) → Option (List ℕ) → Option (List ℕ)
committed_by none before = before
committed_by (some v) before = cond (is_deletion v) none (some v)

-- The commit rule of one tag, against what is committed.
unfoldable pub allowed : ℕ → Committed → Member → Bool
allowed key group m = cond (is_some (find key m.tag group)) (not (is_creation m.value)) (is_creation m.value)

pub creation_not_deletion : (v : List ℕ) → is_creation v ≡ true → is_deletion v ≡ false
unfolding is_creation is_deletion
creation_not_deletion v e = rw (eqb-true (write_op_kind v) 0 e)

module _ (key : ℕ) (m : Member) (g : Committed) where
  -- what one tag's rule leaves, where it passes
  unfoldable after_one : Committed
  after_one = cond (is_deletion m.value) (erase key m.tag g) (put key m.tag m.value g)

  commit_one_is : commit_one key m g ≡ cond (allowed key g m) (some after_one) none
  unfolding commit_one commit_over commit_new allowed after_one
  commit_one_is = go (is_some (find key m.tag g)) (is_creation m.value) refl (is_deletion m.value) refl
    where
      go : (a c : Bool) → is_creation m.value ≡ c → (d : Bool) → is_deletion m.value ≡ d →
          cond a (cond d (some (erase key m.tag g)) (cond c none (some (put key m.tag m.value g)))) (cond c (some (put key m.tag m.value g)) none)
          ≡ cond (cond a (not c) c) (some (cond d (erase key m.tag g) (put key m.tag m.value g))) none
      go a true e true f = let z : is_deletion m.value ≡ false = creation_not_deletion m.value e in let y : true ≡ false = sym f ∙ z in cc
      go true true e false f = refl
      go true false e true f = refl
      go true false e false f = refl
      go false true e false f = refl
      go false false e d f = refl

  find_one_same : find key m.tag after_one ≡ cond (is_deletion m.value) none (some m.value)
  unfolding after_one
  find_one_same = go (is_deletion m.value)
    where
      go : (d : Bool) → find key m.tag (cond d (erase key m.tag g) (put key m.tag m.value g)) ≡ cond d none (some m.value)
      go true = find_erase_same key m.tag g
      go false = find_put_same key m.tag m.value g

  find_one_other : (tag : ℕ) → (tag ≡ m.tag → ⊥) → find key tag after_one ≡ find key tag g
  unfolding after_one
  find_one_other tag apart = go (is_deletion m.value)
    where
      go : (d : Bool) → find key tag (cond d (erase key m.tag g) (put key m.tag m.value g)) ≡ find key tag g
      go true = find_erase_other key m.tag key tag (λ a b. apart b) g
      go false = find_put_other key m.tag key tag (λ a b. apart b) m.value g

value_of_head : (m : Member) (ms : List Member) → member_value m.tag (m ∷ ms) ≡ some m.value
unfolding member_value first_tagged
value_of_head m ms = rw (eq-eqb m.tag m.tag refl)

value_of_tail : (tag : ℕ) (m : Member) (ms : List Member) → (tag ≡ m.tag → ⊥) → member_value tag (m ∷ ms) ≡ member_value tag ms
unfolding member_value first_tagged
value_of_tail tag m ms apart = rw (ne_eqb m.tag tag (λ e. apart (sym e)))

not_some : {A : Type 0} (o : Option A) → not (is_some o) ≡ true → o ≡ none
unfolding is_some
not_some none e = refl
not_some (some a) e = absurd (let z : ◌≡◌ {A = ℕ} 0 1 = cc in omega arith)

-- a tag that members do not have is the tag of none of them
not_first : (b : Bool) (v : List ℕ) (rest : Option (List ℕ)) → first_tagged b v rest ≡ none → (b ≡ false) × (rest ≡ none)
unfolding first_tagged
not_first true v rest e = absurd (let z : ◌≡◌ {A = ℕ} 0 1 = cc in omega arith)
not_first false v rest e = (refl, e)

not_tagged : (tag : ℕ) (m : Member) (ms : List Member) → member_value tag (m ∷ ms) ≡ none → (m.tag ≡ tag → ⊥) × (member_value tag ms ≡ none)
unfolding member_value
not_tagged tag m ms e =
    let w = not_first (eqb m.tag tag) m.value (member_value tag ms) e in
    (eqb-false m.tag tag w.0, w.1)

module _ (key : ℕ) where
  -- one tag's rule changes nothing for members that do not have it
  allowed_on : (m : Member) (g : Committed) (ms : List Member) → member_value m.tag ms ≡ none → every (allowed key (after_one key m g)) ms ≡ every (allowed key g) ms
  unfolding every allowed
  allowed_on m g [] e = refl
  allowed_on m g (x ∷ xs) e =
      let w = not_tagged m.tag x xs e in
      rw (find_one_other key m g x.tag w.0, allowed_on m g xs w.1)

  -- An update is committed exactly if each of its tags passes the rule against what was committed before, however many there are.
  pub commit_allowed : (ms : List Member) (g : Committed) → distinct ms ≡ true → is_some (commit key ms g) ≡ every (allowed key g) ms
  unfolding commit commit_rest every is_some distinct
  commit_allowed [] g d = refl
  commit_allowed (m ∷ ms) g d = rw (commit_one_is key m g) (go (allowed key g m) (commit_allowed ms (after_one key m g) (and_right (not (is_some (member_value m.tag ms))) (distinct ms) d)))
    where
      go : (b : Bool) → is_some (commit key ms (after_one key m g)) ≡ every (allowed key (after_one key m g)) ms →
          is_some (commit_rest (cond b (some (after_one key m g)) none) (λ h. commit key ms h)) ≡ (b && every (allowed key g) ms)
      go true ih = ih ∙ allowed_on m g ms (not_some (member_value m.tag ms) (and_left (not (is_some (member_value m.tag ms))) (distinct ms) d))
      go false ih = refl

  -- Each of its tags then has the update's value, or nothing for a deletion; every other tag has what it had.
  pub commit_find : (ms : List Member) (g h : Committed) → distinct ms ≡ true → commit key ms g ≡ some h → (tag : ℕ) → find key tag h ≡ committed_by (member_value tag ms) (find key tag g)
  unfolding commit commit_rest distinct committed_by member_value
  commit_find [] g h d e tag = let z : g ≡ h = cc in rw (← z)
  commit_find (m ∷ ms) g h d e tag =
      go (allowed key g m) (rw (commit_one_is key m g) at e)
      (λ f. commit_find ms (after_one key m g) h (and_right (not (is_some (member_value m.tag ms))) (distinct ms) d) f tag)
    where
      own : committed_by (member_value m.tag ms) (find key m.tag (after_one key m g)) ≡ committed_by (member_value m.tag (m ∷ ms)) (find key m.tag g)
      own =
          rw (value_of_head m ms, not_some (member_value m.tag ms) (and_left (not (is_some (member_value m.tag ms))) (distinct ms) d))
          (find_one_same key m g)

      by : Dec (tag ≡ m.tag) → find key tag h ≡ committed_by (member_value tag ms) (find key tag (after_one key m g)) → find key tag h ≡ committed_by (member_value tag (m ∷ ms)) (find key tag g)
      by (yes p) ih = ih ∙ subst (λ (k : ℕ). committed_by (member_value k ms) (find key k (after_one key m g)) ≡ committed_by (member_value k (m ∷ ms)) (find key k g)) (sym p) own
      by (no p) ih = ih ∙ rw (find_one_other key m g tag p, value_of_tail tag m ms p)

      go : (b : Bool) → commit_rest (cond b (some (after_one key m g)) none) (λ i. commit key ms i) ≡ some h →
          (commit key ms (after_one key m g) ≡ some h → find key tag h ≡ committed_by (member_value tag ms) (find key tag (after_one key m g))) →
          find key tag h ≡ committed_by (member_value tag (m ∷ ms)) (find key tag g)
      go true e ih = by (ℕ_discrete tag m.tag) (ih e)
      go false e ih = absurd (let z : ◌≡◌ {A = ℕ} 0 1 = cc in omega arith)

-- What a finalise leaves of the update u at its key.
pub record Finalized (key : ℕ) (u : Update) (before after : Model) : Type 0 where
  pub entries : after.entries ≡ before.entries
  pub updates : after.updates ≡ before.updates
  -- each tag of the update its value, or nothing for a deletion; each other tag as before
  pub own : (tag : ℕ) → find key tag after.committed ≡ committed_by (member_value tag u.members) (find key tag before.committed)
  -- every other key as before
  pub others : (p : ℕ → Bool) → p key ≡ false → seen_rows (by_key p) after.committed ≡ seen_rows (by_key p) before.committed

module _ (m : Model) (key index : ℕ) (u : Update) (here : find key (suc index) m.updates ≡ some u) (d : distinct u.members ≡ true) where
  -- A finalise changes the committed group by exactly the update.
  pub finalize_allowed : rising m.committed ≡ true → every (allowed key m.committed) u.members ≡ true →
      Finalized key u m (left (finalize key index) m) × (outcome (finalize key index) m ≡ answered (committed_answer key (left (finalize key index) m).committed))
  unfolding left outcome work_of perform ruled left_by outcome_of finalize_group finalized_to with_commits commits edited is_some
  finalize_allowed r a = rw here (go (commit key u.members m.committed) refl)
    where
      group : Option Committed → Model
      group o = left_by m (ruled (with_commits key (suc index) m) (finalized_to key o))

      go : (o : Option Committed) → commit key u.members m.committed ≡ o →
          Finalized key u m (group o) × (outcome_of (ruled (with_commits key (suc index) m) (finalized_to key o)) ≡ answered (committed_answer key (group o).committed))
      go none e = absurd (let z : false ≡ true = ap is_some (sym e) ∙ commit_allowed key u.members m.committed d ∙ a in let y : ◌≡◌ {A = ℕ} 0 1 = cc in omega arith)
      go (some h) e = (record { entries = refl; updates = refl; own = commit_find key u.members m.committed h d e; others = (commit_after key u.members m.committed h r e).others }, refl)

  -- Where one tag fails, the finalise is refused by 11, and nothing is committed.
  pub finalize_refused : every (allowed key m.committed) u.members ≡ false → outcome (finalize key index) m ≡ refused commit_rule
  unfolding outcome work_of perform ruled outcome_of finalize_group finalized_to is_some
  finalize_refused a = rw here (go (commit key u.members m.committed) refl)
    where
      go : (o : Option Committed) → commit key u.members m.committed ≡ o → outcome_of (ruled (with_commits key (suc index) m) (finalized_to key o)) ≡ refused commit_rule
      go none e = refl
      go (some h) e = absurd (let z : true ≡ false = ap is_some (sym e) ∙ commit_allowed key u.members m.committed d ∙ a in let y : ◌≡◌ {A = ℕ} 0 1 = cc in omega arith)
