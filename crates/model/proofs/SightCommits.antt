-- The rules that commit, under a test of keys: each goes by the committed values of its own key, changes those of no other, and leaves them rising.
-- Assumes nothing.
use mathlib.Core.Path.{◌≡◌, refl, ◌∙◌}
use mathlib.Core.Bool.{Bool, true, false, cond}
use mathlib.Core.List.{List, [], ◌∷◌}
use mathlib.Core.Option.{Option, none, some}
use Prim.Native.Nat.{ℕ}
use lib.Dec.{eqb}
use borrow.Author.Tests.{eqb-true}
use Rattle.lists.proofs.Lists.{keep_stronger}
use Rattle.types.specs.Refusal.{base_differs, nothing_to_exchange}
use Rattle.types.specs.Value.{is_creation, is_deletion, is_exchanged}
use Rattle.request.specs.Set.{Member}
use Rattle.model.specs.Rows.{rising, find, put, erase, of_key, leave, set}
use Rattle.model.specs.Data.{Ruling, refuse, accept, done_answer}
use Rattle.model.specs.Group.{Update, Committed, Commits, commits, member_value, is_some, commit_over, commit_new, commit_one, commit_rest, commit, first_base, all_agree, set_raw_base_values, replaced, exchange_raw, exchange_in, update_tagged_base_value, committed_answer, get_last_committed_group, finalized_to, finalize_group}
use Rattle.model.specs.Sight.{is_seen, seen_rows, by_key, seen_commits, Sees, LeftAlone, Leaves}
use Rattle.model.proofs.Rows.{rising_put, rising_erase}
use Rattle.model.proofs.RowSights.{find_seen, seen_put, seen_erase, seen_put_beyond, seen_erase_beyond}
use Rattle.model.proofs.Sight.{Risen}

-- Rising committed values that differ from earlier ones at one key only.
pub record After (k : ℕ) (before after : Committed) : Type 0 where
  pub order : rising after ≡ true
  pub others : (p : ℕ → Bool) → p k ≡ false → seen_rows (by_key p) after ≡ seen_rows (by_key p) before

abbrev pub AfterIn : ℕ → Committed → Option Committed → Type 0
AfterIn k g none = Unit {0}
AfterIn k g (some h) = After k g h

abbrev pub Follows : ℕ → Committed → Ruling Commits → Type 0
Follows k g (refuse n) = Unit {0}
Follows k g (accept answer c) = After k g c.group

-- A rule of a key.
pub record Local (k : ℕ) (rule : Option Update → Committed → Ruling Commits) : Type 0 where
  pub sees : (p : ℕ → Bool) → p k ≡ true → Sees p rule
  pub follows : (own : Option Update) (group : Committed) → rising group ≡ true → Follows k group (rule own group)

module _ (k : ℕ) where
  same : (g : Committed) → rising g ≡ true → After k g g
  same g h = record { order = h; others = λ p e. refl }

  after_put : (g : Committed) → rising g ≡ true → (tag : ℕ) (v : List ℕ) → After k g (put k tag v g)
  after_put g h tag v = record { order = rising_put k tag v g h; others = λ p e. seen_put_beyond (by_key p) k tag v g e h }

  after_erase : (g : Committed) → rising g ≡ true → (tag : ℕ) → After k g (erase k tag g)
  after_erase g h tag = record { order = rising_erase k tag g h; others = λ p e. seen_erase_beyond (by_key p) k tag g e }

  -- ---- the commit rule

  commit_one_after : (m : Member) (g : Committed) → rising g ≡ true → AfterIn k g (commit_one k m g)
  unfolding commit_one commit_over commit_new
  commit_one_after m g h = go (is_some (find k m.tag g)) (is_deletion m.value) (is_creation m.value)
    where
      go : (a b c : Bool) → AfterIn k g (cond a (cond b (some (erase k m.tag g)) (cond c none (some (put k m.tag m.value g)))) (cond c (some (put k m.tag m.value g)) none))
      go true true c = after_erase g h m.tag
      go true false true = tt
      go true false false = after_put g h m.tag m.value
      go false b true = after_put g h m.tag m.value
      go false b false = tt

  commit_in : (ms : List Member) (g : Committed) → rising g ≡ true → AfterIn k g (commit k ms g)
  unfolding commit commit_rest
  commit_in [] g h = same g h
  commit_in (m ∷ ms) g h = go (commit_one k m g) (commit_one_after m g h) (λ i r. commit_in ms i r)
    where
      on : (i : Committed) → After k g i → (o : Option Committed) → AfterIn k i o → AfterIn k g o
      on i a none b = tt
      on i a (some j) b = record { order = b.order; others = λ p e. b.others p e ∙ a.others p e }

      go : (o : Option Committed) → AfterIn k g o → ((i : Committed) → rising i ≡ true → AfterIn k i (commit k ms i)) → AfterIn k g (commit_rest o (λ i. commit k ms i))
      go none a ih = tt
      go (some i) a ih = on i a (commit k ms i) (ih i a.order)

  pub commit_after : (ms : List Member) (g h : Committed) → rising g ≡ true → commit k ms g ≡ some h → After k g h
  commit_after ms g h r e = rw e at (commit_in ms g r)

  -- the same rule on the committed values of some keys, its own among them
  module _ (p : ℕ → Bool) (own : p k ≡ true) where
    seen_option : Option Committed → Option Committed
    seen_option none = none
    seen_option (some g) = some (seen_rows (by_key p) g)

    commit_one_seen : (m : Member) (g : Committed) → commit_one k m (seen_rows (by_key p) g) ≡ seen_option (commit_one k m g)
    unfolding commit_one commit_over commit_new seen_option
    commit_one_seen m g =
        rw (find_seen (by_key p) k m.tag g own, ← (seen_erase (by_key p) k m.tag g), ← (seen_put (by_key p) k m.tag m.value g own))
        (go (is_some (find k m.tag g)) (is_deletion m.value) (is_creation m.value))
      where
        go : (a b c : Bool) →
            cond a (cond b (some (seen_rows (by_key p) (erase k m.tag g))) (cond c none (some (seen_rows (by_key p) (put k m.tag m.value g)))))
            (cond c (some (seen_rows (by_key p) (put k m.tag m.value g))) none)
            ≡ seen_option
            (cond a (cond b (some (erase k m.tag g)) (cond c none (some (put k m.tag m.value g))))
            (cond c (some (put k m.tag m.value g)) none))
        go true true c = refl
        go true false true = refl
        go true false false = refl
        go false b true = refl
        go false b false = refl

    commit_seen : (ms : List Member) (g : Committed) → commit k ms (seen_rows (by_key p) g) ≡ seen_option (commit k ms g)
    unfolding commit seen_option commit_rest
    commit_seen [] g = refl
    commit_seen (m ∷ ms) g = rw (commit_one_seen m g) (go (commit_one k m g) (λ h. commit_seen ms h))
      where
        go : (o : Option Committed) → ((h : Committed) → commit k ms (seen_rows (by_key p) h) ≡ seen_option (commit k ms h)) →
            commit_rest (seen_option o) (λ h. commit k ms h) ≡ seen_option (commit_rest o (λ h. commit k ms h))
        go none ih = refl
        go (some h) ih = ih h

    answer_seen : (g : Committed) → committed_answer k (seen_rows (by_key p) g) ≡ committed_answer k g
    unfolding committed_answer of_key seen_rows is_seen
    answer_seen g =
        let e : of_key k (seen_rows (by_key p) g) ≡ of_key k g = keep_stronger (λ r. eqb r.key k) (is_seen (by_key p)) (λ r f. rw (eqb-true r.key k f) own) g in
        rw e

-- ---- each rule

pub last_local : (k : ℕ) → Local k (λ own group. get_last_committed_group k own group)
unfolding get_last_committed_group Sees seen_commits commits
last_local k = record { sees = λ p h own g. rw (answer_seen k p h g); follows = λ own g r. same k g r }

module _ (k : ℕ) (ms : List Member) where
  first_seen : (p : ℕ → Bool) (h : p k ≡ true) (o : Option Committed) → first_base ms (seen_option k p h o) ≡ seen_commits p (first_base ms o)
  unfolding first_base seen_option seen_commits commits
  first_seen p h none = refl
  first_seen p h (some g) = refl

  first_follows : (g : Committed) (o : Option Committed) → AfterIn k g o → Follows k g (first_base ms o)
  unfolding first_base commits
  first_follows g none a = tt
  first_follows g (some h) a = a

  base_seen : (p : ℕ → Bool) → p k ≡ true → Sees p (λ own group. set_raw_base_values k ms own group)
  unfolding Sees set_raw_base_values seen_commits commits
  base_seen p h none g = rw (commit_seen k p h ms g) (first_seen p h (commit k ms g))
  base_seen p h (some u) g = go (all_agree ms u.members)
    where
      go : (b : Bool) → cond b (accept done_answer (commits leave (seen_rows (by_key p) g))) (refuse base_differs) ≡ seen_commits p (cond b (accept done_answer (commits leave g)) (refuse base_differs))
      go true = refl
      go false = refl

  base_follows : (own : Option Update) (g : Committed) → rising g ≡ true → Follows k g (set_raw_base_values k ms own g)
  unfolding set_raw_base_values commits
  base_follows none g r = first_follows g (commit k ms g) (commit_in k ms g r)
  base_follows (some u) g r = go (all_agree ms u.members)
    where
      go : (b : Bool) → Follows k g (cond b (accept done_answer (commits leave g)) (refuse base_differs))
      go true = same k g r
      go false = tt

  pub base_local : Local k (λ own group. set_raw_base_values k ms own group)
  base_local = record { sees = base_seen; follows = base_follows }

module _ (k tag : ℕ) (v : List ℕ) where
  exchanged : Update → Update
  exchanged u = record { incarnation = u.incarnation; estimate = u.estimate; members = replaced tag v u.members }

  module _ (u : Update) where
    raw_seen : (p : ℕ → Bool) → p k ≡ true → (g : Committed) (o : Option (List ℕ)) → exchange_raw k tag v u (seen_rows (by_key p) g) o ≡ seen_commits p (exchange_raw k tag v u g o)
    unfolding exchange_raw seen_commits commits exchanged
    raw_seen p h g none = refl
    raw_seen p h g (some c) = rw (← (seen_put (by_key p) k tag v g h)) (go (is_exchanged c))
      where
        go : (b : Bool) →
            cond b (refuse nothing_to_exchange) (accept done_answer (commits (set (exchanged u)) (seen_rows (by_key p) (put k tag v g))))
            ≡ seen_commits p (cond b (refuse nothing_to_exchange) (accept done_answer (commits (set (exchanged u)) (put k tag v g))))
        go true = refl
        go false = refl

    raw_follows : (g : Committed) → rising g ≡ true → (o : Option (List ℕ)) → Follows k g (exchange_raw k tag v u g o)
    unfolding exchange_raw commits exchanged
    raw_follows g r none = tt
    raw_follows g r (some c) = go (is_exchanged c)
      where
        go : (b : Bool) → Follows k g (cond b (refuse nothing_to_exchange) (accept done_answer (commits (set (exchanged u)) (put k tag v g))))
        go true = tt
        go false = after_put k g r tag v

    in_seen : (p : ℕ → Bool) → p k ≡ true → (g : Committed) (o : Option (List ℕ)) → exchange_in k tag v u (seen_rows (by_key p) g) o ≡ seen_commits p (exchange_in k tag v u g o)
    unfolding exchange_in seen_commits commits
    in_seen p h g none = refl
    in_seen p h g (some old) = rw (find_seen (by_key p) k tag g h, raw_seen p h g (find k tag g)) (go (is_exchanged old))
      where
        go : (b : Bool) → cond b (accept done_answer (commits leave (seen_rows (by_key p) g))) (seen_commits p (exchange_raw k tag v u g (find k tag g)))
            ≡ seen_commits p (cond b (accept done_answer (commits leave g)) (exchange_raw k tag v u g (find k tag g)))
        go true = refl
        go false = refl

    in_follows : (g : Committed) → rising g ≡ true → (o : Option (List ℕ)) → Follows k g (exchange_in k tag v u g o)
    unfolding exchange_in commits
    in_follows g r none = tt
    in_follows g r (some old) = go (is_exchanged old)
      where
        go : (b : Bool) → Follows k g (cond b (accept done_answer (commits leave g)) (exchange_raw k tag v u g (find k tag g)))
        go true = same k g r
        go false = raw_follows g r (find k tag g)

  exchange_seen : (p : ℕ → Bool) → p k ≡ true → Sees p (λ own group. update_tagged_base_value k tag v own group)
  unfolding Sees update_tagged_base_value seen_commits
  exchange_seen p h none g = refl
  exchange_seen p h (some u) g = in_seen u p h g (member_value tag u.members)

  exchange_follows : (own : Option Update) (g : Committed) → rising g ≡ true → Follows k g (update_tagged_base_value k tag v own g)
  unfolding update_tagged_base_value
  exchange_follows none g r = tt
  exchange_follows (some u) g r = in_follows u g r (member_value tag u.members)

  pub exchange_local : Local k (λ own group. update_tagged_base_value k tag v own group)
  exchange_local = record { sees = exchange_seen; follows = exchange_follows }

module _ (k : ℕ) where
  final_seen : (p : ℕ → Bool) (h : p k ≡ true) (o : Option Committed) → finalized_to k (seen_option k p h o) ≡ seen_commits p (finalized_to k o)
  unfolding finalized_to seen_option seen_commits commits
  final_seen p h none = refl
  final_seen p h (some g) = rw (answer_seen k p h g)

  final_follows : (g : Committed) (o : Option Committed) → AfterIn k g o → Follows k g (finalized_to k o)
  unfolding finalized_to commits
  final_follows g none a = tt
  final_follows g (some h) a = a

  finalize_seen : (p : ℕ → Bool) → p k ≡ true → Sees p (λ own group. finalize_group k own group)
  unfolding Sees finalize_group seen_commits
  finalize_seen p h none g = refl
  finalize_seen p h (some u) g = rw (commit_seen k p h u.members g) (final_seen p h (commit k u.members g))

  finalize_follows : (own : Option Update) (g : Committed) → rising g ≡ true → Follows k g (finalize_group k own g)
  unfolding finalize_group
  finalize_follows none g r = tt
  finalize_follows (some u) g r = final_follows g (commit k u.members g) (commit_in k u.members g r)

  pub finalize_local : Local k (λ own group. finalize_group k own group)
  finalize_local = record { sees = finalize_seen; follows = finalize_follows }

-- ---- what a rule of a key is to a test of keys

module _ (k : ℕ) (rule : Option Update → Committed → Ruling Commits) (l : Local k rule) where
  pub local_leaves : (p : ℕ → Bool) → p k ≡ false → Leaves p rule
  unfolding Leaves
  local_leaves p h own g r = go (rule own g) (l.follows own g r)
    where
      go : (o : Ruling Commits) → Follows k g o → LeftAlone p g o
      go (refuse n) f = tt
      go (accept answer c) f = f.others p h

  pub local_order : (own : Option Update) (g : Committed) → rising g ≡ true → Risen (rule own g)
  local_order own g r = go (rule own g) (l.follows own g r)
    where
      go : (o : Ruling Commits) → Follows k g o → Risen o
      go (refuse n) f = tt
      go (accept answer c) f = f.order
