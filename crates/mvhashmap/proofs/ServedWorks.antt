-- Each form of work over sound stores, in terms of what the one store's operation leaves of it: the other store stays.
-- Assumes nothing.
use mathlib.Core.Path.{◌≡◌, refl, sym, ap, subst, ◌∙◌}
use mathlib.Core.Bool.{true}
use mathlib.Core.List.{List}
use mathlib.Core.Option.{Option}
use Prim.Native.Nat.{ℕ, zero, suc}
use lib.Dec.{eqb, eqb-suc-zero}
use Rattle.types.specs.Units.{units_in}
use Rattle.request.specs.Request.{request_of}
use Rattle.model.specs.Rows.{Row, find, down_from, Edit, edited}
use Rattle.model.specs.Data.{Entry, Ruling, refuse, accept}
use Rattle.model.specs.Group.{Update, Committed, Commits}
use Rattle.model.specs.Model as Model
use Rattle.model.specs.Model.{Model, data_held, group_held, lack_in, Work, work_of, read_data, edit_data, read_group, edit_group, commit_group, ruled, with_entries, perform, unless_refused, unless_full}
use Rattle.model.proofs.SlotLacks.{lack_in_data, lack_in_group, unless_full_fits}
use Rattle.versioned_data.specs.Layout as Data
use Rattle.versioned_data.specs.Layout.{entries_in, data_valid}
use Rattle.versioned_data.specs.Left as DataLeft
use Rattle.versioned_data.proofs.EntriesHeld as Entries
use Rattle.group_slots.specs.Layout as Group
use Rattle.group_slots.specs.Layout.{Groups, groups_in, group_valid, held_by, with_group_updates}
use Rattle.group_slots.proofs.GroupHolding as Groups
use Rattle.versioned_group_data.specs.Ruled.{editing, committing, with_group_commits, answer_in}
use Rattle.versioned_group_data.specs.Left as GroupLeft
use Rattle.mvhashmap.specs.Call.{Stores, stores, Lent, lent, sound, model_in, fixed_of, known, called_view, refused_by, called_by, Like}
use Rattle.mvhashmap.specs.Answer.{result_by, out_by, Put}
use Rattle.mvhashmap.specs.Served.{served_by, Serves, ServesData, ServesGroup}
use Rattle.mvhashmap.proofs.StoresSound.{sound_both, model_in_fits}
use Rattle.mvhashmap.proofs.AskedData.{Asks}

-- What a caller is told of a ruling, by what lacks for what it leaves.
unfoldable pub told_of : ℕ → List ℕ → Ruling Unit
told_of zero answer = accept answer tt
told_of (suc n) answer = refuse (suc n)

unfoldable pub told : {A : Type 0} → (A → ℕ) → Ruling A → Ruling Unit
told lack (refuse n) = refuse n
told lack (accept answer a) = told_of (lack a) answer

-- ---- a call that changes no word, and one that is accepted

pub like_same : (s : Stores) → Like s s
like_same s = record { data_size = refl; data_past = refl; group_size = refl; group_past = refl }

-- An accepted call's stores: of the same size, sound, and they hold the model.
record Leaves (s : Stores) (m : Model) (after : Stores) : Type 0 where
  valid : sound after ≡ true
  model : model_in after ≡ m
  like : Like s after

-- What a request that 1 to 4 do not refuse comes to over sound stores.
abbrev ruling_on_lem : List ℕ → Stores → Ruling Model
ruling_on_lem t s = unless_full (fixed_of s) (perform (work_of (request_of t)) (model_in s))

module _ (t : List ℕ) (l : Lent) (r : ℕ) (after : Lent) where
  stays : ruling_on_lem t l.stores ≡ refuse r → after ≡ l → Serves t l r after
  unfolding served_by called_by refused_by
  stays h e = subst (λ (x : Lent). Serves t l r x) (sym e) (record { served = rw h refl; refused = λ n. refl; like = like_same l.stores })

  fixed_like : Like l.stores after.stores → fixed_of after.stores ≡ fixed_of l.stores
  unfolding fixed_of
  fixed_like x = λ i. record { data_slots = units_in (x.data_size i); group_slots = units_in (x.group_size i) }

  moves : (answer : List ℕ) (m : Model) → ruling_on_lem t l.stores ≡ accept answer m → r ≡ 0 → after.out ≡ answer_in answer l.out → Leaves l.stores m after.stores →
      Serves t l r after
  unfolding served_by called_by
  moves answer m h z o x =
      record {
        served = rw h (λ i. called_view (z i) (record { stores = known (fixed i) (x.valid i) (x.model i); out = o i }));
        refused = λ n. absurd (n z);
        like = x.like;
      }
    where
      fixed : fixed_of after.stores ≡ fixed_of l.stores
      fixed = fixed_like x.like

module _ (t d g o : List ℕ) where
  abbrev m : Model
  m = model_in (stores d g)

  ruling_is : (w : Work) → work_of (request_of t) ≡ w → ruling_on_lem t (stores d g) ≡ unless_full (fixed_of (stores d g)) (perform w m)
  ruling_is w e = ap (λ (x : Work). unless_full (fixed_of (stores d g)) (perform x m)) e

  module _ (r : ℕ) (after out : List ℕ) where
    -- ---- the group store stays

    module _ (v : group_valid g ≡ true) where
      data_lack : (rows : List (Row Entry)) → lack_in (fixed_of (stores d g)) (with_entries m rows) ≡ Data.lack_in d rows
      unfolding fixed_of with_entries model_in data_held group_held Data.lack_in held_by
      data_lack rows = lack_in_data (fixed_of (stores d g)) (with_entries m rows) (Groups.few_valid g v)

      data_leaves : (rows : List (Row Entry)) → DataLeft.Holds d rows after → Leaves (stores d g) (with_entries m rows) (stores after g)
      unfolding model_in with_entries
      data_leaves rows x =
          record {
            valid = sound_both after g x.valid v;
            model = λ i. record { entries = x.entries i; updates = (groups_in g).updates; committed = (groups_in g).committed };
            like = record { data_size = x.size; data_past = x.past; group_size = refl; group_past = refl };
          }

      -- Entries left by an accepted edit, unless units lack.
      entries_by : (answer : List ℕ) (rows : List (Row Entry)) (n : ℕ) → Data.lack_in d rows ≡ n →
          ruling_on_lem t (stores d g) ≡ unless_full (fixed_of (stores d g)) (accept answer (with_entries m rows)) →
          Put (told_of n answer) o r out → DataLeft.LeftIf (eqb n 0) d rows after → Serves t (lent d g o) r (lent after g out)
      unfolding unless_full unless_refused told_of result_by out_by DataLeft.LeftIf
      entries_by answer rows zero h e p w =
          moves t (lent d g o) r (lent after g out) answer (with_entries m rows) (e ∙ rw (data_lack rows, h) refl) p.result p.words (data_leaves rows w)
      entries_by answer rows (suc n) h e p w =
          stays t (lent d g o) r (lent after g out) (e ∙ rw (data_lack rows, h) (ap (λ (k : ℕ). refuse k) (sym p.result)))
          (λ i. lent ((rw (eqb-suc-zero n) at w) i) g (p.words i))

      edited_by : (key place : ℕ) (R : Ruling (Edit Entry)) →
          ruling_on_lem t (stores d g) ≡ unless_full (fixed_of (stores d g)) (ruled (λ e. with_entries m (edited key place e (entries_in d))) R) →
          Put (told (λ e. Data.lack_in d (edited key place e (entries_in d))) R) o r out → DataLeft.LeftBy d key place R after →
          Serves t (lent d g o) r (lent after g out)
      unfolding told ruled DataLeft.LeftBy Data.fits_in result_by out_by unless_full
      edited_by key place (refuse n) e p w =
          stays t (lent d g o) r (lent after g out) (e ∙ ap (λ (k : ℕ). refuse k) (sym p.result)) (λ i. lent (w i) g (p.words i))
      edited_by key place (accept answer x) e p w = entries_by answer (edited key place x (entries_in d)) _ refl e p w

    -- ---- the data store stays

    module _ (v : data_valid d ≡ true) where
      unfoldable with_groups : Groups → Model
      with_groups x = record { entries = m.entries; updates = x.updates; committed = x.committed }

      group_lack : (x : Groups) → lack_in (fixed_of (stores d g)) (with_groups x) ≡ Group.lack_in g x
      unfolding fixed_of with_groups model_in data_held group_held Group.lack_in held_by
      group_lack x = lack_in_group (fixed_of (stores d g)) (with_groups x) (Entries.few_valid d v)

      group_leaves : (x : Groups) → GroupLeft.Holds g x after → Leaves (stores d g) (with_groups x) (stores d after)
      unfolding model_in with_groups
      group_leaves x y =
          record {
            valid = sound_both d after v y.valid;
            model = λ i. record { entries = entries_in d; updates = (y.groups i).updates; committed = (y.groups i).committed };
            like = record { data_size = refl; data_past = refl; group_size = y.size; group_past = y.past };
          }

      groups_by : (answer : List ℕ) (x : Groups) (n : ℕ) → Group.lack_in g x ≡ n →
          ruling_on_lem t (stores d g) ≡ unless_full (fixed_of (stores d g)) (accept answer (with_groups x)) →
          Put (told_of n answer) o r out → GroupLeft.LeftIf (eqb n 0) g x after → Serves t (lent d g o) r (lent d after out)
      unfolding unless_full unless_refused told_of result_by out_by GroupLeft.LeftIf
      groups_by answer x zero h e p w =
          moves t (lent d g o) r (lent d after out) answer (with_groups x) (e ∙ rw (group_lack x, h) refl) p.result p.words (group_leaves x w)
      groups_by answer x (suc n) h e p w =
          stays t (lent d g o) r (lent d after out) (e ∙ rw (group_lack x, h) (ap (λ (k : ℕ). refuse k) (sym p.result)))
          (λ i. lent d ((rw (eqb-suc-zero n) at w) i) (p.words i))

      ruled_by : (R : Ruling Groups) →
          ruling_on_lem t (stores d g) ≡ unless_full (fixed_of (stores d g)) (ruled with_groups R) →
          Put (told (Group.lack_in g) R) o r out → GroupLeft.LeftBy g R after → Serves t (lent d g o) r (lent d after out)
      unfolding told ruled GroupLeft.LeftBy Group.fits_in result_by out_by unless_full
      ruled_by (refuse n) e p w =
          stays t (lent d g o) r (lent d after out) (e ∙ ap (λ (k : ℕ). refuse k) (sym p.result)) (λ i. lent d (w i) (p.words i))
      ruled_by (accept answer x) e p w = groups_by answer x _ refl e p w

  -- ---- both stay

  module _ (v : data_valid d ≡ true) (w : group_valid g ≡ true) where
    both : sound (stores d g) ≡ true
    both = sound_both d g v w

    read_by : (S : Ruling Unit) (r : ℕ) (out : List ℕ) →
        ruling_on_lem t (stores d g) ≡ unless_full (fixed_of (stores d g)) (ruled (λ same. m) S) → Put S o r out →
        Serves t (lent d g o) r (lent d g out)
    unfolding ruled unless_full result_by out_by
    read_by (refuse n) r out e p =
        stays t (lent d g o) r (lent d g out) (e ∙ ap (λ (k : ℕ). refuse k) (sym p.result)) (λ i. lent d g (p.words i))
    read_by (accept answer same) r out e p =
        moves t (lent d g o) r (lent d g out) answer m (e ∙ unless_full_fits (fixed_of (stores d g)) m answer (model_in_fits (stores d g) both)) p.result p.words
        (record { valid = both; model = refl; like = like_same (stores d g) })

-- ---- each form of work

-- A ruling carried in two steps.
ruled_twice : {A B C : Type 0} (f : B → C) (h : A → B) (R : Ruling A) → ruled (λ a. f (h a)) R ≡ ruled f (ruled h R)
unfolding ruled
ruled_twice f h (refuse n) = refl
ruled_twice f h (accept answer a) = refl

module _ (t o : List ℕ) (r : ℕ) (out : List ℕ) where
  pub edits_data : (d : List ℕ) (key place reach : ℕ) (rule : Option Entry → List (Row Entry) → Ruling (Edit Entry)) (after : List ℕ) →
      Asks t (edit_data key place reach rule) →
      Put (told (λ e. Data.lack_in d (edited key place e (entries_in d))) (rule (find key place (entries_in d)) (down_from key reach (entries_in d)))) o r out →
      DataLeft.LeftBy d key place (rule (find key place (entries_in d)) (down_from key reach (entries_in d))) after →
      ServesData t d o r after out
  unfolding perform model_in
  edits_data d key place reach rule after a p w =
      record { served = λ g v. edited_by t d g o r after out v key place _ (ruling_is t d g o (edit_data key place reach rule) a.work) p w }

  pub reads_data : (d : List ℕ) → data_valid d ≡ true → (key reach : ℕ) (rule : List (Row Entry) → Ruling Unit) →
      Asks t (read_data key reach rule) → Put (rule (down_from key reach (entries_in d))) o r out → ServesData t d o r d out
  unfolding perform model_in
  reads_data d v key reach rule a p =
      record { served = λ g w. read_by t d g o v w _ r out (ruling_is t d g o (read_data key reach rule) a.work) p }

  pub reads_group : (g : List ℕ) → group_valid g ≡ true → (key reach : ℕ) (rule : List (Row Update) → Ruling Unit) →
      Asks t (read_group key reach rule) → Put (rule (down_from key reach (groups_in g).updates)) o r out → ServesGroup t g o r g out
  unfolding perform model_in
  reads_group g w key reach rule a p =
      record { served = λ d v. read_by t d g o v w _ r out (ruling_is t d g o (read_group key reach rule) a.work) p }

  pub edits_group : (g : List ℕ) (key place : ℕ) (rule : Option Update → Ruling (Edit Update)) (after : List ℕ) →
      Asks t (edit_group key place rule) → Put (told (Group.lack_in g) (editing (groups_in g) key place rule)) o r out →
      GroupLeft.LeftBy g (editing (groups_in g) key place rule) after → ServesGroup t g o r after out
  unfolding perform model_in editing with_group_updates Model.with_updates with_groups
  edits_group g key place rule after a p w =
      record {
        served =
            λ d v.
            ruled_by t d g o r after out v (editing (groups_in g) key place rule)
            (ruling_is t d g o (edit_group key place rule) a.work
            ∙ ap (λ (R : Ruling Model). unless_full (fixed_of (stores d g)) R) (ruled_twice _ _ _))
            p w;
      }

  pub commits_group : (g : List ℕ) (key place : ℕ) (rule : Option Update → Committed → Ruling Commits) (after : List ℕ) →
      Asks t (commit_group key place rule) → Put (told (Group.lack_in g) (committing (groups_in g) key place rule)) o r out →
      GroupLeft.LeftBy g (committing (groups_in g) key place rule) after → ServesGroup t g o r after out
  unfolding perform model_in committing with_group_commits Model.with_commits with_groups
  commits_group g key place rule after a p w =
      record {
        served =
            λ d v.
            ruled_by t d g o r after out v (committing (groups_in g) key place rule)
            (ruling_is t d g o (commit_group key place rule) a.work
            ∙ ap (λ (R : Ruling Model). unless_full (fixed_of (stores d g)) R) (ruled_twice _ _ _))
            p w;
      }
