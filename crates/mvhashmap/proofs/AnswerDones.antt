-- The rules that answer done or refuse, and the number that tells as much.
-- Assumes nothing.
use mathlib.Core.Path.{◌≡◌, refl, sym, ap, ◌∙◌}
use mathlib.Core.Bool.{Bool, true, false, cond}
use mathlib.Core.List.{List}
use mathlib.Core.Option.{Option, none, some}
use Prim.Native.Nat.{ℕ, zero, suc}
use native.Mathlib.Omega.{arith}
use borrow.Author.Tests.{ne_eqb}
use lib.Dec.{eqb-suc-zero}
use Rattle.number.proofs.Halves.{value_of_number_of}
use Rattle.number.specs.Words.{digits}
use Rattle.delta.specs.Delta.{Delta, delta_words}
use Rattle.delta.proofs.RecordLaws.{exact_op_of}
use Rattle.types.specs.Refusal.{incarnation_not_higher, base_differs, nothing_to_exchange}
use Rattle.types.specs.Value.{is_exchanged, same_bytes}
use Rattle.types.specs.Response.{response, resolved_kind, unresolved_kind}
use Rattle.request.specs.Set.{Member}
use Rattle.model.specs.Rows.{find, Edit, leave, edited}
use Rattle.model.specs.Data.{Cell, write, delta, Entry, Ruling, refuse, accept, done_answer, Read, versioned, resolved, unresolved, uninitialized, dependency, application_failure, refusal, unless_differs, same_exchanged, base_over, base_onto, set_base_value, may_write, write_value, add_delta, mark_estimate, remove, record_shortcut, materialized}
use Rattle.model.specs.Group.{Update, Committed, Commits, commits, commit, first_base, all_agree, set_raw_base_values, member_value, exchange_raw, exchange_in, update_tagged_base_value, mark_group, remove_group}
use Rattle.model.specs.Model.{ruled}
use Rattle.versioned_data.specs.Layout as Data
use Rattle.versioned_data.specs.Layout.{entries_in, data_valid}
use Rattle.versioned_data.specs.Materialize.{materialized_read, materialized_of}
use Rattle.versioned_data.proofs.EntryLacks.{lack_leave, lack_present}
use Rattle.group_slots.specs.Layout as Group
use Rattle.group_slots.specs.Layout.{Groups}
use Rattle.versioned_group_data.specs.Ruled as Ruled
use Rattle.mvhashmap.specs.Answer.{done_ruling, respond, materialized_ruling, result_by, Put}
use Rattle.mvhashmap.proofs.ServedWorks.{told_of, told}

abbrev pub IsDone : {A : Type 0} → Ruling A → Type 0
IsDone (refuse n) = n ≡ 0 → ⊥
IsDone (accept answer a) = answer ≡ done_answer

module _ {A : Type 0} (n : ℕ) (k : n ≡ 0 → ⊥) where
  by_test : (b : Bool) (a : A) → IsDone (cond b (accept done_answer a) (refuse n))
  by_test true a = refl
  by_test false a = k

-- ---- the rules of the data store

differs_done : (b : Bool) → IsDone (unless_differs b)
unfolding unless_differs
differs_done true = refl
differs_done false = λ e. omega arith

pub set_base_value_done : (new : List ℕ) (own : Option Entry) → IsDone (set_base_value new own)
unfolding set_base_value base_onto base_over
set_base_value_done new none = refl
set_base_value_done new (some e) = go e.cell
  where
    over : (old : List ℕ) (x y : Bool) (a : Edit Entry) → IsDone (cond x (cond y (unless_differs (same_exchanged new old)) (accept done_answer a)) (cond y (accept done_answer leave) (unless_differs (same_bytes new old))))
    over old true true a = differs_done (same_exchanged new old)
    over old true false a = refl
    over old false true a = refl
    over old false false a = differs_done (same_bytes new old)

    go : (c : Cell) → IsDone (base_onto new c)
    go (write incarnation old) = over old (is_exchanged new) (is_exchanged old) _
    go (delta d shortcut) = refl

pub write_value_done : (incarnation : ℕ) (v : List ℕ) (own : Option Entry) → IsDone (write_value incarnation v own)
unfolding write_value
write_value_done incarnation v own = by_test incarnation_not_higher (λ e. omega arith) (may_write incarnation own) _

pub add_delta_done : (d : Delta) (own : Option Entry) → IsDone (add_delta d own)
unfolding add_delta
add_delta_done d own = refl

pub mark_estimate_done : (own : Option Entry) → IsDone (mark_estimate own)
unfolding mark_estimate
mark_estimate_done none = λ e. omega arith
mark_estimate_done (some e) = refl

pub remove_done : (own : Option Entry) → IsDone (remove own)
unfolding remove
remove_done none = λ e. omega arith
remove_done (some e) = refl

-- ---- the rules of the group store

pub set_raw_base_values_done : (key : ℕ) (ms : List Member) (own : Option Update) (group : Committed) → IsDone (set_raw_base_values key ms own group)
unfolding set_raw_base_values first_base
set_raw_base_values_done key ms none group = go (commit key ms group)
  where
    go : (o : Option Committed) → IsDone (first_base ms o)
    go none = λ e. omega arith
    go (some g) = refl
set_raw_base_values_done key ms (some u) group = by_test base_differs (λ e. omega arith) (all_agree ms u.members) _

pub update_tagged_base_value_done : (key tag : ℕ) (v : List ℕ) (own : Option Update) (group : Committed) → IsDone (update_tagged_base_value key tag v own group)
unfolding update_tagged_base_value exchange_in exchange_raw
update_tagged_base_value_done key tag v none group = λ e. omega arith
update_tagged_base_value_done key tag v (some u) group = go (member_value tag u.members)
  where
    from_raw : (b : Bool) (c : Commits) → IsDone (cond b (refuse nothing_to_exchange) (accept done_answer c))
    from_raw true c = λ e. omega arith
    from_raw false c = refl

    by_committed : (o : Option (List ℕ)) → IsDone (exchange_raw key tag v u group o)
    by_committed none = λ e. omega arith
    by_committed (some c) = from_raw (is_exchanged c) _

    by_base : (b : Bool) → IsDone (cond b (accept done_answer (commits leave group)) (exchange_raw key tag v u group (find key tag group)))
    by_base true = refl
    by_base false = by_committed (find key tag group)

    go : (o : Option (List ℕ)) → IsDone (exchange_in key tag v u group o)
    go none = λ e. omega arith
    go (some old) = by_base (is_exchanged old)

pub mark_group_done : (own : Option Update) → IsDone (mark_group own)
unfolding mark_group
mark_group_done none = λ e. omega arith
mark_group_done (some u) = refl

pub remove_group_done : (own : Option Update) → IsDone (remove_group own)
unfolding remove_group
remove_group_done own = refl

pub ruled_done : {A B : Type 0} (f : A → B) (R : Ruling A) → IsDone R → IsDone (ruled f R)
unfolding ruled
ruled_done f (refuse n) h = h
ruled_done f (accept answer a) h = h

-- ---- the number

module _ {A : Type 0} (lack : A → ℕ) where
  done_ruling_told : (R : Ruling A) → IsDone R → done_ruling (result_by (told lack R)) ≡ told lack R
  unfolding done_ruling told told_of result_by
  done_ruling_told (refuse n) h = rw (ne_eqb n 0 h) refl
  done_ruling_told (accept answer a) h = go (lack a)
    where
      go : (n : ℕ) → done_ruling (result_by (told_of n answer)) ≡ told_of n answer
      go zero = ap (λ (w : List ℕ). accept w tt) (sym h)
      go (suc n) = rw (eqb-suc-zero n) refl

  -- An operation's number, put into the answer slice, is what its rule tells.
  pub done_told : (R : Ruling A) (n : ℕ) (o out : List ℕ) (r : ℕ) → IsDone R → n ≡ result_by (told lack R) → Put (done_ruling n) o r out → Put (told lack R) o r out
  done_told R n o out r h e p = rw (ap done_ruling e ∙ done_ruling_told R h) at p

lack_result : (answer : List ℕ) (n : ℕ) → n ≡ result_by (told_of n answer)
unfolding told_of result_by
lack_result answer zero = refl
lack_result answer (suc n) = refl

pub data_number : (d : List ℕ) (key place : ℕ) (R : Ruling (Edit Entry)) → Data.result_of d key place R ≡ result_by (told (λ e. Data.lack_in d (edited key place e (entries_in d))) R)
unfolding Data.result_of told result_by
data_number d key place (refuse n) = refl
data_number d key place (accept answer e) = lack_result answer (Data.lack_in d (edited key place e (entries_in d)))

pub group_number : (g : List ℕ) (R : Ruling Groups) → Ruled.result_of g R ≡ result_by (told (Group.lack_in g) R)
unfolding Ruled.result_of told result_by
group_number g (refuse n) = refl
group_number g (accept answer x) = lack_result answer (Group.lack_in g x)

-- ---- materialising, which takes no slot

module _ (d : List ℕ) (v : data_valid d ≡ true) (key place : ℕ) where
  abbrev lack : Edit Entry → ℕ
  lack e = Data.lack_in d (edited key place e (entries_in d))

  fitting : (answer : List ℕ) (e : Edit Entry) → lack e ≡ 0 → accept answer tt ≡ told lack (accept answer e)
  unfolding told told_of
  fitting answer e h = rw h refl

  pub materialized_told : (read : Read) (own : Option Entry) → find key place (entries_in d) ≡ own →
      materialized_ruling (materialized_of (materialized own read) read) ≡ told lack (materialized own read)
  unfolding materialized materialized_of materialized_read materialized_ruling respond record_shortcut told
  materialized_told (versioned at incarnation w) own e = refl
  materialized_told (resolved n) none e = refl
  materialized_told (resolved n) (some b) e =
      ap (λ (k : ℕ). accept (response resolved_kind (digits 4 k)) tt) (value_of_number_of n) ∙ fitting _ _ (lack_present d v key place b e _)
  materialized_told (unresolved x) own e =
      ap (λ (y : Delta). accept (response unresolved_kind (delta_words y)) tt) (exact_op_of x) ∙ fitting _ leave (lack_leave d v key place)
  materialized_told uninitialized own e = refl
  materialized_told (dependency index) own e = refl
  materialized_told application_failure own e = refl
  materialized_told (refusal n) own e = refl
