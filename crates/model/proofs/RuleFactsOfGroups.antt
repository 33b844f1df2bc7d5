-- The facts of each rule of a group request.
-- Assumes nothing.
use mathlib.Core.Path.{◌≡◌, refl}
use mathlib.Core.Bool.{Bool, true, false, cond, not, ◌&&◌}
use mathlib.Core.List.{List, [], ◌∷◌, ◌++◌}
use mathlib.Core.Option.{Option, none, some}
use Prim.Native.Nat.{ℕ, ◌-◌, ◌*◌, ◌<◌}
use native.Mathlib.Omega.{arith}
use lib.Dec.{leb}
use lib.ListN.{length-append}
use borrow.Author.Tests.{leb-true, not-true}
use Rattle.lists.specs.Lists.{every}
use Rattle.lists.proofs.Bools.{and_both, and_left, and_right, and_three}
use Rattle.lists.proofs.Lists.{every_join}
use Rattle.number.specs.Words.{digits}
use Rattle.number.proofs.Digits.{length_digits, words_digits}
use Rattle.types.specs.Refusal.{nothing_there, base_differs, commit_rule, nothing_to_exchange, of_rules}
use Rattle.types.specs.Response.{response, uninitialized_kind, tag_not_found_kind, dependency_kind, size_kind, committed_kind, wrote_outside_kind, most_tags, set_width}
use Rattle.types.specs.Value.{is_exchanged, is_deletion}
use Rattle.request.specs.Set.{Member}
use Rattle.model.specs.Rows.{Row, find, put, of_key, leave, set, clear}
use Rattle.model.specs.Data.{refuse, accept, done_answer, versioned_answer}
use Rattle.model.specs.Group.{Update, Committed, commits, commit, first_base, all_agree, set_raw_base_values, replaced, member_value, exchange_raw, exchange_in, update_tagged_base_value, outside, members_in, write_group, mark_group, remove_group, Latest, latest, has_base, dependency_answer, latest_answer, fetch_tagged_data, Size, counted, waits, size_over, all_tags, size_answer, get_group_size, set_of, values_of, committed_answer, get_last_committed_group, finalized_to, finalize_group}
use Rattle.model.specs.Fine.{is_word, fine_value, fine_members, fine_update, fine_group, fine_latest, fine_size}
use Rattle.model.proofs.FineParts.{word_told, word_tell, words_every}
use Rattle.model.proofs.FineRows.{fine_own, fine_edit}
use Rattle.model.proofs.FineUpdates.{fine_recorded, fine_commits, recorded_tell, base_recorded, with_members_fine, replaced_fine, update_incarnation, update_members}
use Rattle.model.proofs.FineCommitted.{fine_option, commit_fine, put_committed_lem, length_values_of, values_of_words, of_key_fine, length_of_key}
use Rattle.model.proofs.FineGroupReads.{latest_fine, size_over_all_tags_fine}
use Rattle.model.proofs.RuleFacts.{AnswerFacts, Facts, refuse_facts, accept_facts, done_facts, either_facts, response_facts, none_facts, word_facts, done_answer_lem, either_answer, nothing_there_rule, base_differs_rule, commit_rule_rule, nothing_to_exchange_rule}
use Rattle.model.proofs.RuleFactsOfData.{versioned_answer_facts}

-- ---- what is answered

module _ {given : Type 0} where
  dependency_answer_facts : (place : ℕ) → (given → is_word place ≡ true) → AnswerFacts given (dependency_answer place)
  unfolding dependency_answer
  dependency_answer_facts place p =
      word_facts dependency_kind (place - 1) (omega arith) (λ g. word_tell (place - 1) (omega (arith, word_told place (p g))))

  latest_answer_facts : (based : Bool) (o : Option Latest) → (given → fine_latest o ≡ true) → AnswerFacts given (latest_answer based o)
  unfolding latest_answer fine_latest
  latest_answer_facts based none f =
      either_answer based (response tag_not_found_kind []) (response uninitialized_kind []) (none_facts tag_not_found_kind (omega arith)) (none_facts uninitialized_kind (omega arith))
  latest_answer_facts based (some l) f =
      either_answer l.estimate (dependency_answer l.place) (versioned_answer l.place l.incarnation l.value)
      (dependency_answer_facts l.place (λ g. (p g).0))
      (versioned_answer_facts l.place l.incarnation l.value (λ g. (p g).0) (λ g. (p g).1) (λ g. (p g).2))
    where
      p : given → (is_word l.place ≡ true) × (is_word l.incarnation ≡ true) × (fine_value l.value ≡ true)
      p g = and_three (is_word l.place) (is_word l.incarnation) (fine_value l.value) (f g)

  size_answer_facts : (s : Size) → (given → fine_size most_tags s ≡ true) → AnswerFacts given (size_answer s)
  unfolding size_answer fine_size every
  size_answer_facts (counted members sum) f =
      response_facts size_kind (members ∷ sum ∷ []) (omega arith) (λ g. omega arith)
      (λ g.
      and_both (is_word members) (is_word sum && true)
      (word_tell members (omega (arith, leb-true members most_tags (and_left (leb members most_tags) (leb sum (most_tags * 1048577)) (f g)))))
      (and_both (is_word sum) true (word_tell sum (omega (arith, leb-true sum (most_tags * 1048577) (and_right (leb members most_tags) (leb sum (most_tags * 1048577)) (f g))))) refl))
  size_answer_facts (waits place) f = dependency_answer_facts place f

  committed_answer_facts : (key : ℕ) (group : Committed) → (given → fine_group group ≡ true) → AnswerFacts given (committed_answer key group)
  unfolding committed_answer
  committed_answer_facts key group f =
      response_facts committed_kind (digits set_width (set_of rows) ++ values_of rows) (omega arith)
      (λ g.
      omega (
        arith,
        length-append (digits set_width (set_of rows)) (values_of rows),
        length_digits set_width (set_of rows),
        length_values_of rows (of_key_fine key group (f g)),
        length_of_key key group (f g),
      ))
      (λ g.
      every_join is_word (digits set_width (set_of rows)) (values_of rows) (words_every (digits set_width (set_of rows)) (words_digits set_width (set_of rows)))
      (values_of_words rows (of_key_fine key group (f g))))
    where
      rows : Committed
      rows = of_key key group

-- ---- the rules that read

pub fetch_tagged_data_facts : (tag : ℕ) (seen : List (Row Update)) → Facts of_rules (every fine_update seen ≡ true) (λ same. true) (fetch_tagged_data tag seen)
unfolding fetch_tagged_data
fetch_tagged_data_facts tag seen =
    accept_facts (latest_answer (has_base seen) (latest tag seen)) tt (latest_answer_facts (has_base seen) (latest tag seen) (latest_fine tag seen)) (λ g. refl)

pub get_group_size_facts : (seen : List (Row Update)) → Facts of_rules (every fine_update seen ≡ true) (λ same. true) (get_group_size seen)
unfolding get_group_size
get_group_size_facts seen =
    accept_facts (cond (has_base seen) (size_answer (size_over all_tags seen)) (response uninitialized_kind [])) tt
    (either_answer (has_base seen) (size_answer (size_over all_tags seen)) (response uninitialized_kind []) (size_answer_facts (size_over all_tags seen) (size_over_all_tags_fine seen)) (none_facts uninitialized_kind (omega arith)))
    (λ g. refl)

-- ---- the rules of an update

module _ (place : ℕ) (n : 0 < place) where
  pub write_group_facts : (incarnation : ℕ) (ms : List Member) (own : Option Update) → Facts of_rules ((is_word incarnation ≡ true) × (fine_members place ms ≡ true)) (fine_edit fine_recorded place) (write_group incarnation ms own)
  unfolding write_group fine_edit
  write_group_facts incarnation ms own =
      accept_facts (cond (outside ms (members_in own)) (response wrote_outside_kind []) done_answer) (set (record { incarnation = incarnation; estimate = false; members = ms }))
      (either_answer (outside ms (members_in own)) (response wrote_outside_kind []) done_answer (none_facts wrote_outside_kind (omega arith)) done_answer_lem)
      (λ g. recorded_tell place n (record { incarnation = incarnation; estimate = false; members = ms }) g.0 g.1)

  pub mark_group_facts : (own : Option Update) → Facts of_rules (fine_own fine_recorded place own ≡ true) (fine_edit fine_recorded place) (mark_group own)
  unfolding mark_group fine_edit fine_own
  mark_group_facts none = refuse_facts nothing_there nothing_there_rule
  mark_group_facts (some u) =
      done_facts (set marked) (λ f. recorded_tell place n marked (update_incarnation place u f) (update_members place u f))
    where
      marked : Update
      marked = record { incarnation = u.incarnation; estimate = true; members = u.members }

pub remove_group_facts : {given : Type 0} (place : ℕ) (own : Option Update) → Facts of_rules given (fine_edit fine_recorded place) (remove_group own)
unfolding remove_group fine_edit
remove_group_facts place own = done_facts clear (λ g. refl)

-- ---- the rules that may commit

-- committed values as they were, or after a commit
left_group : {given : Type 0} (place : ℕ) (group : Committed) → (given → fine_group group ≡ true) → given → fine_commits place (commits leave group) ≡ true
unfolding fine_commits fine_edit commits
left_group place group f g = f g

first_base_facts : {given : Type 0} (ms : List Member) (o : Option Committed) → (given → fine_members 0 ms ≡ true) → (given → fine_option o ≡ true) → Facts of_rules given (fine_commits 0) (first_base ms o)
unfolding first_base fine_option fine_commits fine_edit commits
first_base_facts ms none f h = refuse_facts commit_rule commit_rule_rule
first_base_facts ms (some c) f h =
    done_facts (commits (set first) c) (λ g. and_both (fine_recorded 0 first) (fine_group c) (base_recorded ms (f g)) (h g))
  where
    first : Update
    first = record { incarnation = 0; estimate = false; members = ms }

pub set_raw_base_values_facts : (key : ℕ) (ms : List Member) (own : Option Update) (group : Committed) → Facts of_rules ((is_word key ≡ true) × (fine_members 0 ms ≡ true) × (fine_group group ≡ true)) (fine_commits 0) (set_raw_base_values key ms own group)
unfolding set_raw_base_values
set_raw_base_values_facts key ms none group =
    first_base_facts ms (commit key ms group) (λ g. g.1) (λ g. commit_fine key 0 g.0 ms group g.2 g.1)
set_raw_base_values_facts key ms (some u) group =
    either_facts (all_agree ms u.members) (accept done_answer (commits leave group)) (refuse base_differs)
    (done_facts (commits leave group) (left_group 0 group (λ g. g.2))) (refuse_facts base_differs base_differs_rule)

-- What an exchange is given.
abbrev pub Exchanged : ℕ → ℕ → List ℕ → Type 0
Exchanged key tag v =
    (is_word key ≡ true) × (leb tag 63 ≡ true) × (fine_value v ≡ true) × (is_exchanged v ≡ true) × (not (is_deletion v) ≡ true)

module _ {given : Type 0} (key tag : ℕ) (v : List ℕ) (x : given → Exchanged key tag v) (u : Update) (h : given → fine_recorded 0 u ≡ true) (group : Committed) (c : given → fine_group group ≡ true) where
  exchange_raw_facts : (o : Option (List ℕ)) → Facts of_rules given (fine_commits 0) (exchange_raw key tag v u group o)
  unfolding exchange_raw fine_commits fine_edit commits
  exchange_raw_facts none = refuse_facts nothing_to_exchange nothing_to_exchange_rule
  exchange_raw_facts (some old) =
      either_facts (is_exchanged old) (refuse nothing_to_exchange) (accept done_answer (commits (set new) (put key tag v group)))
      (refuse_facts nothing_to_exchange nothing_to_exchange_rule)
      (done_facts (commits (set new) (put key tag v group))
      (λ g.
      let y = x g in
      and_both (fine_recorded 0 new) (fine_group (put key tag v group))
      (with_members_fine 0 u (replaced tag v u.members) (h g) (replaced_fine 0 tag v y.2 y.3 u.members (update_members 0 u (h g))))
      (put_committed_lem key tag v group (c g) y.0 y.1 y.2 (not-true (is_deletion v) y.4))))
    where
      new : Update
      new = record { incarnation = u.incarnation; estimate = u.estimate; members = replaced tag v u.members }

  exchange_in_facts : (o : Option (List ℕ)) → Facts of_rules given (fine_commits 0) (exchange_in key tag v u group o)
  unfolding exchange_in
  exchange_in_facts none = refuse_facts nothing_there nothing_there_rule
  exchange_in_facts (some old) =
      either_facts (is_exchanged old) (accept done_answer (commits leave group)) (exchange_raw key tag v u group (find key tag group))
      (done_facts (commits leave group) (left_group 0 group c)) (exchange_raw_facts (find key tag group))

pub update_tagged_base_value_facts : (key tag : ℕ) (v : List ℕ) (own : Option Update) (group : Committed) → Facts of_rules (Exchanged key tag v × (fine_own fine_recorded 0 own ≡ true) × (fine_group group ≡ true)) (fine_commits 0) (update_tagged_base_value key tag v own group)
unfolding update_tagged_base_value fine_own
update_tagged_base_value_facts key tag v none group = refuse_facts nothing_there nothing_there_rule
update_tagged_base_value_facts key tag v (some u) group =
    exchange_in_facts key tag v (λ g. g.0) u (λ g. g.1) group (λ g. g.2) (member_value tag u.members)

pub get_last_committed_group_facts : (key place : ℕ) (own : Option Update) (group : Committed) → Facts of_rules (fine_group group ≡ true) (fine_commits place) (get_last_committed_group key own group)
unfolding get_last_committed_group
get_last_committed_group_facts key place own group =
    accept_facts (committed_answer key group) (commits leave group) (committed_answer_facts key group (λ g. g)) (left_group place group (λ g. g))

finalized_to_facts : {given : Type 0} (key place : ℕ) (o : Option Committed) → (given → fine_option o ≡ true) → Facts of_rules given (fine_commits place) (finalized_to key o)
unfolding finalized_to fine_option
finalized_to_facts key place none h = refuse_facts commit_rule commit_rule_rule
finalized_to_facts key place (some c) h =
    accept_facts (committed_answer key c) (commits leave c) (committed_answer_facts key c h) (left_group place c h)

pub finalize_group_facts : (key place : ℕ) (own : Option Update) (group : Committed) → Facts of_rules ((is_word key ≡ true) × (fine_own fine_recorded place own ≡ true) × (fine_group group ≡ true)) (fine_commits place) (finalize_group key own group)
unfolding finalize_group fine_own
finalize_group_facts key place none group = refuse_facts nothing_there nothing_there_rule
finalize_group_facts key place (some u) group =
    finalized_to_facts key place (commit key u.members group) (λ g. commit_fine key place g.0 u.members group g.2 (update_members place u g.1))
