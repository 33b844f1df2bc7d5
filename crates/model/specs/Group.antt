-- 01, "Group update and committed group (versioned_group_data.rs)": what each request on a group does.
-- Each rule sees the update at its own key and shifted index, the updates that a reader sees, or the committed group, and nothing else.
use Rattle.std.specs.Prelude.{Bool, true, false, cond, not, ◌&&◌, ◌||◌, List, [], ◌∷◌, ◌++◌, ℕ, zero, suc, ◌+◌, ◌-◌, ◌^◌, eqb}
use Rattle.std.proofs.Math.Option.{Option, none, some}
use Rattle.number.specs.Words.{digits}
use Rattle.types.specs.Refusal.{nothing_there, base_differs, commit_rule, nothing_to_exchange}
use Rattle.types.specs.Value.{is_creation, is_deletion, is_exchanged, bytes_len, same_bytes}
use Rattle.types.specs.Response.{response, uninitialized_kind, tag_not_found_kind, dependency_kind, size_kind, committed_kind, wrote_outside_kind, most_tags, set_width}
use Rattle.request.specs.Set.{Member}
use Rattle.model.specs.Rows.{Row, find, put, erase, of_key, Edit, leave, set, clear}
use Rattle.model.specs.Data.{Ruling, refuse, accept, done_answer, versioned_answer}

-- One transaction's values for the tags of a group; at the base, those from storage.
pub record Update : Type 0 where
  pub incarnation : ℕ
  pub estimate : Bool
  pub members : List Member

-- Committed values: a row for each key and tag.
abbrev pub Committed : Type 0
Committed = List (Row (List ℕ))

unfoldable pub first_tagged : Bool → List ℕ → Option (List ℕ) → Option (List ℕ)
first_tagged true v rest = some v
first_tagged false v rest = rest

-- The value of a tag among members.
unfoldable pub member_value : ℕ → List Member → Option (List ℕ)
member_value tag [] = none
member_value tag (m ∷ ms) = first_tagged (eqb m.tag tag) m.value (member_value tag ms)

unfoldable pub is_some : {A : Type 0} → Option A → Bool
is_some none = false
is_some (some a) = true

-- "Commit rule, for each tag: deletion needs a committed value and removes it; modification needs one and replaces it; creation needs none."
unfoldable pub commit_over : ℕ → Member → Committed → Option Committed
commit_over key m group =
    cond (is_deletion m.value) (some (erase key m.tag group))
    (cond (is_creation m.value) none (some (put key m.tag m.value group)))

unfoldable pub commit_new : ℕ → Member → Committed → Option Committed
commit_new key m group = cond (is_creation m.value) (some (put key m.tag m.value group)) none

unfoldable pub commit_one : ℕ → Member → Committed → Option Committed
commit_one key m group = cond (is_some (find key m.tag group)) (commit_over key m group) (commit_new key m group)

unfoldable pub commit_rest : {A B : Type 0} → Option A → (A → Option B) → Option B
commit_rest none f = none
commit_rest (some a) f = f a

-- Every tag passes the rule, or nothing is committed.
unfoldable pub commit : ℕ → List Member → Committed → Option Committed
commit key [] group = some group
commit key (m ∷ ms) group = commit_rest (commit_one key m group) (λ g. commit key ms g)

-- What a rule that may commit gives: an edit of the update at its own place, and the committed values after.
pub record Commits : Type 0 where
  pub edit : Edit Update
  pub group : Committed

unfoldable pub commits : Edit Update → Committed → Commits
commits e g = record { edit = e; group = g }

-- 11: "commit rule"
unfoldable pub first_base : List Member → Option Committed → Ruling Commits
first_base ms none = refuse commit_rule
first_base ms (some g) = accept done_answer (commits (set (record { incarnation = 0; estimate = false; members = ms })) g)

-- "lengths equal as for data where that is still raw"
unfoldable pub agrees : List ℕ → Option (List ℕ) → Bool
agrees new none = false
agrees new (some old) = is_exchanged old || same_bytes new old

unfoldable pub all_agree : List Member → List Member → Bool
all_agree [] recorded = true
all_agree (m ∷ ms) recorded = agrees m.value (member_value m.tag recorded) && all_agree ms recorded

-- "A first `set_raw_base_values` is an update at the base, committed by this rule .. A later one needs every tag in the recorded base, with
-- lengths equal as for data where that is still raw, and changes nothing." 8: "base differs"
unfoldable pub set_raw_base_values : ℕ → List Member → Option Update → Committed → Ruling Commits
set_raw_base_values key ms none group = first_base ms (commit key ms group)
set_raw_base_values key ms (some u) group = cond (all_agree ms u.members) (accept done_answer (commits leave group)) (refuse base_differs)

unfoldable pub replaced : ℕ → List ℕ → List Member → List Member
replaced tag v [] = []
replaced tag v (m ∷ ms) = record { tag = m.tag; value = cond (eqb m.tag tag) v m.value } ∷ replaced tag v ms

-- 12: "kind 9 over a raw base, committed value absent or already exchanged"
unfoldable pub exchange_raw : ℕ → ℕ → List ℕ → Update → Committed → Option (List ℕ) → Ruling Commits
exchange_raw key tag v u group none = refuse nothing_to_exchange
exchange_raw key tag v u group (some c) =
    cond (is_exchanged c) (refuse nothing_to_exchange)
    (accept done_answer
    (commits (set (record { incarnation = u.incarnation; estimate = u.estimate; members = replaced tag v u.members }))
    (put key tag v group)))

-- 6: "nothing there for kinds .. 9": no base, or the tag is not in it
unfoldable pub exchange_in : ℕ → ℕ → List ℕ → Update → Committed → Option (List ℕ) → Ruling Commits
exchange_in key tag v u group none = refuse nothing_there
exchange_in key tag v u group (some old) =
    cond (is_exchanged old) (accept done_answer (commits leave group)) (exchange_raw key tag v u group (find key tag group))

-- `update_tagged_base_value_with_layout`: "base already exchanged, done; else base, update and committed value become exchanged."
unfoldable pub update_tagged_base_value : ℕ → ℕ → List ℕ → Option Update → Committed → Ruling Commits
update_tagged_base_value key tag v none group = refuse nothing_there
update_tagged_base_value key tag v (some u) group = exchange_in key tag v u group (member_value tag u.members)

unfoldable pub members_in : Option Update → List Member
members_in none = []
members_in (some u) = u.members

-- Whether some tag of `ms` is not among `earlier`.
unfoldable pub outside : List Member → List Member → Bool
outside [] earlier = false
outside (m ∷ ms) earlier = not (is_some (member_value m.tag earlier)) || outside ms earlier

-- "`write` removes the index's earlier update, then records; it reports outside if some tag was not in that update. No incarnation rule. An
-- empty set is an update." "0 done; 10 done, wrote outside"
unfoldable pub write_group : ℕ → List Member → Option Update → Ruling (Edit Update)
write_group incarnation ms own =
    accept (cond (outside ms (members_in own)) (response wrote_outside_kind []) done_answer)
    (set (record { incarnation = incarnation; estimate = false; members = ms }))

-- 6: "nothing there for kinds .. 11"
unfoldable pub mark_group : Option Update → Ruling (Edit Update)
mark_group none = refuse nothing_there
mark_group (some u) = accept done_answer (set (record { incarnation = u.incarnation; estimate = true; members = u.members }))

-- "An absent key and an empty key answer alike: group removal is done"
unfoldable pub remove_group : Option Update → Ruling (Edit Update)
remove_group own = accept done_answer clear

-- What stands nearest below a reader for one tag.
pub record Latest : Type 0 where
  pub place : ℕ
  pub incarnation : ℕ
  pub estimate : Bool
  pub value : List ℕ

unfoldable pub nearest : Row Update → Option (List ℕ) → Option Latest → Option Latest
nearest r none rest = rest
nearest r (some v) rest =
    some (record { place = r.place; incarnation = r.held.incarnation; estimate = r.held.estimate; value = v })

-- "greatest lower entry": `seen` has the highest first
unfoldable pub latest : ℕ → List (Row Update) → Option Latest
latest tag [] = none
latest tag (r ∷ rs) = nearest r (member_value tag r.held.members) (latest tag rs)

unfoldable pub has_base : List (Row Update) → Bool
has_base [] = false
has_base (r ∷ rs) = eqb r.place 0 || has_base rs

-- "6 Dependency (index)"
unfoldable pub dependency_answer : ℕ → List ℕ
dependency_answer place = response dependency_kind ((place - 1) ∷ [])

-- "estimate gives Dependency, none gives TagNotFound with a base and Uninitialized without"; "4 Uninitialized; 5 TagNotFound"
unfoldable pub latest_answer : Bool → Option Latest → List ℕ
latest_answer based none = cond based (response tag_not_found_kind []) (response uninitialized_kind [])
latest_answer based (some l) = cond l.estimate (dependency_answer l.place) (versioned_answer l.place l.incarnation l.value)

unfoldable pub fetch_tagged_data : ℕ → List (Row Update) → Ruling Unit
fetch_tagged_data tag seen = accept (latest_answer (has_base seen) (latest tag seen)) tt

-- What a size read finds, tag by tag.
pub data Size : Type 0 where
  counted : (members sum : ℕ) → Size
  waits : (place : ℕ) → Size

unfoldable pub with_bytes : Option ℕ → Size → Size
with_bytes none s = s
with_bytes (some n) (counted members sum) = counted (members + 1) (sum + n + 1)
with_bytes (some n) (waits place) = waits place

unfoldable pub with_latest : Option Latest → Size → Size
with_latest none s = s
with_latest (some l) s = cond l.estimate (waits l.place) (with_bytes (bytes_len l.value) s)

-- "tags in rising order, the first estimate gives Dependency; else the members that have bytes, and the sum of their lengths plus 1 each"
unfoldable pub size_over : List ℕ → List (Row Update) → Size
size_over [] seen = counted 0 0
size_over (t ∷ ts) seen = with_latest (latest t seen) (size_over ts seen)

-- n numbers from the first on
unfoldable pub count : ℕ → ℕ → List ℕ
count zero first = []
count (suc n) first = first ∷ count n (suc first)

-- "A tag is 0 to 63."
unfoldable pub all_tags : List ℕ
all_tags = count most_tags 0

-- "8 size (members, sum, a word each)"
unfoldable pub size_answer : Size → List ℕ
size_answer (counted members sum) = response size_kind (members ∷ sum ∷ [])
size_answer (waits place) = dependency_answer place

-- `get_group_size`: "Uninitialized without base"
unfoldable pub get_group_size : List (Row Update) → Ruling Unit
get_group_size seen = accept (cond (has_base seen) (size_answer (size_over all_tags seen)) (response uninitialized_kind [])) tt

unfoldable pub set_of : Committed → ℕ
set_of [] = 0
set_of (r ∷ rs) = 2 ^ r.place + set_of rs

unfoldable pub values_of : Committed → List ℕ
values_of [] = []
values_of (r ∷ rs) = r.held ++ values_of rs

-- "9 committed (set, values)"; "`get_last_committed_group` is the empty set" for an absent key
unfoldable pub committed_answer : ℕ → Committed → List ℕ
committed_answer key group = response committed_kind (digits set_width (set_of (of_key key group)) ++ values_of (of_key key group))

unfoldable pub get_last_committed_group : ℕ → Option Update → Committed → Ruling Commits
get_last_committed_group key own group = accept (committed_answer key group) (commits leave group)

-- 11: "commit rule"; the answer is the whole committed group after it
unfoldable pub finalized_to : ℕ → Option Committed → Ruling Commits
finalized_to key none = refuse commit_rule
finalized_to key (some g) = accept (committed_answer key g) (commits leave g)

-- `finalize_group`: 6 "nothing there for kinds .. 15". "Estimated or not plays no part."
unfoldable pub finalize_group : ℕ → Option Update → Committed → Ruling Commits
finalize_group key none group = refuse nothing_there
finalize_group key (some u) group = finalized_to key (commit key u.members group)
