-- 01: "Ticket head: bits 28-31 kind, bits 0-27 count of words after it"; "Answer head, same shape". The kinds of answers, and the longest.
use Rattle.std.specs.Prelude.{List, ◌∷◌, ℕ, ◌+◌, ◌*◌, ◌/◌, ◌%◌, ◌^◌, length}
use Rattle.types.specs.Value.{value_width}
use Rattle.types.specs.declared.response.AnswerKind.{AnswerKind}
use Rattle.types.specs.declared.response.AnswerKind.TheVariants.{Done, Versioned, Resolved, Unresolved, Uninitialized, TagNotFound, Dependency, DeltaApplicationFailure, Size, Committed, WroteOutside, VersionedAtBase}

-- A head, and what it says.
abbrev pub head_of : ℕ → ℕ → ℕ
head_of kind count = kind * 2 ^ 28 + count

abbrev pub kind_in : ℕ → ℕ
kind_in head = head / 2 ^ 28

abbrev pub count_in : ℕ → ℕ
count_in head = head % 2 ^ 28

unfoldable pub response : ℕ → List ℕ → List ℕ
response kind words = head_of kind (length words) ∷ words

-- "0 done; 10 done, wrote outside; 1 Versioned (index, incarnation, value); 11 Versioned at the base (value); 2 Resolved (number); 3 Unresolved
-- (delta); 4 Uninitialized; 5 TagNotFound; 6 Dependency (index); 7 DeltaApplicationFailure; 8 size (members, sum, a word each); 9 committed (set,
-- values)"
abbrev pub done_kind : ℕ
done_kind = 0

abbrev pub versioned_kind : ℕ
versioned_kind = 1

abbrev pub resolved_kind : ℕ
resolved_kind = 2

abbrev pub unresolved_kind : ℕ
unresolved_kind = 3

abbrev pub uninitialized_kind : ℕ
uninitialized_kind = 4

abbrev pub tag_not_found_kind : ℕ
tag_not_found_kind = 5

abbrev pub dependency_kind : ℕ
dependency_kind = 6

abbrev pub application_failure_kind : ℕ
application_failure_kind = 7

abbrev pub size_kind : ℕ
size_kind = 8

abbrev pub committed_kind : ℕ
committed_kind = 9

abbrev pub wrote_outside_kind : ℕ
wrote_outside_kind = 10

abbrev pub versioned_at_base_kind : ℕ
versioned_at_base_kind = 11

-- The number of each kind of answer of the code.
abbrev pub answer_number : AnswerKind → ℕ
answer_number Done = done_kind
answer_number Versioned = versioned_kind
answer_number Resolved = resolved_kind
answer_number Unresolved = unresolved_kind
answer_number Uninitialized = uninitialized_kind
answer_number TagNotFound = tag_not_found_kind
answer_number Dependency = dependency_kind
answer_number DeltaApplicationFailure = application_failure_kind
answer_number Size = size_kind
answer_number Committed = committed_kind
answer_number WroteOutside = wrote_outside_kind
answer_number VersionedAtBase = versioned_at_base_kind

-- "A tag is 0 to 63. A set is two words"
abbrev pub most_tags : ℕ
most_tags = 64

abbrev pub set_width : ℕ
set_width = 2

-- The longest answer is a committed group of all tags: head, set and values. An answer slice of fewer words is refused by 1.
abbrev pub answer_width : ℕ
answer_width = 1 + (set_width + most_tags * value_width)
