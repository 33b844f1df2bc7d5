-- 01, "Ticket and answer": the sixteen kinds of request (01: ticket), one row each, in the order of their numbers.
use Rattle.std.specs.Prelude.{List, [], ◌∷◌, ℕ, ◌+◌, ◌*◌, get_or}
use Rattle.std.proofs.Math.Option.{Option, none, some}
use Rattle.types.specs.Value.{value_width}
use Rattle.types.specs.Response.{most_tags}
pub use Rattle.request.specs.declared.kind.Kind.{Kind}
pub use Rattle.request.specs.declared.kind.Kind.TheVariants.{LastCommitted, Base, Write, AddDelta, Estimate, Remove, Fetch, Materialize, GroupBase, Exchange, GroupWrite, GroupEstimate, GroupRemove, GroupFetch, GroupSize, Finalize}

-- What a request asks for: the kinds of the code, and their numbers.
abbrev pub number_of : Kind → ℕ
number_of LastCommitted = 0
number_of Base = 1
number_of Write = 2
number_of AddDelta = 3
number_of Estimate = 4
number_of Remove = 5
number_of Fetch = 6
number_of Materialize = 7
number_of GroupBase = 8
number_of Exchange = 9
number_of GroupWrite = 10
number_of GroupEstimate = 11
number_of GroupRemove = 12
number_of GroupFetch = 13
number_of GroupSize = 14
number_of Finalize = 15

-- What the index field of a kind is for: to edit what stands at the index, to read below it, to materialise it or to finalise it.
pub data Purpose : Type 0 where
  Edits Reads Materializes Finalizes : Purpose

-- The index field of a kind: the place of its word, the head being word 0, and its purpose.
pub record IndexField : Type 0 where
  pub place : ℕ
  pub purpose : Purpose

-- How the words of a kind go on after the fixed ones.
pub data Tail : Type 0 where
  -- not at all
  alone : Tail
  -- `each` words for each tag of the set, which is the last two of the fixed words
  by_set : (each : ℕ) → Tail
  -- `each` words as often as the field at `place` says, which is at most `most` times
  by_count : (place most each : ℕ) → Tail
  -- no request is of this kind, whatever its words
  absent : Tail

pub record Row : Type 0 where
  pub kind : Kind
  -- words after the head, the tail left out
  pub fixed : ℕ
  pub tail : Tail
  -- where the value, the first of the values or the delta begins; 0, the head's place, for a kind that has none
  pub value : ℕ
  pub index : Option IndexField

unfoldable pub row : Kind → ℕ → Tail → ℕ → Option IndexField → Row
row kind fixed tail value index = record { kind = kind; fixed = fixed; tail = tail; value = value; index = index }

unfoldable pub at : ℕ → Purpose → Option IndexField
at place purpose = some (record { place = place; purpose = purpose })

-- The places of the fields that are single words, in the kinds that have them. The index of kind 13 stands after its tag.
abbrev pub key_place : ℕ
key_place = 1

abbrev pub index_place : ℕ
index_place = 2

abbrev pub tag_place : ℕ
tag_place = 2

abbrev pub tagged_index_place : ℕ
tagged_index_place = 3

abbrev pub incarnation_place : ℕ
incarnation_place = 3

unfoldable pub table : List Row
table =
    row LastCommitted 1 alone 0 none
    ∷ row Base (1 + value_width) alone 2 none
    ∷ row Write (3 + value_width) alone 4 (at index_place Edits)
    ∷ row AddDelta 19 alone 3 (at index_place Edits)
    ∷ row Estimate 2 alone 0 (at index_place Edits)
    ∷ row Remove 2 alone 0 (at index_place Edits)
    ∷ row Fetch 2 alone 0 (at index_place Reads)
    ∷ row Materialize 2 alone 0 (at index_place Materializes)
    ∷ row GroupBase 3 (by_set value_width) 4 none
    ∷ row Exchange (2 + value_width) alone 3 none
    ∷ row GroupWrite 5 (by_set value_width) 6 (at index_place Edits)
    ∷ row GroupEstimate 2 alone 0 (at index_place Edits)
    ∷ row GroupRemove 2 alone 0 (at index_place Edits)
    ∷ row GroupFetch 3 alone 0 (at tagged_index_place Reads)
    ∷ row GroupSize 2 alone 0 (at index_place Reads)
    ∷ row Finalize 2 alone 0 (at index_place Finalizes)
    ∷ []

-- The row of a number that four bits do not hold.
unfoldable pub no_row : Row
no_row = row LastCommitted 1 absent 0 none

-- The row of a kind's number, which four bits hold.
unfoldable pub row_of : ℕ → Row
row_of n = get_or table n no_row

-- The kind of a number.
unfoldable pub kind_of : ℕ → Kind
kind_of n = (row_of n).kind

-- The words of the longest tail.
unfoldable pub longest_tail : Tail → ℕ
longest_tail alone = 0
longest_tail (by_set each) = each * most_tags
longest_tail (by_count place most each) = each * most
longest_tail absent = 0

unfoldable pub longest_of : Row → ℕ
longest_of r = r.fixed + longest_tail r.tail

-- "A head counting over 453 words": the largest count of the table is a group write's of all tags (proofs/TableRule, `longest_count_lem`).
abbrev pub longest_count : ℕ
longest_count = 5 + value_width * most_tags
