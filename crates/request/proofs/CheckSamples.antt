-- Requests of 01 and what the definitions make of them, computed.
use mathlib.Core.Path.{◌≡◌, refl}
use mathlib.Core.List.{List, [], ◌∷◌, map}
use Prim.Native.Nat.{ℕ}
use Rattle.number.specs.Words.{value_of_words}
use Rattle.types.specs.Value.{value_at, write_op_kind, is_deletion, is_exchanged, byte_length, layout_of, number_words, has_number, number_in, value_ok}
use Rattle.types.specs.Response.{head_of}
use Rattle.types.specs.Refusal.{wrong_count, bad_field, index_too_high}
use Rattle.request.specs.Table.{at, row, table, no_row, row_of}
use Rattle.request.specs.Set.{tags_from, tags_of, members_of}
use Rattle.request.specs.Request.{row_at, count_of, tags_at, tags_by, tags, tail_length, tail_ok, count_ok, value_in, members, shape_ok, exchanged_ok, raw_ok, tag_ok, all, fields_ok, last_index, index_in, index_ok, refusal_of}

-- the input of 01's history program
history : List (List ℕ)
history =
    (head_of 6 2 ∷ 7 ∷ 0 ∷ [])
    ∷ (head_of 4 2 ∷ 7 ∷ 0 ∷ [])
    ∷ (head_of 2 10 ∷ 7 ∷ 0 ∷ 0 ∷ 536870928 ∷ 0 ∷ 5 ∷ 100 ∷ 0 ∷ 0 ∷ 0 ∷ [])
    ∷ (head_of 6 2 ∷ 7 ∷ 1 ∷ [])
    ∷ (head_of 12 2 ∷ 9 ∷ 4294967295 ∷ [])
    ∷ []

history_refusals : map refusal_of history ≡ 0 ∷ 0 ∷ 0 ∷ 0 ∷ index_too_high ∷ []
unfolding history refusal_of shape_ok row_at count_of tags tags_by tail_length tail_ok count_ok value_in fields_ok index_ok index_in last_index row_of table no_row row at exchanged_ok value_ok value_at write_op_kind byte_length is_exchanged layout_of is_deletion has_number number_in number_words value_of_words
history_refusals = refl

-- empty; a set whose second word is missing; a value for each of two tags; one for two tags; a tag and an index both too high; the last indexes
edges : List (List ℕ)
edges =
    []
    ∷ (head_of 8 2 ∷ 7 ∷ 0 ∷ [])
    ∷ (head_of 8 17 ∷ 7 ∷ 1 ∷ 2147483648 ∷ 3 ∷ 0 ∷ 1 ∷ 0 ∷ 0 ∷ 0 ∷ 0 ∷ 4 ∷ 0 ∷ 2 ∷ 0 ∷ 0 ∷ 0 ∷ 0 ∷ [])
    ∷ (head_of 8 10 ∷ 7 ∷ 1 ∷ 2147483648 ∷ 3 ∷ 0 ∷ 1 ∷ 0 ∷ 0 ∷ 0 ∷ 0 ∷ [])
    ∷ (head_of 13 3 ∷ 7 ∷ 64 ∷ 4294967295 ∷ [])
    ∷ (head_of 7 2 ∷ 7 ∷ 4294967293 ∷ [])
    ∷ (head_of 7 2 ∷ 7 ∷ 4294967294 ∷ [])
    ∷ (head_of 6 2 ∷ 7 ∷ 4294967294 ∷ [])
    ∷ []

edge_refusals : map refusal_of edges ≡ wrong_count ∷ wrong_count ∷ 0 ∷ wrong_count ∷ bad_field ∷ 0 ∷ index_too_high ∷ 0 ∷ []
unfolding edges refusal_of shape_ok row_at count_of tags tags_by tags_at tail_length tail_ok count_ok value_in tags_of tags_from members members_of fields_ok all raw_ok tag_ok index_ok index_in last_index row_of table no_row row at value_ok write_op_kind byte_length is_exchanged layout_of is_deletion has_number number_in number_words value_of_words
edge_refusals = refl
