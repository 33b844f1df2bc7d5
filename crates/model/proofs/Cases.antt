-- The worked cases of 01: the session that it prints, its cases marked ★, the slips that it names, and a case for each of its rules.
-- A case is a list of turns, a request and the outcome that 01 gives it; `cases_hold` says that the definition gives the same.
use mathlib.Core.Path.{◌≡◌, refl}
use mathlib.Core.List.{List, [], ◌∷◌, ◌++◌, map}
use Prim.Native.Nat.{ℕ}
use lib.IntN.{pos}
use Rattle.lists.specs.Lists.{keep}
use Rattle.delta.specs.Delta.{Delta}
use Rattle.request.specs.Request.{Request, last_committed, base, write, add_delta, estimate, remove, fetch, materialize, group_base, exchange, group_write, group_estimate, group_remove, group_fetch, group_size, finalize}
use Rattle.number.specs.Words
use Rattle.delta.specs.Delta
use Rattle.types.specs.Value
use Rattle.types.specs.Units
use Rattle.types.specs.Response
use Rattle.request.specs.Table
use Rattle.request.specs.Set
use Rattle.request.specs.Request
use Rattle.model.specs.Rows
use Rattle.model.specs.Data
use Rattle.model.specs.Group
use Rattle.model.specs.Model
use Rattle.model.specs.Model.{Fixed, refused, answered, Turn, turns, empty}
use Rattle.model.specs.Tickets
use Rattle.model.specs.Tickets.{◌⟹◌, ◌⇒◌, done, wrote_outside, uninitialized, tag_not_found, application_failure, versioned, at_base, resolved, unresolved, dependency, size, committed, value_words, number, created, modified, deleted, raw_created, raw_modified, raw_deleted, tagged, plus, minus}

pub record Case : Type 0 where
  pub slots : Fixed
  pub told : List Turn

unfoldable pub within : ℕ → ℕ → List Turn → Case
within d g told = record { slots = record { data_slots = d; group_slots = g }; told = told }

-- "stores of 16,384 words, zero at the start"
unfoldable pub case : List Turn → Case
case told = within 512 512 told

-- The session that 01 prints, in its own words.
unfoldable pub printed : Case
printed =
    case
    ((0x60000002 ∷ 7 ∷ 0 ∷ []) ⟹ answered (0x40000000 ∷ [])
    ∷ (0x40000002 ∷ 7 ∷ 0 ∷ []) ⟹ refused 6
    ∷ (0x2000000A ∷ 7 ∷ 0 ∷ 0 ∷ 0x20000010 ∷ 0 ∷ 5 ∷ 0x64 ∷ 0 ∷ 0 ∷ 0 ∷ []) ⟹ answered (0 ∷ [])
    ∷ (0x60000002 ∷ 7 ∷ 1 ∷ []) ⟹ answered (0x10000009 ∷ 0 ∷ 0 ∷ 0x20000010 ∷ 0 ∷ 5 ∷ 0x64 ∷ 0 ∷ 0 ∷ 0 ∷ [])
    ∷ (0xC0000002 ∷ 9 ∷ 0xFFFFFFFF ∷ []) ⟹ refused 4
    ∷ [])

unfoldable pub starred : List Case
starred =
    -- ★ Write 100 at 0, delta +20 (M 150, H 20, L 0) at 1: read at 2 gives 120; at 1, Versioned.
    case
    (write 7 0 0 (number 100) ⇒ done
    ∷ add_delta 7 1 (plus 150 20) ⇒ done
    ∷ fetch 7 2 ⇒ resolved 120
    ∷ fetch 7 1 ⇒ versioned 0 0 (number 100)
    ∷ [])
    -- ★ M 119: failure.
    ∷ case (write 7 0 0 (number 100) ⇒ done ∷ add_delta 7 1 (plus 119 20) ⇒ done ∷ fetch 7 2 ⇒ application_failure ∷ [])
    -- ★ Deletion at 0, deltas failing to merge at 1 and 2: Versioned.
    ∷ case
    (write 7 0 0 deleted ⇒ done
    ∷ add_delta 7 1 (plus 100 60) ⇒ done
    ∷ add_delta 7 2 (plus 100 60) ⇒ done
    ∷ fetch 7 3 ⇒ versioned 0 0 deleted
    ∷ [])
    -- ★ Delta alone: Unresolved.
    ∷ case (add_delta 7 1 (plus 150 20) ⇒ done ∷ fetch 7 2 ⇒ unresolved (plus 150 20) ∷ [])
    -- ★ Same incarnation: 7.
    ∷ case (write 7 0 3 (number 1) ⇒ done ∷ write 7 0 3 (number 2) ⇒ refused 7 ∷ fetch 7 1 ⇒ versioned 0 3 (number 1) ∷ [])
    -- ★ Delta, then write of incarnation 0: done.
    ∷ case (add_delta 7 0 (plus 150 20) ⇒ done ∷ write 7 0 0 (number 1) ⇒ done ∷ fetch 7 1 ⇒ versioned 0 0 (number 1) ∷ [])
    -- ★ Materialise 4,294,967,293 over nothing: 13; one higher: 4.
    ∷ case (materialize 7 4294967293 ⇒ refused 13 ∷ materialize 7 4294967294 ⇒ refused 4 ∷ [])
    -- ★ First base of a modification: 11; after a finalised creation of that tag: done.
    ∷ case
    (group_base 7 (tagged 3 (raw_modified 8) ∷ []) ⇒ refused 11
    ∷ group_write 7 0 0 (tagged 3 (created 5) ∷ []) ⇒ wrote_outside
    ∷ finalize 7 0 ⇒ committed (tagged 3 (created 5) ∷ [])
    ∷ group_base 7 (tagged 3 (raw_modified 8) ∷ []) ⇒ done
    ∷ last_committed 7 ⇒ committed (tagged 3 (raw_modified 8) ∷ [])
    ∷ [])
    -- ★ Exchange after a finalised deletion: 12.
    ∷ case
    (group_base 7 (tagged 3 (raw_created 8) ∷ []) ⇒ done
    ∷ group_write 7 0 0 (tagged 3 deleted ∷ []) ⇒ wrote_outside
    ∷ finalize 7 0 ⇒ committed []
    ∷ exchange 7 3 (created 8) ⇒ refused 12
    ∷ [])
    -- ★ Fetch with an empty base: TagNotFound.
    ∷ case (group_fetch 7 3 0 ⇒ uninitialized ∷ group_base 7 [] ⇒ done ∷ group_fetch 7 3 0 ⇒ tag_not_found ∷ [])
    ∷ []

-- "Slips seen in drafts"
unfoldable pub slips : List Case
slips =
    -- "stopping the walk at a failed merge": below it the walk still meets an estimate, a layout and a missing number
    case
    (write 7 0 0 (number 100) ⇒ done
    ∷ add_delta 7 1 (plus 150 20) ⇒ done
    ∷ add_delta 7 2 (plus 160 20) ⇒ done
    ∷ fetch 7 3 ⇒ application_failure
    ∷ estimate 7 0 ⇒ done
    ∷ fetch 7 3 ⇒ dependency 0
    ∷ write 7 0 1 (value_words 0 1 16 9 100) ⇒ done
    ∷ fetch 7 3 ⇒ refused 9
    ∷ write 7 0 2 (created 15) ⇒ done
    ∷ fetch 7 3 ⇒ refused 10
    ∷ write 7 0 3 deleted ⇒ done
    ∷ fetch 7 3 ⇒ versioned 0 3 deleted
    ∷ [])
    -- "wrapping index plus 1 to the base"
    ∷ case
    (write 7 4294967295 0 (number 1) ⇒ refused 4
    ∷ add_delta 7 4294967295 (plus 150 20) ⇒ refused 4
    ∷ group_write 7 4294967295 0 (tagged 3 (created 5) ∷ []) ⇒ refused 4
    ∷ fetch 7 0 ⇒ uninitialized
    ∷ group_fetch 7 3 0 ⇒ uninitialized
    ∷ fetch 7 4294967295 ⇒ refused 4
    ∷ write 7 4294967294 0 (number 1) ⇒ done
    ∷ fetch 7 0 ⇒ uninitialized
    ∷ fetch 7 4294967294 ⇒ uninitialized
    ∷ estimate 7 4294967294 ⇒ done
    ∷ remove 7 4294967294 ⇒ done
    ∷ remove 7 4294967294 ⇒ refused 6
    ∷ [])
    -- "committing tags until one fails"
    ∷ case
    (group_base 7 (tagged 1 (raw_created 8) ∷ []) ⇒ done
    ∷ group_write 7 0 0 (tagged 0 (created 5) ∷ tagged 1 (created 6) ∷ []) ⇒ wrote_outside
    ∷ finalize 7 0 ⇒ refused 11
    ∷ last_committed 7 ⇒ committed (tagged 1 (raw_created 8) ∷ [])
    ∷ [])
    -- the same of a first base, which is not recorded either
    ∷ case
    (group_write 7 0 0 (tagged 1 (created 6) ∷ []) ⇒ wrote_outside
    ∷ finalize 7 0 ⇒ committed (tagged 1 (created 6) ∷ [])
    ∷ group_base 7 (tagged 0 (raw_created 5) ∷ tagged 1 (raw_created 6) ∷ []) ⇒ refused 11
    ∷ last_committed 7 ⇒ committed (tagged 1 (created 6) ∷ [])
    ∷ group_fetch 7 0 0 ⇒ uninitialized
    ∷ group_base 7 (tagged 0 (raw_created 5) ∷ []) ⇒ done
    ∷ last_committed 7 ⇒ committed (tagged 0 (raw_created 5) ∷ tagged 1 (created 6) ∷ [])
    ∷ [])
    -- "telling an absent key from an empty one": the same requests before and after the key has held something
    ∷ case
    (last_committed 7 ⇒ committed []
    ∷ group_remove 7 0 ⇒ done
    ∷ group_fetch 7 0 0 ⇒ uninitialized
    ∷ group_size 7 0 ⇒ uninitialized
    ∷ fetch 7 0 ⇒ uninitialized
    ∷ materialize 7 0 ⇒ refused 13
    ∷ write 7 0 5 (number 1) ⇒ done
    ∷ remove 7 0 ⇒ done
    ∷ group_write 7 0 5 (tagged 0 (created 5) ∷ []) ⇒ wrote_outside
    ∷ group_remove 7 0 ⇒ done
    ∷ last_committed 7 ⇒ committed []
    ∷ group_remove 7 0 ⇒ done
    ∷ group_fetch 7 0 0 ⇒ uninitialized
    ∷ group_size 7 0 ⇒ uninitialized
    ∷ fetch 7 0 ⇒ uninitialized
    ∷ materialize 7 0 ⇒ refused 13
    ∷ write 7 0 5 (number 1) ⇒ done
    ∷ [])
    ∷ []

-- "Data entry": a case for each of its sentences
unfoldable pub entries : List Case
entries =
    -- "from the greatest shifted index not above t": a reader at t does not see t
    case
    (base 7 (number 9) ⇒ done
    ∷ write 7 3 0 (number 1) ⇒ done
    ∷ fetch 7 3 ⇒ at_base (number 9)
    ∷ fetch 7 4 ⇒ versioned 3 0 (number 1)
    ∷ fetch 7 0 ⇒ at_base (number 9)
    ∷ fetch 8 4 ⇒ uninitialized
    ∷ [])
    -- keys and indexes in any order of arrival
    ∷ case
    (write 9 0 0 (number 9) ⇒ done
    ∷ write 7 5 0 (number 5) ⇒ done
    ∷ write 8 0 0 (number 8) ⇒ done
    ∷ write 7 1 0 (number 1) ⇒ done
    ∷ write 7 3 0 (number 3) ⇒ done
    ∷ fetch 7 4 ⇒ versioned 3 0 (number 3)
    ∷ fetch 7 3 ⇒ versioned 1 0 (number 1)
    ∷ fetch 7 6 ⇒ versioned 5 0 (number 5)
    ∷ remove 7 3 ⇒ done
    ∷ fetch 7 5 ⇒ versioned 1 0 (number 1)
    ∷ fetch 8 1 ⇒ versioned 0 0 (number 8)
    ∷ fetch 9 1 ⇒ versioned 0 0 (number 9)
    ∷ [])
    -- "at an estimate: Dependency on its index", for readers above it, up to what is nearer
    ∷ case
    (write 7 0 0 (number 1) ⇒ done
    ∷ estimate 7 0 ⇒ done
    ∷ fetch 7 0 ⇒ uninitialized
    ∷ fetch 7 1 ⇒ dependency 0
    ∷ fetch 7 9 ⇒ dependency 0
    ∷ write 7 2 0 (number 2) ⇒ done
    ∷ fetch 7 2 ⇒ dependency 0
    ∷ fetch 7 3 ⇒ versioned 2 0 (number 2)
    ∷ write 7 0 0 (number 1) ⇒ refused 7
    ∷ write 7 0 1 (number 1) ⇒ done
    ∷ fetch 7 2 ⇒ versioned 0 1 (number 1)
    ∷ [])
    -- "`write` over a write needs a higher incarnation"
    ∷ case
    (write 7 0 3 (number 1) ⇒ done
    ∷ write 7 0 2 (number 2) ⇒ refused 7
    ∷ write 7 0 4 (number 4) ⇒ done
    ∷ fetch 7 1 ⇒ versioned 0 4 (number 4)
    ∷ add_delta 7 0 (plus 150 20) ⇒ done
    ∷ fetch 7 1 ⇒ unresolved (plus 150 20)
    ∷ [])
    -- "`set_base_value`": raw on raw, exchanged on raw, raw on exchanged, exchanged on exchanged
    ∷ case
    (base 7 (raw_created 8) ⇒ done
    ∷ base 7 (raw_modified 8) ⇒ done
    ∷ base 7 (raw_created 9) ⇒ refused 8
    ∷ base 7 raw_deleted ⇒ refused 8
    ∷ fetch 7 0 ⇒ at_base (raw_created 8)
    ∷ base 7 (created 9) ⇒ done
    ∷ fetch 7 0 ⇒ at_base (created 9)
    ∷ base 7 raw_deleted ⇒ done
    ∷ base 7 (modified 9) ⇒ done
    ∷ base 7 (created 10) ⇒ refused 8
    ∷ base 7 (value_words 0 1 9 4 0) ⇒ refused 8
    ∷ fetch 7 0 ⇒ at_base (created 9)
    ∷ [])
    -- layouts both present: no lengths are compared; a deletion is not the same as 0 bytes
    ∷ case
    (base 7 (value_words 0 1 9 4 0) ⇒ done
    ∷ base 7 (value_words 1 1 10 5 0) ⇒ done
    ∷ base 7 (created 9) ⇒ refused 8
    ∷ fetch 7 0 ⇒ at_base (value_words 0 1 9 4 0)
    ∷ base 8 raw_deleted ⇒ done
    ∷ base 8 raw_deleted ⇒ done
    ∷ base 8 (raw_created 0) ⇒ refused 8
    ∷ base 8 deleted ⇒ done
    ∷ base 8 deleted ⇒ done
    ∷ base 8 (created 0) ⇒ refused 8
    ∷ fetch 8 0 ⇒ at_base deleted
    ∷ [])
    -- "at a write below deltas": a number, a deletion, no number, a layout
    ∷ case
    (add_delta 7 1 (plus 150 20) ⇒ done
    ∷ base 7 (number 100) ⇒ done
    ∷ fetch 7 2 ⇒ resolved 120
    ∷ write 7 0 0 deleted ⇒ done
    ∷ fetch 7 2 ⇒ versioned 0 0 deleted
    ∷ write 7 0 1 (created 15) ⇒ done
    ∷ fetch 7 2 ⇒ refused 10
    ∷ write 7 0 2 (value_words 2 1 0 9 0) ⇒ done
    ∷ fetch 7 2 ⇒ refused 9
    ∷ [])
    -- "Merging a newer delta onto an earlier": newest first, and that order decides failure
    ∷ case
    (add_delta 7 0 (minus 100 20) ⇒ done
    ∷ add_delta 7 1 (plus 100 50) ⇒ done
    ∷ fetch 7 2 ⇒ unresolved (record { limit = 100; high = 30; low = 20; update = pos 30 })
    ∷ add_delta 7 2 (plus 100 51) ⇒ done
    ∷ fetch 7 3 ⇒ application_failure
    ∷ add_delta 7 2 (minus 100 30) ⇒ done
    ∷ fetch 7 3 ⇒ unresolved (record { limit = 100; high = 30; low = 20; update = pos 0 })
    ∷ [])
    -- "Resolved is recorded as shortcut and answered; Unresolved is answered even if the index has no entry."
    ∷ case
    (write 7 0 0 (number 100) ⇒ done
    ∷ add_delta 7 1 (plus 150 20) ⇒ done
    ∷ materialize 7 0 ⇒ refused 13
    ∷ materialize 7 2 ⇒ refused 6
    ∷ materialize 7 1 ⇒ resolved 120
    ∷ write 7 0 1 (number 0) ⇒ done
    ∷ fetch 7 2 ⇒ resolved 120
    ∷ materialize 7 1 ⇒ resolved 120
    ∷ add_delta 7 2 (plus 150 30) ⇒ done
    ∷ fetch 7 3 ⇒ resolved 150
    ∷ add_delta 7 3 (plus 150 1) ⇒ done
    ∷ fetch 7 4 ⇒ application_failure
    ∷ add_delta 8 0 (plus 150 20) ⇒ done
    ∷ materialize 8 4 ⇒ unresolved (plus 150 20)
    ∷ estimate 8 0 ⇒ done
    ∷ materialize 8 4 ⇒ refused 13
    ∷ [])
    -- 13: "neither Resolved nor Unresolved, and not 9 or 10": these come from the walk, entry or not
    ∷ case
    (write 7 0 0 (number 100) ⇒ done
    ∷ add_delta 7 1 (plus 119 20) ⇒ done
    ∷ materialize 7 1 ⇒ refused 13
    ∷ write 7 0 1 (created 15) ⇒ done
    ∷ materialize 7 1 ⇒ refused 10
    ∷ materialize 7 5 ⇒ refused 10
    ∷ write 7 0 2 (value_words 0 1 16 9 100) ⇒ done
    ∷ materialize 7 1 ⇒ refused 9
    ∷ write 7 0 3 deleted ⇒ done
    ∷ materialize 7 1 ⇒ refused 13
    ∷ [])
    -- "at a shortcut: Resolved, with any deltas above applied, or DeltaApplicationFailure": after a failed merge too; `add_delta` replaces it
    ∷ case
    (base 7 (number 100) ⇒ done
    ∷ add_delta 7 0 (plus 150 20) ⇒ done
    ∷ materialize 7 0 ⇒ resolved 120
    ∷ add_delta 7 1 (plus 150 1) ⇒ done
    ∷ add_delta 7 2 (plus 160 1) ⇒ done
    ∷ fetch 7 2 ⇒ resolved 121
    ∷ fetch 7 3 ⇒ application_failure
    ∷ add_delta 7 0 (plus 150 30) ⇒ done
    ∷ fetch 7 1 ⇒ resolved 130
    ∷ estimate 7 0 ⇒ done
    ∷ fetch 7 3 ⇒ dependency 0
    ∷ add_delta 7 0 (plus 150 50) ⇒ done
    ∷ fetch 7 1 ⇒ resolved 150
    ∷ [])
    -- "4,294,967,293 is the last": the greatest indexes, at the same cost as the least
    ∷ case
    (write 7 4294967292 0 (number 100) ⇒ done
    ∷ add_delta 7 4294967293 (plus 150 20) ⇒ done
    ∷ fetch 7 4294967293 ⇒ versioned 4294967292 0 (number 100)
    ∷ materialize 7 4294967293 ⇒ resolved 120
    ∷ fetch 7 4294967294 ⇒ resolved 120
    ∷ [])
    ∷ []

-- "Group update and committed group": a case for each of its sentences
unfoldable pub groups : List Case
groups =
    -- "it reports outside if some tag was not in that update. No incarnation rule. An empty set is an update."
    case
    (group_write 7 0 4 (tagged 0 (created 5) ∷ tagged 63 (created 6) ∷ []) ⇒ wrote_outside
    ∷ group_write 7 0 4 (tagged 63 (created 7) ∷ []) ⇒ done
    ∷ group_write 7 0 4 (tagged 32 (created 7) ∷ tagged 63 (created 7) ∷ []) ⇒ wrote_outside
    ∷ group_write 7 0 4 (tagged 63 (created 7) ∷ []) ⇒ done
    ∷ group_fetch 7 63 1 ⇒ versioned 0 4 (created 7)
    ∷ group_fetch 7 0 1 ⇒ uninitialized
    ∷ group_write 7 0 3 [] ⇒ done
    ∷ group_fetch 7 63 1 ⇒ uninitialized
    ∷ group_estimate 7 0 ⇒ done
    ∷ group_estimate 7 1 ⇒ refused 6
    ∷ finalize 7 0 ⇒ committed []
    ∷ finalize 7 1 ⇒ refused 6
    ∷ [])
    -- "Commit rule": "Estimated or not plays no part"; a second finalise of a creation or a deletion is 11, of a modification is done
    ∷ case
    (group_base 7 (tagged 1 (raw_created 8) ∷ tagged 2 (raw_created 9) ∷ []) ⇒ done
    ∷ last_committed 7 ⇒ committed (tagged 1 (raw_created 8) ∷ tagged 2 (raw_created 9) ∷ [])
    ∷ group_write 7 0 0 (tagged 1 (modified 3) ∷ []) ⇒ wrote_outside
    ∷ group_estimate 7 0 ⇒ done
    ∷ finalize 7 0 ⇒ committed (tagged 1 (modified 3) ∷ tagged 2 (raw_created 9) ∷ [])
    ∷ finalize 7 0 ⇒ committed (tagged 1 (modified 3) ∷ tagged 2 (raw_created 9) ∷ [])
    ∷ group_write 7 1 0 (tagged 2 deleted ∷ []) ⇒ wrote_outside
    ∷ finalize 7 1 ⇒ committed (tagged 1 (modified 3) ∷ [])
    ∷ finalize 7 1 ⇒ refused 11
    ∷ group_write 7 2 0 (tagged 2 (created 4) ∷ []) ⇒ wrote_outside
    ∷ finalize 7 2 ⇒ committed (tagged 1 (modified 3) ∷ tagged 2 (created 4) ∷ [])
    ∷ finalize 7 2 ⇒ refused 11
    ∷ last_committed 8 ⇒ committed []
    ∷ [])
    -- "A later one needs every tag in the recorded base, with lengths equal as for data where that is still raw, and changes nothing."
    ∷ case
    (group_base 7 (tagged 1 (raw_created 8) ∷ tagged 2 (raw_created 9) ∷ []) ⇒ done
    ∷ group_base 7 [] ⇒ done
    ∷ group_base 7 (tagged 2 (raw_modified 9) ∷ []) ⇒ done
    ∷ group_base 7 (tagged 2 (raw_created 8) ∷ []) ⇒ refused 8
    ∷ group_base 7 (tagged 3 (raw_created 8) ∷ []) ⇒ refused 8
    ∷ exchange 7 2 (created 30) ⇒ done
    ∷ group_base 7 (tagged 2 (raw_created 8) ∷ []) ⇒ done
    ∷ group_fetch 7 2 0 ⇒ at_base (created 30)
    ∷ [])
    -- "base already exchanged, done; else base, update and committed value become exchanged"
    ∷ case
    (exchange 7 1 (created 8) ⇒ refused 6
    ∷ group_base 7 (tagged 1 (raw_created 8) ∷ []) ⇒ done
    ∷ exchange 7 2 (created 8) ⇒ refused 6
    ∷ exchange 7 1 (created 20) ⇒ done
    ∷ group_fetch 7 1 0 ⇒ at_base (created 20)
    ∷ last_committed 7 ⇒ committed (tagged 1 (created 20) ∷ [])
    ∷ exchange 7 1 (created 30) ⇒ done
    ∷ group_fetch 7 1 0 ⇒ at_base (created 20)
    ∷ [])
    -- 12: "committed value absent or already exchanged"
    ∷ case
    (group_base 7 (tagged 1 (raw_created 8) ∷ []) ⇒ done
    ∷ group_write 7 0 0 (tagged 1 (modified 3) ∷ []) ⇒ wrote_outside
    ∷ finalize 7 0 ⇒ committed (tagged 1 (modified 3) ∷ [])
    ∷ exchange 7 1 (created 8) ⇒ refused 12
    ∷ [])
    -- "greatest lower entry; estimate gives Dependency, none gives TagNotFound with a base": a reader at t does not see t
    ∷ case
    (group_base 7 (tagged 1 (raw_created 8) ∷ []) ⇒ done
    ∷ group_write 7 3 2 (tagged 1 (modified 3) ∷ tagged 2 (created 4) ∷ []) ⇒ wrote_outside
    ∷ group_fetch 7 1 3 ⇒ at_base (raw_created 8)
    ∷ group_fetch 7 2 3 ⇒ tag_not_found
    ∷ group_fetch 7 1 4 ⇒ versioned 3 2 (modified 3)
    ∷ group_fetch 7 2 9 ⇒ versioned 3 2 (created 4)
    ∷ group_estimate 7 3 ⇒ done
    ∷ group_fetch 7 1 4 ⇒ dependency 3
    ∷ group_fetch 7 1 3 ⇒ at_base (raw_created 8)
    ∷ group_write 7 5 0 (tagged 1 (modified 6) ∷ []) ⇒ wrote_outside
    ∷ group_fetch 7 1 6 ⇒ versioned 5 0 (modified 6)
    ∷ group_fetch 7 2 6 ⇒ dependency 3
    ∷ group_remove 7 3 ⇒ done
    ∷ group_fetch 7 2 6 ⇒ tag_not_found
    ∷ [])
    -- a write after a mark is done; a deletion that a read finds is Versioned
    ∷ case
    (group_write 7 0 0 (tagged 1 (created 3) ∷ []) ⇒ wrote_outside
    ∷ group_estimate 7 0 ⇒ done
    ∷ group_fetch 7 1 1 ⇒ dependency 0
    ∷ group_size 7 1 ⇒ uninitialized
    ∷ group_write 7 0 1 (tagged 1 deleted ∷ []) ⇒ done
    ∷ group_fetch 7 1 1 ⇒ versioned 0 1 deleted
    ∷ [])
    -- a raw deletion as first base over a committed tag removes it there and stays in the base; over it an exchange is 12
    ∷ case
    (group_write 7 0 0 (tagged 1 (created 3) ∷ []) ⇒ wrote_outside
    ∷ finalize 7 0 ⇒ committed (tagged 1 (created 3) ∷ [])
    ∷ group_base 7 (tagged 1 raw_deleted ∷ []) ⇒ done
    ∷ last_committed 7 ⇒ committed []
    ∷ group_fetch 7 1 0 ⇒ at_base raw_deleted
    ∷ group_size 7 0 ⇒ size 0 0
    ∷ group_base 7 (tagged 1 raw_deleted ∷ []) ⇒ done
    ∷ group_base 7 (tagged 1 (raw_created 0) ∷ []) ⇒ refused 8
    ∷ exchange 7 1 (created 8) ⇒ refused 12
    ∷ [])
    -- "the members that have bytes, and the sum of their lengths plus 1 each": a deletion has none, 0 bytes are bytes
    ∷ case
    (group_write 7 0 0 (tagged 1 deleted ∷ []) ⇒ wrote_outside
    ∷ group_size 7 1 ⇒ uninitialized
    ∷ group_base 7 (tagged 0 (raw_created 10) ∷ tagged 1 (raw_created 20) ∷ []) ⇒ done
    ∷ group_size 7 0 ⇒ size 2 32
    ∷ group_size 7 1 ⇒ size 1 11
    ∷ group_write 7 1 0 (tagged 63 (created 0) ∷ []) ⇒ wrote_outside
    ∷ group_size 7 2 ⇒ size 2 12
    ∷ group_base 8 [] ⇒ done
    ∷ group_size 8 2 ⇒ size 0 0
    ∷ [])
    -- "tags in rising order, the first estimate gives Dependency"
    ∷ case
    (group_base 7 (tagged 0 (raw_created 9) ∷ []) ⇒ done
    ∷ group_write 7 1 0 (tagged 2 (created 5) ∷ []) ⇒ wrote_outside
    ∷ group_write 7 2 0 (tagged 1 (created 5) ∷ []) ⇒ wrote_outside
    ∷ group_estimate 7 1 ⇒ done
    ∷ group_estimate 7 2 ⇒ done
    ∷ group_size 7 3 ⇒ dependency 2
    ∷ group_size 7 2 ⇒ dependency 1
    ∷ group_size 7 1 ⇒ size 1 10
    ∷ [])
    ∷ []

-- "14: more units after the ticket than the store has": given exactly when the units run out
unfoldable pub full : List Case
full =
    -- "A data entry takes 1", a shortcut nothing. "Freed units serve again."
    within 2 0
    (write 7 0 0 (number 100) ⇒ done
    ∷ add_delta 7 1 (plus 150 20) ⇒ done
    ∷ base 7 (number 1) ⇒ refused 14
    ∷ write 8 0 0 (number 1) ⇒ refused 14
    ∷ fetch 8 1 ⇒ uninitialized
    ∷ write 7 0 1 (number 100) ⇒ done
    ∷ estimate 7 0 ⇒ done
    ∷ write 7 0 2 (number 100) ⇒ done
    ∷ materialize 7 1 ⇒ resolved 120
    ∷ remove 7 0 ⇒ done
    ∷ write 8 0 0 (number 1) ⇒ done
    ∷ fetch 7 2 ⇒ resolved 120
    ∷ [])
    -- "a group update 1 plus 1 a tag; a committed tag 1"
    ∷ within 0 5
    (group_write 7 0 0 (tagged 0 (created 1) ∷ tagged 1 (created 1) ∷ []) ⇒ wrote_outside
    ∷ group_write 7 1 0 [] ⇒ done
    ∷ group_write 8 0 0 (tagged 0 (created 1) ∷ []) ⇒ refused 14
    ∷ group_write 8 0 0 [] ⇒ done
    ∷ group_base 8 [] ⇒ refused 14
    ∷ group_remove 8 0 ⇒ done
    ∷ finalize 7 0 ⇒ refused 14
    ∷ last_committed 7 ⇒ committed []
    ∷ group_remove 7 1 ⇒ done
    ∷ finalize 7 0 ⇒ committed (tagged 0 (created 1) ∷ tagged 1 (created 1) ∷ [])
    ∷ group_write 7 0 1 (tagged 2 (created 2) ∷ tagged 3 (created 2) ∷ []) ⇒ wrote_outside
    ∷ group_write 7 0 1 (tagged 2 (created 2) ∷ tagged 3 (created 2) ∷ tagged 4 (created 2) ∷ []) ⇒ refused 14
    ∷ finalize 7 0 ⇒ refused 14
    ∷ [])
    -- "The lowest number that applies is given"
    ∷ within 0 0
    (write 7 4294967295 0 (number 1) ⇒ refused 4
    ∷ write 7 0 0 (number 1) ⇒ refused 14
    ∷ group_base 7 (tagged 3 (raw_modified 8) ∷ []) ⇒ refused 11
    ∷ group_base 7 [] ⇒ refused 14
    ∷ remove 7 0 ⇒ refused 6
    ∷ [])
    ∷ []

-- "2: empty, or count wrong for the kind or the words handed in; 3: a field breaks its rule; 4: index too high"
unfoldable pub malformed : List Case
malformed =
    case
    ([] ⟹ refused 2
    ∷ (0x60000002 ∷ 7 ∷ []) ⟹ refused 2
    ∷ (0x60000001 ∷ 7 ∷ []) ⟹ refused 2
    ∷ (0x60000003 ∷ 7 ∷ 0 ∷ 0 ∷ []) ⟹ refused 2
    -- a set that the words do not hold, and one with a value too few
    ∷ (0x80000002 ∷ 7 ∷ 0 ∷ []) ⟹ refused 2
    ∷ (0x80000003 ∷ 7 ∷ 1 ∷ 0 ∷ []) ⟹ refused 2
    ∷ (0x80000003 ∷ 7 ∷ 0 ∷ 0x80000000 ∷ []) ⟹ refused 2
    ∷ [])
    -- 4 for every kind with an index field: 4,294,967,294 is the last, and for kind 7 the one before
    ∷ case
    (estimate 7 4294967294 ⇒ refused 6
    ∷ estimate 7 4294967295 ⇒ refused 4
    ∷ remove 7 4294967295 ⇒ refused 4
    ∷ materialize 7 4294967295 ⇒ refused 4
    ∷ group_write 7 4294967294 0 [] ⇒ done
    ∷ group_estimate 7 4294967294 ⇒ done
    ∷ group_estimate 7 4294967295 ⇒ refused 4
    ∷ finalize 7 4294967294 ⇒ committed []
    ∷ finalize 7 4294967295 ⇒ refused 4
    ∷ group_remove 7 4294967294 ⇒ done
    ∷ group_remove 7 4294967295 ⇒ refused 4
    ∷ group_size 7 4294967294 ⇒ uninitialized
    ∷ group_size 7 4294967295 ⇒ refused 4
    ∷ group_fetch 7 0 4294967294 ⇒ uninitialized
    ∷ group_fetch 7 0 4294967295 ⇒ refused 4
    ∷ [])
    -- a fourth kind of value; a length too great; a deletion with a length; raw with a layout; a number where there is none
    ∷ case
    (base 7 (value_words 3 0 0 0 0) ⇒ refused 3
    ∷ base 7 (value_words 0 0 1048577 0 0) ⇒ refused 3
    ∷ base 7 (value_words 0 0 1048576 0 0) ⇒ done
    ∷ base 8 (value_words 2 1 1 0 0) ⇒ refused 3
    ∷ base 8 (value_words 0 0 8 1 0) ⇒ refused 3
    ∷ base 8 (value_words 0 0 8 0 1) ⇒ refused 3
    ∷ base 8 (value_words 1 0 16 0 1) ⇒ done
    -- "exchanged value", "raw values", "no deletion", "A tag is 0 to 63"
    ∷ write 7 4294967295 0 (raw_created 8) ⇒ refused 3
    ∷ group_base 7 (tagged 0 (created 8) ∷ []) ⇒ refused 3
    ∷ group_write 7 0 0 (tagged 0 (created 8) ∷ tagged 1 (raw_created 8) ∷ []) ⇒ refused 3
    ∷ exchange 7 0 deleted ⇒ refused 3
    ∷ exchange 7 0 (raw_created 8) ⇒ refused 3
    ∷ exchange 7 64 (created 8) ⇒ refused 3
    ∷ group_fetch 7 64 4294967295 ⇒ refused 3
    ∷ group_fetch 7 63 4294967295 ⇒ refused 4
    -- "H ≤ M, L ≤ M, −L ≤ u ≤ H"; "minus zero is bad"
    ∷ add_delta 9 0 (plus 19 20) ⇒ refused 3
    ∷ add_delta 9 0 (minus 19 20) ⇒ refused 3
    ∷ add_delta 9 0 (record { limit = 50; high = 10; low = 10; update = pos 11 }) ⇒ refused 3
    ∷ (0x30000013 ∷ 9 ∷ 0 ∷ 50 ∷ 0 ∷ 0 ∷ 0 ∷ 0 ∷ 0 ∷ 0 ∷ 0 ∷ 10 ∷ 0 ∷ 0 ∷ 0 ∷ 0 ∷ 0 ∷ 0 ∷ 0 ∷ 1 ∷ []) ⟹ refused 3
    ∷ (0x30000013 ∷ 9 ∷ 0 ∷ 50 ∷ 0 ∷ 0 ∷ 0 ∷ 0 ∷ 0 ∷ 0 ∷ 0 ∷ 10 ∷ 0 ∷ 0 ∷ 0 ∷ 11 ∷ 0 ∷ 0 ∷ 0 ∷ 1 ∷ []) ⟹ refused 3
    ∷ (0x30000013 ∷ 9 ∷ 0 ∷ 50 ∷ 0 ∷ 0 ∷ 0 ∷ 0 ∷ 0 ∷ 0 ∷ 0 ∷ 10 ∷ 0 ∷ 0 ∷ 0 ∷ 10 ∷ 0 ∷ 0 ∷ 0 ∷ 2 ∷ []) ⟹ refused 3
    ∷ (0x30000013 ∷ 9 ∷ 0 ∷ 50 ∷ 0 ∷ 0 ∷ 0 ∷ 0 ∷ 0 ∷ 0 ∷ 0 ∷ 10 ∷ 0 ∷ 0 ∷ 0 ∷ 10 ∷ 0 ∷ 0 ∷ 0 ∷ 1 ∷ []) ⟹ done
    ∷ fetch 9 1 ⇒ unresolved (minus 50 10)
    ∷ [])
    ∷ []

unfoldable pub cases : List Case
cases = printed ∷ starred ++ slips ++ entries ++ groups ++ full ++ malformed

-- The case with the outcomes of the definition: its requests, run from empty stores.
unfoldable pub run : Case → Case
unfolding Words.digits Words.value_of_words Delta.valid Delta.apply_to Delta.greater Delta.joined Delta.mergeable Delta.merge Delta.gathered Delta.accumulate Delta.is_minus Delta.signed Delta.number_at Delta.minus_zero Delta.minus_at Delta.delta_at Delta.delta_ok Delta.sign_word Delta.delta_words Value.value_at Value.write_op_kind Value.is_creation Value.is_deletion Value.is_exchanged Value.byte_length Value.layout_of Value.number_words Value.has_number Value.number_in Value.bytes_len Value.same_length Value.same_bytes Value.value_ok Response.response Table.row Table.at Table.table Table.row_of Set.tags_from Set.tags_of Set.members_of Request.row_at Request.count_of Request.tags_at Request.tags Request.members Request.shape_ok Request.exchanged_ok Request.raw_ok Request.tag_ok Request.all Request.fields_ok Request.last_index Request.index_in Request.index_ok Request.refusal_of Request.request_as Request.request_of keep Rows.is_below Rows.is_at Rows.is_above Rows.held_first Rows.find Rows.put Rows.erase Rows.is_up_to Rows.down_from Rows.of_key Rows.edited Data.done Data.done_answer Data.resolved_or Data.onto Data.below_deltas Data.at_write Data.at_cell Data.at_row Data.at_end Data.past Data.walk Data.read_of Data.versioned_answer Data.read_ruling Data.same_exchanged Data.unless_differs Data.base_over Data.base_onto Data.set_base_value Data.yields Data.may_write Data.write_value Data.add_delta Data.mark_estimate Data.remove Data.with_shortcut Data.record_shortcut Data.materialized Data.materialize_delta Data.fetch_data Group.first_tagged Group.member_value Group.is_some Group.commit_over Group.commit_new Group.commit_one Group.commit_rest Group.commit Group.commits Group.first_base Group.agrees Group.all_agree Group.set_raw_base_values Group.replaced Group.exchange_raw Group.exchange_in Group.update_tagged_base_value Group.members_in Group.outside Group.write_group Group.mark_group Group.remove_group Group.nearest Group.latest Group.has_base Group.dependency_answer Group.latest_answer Group.fetch_tagged_data Group.with_bytes Group.with_latest Group.size_over Group.count Group.all_tags Group.size_answer Group.get_group_size Group.set_of Group.values_of Group.committed_answer Group.get_last_committed_group Group.finalized_to Group.finalize_group Model.empty Model.data_held Model.updates_held Model.group_held Model.first_of Model.lack_in Units.lack_of Model.work_of Model.ruled Model.with_entries Model.with_updates Model.with_commits Model.perform Model.unless_refused Model.ruling Model.unless_full Model.step Model.left_by Model.outcome_of Model.after Model.turns Tickets.bits_of Tickets.values_in Tickets.set_and_values Tickets.request_words Tickets.◌⟹◌ Tickets.◌⇒◌ Tickets.done Tickets.wrote_outside Tickets.uninitialized Tickets.tag_not_found Tickets.application_failure Tickets.versioned Tickets.at_base Tickets.resolved Tickets.unresolved Tickets.dependency Tickets.size Tickets.committed Tickets.value_words Tickets.number Tickets.created Tickets.modified Tickets.deleted Tickets.raw_created Tickets.raw_modified Tickets.raw_deleted Tickets.tagged Tickets.plus Tickets.minus Request.tags_by Request.value_in Request.delta_in Request.tail_length Request.tail_ok Request.count_ok
run c = record { slots = c.slots; told = Model.turns c.slots Model.empty (map (λ turn. turn.request) c.told) }

pub cases_hold : map run cases ≡ cases
unfolding run cases printed starred slips entries groups full malformed case within
cases_hold = refl
