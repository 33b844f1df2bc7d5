-- What rule 5 shuts out: for each of its clauses, the smallest models that break it.
-- Assumes nothing.
use mathlib.Core.Path.{◌≡◌, refl}
use mathlib.Core.Bool.{Bool, true, false, not, ◌&&◌}
use mathlib.Core.List.{List, [], ◌∷◌}
use mathlib.Core.Option.{none, some}
use Prim.Native.Nat.{ℕ, ◌+◌, ◌*◌, ◌^◌}
use lib.IntN.{ℤ, pos, negsuc}
use Rattle.lists.specs.Lists.{every}
use Rattle.number.specs.Words
use Rattle.number.specs.Number
use Rattle.delta.specs.Delta.{Delta}
use Rattle.delta.specs.Delta
use Rattle.types.specs.Value
use Rattle.request.specs.Set.{Member}
use Rattle.model.specs.Rows.{Row, rising}
use Rattle.model.specs.Rows
use Rattle.model.specs.Data.{Cell, write, delta, Entry}
use Rattle.model.specs.Group.{Update, Committed}
use Rattle.model.specs.Model.{Model}
use Rattle.model.specs.Fine.{fine}
use Rattle.model.specs.Fine
use Rattle.model.specs.Rows.{row_at}

unfoldable pub entry : ℕ → ℕ → Bool → Cell → Row Entry
entry key place estimate c = row_at key place (record { cell = c; estimate = estimate })

unfoldable pub update : ℕ → ℕ → ℕ → Bool → List Member → Row Update
update key place incarnation estimate ms = row_at key place (record { incarnation = incarnation; estimate = estimate; members = ms })

unfoldable pub entries : List (Row Entry) → Model
entries rows = record { entries = rows; updates = []; committed = [] }

unfoldable pub updates : List (Row Update) → Model
updates rows = record { entries = []; updates = rows; committed = [] }

unfoldable pub committed : Committed → Model
committed rows = record { entries = []; updates = []; committed = rows }

-- A value by its head, layout and number; 2 ^ 29 in a head is `Exchanged`, 2 ^ 30 the kind.
unfoldable pub value : ℕ → ℕ → ℕ → List ℕ
value head layout n = head ∷ layout ∷ 0 ∷ n ∷ 0 ∷ 0 ∷ 0 ∷ []

unfoldable pub exchanged : List ℕ
exchanged = value (2 ^ 29) 0 0

unfoldable pub raw : List ℕ
raw = value 0 0 0

unfoldable pub member : ℕ → List ℕ → Member
member tag v = record { tag = tag; value = v }

unfoldable pub change : ℕ → ℕ → ℕ → ℤ → Delta
change limit high low u = record { limit = limit; high = high; low = low; update = u }

-- models that keep rule 5, from which the broken ones differ in one thing
unfoldable pub kept : List Model
kept =
    entries (entry 7 0 false (write 0 raw) ∷ entry 7 1 true (write 3 exchanged) ∷ entry 7 2 false (delta (change 9 2 1 (pos 2)) (some 5)) ∷ [])
    ∷ updates (update 7 0 0 false (member 0 raw ∷ member 63 raw ∷ []) ∷ update 7 1 3 true (member 5 exchanged ∷ []) ∷ update 7 2 0 false [] ∷ [])
    ∷ committed (row_at 7 0 raw ∷ row_at 7 63 exchanged ∷ [])
    ∷ []

unfoldable pub broken : List Model
broken =
    -- "fields in range": keys, places, incarnations
    entries (entry (2 ^ 32) 1 false (write 0 exchanged) ∷ [])
    ∷ entries (entry 7 (2 ^ 32) false (write 0 exchanged) ∷ [])
    ∷ entries (entry 7 1 false (write (2 ^ 32) exchanged) ∷ [])
    ∷ updates (update (2 ^ 32) 1 0 false [] ∷ [])
    ∷ updates (update 7 (2 ^ 32) 0 false [] ∷ [])
    ∷ updates (update 7 1 (2 ^ 32) false [] ∷ [])
    ∷ committed (row_at (2 ^ 32) 0 raw ∷ [])
    -- tags
    ∷ updates (update 7 0 0 false (member 64 raw ∷ []) ∷ [])
    ∷ committed (row_at 7 64 raw ∷ [])
    -- values: six words, a word too high, a fourth kind, too long, raw with a layout, a deletion with a length, a number without 16 bytes
    ∷ entries (entry 7 0 false (write 0 (0 ∷ 0 ∷ 0 ∷ 0 ∷ 0 ∷ 0 ∷ [])) ∷ [])
    ∷ entries (entry 7 0 false (write 0 (0 ∷ 0 ∷ 2 ^ 32 ∷ 0 ∷ 0 ∷ 0 ∷ 0 ∷ [])) ∷ [])
    ∷ entries (entry 7 0 false (write 0 (value (3 * 2 ^ 30) 0 0)) ∷ [])
    ∷ entries (entry 7 0 false (write 0 (value 1048577 0 0)) ∷ [])
    ∷ entries (entry 7 0 false (write 0 (value 0 1 0)) ∷ [])
    ∷ entries (entry 7 0 false (write 0 (value (2 * 2 ^ 30 + 1) 0 0)) ∷ [])
    ∷ entries (entry 7 0 false (write 0 (value 15 0 1)) ∷ [])
    ∷ updates (update 7 0 0 false (member 0 (value 0 1 0) ∷ []) ∷ [])
    ∷ committed (row_at 7 0 (value 0 1 0) ∷ [])
    -- deltas: H over M, L over M, the update over H, below L, a limit of 2^128, and such a shortcut
    ∷ entries (entry 7 1 false (delta (change 9 10 0 (pos 0)) none) ∷ [])
    ∷ entries (entry 7 1 false (delta (change 9 0 10 (pos 0)) none) ∷ [])
    ∷ entries (entry 7 1 false (delta (change 9 1 0 (pos 2)) none) ∷ [])
    ∷ entries (entry 7 1 false (delta (change 9 0 1 (negsuc 1)) none) ∷ [])
    ∷ entries (entry 7 1 false (delta (change (2 ^ 128) 0 0 (pos 0)) none) ∷ [])
    ∷ entries (entry 7 1 false (delta (change 9 0 0 (pos 0)) (some (2 ^ 128))) ∷ [])
    -- "no key and index (and tag) twice"
    ∷ entries (entry 7 1 false (write 0 exchanged) ∷ entry 7 1 false (write 1 exchanged) ∷ [])
    ∷ updates (update 7 1 0 false [] ∷ update 7 1 1 false [] ∷ [])
    ∷ updates (update 7 1 0 false (member 5 exchanged ∷ member 5 exchanged ∷ []) ∷ [])
    ∷ committed (row_at 7 0 raw ∷ row_at 7 0 exchanged ∷ [])
    -- "base entries are done writes of incarnation 0"
    ∷ entries (entry 7 0 true (write 0 raw) ∷ [])
    ∷ entries (entry 7 0 false (delta (change 9 0 0 (pos 0)) none) ∷ [])
    ∷ entries (entry 7 0 false (write 1 raw) ∷ [])
    ∷ updates (update 7 0 0 true [] ∷ [])
    ∷ updates (update 7 0 1 false [] ∷ [])
    -- "only bases and committed values are raw"
    ∷ entries (entry 7 1 false (write 0 raw) ∷ [])
    ∷ updates (update 7 1 0 false (member 0 raw ∷ []) ∷ [])
    -- "no committed deletion"
    ∷ committed (row_at 7 0 (value (2 * 2 ^ 30) 0 0) ∷ [])
    ∷ []

pub fine_cases : (every fine kept && every (λ m. not (fine m)) broken) ≡ true
unfolding every kept broken entry update entries updates committed value exchanged raw member change row_at rising Rows.is_above fine Fine.is_word Fine.is_number Fine.fine_value Fine.fine_delta Fine.fine_shortcut Fine.fine_cell Fine.fine_entry Fine.fine_entries Fine.rising_from Fine.fine_member Fine.fine_update Fine.fine_updates Fine.fine_committed Fine.fine_group Words.value_of_words Number.range Delta.valid Value.write_op_kind Value.is_deletion Value.is_exchanged Value.byte_length Value.layout_of Value.number_words Value.has_number Value.number_in Value.value_ok
fine_cases = refl
