-- The scan's test of a row, word by word: by its laws (RowTests) that the row is one of a fine entry.
use Rattle.std.specs.Prelude.{Bool, true, cond, not, ◌&&◌, List, [], ◌∷◌, ◌++◌, ℕ, ◌/◌, ◌%◌, ltb, eqb, get_or, take, drop}
use Rattle.delta.specs.Delta.{delta_ok}
use Rattle.types.specs.Value.{value_at, value_ok, is_exchanged}
use Rattle.moves.specs.Moves.{all_zero}
use Rattle.versioned_data.specs.Layout.{StoreRow}

-- A write at the base has incarnation 0 and is done; above it, it is exchanged.
unfoldable pub side_test : ℕ → ℕ → List ℕ → Bool
side_test place marks ws = cond (eqb place 0) (eqb (get_or ws 0 0) 0 && eqb marks 0) (is_exchanged (value_at 1 ws))

unfoldable pub write_test : ℕ → ℕ → List ℕ → Bool
write_test place marks ws = value_ok (value_at 1 ws) && side_test place marks ws && all_zero (drop 8 ws)

-- A delta without a shortcut has zeros in the shortcut's place.
unfoldable pub delta_test : ℕ → ℕ → List ℕ → Bool
delta_test place marks ws =
    not (eqb place 0) && delta_ok (take 16 ws ++ (marks / 8 ∷ [])) && cond (eqb (marks % 4) 1) (all_zero (drop 16 ws)) true

unfoldable pub marks_test : ℕ → ℕ → List ℕ → Bool
marks_test place marks ws = cond (eqb (marks % 4) 0) (ltb marks 8 && write_test place marks ws) (ltb (marks % 4) 3 && delta_test place marks ws)

unfoldable pub row_test : StoreRow → Bool
row_test u = marks_test (u.spot % 4294967296) u.marks u.payload
