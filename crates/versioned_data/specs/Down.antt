-- What a walk down the entries of a key meets, by positions among a store's falling rows.
use Rattle.std.specs.Prelude.{List, map, ℕ, eqb, drop}
use Rattle.lists.specs.Lists.{front}
use Rattle.model.specs.Rows.{Row}
use Rattle.model.specs.Data.{Entry}
use Rattle.versioned_data.specs.Layout.{StoreRow, entry_of}

-- The entries of a key from the row at position c on.
unfoldable pub down_rows : ℕ → ℕ → List StoreRow → List (Row Entry)
down_rows key c rows = front (λ r. eqb r.key key) (map entry_of (drop c rows))
