-- 01: "A tag is 0 to 63. A set is two words, bit n for tag n, low word first; values follow in rising tag order."
use Rattle.std.specs.Prelude.{cond, List, [], ◌∷◌, ◌++◌, ℕ, zero, suc, ◌/◌, ◌%◌, eqb, take, drop}
use Rattle.types.specs.Value.{value_width}

-- The set bits among the n lowest of a word, the lowest being the tag t.
unfoldable pub tags_from : ℕ → ℕ → ℕ → List ℕ
tags_from zero t w = []
tags_from (suc n) t w = let rest = tags_from n (suc t) (w / 2) in cond (eqb (w % 2) 1) (t ∷ rest) rest

-- The tags of a set, in rising order.
unfoldable pub tags_of : ℕ → ℕ → List ℕ
tags_of low high = tags_from 32 0 low ++ tags_from 32 32 high

-- A tag and its value.
pub record Member : Type 0 where
  pub tag : ℕ
  pub value : List ℕ

-- The values that follow a set, each with its tag.
unfoldable pub members_of : List ℕ → List ℕ → List Member
members_of [] ws = []
members_of (t ∷ ts) ws = record { tag = t; value = take value_width ws } ∷ members_of ts (drop value_width ws)
