-- Deltas, exactly: what 01 says of them under "Delta, 17 words (a number part below the stores)".
-- No type of the code stands here. Signed numbers are the integers of `lib.IntN`.
-- Assumes nothing.
use Rattle.std.specs.Prelude.{Bool, true, false, not, cond, ◌&&◌, List, [], ◌∷◌, ◌++◌, ℕ, ◌+◌, max, eqb, leb, ℤ, pos, negsuc, neg_ℤ, nat_abs, ◌+ℤ◌, ◌-ℤ◌, take, drop, get_or}
use Rattle.std.proofs.Math.Option.{Option, none, some}
use Rattle.std.specs.Int.Signed.{le_z}
use Rattle.number.specs.Words.{digits, value_of_words}

-- "M (limit), H (highest reached), L (depth of the lowest reached), .. the update u"
pub record Delta : Type 0 where
  pub limit : ℕ
  pub high : ℕ
  pub low : ℕ
  pub update : ℤ

-- "Needed: H ≤ M, L ≤ M, −L ≤ u ≤ H."
unfoldable pub valid : Delta → Bool
valid d =
    leb d.high d.limit && leb d.low d.limit && le_z (neg_ℤ (pos d.low)) d.update && le_z d.update (pos d.high)

-- "Applying to v succeeds exactly if v ≥ L and v + H ≤ M, giving v + u." For a valid delta v + u is not below zero, and `nat_abs` is the number itself
unfoldable pub apply_to : Delta → ℕ → Option ℕ
apply_to d v = cond (leb d.low v && leb (v + d.high) d.limit) (some (nat_abs (pos v +ℤ d.update))) none

-- a delta applied to what an earlier one gave
unfoldable pub apply_next : Delta → Option ℕ → Option ℕ
apply_next d (some v) = apply_to d v
apply_next d none = none

-- the greater of a number and an integer
unfoldable pub greater : ℕ → ℤ → ℕ
greater n (pos m) = max n m
greater n (negsuc m) = n

-- "Merging a newer delta (H, L, u) onto an earlier (H', L', u') gives max(H', u' + H), max(L', L − u'), u' + u."
unfoldable pub joined : (newer earlier : Delta) → Delta
joined newer earlier =
    record {
      limit = newer.limit;
      high = greater earlier.high (earlier.update +ℤ pos newer.high);
      low = greater earlier.low (pos newer.low -ℤ earlier.update);
      update = earlier.update +ℤ newer.update;
    }

-- "It fails exactly if the limits differ or the new H or L exceeds M."
unfoldable pub mergeable : (newer earlier : Delta) → Bool
mergeable newer earlier =
    eqb newer.limit earlier.limit && leb (joined newer earlier).high newer.limit && leb (joined newer earlier).low newer.limit

-- newer first, as the Rust's `merge_with_previous_delta`
unfoldable pub merge : (newer earlier : Delta) → Option Delta
merge newer earlier = cond (mergeable newer earlier) (some (joined newer earlier)) none

-- What a walk has gathered: "`Option<Result<DeltaOp, ()>>` becomes a three-way enum".
pub data Accumulated : Type 0 where
  nothing : Accumulated
  merged : Delta → Accumulated
  failed : Accumulated

-- what a merge leaves the walk with
unfoldable pub gathered : Option Delta → Accumulated
gathered (some d) = merged d
gathered none = failed

-- the walk goes newest first, so what it has gathered is newer than the delta that it meets
unfoldable pub accumulate : Accumulated → Delta → Accumulated
accumulate nothing earlier = merged earlier
accumulate (merged newer) earlier = gathered (merge newer earlier)
accumulate failed earlier = failed

-- a run of deltas, newest first
unfoldable pub accumulate_all : Accumulated → List Delta → Accumulated
accumulate_all a [] = a
accumulate_all a (d ∷ ds) = accumulate_all (accumulate a d) ds

-- what was gathered is valid, where it is a delta
unfoldable pub valid_so_far : Accumulated → Bool
valid_so_far nothing = true
valid_so_far (merged d) = valid d
valid_so_far failed = true

-- ---- in words: M, H, L and the size of u, "4 words each, then sign (0 plus, 1 minus; minus zero is bad)"

-- below zero
unfoldable pub is_minus : ℤ → Bool
is_minus (pos n) = false
is_minus (negsuc n) = true

-- the integer of a sign and a size
unfoldable pub signed : Bool → ℕ → ℤ
signed minus n = cond minus (neg_ℤ (pos n)) (pos n)

-- the number in the four words at i
unfoldable pub number_at : List ℕ → ℕ → ℕ
number_at ws i = value_of_words (take 4 (drop i ws))

-- "minus zero is bad"
unfoldable pub minus_zero : Bool → ℕ → Bool
minus_zero minus n = minus && eqb n 0

-- "Delta, 17 words": four numbers of four words, and the sign
abbrev pub delta_width : ℕ
delta_width = 17

-- what a sign says: 0 is plus, and whatever else stands there is read as minus
abbrev pub is_negative : ℕ → Bool
is_negative sign = not (eqb sign 0)

-- the sign of the words
unfoldable pub minus_at : List ℕ → Bool
minus_at ws = is_negative (get_or ws 16 0)

-- the delta that so many words hold, whatever they are
unfoldable pub delta_at : List ℕ → Delta
delta_at ws =
    record {
      limit = number_at ws 0;
      high = number_at ws 4;
      low = number_at ws 8;
      update = signed (minus_at ws) (number_at ws 12);
    }

-- the words are a delta: the sign is 0 or 1, not minus zero, and what they hold is valid
unfoldable pub delta_ok : List ℕ → Bool
delta_ok ws =
    leb (get_or ws 16 0) 1 && not (minus_zero (minus_at ws) (number_at ws 12)) && valid (delta_at ws)

-- "sign (0 plus, 1 minus"; zero has the sign of plus
unfoldable pub sign_word : ℤ → ℕ
sign_word u = cond (is_minus u) 1 0

-- the words of a delta
unfoldable pub delta_words : Delta → List ℕ
delta_words d =
    digits 4 d.limit ++ digits 4 d.high ++ digits 4 d.low ++ digits 4 (nat_abs d.update) ++ (sign_word d.update ∷ [])
