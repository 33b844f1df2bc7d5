-- What readers of fine updates find is fine: values, indexes and sizes in range.
-- Assumes nothing.
use mathlib.Core.Path.{◌≡◌, refl, ap}
use mathlib.Core.Bool.{Bool, true, false, cond}
use mathlib.Core.List.{List, [], ◌∷◌}
use mathlib.Core.Option.{Option, none, some}
use Prim.Native.Nat.{ℕ, zero, suc, ◌+◌, ◌*◌, ◌≤◌}
use native.Mathlib.Omega.{arith}
use lib.Dec.{leb, eqb}
use lib.ListN.{length}
use borrow.Author.Tests.{leb-true, le-leb}
use Rattle.lists.specs.Lists.{every}
use Rattle.lists.proofs.Bools.{and_both, and_left, and_right, and_three}
use Rattle.types.specs.Response.{most_tags}
use Rattle.types.specs.Value.{is_deletion, byte_length, bytes_len}
use Rattle.request.specs.Set.{Member}
use Rattle.model.specs.Rows.{Row}
use Rattle.model.specs.Group.{Update, first_tagged, member_value, Latest, nearest, latest, Size, counted, waits, with_bytes, with_latest, size_over, count, all_tags}
use Rattle.model.specs.Fine.{is_word, fine_value, rising_from, fine_member, fine_members, fine_update, fine_latest, fine_size}
use Rattle.model.proofs.FineParts.{value_bytes}
use Rattle.model.proofs.FineUpdates.{member_value_lem, update_place, update_recorded, update_incarnation, update_members}

-- the value of a tag among fine members
unfoldable pub fine_found_lem : Option (List ℕ) → Bool
fine_found_lem none = true
fine_found_lem (some v) = fine_value v

pub value_of_fine : (place tag : ℕ) (ms : List Member) → every (fine_member place) ms ≡ true → fine_found_lem (member_value tag ms) ≡ true
unfolding member_value first_tagged fine_found_lem every
value_of_fine place tag [] h = refl
value_of_fine place tag (m ∷ ms) h =
    go (eqb m.tag tag) (value_of_fine place tag ms (and_right (fine_member place m) (every (fine_member place) ms) h))
  where
    go : (b : Bool) → fine_found_lem (member_value tag ms) ≡ true → fine_found_lem (first_tagged b m.value (member_value tag ms)) ≡ true
    go true ih = member_value_lem place m (and_left (fine_member place m) (every (fine_member place) ms) h)
    go false ih = ih

nearest_fine : (r : Row Update) (o : Option (List ℕ)) (rest : Option Latest) → fine_update r ≡ true → fine_found_lem o ≡ true → fine_latest rest ≡ true → fine_latest (nearest r o rest) ≡ true
unfolding nearest fine_found_lem fine_latest
nearest_fine r none rest f g h = h
nearest_fine r (some v) rest f g h = rw (update_place r f, update_incarnation r.place r.held (update_recorded r f), g)

-- what stands nearest below a reader of fine updates
pub latest_fine : (tag : ℕ) (seen : List (Row Update)) → every fine_update seen ≡ true → fine_latest (latest tag seen) ≡ true
unfolding latest every fine_latest fine_members
latest_fine tag [] h = refl
latest_fine tag (r ∷ seen) h =
    let f : fine_update r ≡ true = and_left (fine_update r) (every fine_update seen) h in
    nearest_fine r (member_value tag r.held.members) (latest tag seen) f
    (value_of_fine r.place tag r.held.members
    (and_right (rising_from 0 r.held.members) (every (fine_member r.place) r.held.members) (update_members r.place r.held (update_recorded r f))))
    (latest_fine tag seen (and_right (fine_update r) (every fine_update seen) h))

-- ---- sizes

size_more : (n : ℕ) (s : Size) → fine_size n s ≡ true → fine_size (suc n) s ≡ true
unfolding fine_size
size_more n (counted members sum) h =
    and_both (leb members (suc n)) (leb sum (suc n * 1048577))
    (le-leb members (suc n) (omega (arith, leb-true members n (and_left (leb members n) (leb sum (n * 1048577)) h))))
    (le-leb sum (suc n * 1048577) (omega (arith, leb-true sum (n * 1048577) (and_right (leb members n) (leb sum (n * 1048577)) h))))
size_more n (waits place) h = h

-- one member more, of at most 1,048,576 bytes
size_member : (n b : ℕ) (s : Size) → b ≤ 1048576 → fine_size n s ≡ true → fine_size (suc n) (with_bytes (some b) s) ≡ true
unfolding fine_size with_bytes
size_member n b (counted members sum) g h =
    and_both (leb (members + 1) (suc n)) (leb (sum + b + 1) (suc n * 1048577))
    (le-leb (members + 1) (suc n) (omega (arith, leb-true members n (and_left (leb members n) (leb sum (n * 1048577)) h))))
    (le-leb (sum + b + 1) (suc n * 1048577) (omega (arith, leb-true sum (n * 1048577) (and_right (leb members n) (leb sum (n * 1048577)) h))))
size_member n b (waits place) g h = h

size_value : (n : ℕ) (v : List ℕ) (s : Size) → fine_value v ≡ true → fine_size n s ≡ true → fine_size (suc n) (with_bytes (bytes_len v) s) ≡ true
unfolding bytes_len with_bytes
size_value n v s f h = go (is_deletion v)
  where
    go : (b : Bool) → fine_size (suc n) (with_bytes (cond b none (some (byte_length v))) s) ≡ true
    go true = size_more n s h
    go false = size_member n (byte_length v) s (value_bytes v f) h

size_latest : (n : ℕ) (o : Option Latest) (s : Size) → fine_latest o ≡ true → fine_size n s ≡ true → fine_size (suc n) (with_latest o s) ≡ true
unfolding with_latest fine_latest fine_size
size_latest n none s f h = size_more n s h
size_latest n (some l) s f h = go l.estimate
  where
    p : (is_word l.place ≡ true) × (is_word l.incarnation ≡ true) × (fine_value l.value ≡ true)
    p = and_three (is_word l.place) (is_word l.incarnation) (fine_value l.value) f

    go : (b : Bool) → fine_size (suc n) (cond b (waits l.place) (with_bytes (bytes_len l.value) s)) ≡ true
    go true = p.0
    go false = size_value n l.value s p.2 h

-- as many members as tags at most, and 1,048,577 to the sum for each
pub size_over_fine : (ts : List ℕ) (seen : List (Row Update)) → every fine_update seen ≡ true → fine_size (length ts) (size_over ts seen) ≡ true
unfolding size_over fine_size
size_over_fine [] seen h = refl
size_over_fine (t ∷ ts) seen h = size_latest (length ts) (latest t seen) (size_over ts seen) (latest_fine t seen h) (size_over_fine ts seen h)

length_count : (n first : ℕ) → length (count n first) ≡ n
unfolding count
length_count zero first = refl
length_count (suc n) first = ap suc (length_count n (suc first))

pub size_over_all_tags_fine : (seen : List (Row Update)) → every fine_update seen ≡ true → fine_size most_tags (size_over all_tags seen) ≡ true
unfolding all_tags
size_over_all_tags_fine seen h = rw (length_count most_tags 0) at (size_over_fine (count most_tags 0) seen h)
