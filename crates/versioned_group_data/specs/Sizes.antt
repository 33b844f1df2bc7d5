-- The size as the store finds it: one pass over the slots below a reader, the highest first, that counts a tag where it meets it first.
use Rattle.std.specs.Prelude.{◌≡◌, Bool, cond, ◌&&◌, List, [], ◌∷◌, ◌++◌, map, reverse, ℕ, suc, ◌+◌, ◌*◌, ◌≤◌, leb, ltb, eqb, length, get_or, set}
use Rattle.std.proofs.Math.Option.{Option, none, some}
use Rattle.types.specs.Value.{bytes_len}
use Rattle.types.specs.Response.{most_tags}
use Rattle.request.specs.Set.{Member}
use Rattle.model.specs.Rows.{Row}
use Rattle.model.specs.Group.{Update, Latest, Size, counted, waits}
use Rattle.model.specs.Fine.{fine_value}

-- What a slot of a member shows a reader.
pub record Item : Type 0 where
  pub tag : ℕ
  pub place : ℕ
  pub incarnation : ℕ
  pub estimate : Bool
  pub value : List ℕ

unfoldable pub item_of : Row Update → Member → Item
item_of r m =
    record { tag = m.tag; place = r.place; incarnation = r.held.incarnation; estimate = r.held.estimate; value = m.value }

-- The items of updates, the highest update first, and within it the highest tag first.
unfoldable pub items : List (Row Update) → List Item
items [] = []
items (r ∷ rs) = reverse (map (item_of r) r.held.members) ++ items rs

unfoldable pub fine_item : Item → Bool
fine_item x = leb x.tag 63 && fine_value x.value

-- The first item of a tag.
unfoldable pub first_of : ℕ → List Item → Option Item
first_of tag [] = none
first_of tag (x ∷ xs) = cond (eqb x.tag tag) (some x) (first_of tag xs)

abbrev pub latest_in : Item → Latest
latest_in x = record { place = x.place; incarnation = x.incarnation; estimate = x.estimate; value = x.value }

unfoldable pub latest_of : Option Item → Option Latest
latest_of none = none
latest_of (some x) = some (latest_in x)

-- What has been counted so far, the lowest tag that is an estimate, or one above all tags, and the place of that.
pub record Tally : Type 0 where
  pub members : ℕ
  pub sum : ℕ
  pub lowest : ℕ
  pub waits_at : ℕ

unfoldable pub start : Tally
start = record { members = 0; sum = 0; lowest = most_tags; waits_at = 0 }

unfoldable pub waiting : ℕ → ℕ → Tally → Tally
waiting tag place t = cond (ltb tag t.lowest) (record { members = t.members; sum = t.sum; lowest = tag; waits_at = place }) t

unfoldable pub counting : Option ℕ → Tally → Tally
counting none t = t
counting (some n) t = record { members = t.members + 1; sum = t.sum + n + 1; lowest = t.lowest; waits_at = t.waits_at }

unfoldable pub tallied : Item → Tally → Tally
tallied x t = cond x.estimate (waiting x.tag x.place t) (counting (bytes_len x.value) t)

-- `seen` has a word for each tag, 0 until the tag is met.
unfoldable pub tally : List ℕ → Tally → List Item → Tally
tally seen t [] = t
tally seen t (x ∷ xs) =
    cond (eqb (get_or seen x.tag 0) 0) (tally (set seen x.tag 1) (tallied x t) xs) (tally seen t xs)

unfoldable pub size_of : Tally → Size
size_of t = cond (ltb t.lowest most_tags) (waits t.waits_at) (counted t.members t.sum)

-- How many words are not 0.
unfoldable pub seen_count : List ℕ → ℕ
seen_count [] = 0
seen_count (w ∷ ws) = cond (eqb w 0) (seen_count ws) (suc (seen_count ws))

-- For each tag seen at most one member, and 1,048,577 to the sum.
pub record Bounded (seen : List ℕ) (t : Tally) : Type 0 where
  pub tags : length seen ≡ most_tags
  pub members : t.members ≤ seen_count seen
  pub sum : t.sum ≤ seen_count seen * 1048577
