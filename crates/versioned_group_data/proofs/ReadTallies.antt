-- One pass over the slots finds what look-ups of each tag find: the latest of a tag, and the size.
-- Assumes nothing.
use mathlib.Core.Path.{◌≡◌, refl, sym, ◌∙◌, ap}
use mathlib.Core.Bool.{Bool, true, false, cond}
use mathlib.Core.List.{List, [], ◌∷◌, ◌++◌, map, reverse, reverse-cons}
use mathlib.Core.Option.{Option, none, some}
use Prim.Native.Nat.{ℕ, zero, suc, ◌+◌, ◌*◌, ◌≤◌, ◌<◌}
use native.Mathlib.Omega.{arith}
use native.Mathlib.Decide.{dec_lt, ℕ_discrete}
use lib.Dec.{leb, ltb, eqb}
use lib.ListN.{length, get_or, set, replicate, length-set, length-replicate}
use lib.Seq.{get_or-set_same, get_or-set_other}
use borrow.Author.Tests.{leb-true, eqb-true, lt-ltb, le-ltb, eq-eqb, ne_eqb}
use Rattle.lists.specs.Lists.{every}
use Rattle.lists.proofs.Bools.{and_both, and_left, and_right}
use Rattle.lists.proofs.Lists.{every_join, every_reverse}
use Rattle.types.specs.Response.{most_tags}
use Rattle.types.specs.Value.{is_deletion, byte_length, bytes_len}
use Rattle.request.specs.Set.{Member}
use Rattle.model.specs.Rows.{Row}
use Rattle.model.specs.Group.{Update, first_tagged, member_value, nearest, latest, counted, waits, with_bytes, with_latest, size_over, count, all_tags}
use Rattle.model.specs.Fine.{fine_value, rising_from, fine_member, fine_members, fine_update}
use Rattle.model.proofs.FineParts.{value_bytes}
use Rattle.model.proofs.FineUpdates.{member_value_lem, update_recorded, update_members}
use Rattle.versioned_group_data.specs.Sizes.{Item, item_of, items, fine_item, first_of, latest_of, Tally, start, waiting, counting, tallied, tally, size_of, seen_count, Bounded}
use Rattle.versioned_group_data.proofs.CommitOrder.{rising_least, rising_tag, rising_rest}

-- ---- the latest of a tag

unfoldable or_else : Option Item → Option Item → Option Item
or_else none o = o
or_else (some x) o = some x

first_of_append : (tag : ℕ) (xs ys : List Item) → first_of tag (xs ++ ys) ≡ or_else (first_of tag xs) (first_of tag ys)
unfolding first_of or_else
first_of_append tag [] ys = refl
first_of_append tag (x ∷ xs) ys = go (eqb x.tag tag) (first_of_append tag xs ys)
  where
    go : (b : Bool) → first_of tag (xs ++ ys) ≡ or_else (first_of tag xs) (first_of tag ys) →
        cond b (some x) (first_of tag (xs ++ ys)) ≡ or_else (cond b (some x) (first_of tag xs)) (first_of tag ys)
    go true ih = refl
    go false ih = ih

pub first_of_tag : (tag : ℕ) (xs : List Item) (y : Item) → first_of tag xs ≡ some y → y.tag ≡ tag
unfolding first_of
first_of_tag tag [] y e = absurd (let z : ◌≡◌ {A = ℕ} 0 1 = cc in omega arith)
first_of_tag tag (x ∷ xs) y e = go (eqb x.tag tag) refl e (first_of_tag tag xs y)
  where
    go : (b : Bool) → eqb x.tag tag ≡ b → cond b (some x) (first_of tag xs) ≡ some y → (first_of tag xs ≡ some y → y.tag ≡ tag) → y.tag ≡ tag
    go true f g ih = let z : x ≡ y = cc in ap (λ (i : Item). i.tag) (sym z) ∙ eqb-true x.tag tag f
    go false f g ih = ih g

-- the value of a tag in an update, as an item
unfoldable item_found : Row Update → ℕ → Option (List ℕ) → Option Item
item_found r tag none = none
item_found r tag (some v) = some (item_of r (record { tag = tag; value = v }))

value_of_below : (tag least : ℕ) (ms : List Member) → rising_from least ms ≡ true → tag < least → member_value tag ms ≡ none
unfolding member_value first_tagged
value_of_below tag least [] r h = refl
value_of_below tag least (m ∷ ms) r h =
    let low : least ≤ m.tag = rising_least m ms least r in
    rw (ne_eqb m.tag tag (λ e. omega arith)) (value_of_below tag (suc m.tag) ms (rising_rest m ms least r) (omega arith))

members_first : (r : Row Update) (tag least : ℕ) (ms : List Member) → rising_from least ms ≡ true → first_of tag (reverse (map (item_of r) ms)) ≡ item_found r tag (member_value tag ms)
unfolding member_value first_tagged first_of item_found or_else item_of
members_first r tag least [] h = refl
members_first r tag least (m ∷ ms) h =
    ap (first_of tag) (reverse-cons (item_of r m) (map (item_of r) ms))
    ∙ first_of_append tag (reverse (map (item_of r) ms)) (item_of r m ∷ [])
    ∙ rw (members_first r tag (suc m.tag) ms (rising_rest m ms least h)) (go (eqb m.tag tag) refl)
  where
    last : (o : Option (List ℕ)) → or_else (item_found r tag o) none ≡ item_found r tag o
    last none = refl
    last (some v) = refl

    go : (b : Bool) → eqb m.tag tag ≡ b → or_else (item_found r tag (member_value tag ms)) (cond b (some (item_of r m)) none) ≡ item_found r tag (first_tagged b m.value (member_value tag ms))
    go true e =
        rw (value_of_below tag (suc m.tag) ms (rising_rest m ms least h) (omega (arith, eqb-true m.tag tag e)))
        (ap (λ (t : ℕ). some (item_of r (record { tag = t; value = m.value }))) (eqb-true m.tag tag e))
    go false e = last (member_value tag ms)

-- members of a fine update rise, and their values are fine
module _ (r : Row Update) (f : fine_update r ≡ true) where
  members_rise : rising_from 0 r.held.members ≡ true
  unfolding fine_members
  members_rise =
      and_left (rising_from 0 r.held.members) (every (fine_member r.place) r.held.members) (update_members r.place r.held (update_recorded r f))

  members_every : every (fine_member r.place) r.held.members ≡ true
  unfolding fine_members
  members_every =
      and_right (rising_from 0 r.held.members) (every (fine_member r.place) r.held.members) (update_members r.place r.held (update_recorded r f))

-- The latest of a tag is what is met first.
pub latest_items : (tag : ℕ) (rows : List (Row Update)) → every fine_update rows ≡ true → latest tag rows ≡ latest_of (first_of tag (items rows))
unfolding latest items first_of latest_of every nearest or_else item_found item_of
latest_items tag [] h = refl
latest_items tag (r ∷ rs) h =
    go (member_value tag r.held.members) (latest_items tag rs (and_right (fine_update r) (every fine_update rs) h))
    ∙ ap latest_of
    (sym
    (first_of_append tag (reverse (map (item_of r) r.held.members)) (items rs)
    ∙ ap (λ (o : Option Item). or_else o (first_of tag (items rs)))
    (members_first r tag 0 r.held.members (members_rise r (and_left (fine_update r) (every fine_update rs) h)))))
  where
    go : (o : Option (List ℕ)) → latest tag rs ≡ latest_of (first_of tag (items rs)) → nearest r o (latest tag rs) ≡ latest_of (or_else (item_found r tag o) (first_of tag (items rs)))
    go none ih = ih
    go (some v) ih = refl

-- ---- fine items

map_fine : (r : Row Update) (least : ℕ) (ms : List Member) → rising_from least ms ≡ true → every (fine_member r.place) ms ≡ true → every fine_item (map (item_of r) ms) ≡ true
unfolding every fine_item item_of
map_fine r least [] h f = refl
map_fine r least (m ∷ ms) h f =
    and_both (fine_item (item_of r m)) (every fine_item (map (item_of r) ms))
    (and_both (leb m.tag 63) (fine_value m.value) (rising_tag m ms least h)
    (member_value_lem r.place m (and_left (fine_member r.place m) (every (fine_member r.place) ms) f)))
    (map_fine r (suc m.tag) ms (rising_rest m ms least h) (and_right (fine_member r.place m) (every (fine_member r.place) ms) f))

pub items_fine : (rows : List (Row Update)) → every fine_update rows ≡ true → every fine_item (items rows) ≡ true
unfolding items every
items_fine [] h = refl
items_fine (r ∷ rs) h =
    every_join fine_item (reverse (map (item_of r) r.held.members)) (items rs)
    (every_reverse fine_item (map (item_of r) r.held.members) (map_fine r 0 r.held.members (members_rise r f) (members_every r f)))
    (items_fine rs (and_right (fine_update r) (every fine_update rs) h))
  where
    f : fine_update r ≡ true
    f = and_left (fine_update r) (every fine_update rs) h

module _ (x : Item) (f : fine_item x ≡ true) where
  pub item_tag : x.tag ≤ 63
  unfolding fine_item
  item_tag = leb-true x.tag 63 (and_left (leb x.tag 63) (fine_value x.value) f)

  pub item_value : fine_value x.value ≡ true
  unfolding fine_item
  item_value = and_right (leb x.tag 63) (fine_value x.value) f

-- ---- items of two tags may be counted in either order

waiting_waiting : (t p u q : ℕ) (a : Tally) → (t ≡ u → ⊥) → waiting t p (waiting u q a) ≡ waiting u q (waiting t p a)
unfolding waiting
waiting_waiting t p u q a ne = go (dec_lt t a.lowest) (dec_lt u a.lowest) (dec_lt t u)
  where
    go : Dec (t < a.lowest) → Dec (u < a.lowest) → Dec (t < u) → waiting t p (waiting u q a) ≡ waiting u q (waiting t p a)
    go (yes h) (yes g) (yes l) = rw (lt-ltb t a.lowest h, lt-ltb u a.lowest g, lt-ltb t u l, le-ltb u t (omega arith))
    go (yes h) (yes g) (no l) = rw (lt-ltb t a.lowest h, lt-ltb u a.lowest g, le-ltb t u (omega arith), lt-ltb u t (omega arith))
    go (yes h) (no g) l = rw (lt-ltb t a.lowest h, le-ltb u a.lowest (omega arith), le-ltb u t (omega arith), lt-ltb t a.lowest h)
    go (no h) (yes g) l = rw (le-ltb t a.lowest (omega arith), lt-ltb u a.lowest g, le-ltb t u (omega arith))
    go (no h) (no g) l = rw (le-ltb t a.lowest (omega arith), le-ltb u a.lowest (omega arith), le-ltb t a.lowest (omega arith))

waiting_counting : (t p : ℕ) (o : Option ℕ) (a : Tally) → waiting t p (counting o a) ≡ counting o (waiting t p a)
unfolding waiting counting
waiting_counting t p none a = refl
waiting_counting t p (some n) a = go (ltb t a.lowest) refl
  where
    go : (b : Bool) → ltb t a.lowest ≡ b → waiting t p (counting (some n) a) ≡ counting (some n) (waiting t p a)
    go true e = rw e
    go false e = rw e

counting_counting : (o p : Option ℕ) (a : Tally) → counting o (counting p a) ≡ counting p (counting o a)
unfolding counting
counting_counting none p a = refl
counting_counting (some n) none a = refl
counting_counting (some n) (some k) a =
    λ i. record { members = a.members + 1 + 1; sum = sums i; lowest = a.lowest; waits_at = a.waits_at }
  where
    sums : a.sum + k + 1 + n + 1 ≡ a.sum + n + 1 + k + 1
    sums = omega arith

tallied_tallied : (x y : Item) (a : Tally) → (x.tag ≡ y.tag → ⊥) → tallied x (tallied y a) ≡ tallied y (tallied x a)
unfolding tallied
tallied_tallied x y a ne = go x.estimate y.estimate
  where
    go : (b c : Bool) → ◌≡◌ {A = Tally} (cond b (waiting x.tag x.place (cond c (waiting y.tag y.place a) (counting (bytes_len y.value) a))) (counting (bytes_len x.value) (cond c (waiting y.tag y.place a) (counting (bytes_len y.value) a))))
        (cond c (waiting y.tag y.place (cond b (waiting x.tag x.place a) (counting (bytes_len x.value) a))) (counting (bytes_len y.value) (cond b (waiting x.tag x.place a) (counting (bytes_len x.value) a))))
    go true true = waiting_waiting x.tag x.place y.tag y.place a ne
    go true false = waiting_counting x.tag x.place (bytes_len y.value) a
    go false true = sym (waiting_counting y.tag y.place (bytes_len x.value) a)
    go false false = counting_counting (bytes_len x.value) (bytes_len y.value) a

-- ---- tag by tag

unfoldable tallied_if : Option Item → Tally → Tally
tallied_if none a = a
tallied_if (some x) a = tallied x a

-- The tally of what is found of each tag, the last of them first.
unfoldable over : List ℕ → (ℕ → Option Item) → Tally → Tally
over [] f a = a
over (t ∷ ts) f a = tallied_if (f t) (over ts f a)

abbrev Tagged : (ℕ → Option Item) → Type 0
Tagged f = (t : ℕ) (y : Item) → f t ≡ some y → y.tag ≡ t

over_same : (n first : ℕ) (f g : ℕ → Option Item) (a : Tally) → ((t : ℕ) → first ≤ t → f t ≡ g t) → over (count n first) f a ≡ over (count n first) g a
unfolding over count
over_same zero first f g a e = refl
over_same (suc n) first f g a e = rw (e first (omega arith), over_same n (suc first) f g a (λ t h. e t (omega arith)))

-- an item of a lower tag may be counted before
over_tallied : (n first : ℕ) (g : ℕ → Option Item) (x : Item) (a : Tally) → Tagged g → x.tag < first → tallied x (over (count n first) g a) ≡ over (count n first) g (tallied x a)
unfolding over count tallied_if
over_tallied zero first g x a w h = refl
over_tallied (suc n) first g x a w h = go (g first) refl (over_tallied n (suc first) g x a w (omega arith))
  where
    go : (o : Option Item) → g first ≡ o → tallied x (over (count n (suc first)) g a) ≡ over (count n (suc first)) g (tallied x a) →
        tallied x (tallied_if o (over (count n (suc first)) g a)) ≡ tallied_if o (over (count n (suc first)) g (tallied x a))
    go none e ih = ih
    go (some y) e ih =
        tallied_tallied x y (over (count n (suc first)) g a) (λ z. omega (arith, w first y e)) ∙ ap (tallied y) ih

-- an item counted before all others, or at its tag
over_first : (n first : ℕ) (f g : ℕ → Option Item) (x : Item) (a : Tally) → Tagged g → first ≤ x.tag → x.tag < first + n → f x.tag ≡ some x → g x.tag ≡ none →
    ((t : ℕ) → (t ≡ x.tag → ⊥) → f t ≡ g t) → over (count n first) f a ≡ over (count n first) g (tallied x a)
unfolding over count tallied_if
over_first zero first f g x a w l h e z same = absurd (omega arith)
over_first (suc n) first f g x a w l h e z same =
    go (ℕ_discrete first x.tag) (λ k. over_first n (suc first) f g x a w k (omega arith) e z same)
  where
    go : Dec (first ≡ x.tag) → (suc first ≤ x.tag → over (count n (suc first)) f a ≡ over (count n (suc first)) g (tallied x a)) →
        tallied_if (f first) (over (count n (suc first)) f a) ≡ tallied_if (g first) (over (count n (suc first)) g (tallied x a))
    go (yes k) ih =
        rw (k, e, z)
        (ap (tallied x) (over_same n (suc x.tag) f g a (λ t i. same t (λ j. omega arith)))
        ∙ over_tallied n (suc x.tag) g x a w (omega arith))
    go (no k) ih = rw (same first k, ih (omega arith))

-- ---- one pass

-- what is still to be found of a tag
unfoldable fresh : List ℕ → List Item → ℕ → Option Item
fresh seen xs t = cond (eqb (get_or seen t 0) 0) (first_of t xs) none

first_of_later : (t : ℕ) (x : Item) (xs : List Item) → (t ≡ x.tag → ⊥) → first_of t (x ∷ xs) ≡ first_of t xs
unfolding first_of
first_of_later t x xs ne = rw (ne_eqb x.tag t (λ e. ne (sym e)))

fresh_tagged : (seen : List ℕ) (xs : List Item) → Tagged (fresh seen xs)
unfolding fresh
fresh_tagged seen xs t y e = go (eqb (get_or seen t 0) 0) e
  where
    go : (b : Bool) → cond b (first_of t xs) none ≡ some y → y.tag ≡ t
    go true f = first_of_tag t xs y f
    go false f = absurd (let z : ◌≡◌ {A = ℕ} 0 1 = cc in omega arith)

over_nothing : (n first : ℕ) (seen : List ℕ) (a : Tally) → over (count n first) (fresh seen []) a ≡ a
unfolding over count fresh first_of tallied_if
over_nothing zero first seen a = refl
over_nothing (suc n) first seen a = go (eqb (get_or seen first 0) 0) (over_nothing n (suc first) seen a)
  where
    go : (b : Bool) → over (count n (suc first)) (fresh seen []) a ≡ a → tallied_if (cond b none none) (over (count n (suc first)) (fresh seen []) a) ≡ a
    go true ih = ih
    go false ih = ih

module _ (seen : List ℕ) (x : Item) (xs : List Item) where
  -- a tag that is seen already
  fresh_again : eqb (get_or seen x.tag 0) 0 ≡ false → (t : ℕ) → fresh seen (x ∷ xs) t ≡ fresh seen xs t
  unfolding fresh
  fresh_again e t = go (ℕ_discrete t x.tag)
    where
      go : Dec (t ≡ x.tag) → cond (eqb (get_or seen t 0) 0) (first_of t (x ∷ xs)) none ≡ cond (eqb (get_or seen t 0) 0) (first_of t xs) none
      go (yes k) = rw (k, e)
      go (no k) = rw (first_of_later t x xs k)

  -- one that is new
  module _ (e : eqb (get_or seen x.tag 0) 0 ≡ true) (l : x.tag < length seen) where
    fresh_here : fresh seen (x ∷ xs) x.tag ≡ some x
    unfolding fresh first_of
    fresh_here = rw (e, eq-eqb x.tag x.tag refl)

    fresh_gone : fresh (set seen x.tag 1) xs x.tag ≡ none
    unfolding fresh
    fresh_gone = rw (get_or-set_same seen x.tag 1 0 l)

    fresh_other : (t : ℕ) → (t ≡ x.tag → ⊥) → fresh seen (x ∷ xs) t ≡ fresh (set seen x.tag 1) xs t
    unfolding fresh
    fresh_other t ne = rw (first_of_later t x xs ne, get_or-set_other seen x.tag t 1 0 ne)

tally_over : (xs : List Item) (seen : List ℕ) (a : Tally) → length seen ≡ most_tags → every fine_item xs ≡ true → tally seen a xs ≡ over (count most_tags 0) (fresh seen xs) a
unfolding tally every
tally_over [] seen a n f = sym (over_nothing most_tags 0 seen a)
tally_over (x ∷ xs) seen a n f =
    go (eqb (get_or seen x.tag 0) 0) refl
    (tally_over xs (set seen x.tag 1) (tallied x a) (length-set seen x.tag 1 ∙ n) (and_right (fine_item x) (every fine_item xs) f))
    (tally_over xs seen a n (and_right (fine_item x) (every fine_item xs) f))
  where
    low : x.tag ≤ 63
    low = item_tag x (and_left (fine_item x) (every fine_item xs) f)

    go : (b : Bool) → eqb (get_or seen x.tag 0) 0 ≡ b →
        tally (set seen x.tag 1) (tallied x a) xs ≡ over (count most_tags 0) (fresh (set seen x.tag 1) xs) (tallied x a) →
        tally seen a xs ≡ over (count most_tags 0) (fresh seen xs) a →
        cond b (tally (set seen x.tag 1) (tallied x a) xs) (tally seen a xs) ≡ over (count most_tags 0) (fresh seen (x ∷ xs)) a
    go true e new again =
        let l : x.tag < length seen = omega (arith, low) in
        new
        ∙ sym
        (over_first most_tags 0 (fresh seen (x ∷ xs)) (fresh (set seen x.tag 1) xs) x a (fresh_tagged (set seen x.tag 1) xs) (omega arith) (omega (arith, low))
        (fresh_here seen x xs e l) (fresh_gone seen x xs e l) (fresh_other seen x xs e l))
    go false e new again =
        again ∙ sym (over_same most_tags 0 (fresh seen (x ∷ xs)) (fresh seen xs) a (λ t h. fresh_again seen x xs e t))

-- ---- the size

zeros : (n t : ℕ) → ◌≡◌ {A = ℕ} (get_or (replicate n 0) t 0) 0
zeros zero t = refl
zeros (suc n) zero = refl
zeros (suc n) (suc t) = zeros n t

fresh_start : (n : ℕ) (xs : List Item) (t : ℕ) → fresh (replicate n 0) xs t ≡ first_of t xs
unfolding fresh
fresh_start n xs t = rw (zeros n t)

size_of_counting : (o : Option ℕ) (a : Tally) → with_bytes o (size_of a) ≡ size_of (counting o a)
unfolding with_bytes size_of counting
size_of_counting none a = refl
size_of_counting (some n) a = go (ltb a.lowest most_tags)
  where
    go : (b : Bool) → with_bytes (some n) (cond b (waits a.waits_at) (counted a.members a.sum)) ≡ cond b (waits a.waits_at) (counted (a.members + 1) (a.sum + n + 1))
    go true = refl
    go false = refl

size_of_waiting : (tag place : ℕ) (a : Tally) → tag < a.lowest → tag < most_tags → waits place ≡ size_of (waiting tag place a)
unfolding size_of waiting
size_of_waiting tag place a h l = rw (lt-ltb tag a.lowest h, lt-ltb tag most_tags l)

counting_lowest : (o : Option ℕ) (a : Tally) → (counting o a).lowest ≡ a.lowest
unfolding counting
counting_lowest none a = refl
counting_lowest (some n) a = refl

waiting_lowest : (tag place : ℕ) (a : Tally) → tag < a.lowest → (waiting tag place a).lowest ≡ tag
unfolding waiting
waiting_lowest tag place a h = rw (lt-ltb tag a.lowest h)

-- one tag more, below all that are waited for
size_of_tallied : (x : Item) (a : Tally) → x.tag < a.lowest → x.tag < most_tags → (with_latest (latest_of (some x)) (size_of a) ≡ size_of (tallied x a)) × (x.tag ≤ (tallied x a).lowest)
unfolding with_latest latest_of tallied
size_of_tallied x a h l = go x.estimate
  where
    go : (b : Bool) → (cond b (waits x.place) (with_bytes (bytes_len x.value) (size_of a)) ≡ size_of (cond b (waiting x.tag x.place a) (counting (bytes_len x.value) a)))
        × (x.tag ≤ (cond b (waiting x.tag x.place a) (counting (bytes_len x.value) a)).lowest)
    go true = (size_of_waiting x.tag x.place a h l, omega (arith, waiting_lowest x.tag x.place a h))
    go false = (size_of_counting (bytes_len x.value) a, omega (arith, counting_lowest (bytes_len x.value) a))

module _ (rows : List (Row Update)) (f : ℕ → Option Item) (w : Tagged f) (e : (t : ℕ) → latest t rows ≡ latest_of (f t)) where
  size_over_over : (n first : ℕ) → first + n ≤ most_tags → (size_over (count n first) rows ≡ size_of (over (count n first) f start)) × (first ≤ (over (count n first) f start).lowest)
  unfolding size_over count over tallied_if size_of start with_latest latest_of
  size_over_over zero first h = (refl, omega arith)
  size_over_over (suc n) first h = rw (e first) (go (f first) refl (size_over_over n (suc first) (omega arith)))
    where
      go : (o : Option Item) → f first ≡ o →
          (size_over (count n (suc first)) rows ≡ size_of (over (count n (suc first)) f start)) × (suc first ≤ (over (count n (suc first)) f start).lowest) →
          (with_latest (latest_of o) (size_over (count n (suc first)) rows) ≡ size_of (tallied_if o (over (count n (suc first)) f start))) × (first ≤ (tallied_if o (over (count n (suc first)) f start)).lowest)
      go none k ih = (ih.0, omega (arith, ih.1))
      go (some x) k ih =
          let t : x.tag ≡ first = w first x k in
          let r = size_of_tallied x (over (count n (suc first)) f start) (omega (arith, ih.1)) (omega arith) in
          (ap (with_latest (latest_of (some x))) ih.0 ∙ r.0, omega (arith, r.1))

-- The size is what one pass over the slots counts.
pub size_tally : (rows : List (Row Update)) → every fine_update rows ≡ true → size_over all_tags rows ≡ size_of (tally (replicate most_tags 0) start (items rows))
unfolding all_tags
size_tally rows h =
    (size_over_over rows (λ t. first_of t (items rows)) (λ t y e. first_of_tag t (items rows) y e) (λ t. latest_items t rows h) most_tags 0 (omega arith)).0
    ∙ ap size_of
    (sym
    (tally_over (items rows) (replicate most_tags 0) start (length-replicate {A = ℕ} most_tags 0) (items_fine rows h)
    ∙ over_same most_tags 0 (fresh (replicate most_tags 0) (items rows)) (λ t. first_of t (items rows)) start (λ t l. fresh_start most_tags (items rows) t)))

-- ---- bounds

pub seen_count_le : (ws : List ℕ) → seen_count ws ≤ length ws
unfolding seen_count
seen_count_le [] = omega arith
seen_count_le (w ∷ ws) = go (eqb w 0) (seen_count_le ws)
  where
    go : (b : Bool) → seen_count ws ≤ length ws → cond b (seen_count ws) (suc (seen_count ws)) ≤ suc (length ws)
    go true ih = omega arith
    go false ih = omega arith

-- one more where the word was 0
pub seen_count_set : (ws : List ℕ) (i : ℕ) → i < length ws → get_or ws i 0 ≡ 0 → seen_count (set ws i 1) ≡ suc (seen_count ws)
unfolding seen_count
seen_count_set [] i h e = absurd (omega arith)
seen_count_set (w ∷ ws) zero h e = rw e
seen_count_set (w ∷ ws) (suc i) h e = go (eqb w 0) (seen_count_set ws i (omega arith) e)
  where
    go : (b : Bool) → seen_count (set ws i 1) ≡ suc (seen_count ws) → cond b (seen_count (set ws i 1)) (suc (seen_count (set ws i 1))) ≡ suc (cond b (seen_count ws) (suc (seen_count ws)))
    go true ih = ih
    go false ih = ap suc ih

pub bounded_start : Bounded (replicate most_tags 0) start
unfolding start
bounded_start = record { tags = length-replicate {A = ℕ} most_tags 0; members = omega arith; sum = omega arith }

-- what one item adds at most
counting_members : (o : Option ℕ) (a : Tally) → (counting o a).members ≤ a.members + 1
unfolding counting
counting_members none a = omega arith
counting_members (some n) a = omega arith

counting_sum : (v : List ℕ) (a : Tally) → fine_value v ≡ true → (counting (bytes_len v) a).sum ≤ a.sum + 1048577
unfolding counting bytes_len
counting_sum v a f = go (is_deletion v)
  where
    go : (b : Bool) → (counting (cond b none (some (byte_length v))) a).sum ≤ a.sum + 1048577
    go true = omega arith
    go false = omega (arith, value_bytes v f)

waiting_counts : (t p : ℕ) (a : Tally) → ((waiting t p a).members ≡ a.members) × ((waiting t p a).sum ≡ a.sum)
unfolding waiting
waiting_counts t p a = go (ltb t a.lowest)
  where
    after : Bool → Tally
    after b = cond b (record { members = a.members; sum = a.sum; lowest = t; waits_at = p }) a

    go : (b : Bool) → ((after b).members ≡ a.members) × ((after b).sum ≡ a.sum)
    go true = (refl, refl)
    go false = (refl, refl)

tallied_counts : (x : Item) (a : Tally) → fine_value x.value ≡ true → ((tallied x a).members ≤ a.members + 1) × ((tallied x a).sum ≤ a.sum + 1048577)
unfolding tallied
tallied_counts x a f = go x.estimate
  where
    after : Bool → Tally
    after b = cond b (waiting x.tag x.place a) (counting (bytes_len x.value) a)

    go : (b : Bool) → ((after b).members ≤ a.members + 1) × ((after b).sum ≤ a.sum + 1048577)
    go true =
        let w = waiting_counts x.tag x.place a in
        (omega (arith, w.0), omega (arith, w.1))
    go false = (counting_members (bytes_len x.value) a, counting_sum x.value a f)

module _ (seen : List ℕ) (a : Tally) (b : Bounded seen a) where
  module _ (x : Item) (f : fine_item x ≡ true) (new : get_or seen x.tag 0 ≡ 0) where
    more : seen_count (set seen x.tag 1) ≡ suc (seen_count seen)
    more = seen_count_set seen x.tag (omega (arith, item_tag x f, b.tags)) new

    -- an item of a tag not yet seen keeps to them
    pub bounded_tallied : Bounded (set seen x.tag 1) (tallied x a)
    bounded_tallied =
        let w = tallied_counts x a (item_value x f) in
        record {
          tags = length-set seen x.tag 1 ∙ b.tags;
          members = omega (arith, w.0, more, b.members);
          sum = omega (arith, w.1, more, b.sum);
        }

    -- and before it is counted there is room for it
    pub bounded_room : (a.members + 1 ≤ most_tags) × (a.sum + 1048577 ≤ most_tags * 1048577)
    bounded_room =
        let l = seen_count_le (set seen x.tag 1) in (
          omega (arith, more, length-set seen x.tag 1, b.tags, b.members),
          omega (arith, more, length-set seen x.tag 1, b.tags, b.sum),
        )
