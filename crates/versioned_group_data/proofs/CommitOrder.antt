-- Deletions first, or tag by tag: what is committed is the same; and how many slots it takes.
-- Assumes nothing.
use mathlib.Core.Path.{◌≡◌, refl, sym, ◌∙◌, ap}
use mathlib.Core.Bool.{Bool, true, false, cond, not, ◌&&◌}
use mathlib.Core.List.{List, [], ◌∷◌, ◌++◌}
use mathlib.Core.Option.{Option, none, some}
use Prim.Native.Nat.{ℕ, suc, ◌+◌, ◌≤◌, ◌<◌}
use native.Mathlib.Omega.{arith}
use lib.Dec.{leb, eqb}
use lib.ListN.{length, take, drop, length-append, length-take, length-drop}
use borrow.Author.Tests.{not-true, leb-true, eqb-true, eq-eqb}
use Rattle.model.proofs.GroupLaws.{creation_not_deletion}
use Rattle.lists.specs.Lists.{every, keep}
use Rattle.lists.proofs.Bools.{and_left, and_right, and_three}
use Rattle.types.specs.Value.{is_creation, is_deletion}
use Rattle.request.specs.Set.{Member}
use Rattle.model.specs.Rows.{Row, is_below, is_at, is_above, rising, find, put, erase, rank, row_at}
use Rattle.model.specs.Group.{Committed, is_some, commit_over, commit_new, commit_one, commit_rest, commit}
use Rattle.model.specs.Fine.{is_word, rising_from, fine_member, fine_members, fine_group}
use Rattle.model.proofs.Rows.{split, rising_put, rising_erase}
use Rattle.model.proofs.RowLookups.{find_put_same, find_put_other, find_erase_same, find_erase_other}
use Rattle.model.proofs.RowMaps.{rising_ext}
use Rattle.model.proofs.RowPlaces.{at_absent, at_present, rank_lt, erase_present}
use Rattle.model.proofs.FineCommitted.{put_committed_lem, erase_committed_lem}
use Rattle.model.proofs.FineUpdates.{member_value_lem}
use Rattle.versioned_group_data.specs.Commit.{passes, commit_to, creations, deletions}

-- ---- edits at two places

unfoldable is_there : ℕ → ℕ → ℕ → ℕ → Bool
is_there k p l q = eqb l k && eqb q p

module _ (k p l q : ℕ) where
  there : is_there k p l q ≡ true → (l ≡ k) × (q ≡ p)
  unfolding is_there
  there e = (eqb-true l k (and_left (eqb l k) (eqb q p) e), eqb-true q p (and_right (eqb l k) (eqb q p) e))

  elsewhere : is_there k p l q ≡ false → l ≡ k → q ≡ p → ⊥
  unfolding is_there
  elsewhere e f g = let y : true ≡ false = rw (eq-eqb l k f, eq-eqb q p g) at e in let z : ◌≡◌ {A = ℕ} 0 1 = cc in omega arith

  module _ {A : Type 0} (rs : List (Row A)) where
    find_put : (a : A) → find l q (put k p a rs) ≡ cond (is_there k p l q) (some a) (find l q rs)
    find_put a = go (is_there k p l q) refl
      where
        go : (b : Bool) → is_there k p l q ≡ b → find l q (put k p a rs) ≡ cond b (some a) (find l q rs)
        go true e = rw ((there e).0, (there e).1) (find_put_same k p a rs)
        go false e = find_put_other k p l q (elsewhere e) a rs

    find_erase : find l q (erase k p rs) ≡ cond (is_there k p l q) none (find l q rs)
    find_erase = go (is_there k p l q) refl
      where
        go : (b : Bool) → is_there k p l q ≡ b → find l q (erase k p rs) ≡ cond b none (find l q rs)
        go true e = rw ((there e).0, (there e).1) (find_erase_same k p rs)
        go false e = find_erase_other k p l q (elsewhere e) rs

module _ {A : Type 0} (k p o : ℕ) (ne : p ≡ o → ⊥) (rs : List (Row A)) (g : rising rs ≡ true) where
  -- no place is both
  swap : (l q : ℕ) (x y z : Option A) → cond (is_there k p l q) x (cond (is_there k o l q) y z) ≡ cond (is_there k o l q) y (cond (is_there k p l q) x z)
  swap l q x y z = go (is_there k p l q) refl (is_there k o l q) refl
    where
      go : (b : Bool) → is_there k p l q ≡ b → (c : Bool) → is_there k o l q ≡ c → cond b x (cond c y z) ≡ cond c y (cond b x z)
      go true e true f = absurd (ne (sym (there k p l q e).1 ∙ (there k o l q f).1))
      go true e false f = refl
      go false e true f = refl
      go false e false f = refl

  put_put : (a b : A) → put k p a (put k o b rs) ≡ put k o b (put k p a rs)
  put_put a b =
      rising_ext (put k p a (put k o b rs)) (put k o b (put k p a rs))
      (rising_put k p a (put k o b rs) (rising_put k o b rs g)) (rising_put k o b (put k p a rs) (rising_put k p a rs g))
      (λ l q.
      rw (find_put k p l q (put k o b rs) a, find_put k o l q rs b, find_put k o l q (put k p a rs) b, find_put k p l q rs a)
      (swap l q (some a) (some b) (find l q rs)))

  put_erase : (a : A) → put k p a (erase k o rs) ≡ erase k o (put k p a rs)
  put_erase a =
      rising_ext (put k p a (erase k o rs)) (erase k o (put k p a rs))
      (rising_put k p a (erase k o rs) (rising_erase k o rs g)) (rising_erase k o (put k p a rs) (rising_put k p a rs g))
      (λ l q.
      rw (find_put k p l q (erase k o rs) a, find_erase k o l q rs, find_erase k o l q (put k p a rs), find_put k p l q rs a)
      (swap l q (some a) none (find l q rs)))

-- ---- how long rows are after an edit

module _ {A : Type 0} (k p : ℕ) (rs : List (Row A)) (g : rising rs ≡ true) where
  sides : length rs ≡ length (keep (is_below k p) rs) + (length (keep (is_at k p) rs) + length (keep (is_above k p) rs))
  sides =
      ap length (split k p rs g) ∙ length-append (keep (is_below k p) rs) (keep (is_at k p) rs ++ keep (is_above k p) rs)
      ∙ rw (length-append (keep (is_at k p) rs) (keep (is_above k p) rs))

  length_put : (a : A) → length (put k p a rs) ≡ suc (length (keep (is_below k p) rs) + length (keep (is_above k p) rs))
  unfolding put row_at
  length_put a =
      let e : length (put k p a rs) ≡ length (keep (is_below k p) rs) + suc (length (keep (is_above k p) rs)) =
      length-append (keep (is_below k p) rs) (row_at k p a ∷ keep (is_above k p) rs) in
      omega arith

  -- one row more, or as many
  pub put_length_absent : (a : A) → find k p rs ≡ none → length (put k p a rs) ≡ suc (length rs)
  put_length_absent a e = omega (arith, length_put a, sides, ap length (at_absent k p rs e))

  pub put_length_present : (a b : A) → find k p rs ≡ some b → length (put k p a rs) ≡ length rs
  put_length_present a b e = omega (arith, length_put a, sides, ap length (at_present k p rs b g e))

  pub put_length_le : (a : A) → length rs ≤ length (put k p a rs)
  put_length_le a = go (find k p rs) refl
    where
      go : (o : Option A) → find k p rs ≡ o → length rs ≤ length (put k p a rs)
      go none e = omega (arith, put_length_absent a e)
      go (some b) e = omega (arith, put_length_present a b e)

  pub erase_length : (b : A) → find k p rs ≡ some b → suc (length (erase k p rs)) ≡ length rs
  erase_length b e =
      omega (
        arith,
        sides,
        ap length (at_present k p rs b g e),
        ap length (erase_present k p rs g b e)
            ∙ length-append (take (rank k p rs) rs) (drop (rank k p rs + 1) rs),
        length-take (rank k p rs) rs,
        length-drop (rank k p rs + 1) rs,
        rank_lt k p rs g b e,
      )

-- ---- members whose tags rise

module _ (m : Member) (ms : List Member) (least : ℕ) (r : rising_from least (m ∷ ms) ≡ true) where
  rising_parts : (leb least m.tag ≡ true) × (leb m.tag 63 ≡ true) × (rising_from (suc m.tag) ms ≡ true)
  unfolding rising_from
  rising_parts = and_three (leb least m.tag) (leb m.tag 63) (rising_from (suc m.tag) ms) r

  pub rising_least : least ≤ m.tag
  rising_least = leb-true least m.tag rising_parts.0

  pub rising_tag : leb m.tag 63 ≡ true
  rising_tag = rising_parts.1

  pub rising_rest : rising_from (suc m.tag) ms ≡ true
  rising_rest = rising_parts.2

-- a creation is no deletion
not_both : (v : List ℕ) → is_creation v ≡ true → is_deletion v ≡ true → ⊥
not_both v c d = let f : is_deletion v ≡ false = creation_not_deletion v c in let z : ◌≡◌ {A = ℕ} 0 1 = cc in omega arith

some_found : {A : Type 0} (o : Option A) → is_some o ≡ true → (a : A) × (o ≡ some a)
unfolding is_some
some_found none e = absurd (let z : ◌≡◌ {A = ℕ} 0 1 = cc in omega arith)
some_found (some a) e = (a, refl)

none_found : {A : Type 0} (o : Option A) → is_some o ≡ false → o ≡ none
unfolding is_some
none_found none e = refl
none_found (some a) e = absurd (let z : ◌≡◌ {A = ℕ} 0 1 = cc in omega arith)

module _ (key : ℕ) where
  -- what one member leaves
  find_one : (m : Member) (g : Committed) (tag : ℕ) → (tag ≡ m.tag → ⊥) → find key tag (commit_to key (m ∷ []) g) ≡ find key tag g
  unfolding commit_to
  find_one m g tag ne = go (is_deletion m.value)
    where
      go : (d : Bool) → find key tag (cond d (erase key m.tag g) (put key m.tag m.value g)) ≡ find key tag g
      go true = find_erase_other key m.tag key tag (λ a b. ne b) g
      go false = find_put_other key m.tag key tag (λ a b. ne b) m.value g

  pub commit_to_rising : (ms : List Member) (g : Committed) → rising g ≡ true → rising (commit_to key ms g) ≡ true
  unfolding commit_to
  commit_to_rising [] g h = h
  commit_to_rising (m ∷ ms) g h =
      go (is_deletion m.value) (commit_to_rising ms (erase key m.tag g) (rising_erase key m.tag g h)) (commit_to_rising ms g h)
    where
      go : (d : Bool) → rising (commit_to key ms (erase key m.tag g)) ≡ true → rising (commit_to key ms g) ≡ true → rising (cond d (commit_to key ms (erase key m.tag g)) (put key m.tag m.value (commit_to key ms g))) ≡ true
      go true e p = e
      go false e p = rising_put key m.tag m.value (commit_to key ms g) p

  -- a tag below those of the members keeps what it had
  pub commit_to_find : (ms : List Member) (least tag : ℕ) (g : Committed) → rising_from least ms ≡ true → tag < least → find key tag (commit_to key ms g) ≡ find key tag g
  unfolding commit_to
  commit_to_find [] least tag g r h = refl
  commit_to_find (m ∷ ms) least tag g r h =
      go (is_deletion m.value) (commit_to_find ms (suc m.tag) tag (erase key m.tag g) (rising_rest m ms least r) (omega (arith, rising_least m ms least r)))
      (commit_to_find ms (suc m.tag) tag g (rising_rest m ms least r) (omega (arith, rising_least m ms least r)))
    where
      low : least ≤ m.tag
      low = rising_least m ms least r

      go : (d : Bool) → find key tag (commit_to key ms (erase key m.tag g)) ≡ find key tag (erase key m.tag g) → find key tag (commit_to key ms g) ≡ find key tag g →
          find key tag (cond d (commit_to key ms (erase key m.tag g)) (put key m.tag m.value (commit_to key ms g))) ≡ find key tag g
      go true e p = e ∙ find_erase_other key m.tag key tag (λ a b. omega (arith, low)) g
      go false e p = find_put_other key m.tag key tag (λ a b. omega (arith, low)) m.value (commit_to key ms g) ∙ p

  -- and a value put there may as well be put before
  commit_to_put : (ms : List Member) (least tag : ℕ) (v : List ℕ) (g : Committed) → rising g ≡ true → rising_from least ms ≡ true → tag < least → commit_to key ms (put key tag v g) ≡ put key tag v (commit_to key ms g)
  unfolding commit_to
  commit_to_put [] least tag v g h r l = refl
  commit_to_put (m ∷ ms) least tag v g h r l =
      go (is_deletion m.value) (commit_to_put ms (suc m.tag) tag v (erase key m.tag g) (rising_erase key m.tag g h) (rising_rest m ms least r) (omega (arith, rising_least m ms least r)))
      (commit_to_put ms (suc m.tag) tag v g h (rising_rest m ms least r) (omega (arith, rising_least m ms least r)))
    where
      low : least ≤ m.tag
      low = rising_least m ms least r

      go : (d : Bool) → commit_to key ms (put key tag v (erase key m.tag g)) ≡ put key tag v (commit_to key ms (erase key m.tag g)) →
          commit_to key ms (put key tag v g) ≡ put key tag v (commit_to key ms g) →
          cond d (commit_to key ms (erase key m.tag (put key tag v g))) (put key m.tag m.value (commit_to key ms (put key tag v g)))
          ≡ put key tag v (cond d (commit_to key ms (erase key m.tag g)) (put key m.tag m.value (commit_to key ms g)))
      go true e p = ap (commit_to key ms) (sym (put_erase key tag m.tag (λ z. omega (arith, low)) g h v)) ∙ e
      go false e p = ap (put key m.tag m.value) p ∙ put_put key m.tag tag (λ z. omega (arith, low)) (commit_to key ms g) (commit_to_rising ms g h) m.value v

  -- ---- the commit rule

  commit_one_passes : (m : Member) (g : Committed) → commit_one key m g ≡ cond (passes key g m) (some (commit_to key (m ∷ []) g)) none
  unfolding commit_one commit_over commit_new passes commit_to
  commit_one_passes m g = go (is_some (find key m.tag g)) (is_creation m.value) refl (is_deletion m.value) refl
    where
      go : (a c : Bool) → is_creation m.value ≡ c → (d : Bool) → is_deletion m.value ≡ d →
          cond a (cond d (some (erase key m.tag g)) (cond c none (some (put key m.tag m.value g)))) (cond c (some (put key m.tag m.value g)) none)
          ≡ cond (cond c (not a) a) (some (cond d (erase key m.tag g) (put key m.tag m.value g))) none
      go a true e true f = absurd (not_both m.value e f)
      go true true e false f = refl
      go true false e true f = refl
      go true false e false f = refl
      go false true e false f = refl
      go false false e d f = refl

  -- look-ups that agree from a tag on pass the same members
  passes_same : (ms : List Member) (least : ℕ) (g h : Committed) → rising_from least ms ≡ true → ((tag : ℕ) → least ≤ tag → find key tag g ≡ find key tag h) → every (passes key g) ms ≡ every (passes key h) ms
  unfolding every passes
  passes_same [] least g h r e = refl
  passes_same (m ∷ ms) least g h r e =
      let low : least ≤ m.tag = rising_least m ms least r in
      rw (e m.tag low, passes_same ms (suc m.tag) g h (rising_rest m ms least r) (λ tag l. e tag (omega arith)))

  commit_to_one : (m : Member) (ms : List Member) (g : Committed) → rising g ≡ true → rising_from (suc m.tag) ms ≡ true → commit_to key ms (commit_to key (m ∷ []) g) ≡ commit_to key (m ∷ ms) g
  unfolding commit_to
  commit_to_one m ms g h r = go (is_deletion m.value)
    where
      go : (d : Bool) → commit_to key ms (cond d (erase key m.tag g) (put key m.tag m.value g)) ≡ cond d (commit_to key ms (erase key m.tag g)) (put key m.tag m.value (commit_to key ms g))
      go true = refl
      go false = commit_to_put ms (suc m.tag) m.tag m.value g h r (omega arith)

  -- Tag by tag, or every tag tested first and then deletions first.
  pub commit_passes : (ms : List Member) (least : ℕ) (g : Committed) → rising g ≡ true → rising_from least ms ≡ true → commit key ms g ≡ cond (every (passes key g) ms) (some (commit_to key ms g)) none
  unfolding commit commit_rest every commit_to
  commit_passes [] least g h r = refl
  commit_passes (m ∷ ms) least g h r =
      rw (commit_one_passes m g)
      (go (passes key g m) (commit_passes ms (suc m.tag) (commit_to key (m ∷ []) g) (commit_to_rising (m ∷ []) g h) (rising_rest m ms least r)))
    where
      go : (b : Bool) → commit key ms (commit_to key (m ∷ []) g) ≡ cond (every (passes key (commit_to key (m ∷ []) g)) ms) (some (commit_to key ms (commit_to key (m ∷ []) g))) none →
          commit_rest (cond b (some (commit_to key (m ∷ []) g)) none) (λ x. commit key ms x) ≡ cond (b && every (passes key g) ms) (some (commit_to key (m ∷ ms) g)) none
      go true ih =
          ih
          ∙ rw (
            passes_same ms (suc m.tag) (commit_to key (m ∷ []) g) g (rising_rest m ms least r) (λ tag l. find_one m g tag (λ z. omega arith)),
            commit_to_one m ms g h (rising_rest m ms least r),
          )
      go false ih = refl

  -- ---- slots

  passes_one : (m : Member) (g : Committed) (c : Bool) → is_creation m.value ≡ c → passes key g m ≡ true → is_some (find key m.tag g) ≡ not c
  unfolding passes
  passes_one m g c e p = go c (rw e at p)
    where
      go : (c : Bool) → cond c (not (is_some (find key m.tag g))) (is_some (find key m.tag g)) ≡ true → is_some (find key m.tag g) ≡ not c
      go true q = not-true (is_some (find key m.tag g)) q
      go false q = q

  -- Each creation takes a slot and each deletion frees one.
  pub commit_to_length : (ms : List Member) (least : ℕ) (g : Committed) → rising g ≡ true → rising_from least ms ≡ true → every (passes key g) ms ≡ true → length (commit_to key ms g) + deletions ms ≡ length g + creations ms
  unfolding commit_to creations deletions every
  commit_to_length [] least g h r p = refl
  commit_to_length (m ∷ ms) least g h r p =
      go (is_creation m.value) refl (is_deletion m.value) refl
      (λ e. commit_to_length ms (suc m.tag) (erase key m.tag g) (rising_erase key m.tag g h) r' e)
      (commit_to_length ms (suc m.tag) g h r' rest)
    where
      r' : rising_from (suc m.tag) ms ≡ true
      r' = rising_rest m ms least r

      rest : every (passes key g) ms ≡ true
      rest = and_right (passes key g m) (every (passes key g) ms) p

      -- the rest pass without what this deletes, and find what this finds
      erased : every (passes key (erase key m.tag g)) ms ≡ true
      erased = passes_same ms (suc m.tag) (erase key m.tag g) g r' (λ tag l. find_erase_other key m.tag key tag (λ a b. omega arith) g) ∙ rest

      same : find key m.tag (commit_to key ms g) ≡ find key m.tag g
      same = commit_to_find ms (suc m.tag) m.tag g r' (omega arith)

      found : (c : Bool) → is_creation m.value ≡ c → is_some (find key m.tag g) ≡ not c
      found c e = passes_one m g c e (and_left (passes key g m) (every (passes key g) ms) p)

      go : (c : Bool) → is_creation m.value ≡ c → (d : Bool) → is_deletion m.value ≡ d →
          (every (passes key (erase key m.tag g)) ms ≡ true → length (commit_to key ms (erase key m.tag g)) + deletions ms ≡ length (erase key m.tag g) + creations ms) →
          length (commit_to key ms g) + deletions ms ≡ length g + creations ms →
          length (cond d (commit_to key ms (erase key m.tag g)) (put key m.tag m.value (commit_to key ms g))) + cond d (suc (deletions ms)) (deletions ms) ≡ length g + cond c (suc (creations ms)) (creations ms)
      go true e true f ihe ih = absurd (not_both m.value e f)
      go false e true f ihe ih =
          let w = some_found (find key m.tag g) (found false e) in
          omega (arith, ihe erased, erase_length key m.tag g h w.0 w.1)
      go true e false f ihe ih =
          let n : find key m.tag (commit_to key ms g) ≡ none = same ∙ none_found (find key m.tag g) (found true e) in
          omega (arith, put_length_absent key m.tag (commit_to key ms g) (commit_to_rising ms g h) m.value n)
      go false e false f ihe ih =
          let w = some_found (find key m.tag g) (found false e) in
          omega (arith, put_length_present key m.tag (commit_to key ms g) (commit_to_rising ms g h) m.value w.0 (same ∙ w.1))

  -- ---- rule 5

  commit_to_from : (place : ℕ) (ms : List Member) (least : ℕ) (g : Committed) → is_word key ≡ true → fine_group g ≡ true → rising_from least ms ≡ true → every (fine_member place) ms ≡ true → fine_group (commit_to key ms g) ≡ true
  unfolding commit_to every
  commit_to_from place [] least g k h r f = h
  commit_to_from place (m ∷ ms) least g k h r f =
      go (is_deletion m.value) refl (commit_to_from place ms (suc m.tag) (erase key m.tag g) k (erase_committed_lem key m.tag g h) (rising_rest m ms least r) rest)
      (commit_to_from place ms (suc m.tag) g k h (rising_rest m ms least r) rest)
    where
      rest : every (fine_member place) ms ≡ true
      rest = and_right (fine_member place m) (every (fine_member place) ms) f

      go : (d : Bool) → is_deletion m.value ≡ d → fine_group (commit_to key ms (erase key m.tag g)) ≡ true → fine_group (commit_to key ms g) ≡ true →
          fine_group (cond d (commit_to key ms (erase key m.tag g)) (put key m.tag m.value (commit_to key ms g))) ≡ true
      go true e x y = x
      go false e x y =
          put_committed_lem key m.tag m.value (commit_to key ms g) y k (rising_tag m ms least r)
          (member_value_lem place m (and_left (fine_member place m) (every (fine_member place) ms) f)) e

  pub commit_to_fine : (place : ℕ) (ms : List Member) (g : Committed) → is_word key ≡ true → fine_group g ≡ true → fine_members place ms ≡ true → fine_group (commit_to key ms g) ≡ true
  unfolding fine_members
  commit_to_fine place ms g k h f =
      commit_to_from place ms 0 g k h (and_left (rising_from 0 ms) (every (fine_member place) ms) f) (and_right (rising_from 0 ms) (every (fine_member place) ms) f)
