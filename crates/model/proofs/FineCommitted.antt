-- Committed values: commits keep them fine, and of a key there is a value for each of its tags and no more, so that two words hold the set.
-- Assumes nothing.
use mathlib.Core.Path.{◌≡◌, refl}
use mathlib.Core.Bool.{Bool, true, false, cond, not, ◌&&◌}
use mathlib.Core.Logic.{inl, inr}
use mathlib.Core.List.{List, [], ◌∷◌}
use mathlib.Core.Option.{Option, none, some}
use Prim.Native.Nat.{ℕ, suc, ◌+◌, ◌*◌, ◌^◌, ◌≤◌, ◌<◌}
use native.Mathlib.Nat.{pow-suc}
use native.Mathlib.Omega.{arith}
use lib.Dec.{leb, eqb}
use lib.ListN.{length, length-append}
use lib.Pow.{pow_mono}
use borrow.Author.Tests.{leb-true, le-leb, eqb-true}
use Rattle.model.proofs.GroupLaws.{creation_not_deletion}
use Rattle.lists.specs.Lists.{every}
use Rattle.lists.proofs.Bools.{and_both, and_four, and_left, and_right}
use Rattle.lists.proofs.Lists.{every_imp, every_join, every_keep, every_kept}
use Rattle.types.specs.Response.{most_tags}
use Rattle.types.specs.Value.{value_width, is_creation, is_deletion}
use Rattle.request.specs.Set.{Member}
use Rattle.model.specs.Rows.{Row, row_at, is_above, rising, find, put, erase, of_key}
use Rattle.model.specs.Group.{Committed, is_some, commit_over, commit_new, commit_one, commit_rest, commit, set_of, values_of}
use Rattle.model.specs.Fine.{is_word, fine_value, rising_from, fine_member, fine_members, fine_committed, fine_group}
use Rattle.model.proofs.Rows.{above_told, Over, rising_keep, rising_put, rising_erase}
use Rattle.model.proofs.RowMaps.{every_put, every_erase}
use Rattle.model.proofs.FineParts.{value_length, value_every}
use Rattle.model.proofs.FineUpdates.{member_value_lem}

module _ (group : Committed) (h : fine_group group ≡ true) where
  pub group_rising : rising group ≡ true
  unfolding fine_group
  group_rising = and_left (rising group) (every fine_committed group) h

  pub group_every : every fine_committed group ≡ true
  unfolding fine_group
  group_every = and_right (rising group) (every fine_committed group) h

-- ---- commits

pub put_committed_lem : (key tag : ℕ) (v : List ℕ) (group : Committed) → fine_group group ≡ true → is_word key ≡ true → leb tag 63 ≡ true → fine_value v ≡ true → is_deletion v ≡ false → fine_group (put key tag v group) ≡ true
unfolding fine_group fine_committed row_at
put_committed_lem key tag v group h k t f d =
    and_both (rising (put key tag v group)) (every fine_committed (put key tag v group))
    (rising_put key tag v group (group_rising group h))
    (every_put fine_committed key tag v group (rw (k, t, f, d)) (group_every group h))

pub erase_committed_lem : (key tag : ℕ) (group : Committed) → fine_group group ≡ true → fine_group (erase key tag group) ≡ true
unfolding fine_group
erase_committed_lem key tag group h =
    and_both (rising (erase key tag group)) (every fine_committed (erase key tag group))
    (rising_erase key tag group (group_rising group h))
    (every_erase fine_committed key tag group (group_every group h))

unfoldable pub fine_option : Option Committed → Bool
fine_option none = true
fine_option (some g) = fine_group g

pub commit_one_fine : (key : ℕ) (m : Member) (group : Committed) → fine_group group ≡ true → is_word key ≡ true → leb m.tag 63 ≡ true → fine_value m.value ≡ true → fine_option (commit_one key m group) ≡ true
unfolding commit_one commit_over commit_new fine_option
commit_one_fine key m group h k t f = go (is_some (find key m.tag group)) (is_deletion m.value) refl (is_creation m.value) refl
  where
    go : (x d : Bool) → is_deletion m.value ≡ d → (c : Bool) → is_creation m.value ≡ c → fine_option (cond x (cond d (some (erase key m.tag group)) (cond c none (some (put key m.tag m.value group)))) (cond c (some (put key m.tag m.value group)) none)) ≡ true
    go true true e c g = erase_committed_lem key m.tag group h
    go true false e true g = refl
    go true false e false g = put_committed_lem key m.tag m.value group h k t f e
    go false d e true g = put_committed_lem key m.tag m.value group h k t f (creation_not_deletion m.value g)
    go false d e false g = refl

rest_fine : (o : Option Committed) (f : Committed → Option Committed) → fine_option o ≡ true → ((g : Committed) → fine_group g ≡ true → fine_option (f g) ≡ true) → fine_option (commit_rest o f) ≡ true
unfolding commit_rest fine_option
rest_fine none f h k = refl
rest_fine (some g) f h k = k g h

module _ (key place : ℕ) (k : is_word key ≡ true) where
  commit_from : (least : ℕ) (ms : List Member) (group : Committed) → fine_group group ≡ true → rising_from least ms ≡ true → every (fine_member place) ms ≡ true → fine_option (commit key ms group) ≡ true
  unfolding commit fine_option rising_from every
  commit_from least [] group h r f = h
  commit_from least (m ∷ ms) group h r f =
      rest_fine (commit_one key m group) (λ g. commit key ms g)
      (commit_one_fine key m group h k
      (and_right (leb least m.tag) (leb m.tag 63) (and_left (leb least m.tag && leb m.tag 63) (rising_from (suc m.tag) ms) r))
      (member_value_lem place m (and_left (fine_member place m) (every (fine_member place) ms) f)))
      (λ g e.
      commit_from (suc m.tag) ms g e (and_right (leb least m.tag && leb m.tag 63) (rising_from (suc m.tag) ms) r)
      (and_right (fine_member place m) (every (fine_member place) ms) f))

  pub commit_fine : (ms : List Member) (group : Committed) → fine_group group ≡ true → fine_members place ms ≡ true → fine_option (commit key ms group) ≡ true
  unfolding fine_members
  commit_fine ms group h f =
      commit_from 0 ms group h (and_left (rising_from 0 ms) (every (fine_member place) ms) f) (and_right (rising_from 0 ms) (every (fine_member place) ms) f)

-- ---- what is committed of a key

module _ {A : Type 0} (k : ℕ) where
  -- of one key, a row above another has a higher place
  higher : (r s : Row A) → eqb r.key k ≡ true → eqb s.key k ≡ true → is_above r.key r.place s ≡ true → leb (suc r.place) s.place ≡ true
  higher r s e f h = le-leb (suc r.place) s.place (by (above_told r.key r.place s h))
    where
      by : Over r.key r.place s.key s.place → r.place < s.place
      by (inl g) = absurd (omega (arith, eqb-true r.key k e, eqb-true s.key k f))
      by (inr g) = g.1

  every_higher : (r : Row A) (rs : List (Row A)) → eqb r.key k ≡ true → every (λ s. eqb s.key k) rs ≡ true → every (is_above r.key r.place) rs ≡ true → every (λ s. leb (suc r.place) s.place) rs ≡ true
  unfolding every
  every_higher r [] e f h = refl
  every_higher r (s ∷ rs) e f h =
      and_both (leb (suc r.place) s.place) (every (λ s. leb (suc r.place) s.place) rs)
      (higher r s e (and_left (eqb s.key k) (every (λ s. eqb s.key k) rs) f) (and_left (is_above r.key r.place s) (every (is_above r.key r.place) rs) h))
      (every_higher r rs e (and_right (eqb s.key k) (every (λ s. eqb s.key k) rs) f) (and_right (is_above r.key r.place s) (every (is_above r.key r.place) rs) h))

  -- rising rows of one key at places from `least` to the last tag are no more than those places
  length_places : (least : ℕ) (rs : List (Row A)) → least ≤ most_tags → rising rs ≡ true → every (λ s. eqb s.key k) rs ≡ true → every (λ s. leb s.place 63) rs ≡ true → every (λ s. leb least s.place) rs ≡ true → length rs + least ≤ most_tags
  unfolding rising every
  length_places least [] l g e t h = omega arith
  length_places least (r ∷ rs) l g e t h =
      let t₀ : r.place ≤ 63 = leb-true r.place 63 (and_left (leb r.place 63) (every (λ s. leb s.place 63) rs) t) in
      let h₀ : least ≤ r.place = leb-true least r.place (and_left (leb least r.place) (every (λ s. leb least s.place) rs) h) in
      let e₁ = and_right (eqb r.key k) (every (λ s. eqb s.key k) rs) e in
      let ih : length rs + suc r.place ≤ most_tags =
      length_places (suc r.place) rs (omega arith) (and_right (every (is_above r.key r.place) rs) (rising rs) g) e₁
      (and_right (leb r.place 63) (every (λ s. leb s.place 63) rs) t)
      (every_higher r rs (and_left (eqb r.key k) (every (λ s. eqb s.key k) rs) e) e₁ (and_left (every (is_above r.key r.place) rs) (rising rs) g)) in
      omega arith

-- the set of such rows, with room for a bit at each place below `least`
set_of_places : (k least : ℕ) (rs : Committed) → least ≤ most_tags → rising rs ≡ true → every (λ s. eqb s.key k) rs ≡ true → every (λ s. leb s.place 63) rs ≡ true → every (λ s. leb least s.place) rs ≡ true → set_of rs + 2 ^ least ≤ 2 ^ most_tags
unfolding rising every set_of
set_of_places k least [] l g e t h = omega (arith, pow_mono l)
set_of_places k least (r ∷ rs) l g e t h =
    let t₀ : r.place ≤ 63 = leb-true r.place 63 (and_left (leb r.place 63) (every (λ s. leb s.place 63) rs) t) in
    let h₀ : least ≤ r.place = leb-true least r.place (and_left (leb least r.place) (every (λ s. leb least s.place) rs) h) in
    let e₁ = and_right (eqb r.key k) (every (λ s. eqb s.key k) rs) e in
    let ih : set_of rs + 2 ^ suc r.place ≤ 2 ^ most_tags =
    set_of_places k (suc r.place) rs (omega arith) (and_right (every (is_above r.key r.place) rs) (rising rs) g) e₁
    (and_right (leb r.place 63) (every (λ s. leb s.place 63) rs) t)
    (every_higher k r rs (and_left (eqb r.key k) (every (λ s. eqb s.key k) rs) e) e₁ (and_left (every (is_above r.key r.place) rs) (rising rs) g)) in
    omega (arith, pow_mono h₀, rw (pow-suc 2 r.place) at ih)

committed_tag : (r : Row (List ℕ)) → fine_committed r ≡ true → leb r.place 63 ≡ true
unfolding fine_committed
committed_tag r f = (and_four (is_word r.key) (leb r.place 63) (fine_value r.held) (not (is_deletion r.held)) f).1

pub committed_value : (r : Row (List ℕ)) → fine_committed r ≡ true → fine_value r.held ≡ true
unfolding fine_committed
committed_value r f = (and_four (is_word r.key) (leb r.place 63) (fine_value r.held) (not (is_deletion r.held)) f).2

pub length_values_of : (rows : Committed) → every fine_committed rows ≡ true → length (values_of rows) ≡ value_width * length rows
unfolding values_of every
length_values_of [] h = refl
length_values_of (r ∷ rows) h =
    omega (
      arith,
      length-append r.held (values_of rows),
      value_length r.held (committed_value r (and_left (fine_committed r) (every fine_committed rows) h)),
      length_values_of rows (and_right (fine_committed r) (every fine_committed rows) h),
    )

pub values_of_words : (rows : Committed) → every fine_committed rows ≡ true → every is_word (values_of rows) ≡ true
unfolding values_of every
values_of_words [] h = refl
values_of_words (r ∷ rows) h =
    every_join is_word r.held (values_of rows)
    (value_every r.held (committed_value r (and_left (fine_committed r) (every fine_committed rows) h)))
    (values_of_words rows (and_right (fine_committed r) (every fine_committed rows) h))

module _ (key : ℕ) (group : Committed) (g : fine_group group ≡ true) where
  pub of_key_fine : every fine_committed (of_key key group) ≡ true
  unfolding of_key
  of_key_fine = every_keep fine_committed (λ r. eqb r.key key) group (group_every group g)

  rows_rising : rising (of_key key group) ≡ true
  unfolding of_key
  rows_rising = rising_keep (λ r. eqb r.key key) group (group_rising group g)

  rows_same : every (λ r. eqb r.key key) (of_key key group) ≡ true
  unfolding of_key
  rows_same = every_kept (λ r. eqb r.key key) group

  rows_tags : every (λ r. leb r.place 63) (of_key key group) ≡ true
  rows_tags = every_imp fine_committed (λ r. leb r.place 63) committed_tag (of_key key group) of_key_fine

  rows_least : every (λ r. leb 0 r.place) (of_key key group) ≡ true
  rows_least = every_imp fine_committed (λ r. leb 0 r.place) (λ r h. le-leb 0 r.place (omega arith)) (of_key key group) of_key_fine

  -- "A tag is 0 to 63."
  pub length_of_key : length (of_key key group) ≤ most_tags
  length_of_key = omega (arith, length_places key 0 (of_key key group) (omega arith) rows_rising rows_same rows_tags rows_least)

  -- two words hold the set
  pub set_of_of_key : set_of (of_key key group) < 2 ^ most_tags
  set_of_of_key = omega (arith, set_of_places key 0 (of_key key group) (omega arith) rows_rising rows_same rows_tags rows_least)
