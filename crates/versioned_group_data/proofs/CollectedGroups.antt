-- The committed values of a key, and the members of an update, as a set and values in words.
-- Assumes nothing.
use mathlib.Core.Path.{◌≡◌, refl, sym, ◌∙◌, ap, ap₂}
use mathlib.Core.Bool.{true}
use mathlib.Core.List.{List, [], ◌∷◌, ◌++◌, map, append_assoc}
use mathlib.Core.Option.{some}
use Prim.Native.Nat.{ℕ, suc, ◌+◌, ◌-◌, ◌*◌, ◌^◌, ◌/◌, ◌%◌, ◌≤◌, ◌<◌}
use native.Mathlib.Nat.{add-zero, sub-zero, pow-suc}
use native.Mathlib.Omega.{arith}
use lib.Dec.{eqb}
use lib.ListN.{length, get_or, take, drop, set, length-drop, length-map}
use lib.Pow.{pow_mono, shr_mod}
use lib.Seq.{take_at, drop_at, drop-drop}
use borrow.Author.Tests.{leb-true, le-leb}
use Rattle.lists.specs.Lists.{every}
use Rattle.lists.proofs.Bools.{and_both, and_left, and_right}
use Rattle.lists.proofs.Lists.{every_keep}
use Rattle.number.specs.Words.{digits}
use Rattle.types.specs.Value.{value_width}
use Rattle.types.specs.Response.{response, answer_width, most_tags, head_of, committed_kind}
use Rattle.request.specs.Set.{Member, tags_of, members_of}
use Rattle.request.specs.declared.set.Set.{Set}
use Rattle.request.proofs.SetTags.{AtLeast, Below, Rising}
use Rattle.slots.specs.Slots.{Slot, slot_width, slots, slot_at, held, place_of, padded}
use Rattle.types.specs.Units.{units_in}
use Rattle.slots.proofs.StoreEncoding.{held_fits}
use Rattle.model.specs.Rows.{Row, of_key, find, rank, row_at}
use Rattle.model.specs.Group.{Update, Committed, set_of, values_of, committed_answer}
use Rattle.model.specs.Model.{updates_held}
use Rattle.model.specs.Fine.{fine_value, fine_member, fine_members, fine_committed, rising_from}
use Rattle.model.proofs.FineParts.{value_length}
use Rattle.model.proofs.FineCommitted.{length_of_key, set_of_of_key, length_values_of}
use Rattle.model.proofs.FineUpdates.{member_value_lem}
use Rattle.model.proofs.SetLaws.{bits, tags_of_bits}
use Rattle.group_slots.specs.Layout.{part_slot, member_slot, committed_slot, groups_in, group_valid}
use Rattle.group_slots.specs.Found.{start_of, slots_taken}
use Rattle.versioned_group_data.specs.Ruled.{answer_in}
use Rattle.request.specs.Members.{members_in}
use Rattle.request.specs.declared.members.Members.{Members}
use Rattle.versioned_group_data.specs.Collected.{is_from, tag_bits, slot_values, set_words}
use Rattle.group_slots.proofs.SlotParts.{committed_value, update_values}
use Rattle.group_slots.proofs.GatheredGroups.{part_value, committed_slot_value}
use Rattle.group_slots.proofs.GroupHolding.{fine_valid, held_valid, committed_valid, committed_every_valid}
use Rattle.group_slots.proofs.GroupMembers.{fine_found, found_tags}
use Rattle.versioned_group_data.proofs.CommitOrder.{rising_least, rising_tag, rising_rest}
use Rattle.group_slots.proofs.GroupPlaces.{place_committed, place_key_end}
use Rattle.group_slots.proofs.SlotRuns.{key_slot, run_member, run_inside}

-- Slots one after the other, each known by its number.
pub slots_run : {A : Type 0} (f : A → Slot) (xs : List A) (d : A) (s : List ℕ) (n : ℕ) → ((j : ℕ) → j < length xs → slot_at (n + j) s ≡ f (get_or xs j d)) →
    slots (length xs) (drop (slot_width * n) s) ≡ map f xs
unfolding slots
slots_run f [] d s n h = refl
slots_run f (x ∷ xs) d s n h =
    let e : slot_width * n + slot_width ≡ slot_width * suc n = omega arith in
    ap₂ (λ (u : Slot) (us : List Slot). u ∷ us) first
    (ap (slots (length xs)) (drop-drop slot_width (slot_width * n) s ∙ ap (λ (m : ℕ). drop m s) e) ∙ slots_run f xs d s (suc n) later)
  where
    first : take slot_width (drop (slot_width * n) s) ≡ f x
    first = unfold slot_at in rw (add-zero n) at (h 0 (omega arith))

    later : (j : ℕ) → j < length xs → slot_at (suc n + j) s ≡ f (get_or xs j d)
    later j l = let e : n + suc j ≡ suc n + j = omega arith in rw e at (h (suc j) (omega arith))

-- ---- the committed values of a key

committed_bits : (rows : Committed) → tag_bits 2 0 (map committed_slot rows) ≡ set_of rows
unfolding tag_bits set_of committed_slot padded
committed_bits [] = refl
committed_bits (r ∷ rows) = rw (sub-zero r.place, committed_bits rows)

committed_from : (rows : Committed) → every (is_from 2 0) (map committed_slot rows) ≡ true
unfolding every is_from
committed_from [] = refl
committed_from (r ∷ rows) = rw (le-leb 0 (get_or (committed_slot r) 2 0) (omega arith)) (committed_from rows)

committed_values : (rows : Committed) → every fine_committed rows ≡ true → slot_values (map committed_slot rows) ≡ values_of rows
unfolding slot_values values_of every
committed_values [] f = refl
committed_values (r ∷ rows) f =
    rw (
      committed_slot_value r (committed_value r (and_left (fine_committed r) (every fine_committed rows) f)),
      committed_values rows (and_right (fine_committed r) (every fine_committed rows) f),
    )

-- the first three words of an answer
pub three_written : (out : List ℕ) (a b c d : ℕ) → 3 ≤ length out → d ≡ a → set (set (set out 0 d) 1 b) 2 c ≡ a ∷ b ∷ c ∷ drop 3 out
three_written [] a b c d h e = absurd (omega arith)
three_written (x ∷ []) a b c d h e = absurd (omega arith)
three_written (x ∷ y ∷ []) a b c d h e = absurd (omega arith)
three_written (x ∷ y ∷ z ∷ out) a b c d h e = ap (λ (n : ℕ). n ∷ b ∷ c ∷ out) e

drop_three : (out : List ℕ) (a b c n : ℕ) → drop (3 + n) (a ∷ b ∷ c ∷ drop 3 out) ≡ drop (3 + n) out
drop_three out a b c n =
    let e : 3 + n ≡ suc (suc (suc n)) = omega arith in
    ap (λ (m : ℕ). drop m (a ∷ b ∷ c ∷ drop 3 out)) e ∙ drop-drop n 3 out

module _ (s : List ℕ) (v : group_valid s ≡ true) (key lo hi : ℕ) (first : lo ≡ place_of (2 ∷ key ∷ 0 ∷ 0 ∷ []) (held s)) (last : hi ≡ place_of (2 ∷ key ∷ most_tags ∷ 0 ∷ []) (held s)) where
  rows : Committed
  rows = of_key key (groups_in s).committed

  lo_is : lo ≡ updates_held (groups_in s).updates + rank key 0 (groups_in s).committed
  lo_is = first ∙ ap (place_of (2 ∷ key ∷ 0 ∷ 0 ∷ [])) (held_valid s v) ∙ place_committed (groups_in s) (fine_valid s v) key 0

  hi_is : hi ≡ updates_held (groups_in s).updates + (rank key 0 (groups_in s).committed + length rows)
  unfolding rows
  hi_is = last ∙ ap (place_of (2 ∷ key ∷ most_tags ∷ 0 ∷ [])) (held_valid s v) ∙ place_key_end key (groups_in s) (fine_valid s v)

  pub key_rises : lo ≤ hi
  key_rises = omega (arith, lo_is, hi_is)

  count_is : hi - lo ≡ length rows
  count_is = omega (arith, lo_is, hi_is)

  pub key_few : hi - lo ≤ most_tags
  unfolding rows
  key_few = omega (arith, count_is, length_of_key key (groups_in s).committed (committed_valid s v))

  rows_fine : every fine_committed rows ≡ true
  unfolding rows of_key
  rows_fine = every_keep fine_committed (λ r. eqb r.key key) (groups_in s).committed (committed_every_valid s v)

  nothing : Row (List ℕ)
  nothing = row_at 0 0 []

  key_run : slots (hi - lo) (drop (slot_width * lo) s) ≡ map committed_slot rows
  unfolding rows
  key_run =
      ap (λ (n : ℕ). slots n (drop (slot_width * lo) s)) count_is
      ∙ slots_run committed_slot rows nothing s lo
      (λ j h. ap (λ (n : ℕ). slot_at (n + j) s) lo_is ∙ key_slot s v key j nothing h)

  pub key_inside_all : hi ≤ length (held s) → lo + (hi - lo) ≤ units_in (length s)
  key_inside_all h = omega (arith, key_rises, held_fits s)

  pub key_from : every (is_from 2 0) (slots (hi - lo) (drop (slot_width * lo) s)) ≡ true
  key_from = ap (every (is_from 2 0)) key_run ∙ committed_from rows

  key_bits : tag_bits 2 0 (slots (hi - lo) (drop (slot_width * lo) s)) ≡ set_of rows
  key_bits = ap (tag_bits 2 0) key_run ∙ committed_bits rows

  pub key_bits_fit : tag_bits 2 0 (slots (hi - lo) (drop (slot_width * lo) s)) < 2 ^ 64
  unfolding rows
  key_bits_fit = rw key_bits (set_of_of_key key (groups_in s).committed (committed_valid s v))

  -- the answer's words
  values_are : slot_values (slots (hi - lo) (drop (slot_width * lo) s)) ≡ values_of rows
  values_are = ap slot_values key_run ∙ committed_values rows rows_fine

  values_length : length (values_of rows) ≡ value_width * (hi - lo)
  values_length = rw count_is (length_values_of rows rows_fine)

  module _ (tags : ℕ) (t : tags ≡ tag_bits 2 0 (slots (hi - lo) (drop (slot_width * lo) s))) (words : Set) (e : words ≡ set_words tags) where
    answer_is : committed_answer key (groups_in s).committed ≡ (head_of committed_kind (2 + value_width * (hi - lo))) ∷ words.low ∷ words.high ∷ values_of rows
    unfolding committed_answer response digits rows set_words
    answer_is =
        let f : set_of rows ≡ tags = sym (t ∙ key_bits) in
        let l : head_of committed_kind (suc (suc (length (values_of rows)))) ≡ head_of committed_kind (2 + value_width * (hi - lo)) = omega (arith, values_length) in
        ap (λ (n : ℕ). (head_of committed_kind (suc (suc (length (values_of rows))))) ∷ n % 2 ^ 32 ∷ n / 2 ^ 32 % 2 ^ 32 ∷ values_of rows) f
        ∙ ap (λ (n : ℕ). n ∷ tags % 2 ^ 32 ∷ tags / 2 ^ 32 % 2 ^ 32 ∷ values_of rows) l
        ∙ ap (λ (x : Set). (head_of committed_kind (2 + value_width * (hi - lo))) ∷ x.low ∷ x.high ∷ values_of rows) (sym e)

    pub key_answer : (out mid after : List ℕ) → mid ≡ (head_of committed_kind (2 + value_width * (hi - lo))) ∷ words.low ∷ words.high ∷ drop 3 out →
        after ≡ take 3 mid ++ (slot_values (slots (hi - lo) (drop (slot_width * lo) s)) ++ drop (3 + value_width * (hi - lo)) mid) →
        after ≡ answer_in (committed_answer key (groups_in s).committed) out
    unfolding answer_in
    key_answer out mid after m f =
        let h : ℕ = head_of committed_kind (2 + value_width * (hi - lo)) in
        let size : 3 + value_width * (hi - lo) ≡ suc (suc (suc (length (values_of rows)))) = omega (arith, values_length) in
        f
        ∙ ap (λ (l : List ℕ). take 3 l ++ (slot_values (slots (hi - lo) (drop (slot_width * lo) s)) ++ drop (3 + value_width * (hi - lo)) l)) m
        ∙ ap₂ (λ (x y : List ℕ). h ∷ words.low ∷ words.high ∷ (x ++ y)) values_are (drop_three out h words.low words.high (value_width * (hi - lo)))
        ∙ ap (λ (n : ℕ). h ∷ words.low ∷ words.high ∷ (values_of rows ++ drop n out)) size
        ∙ ap (λ (l : List ℕ). l ++ drop (length l) out) (sym answer_is)

pub three_room : (out mid : List ℕ) (a b c n : ℕ) → mid ≡ a ∷ b ∷ c ∷ drop 3 out → answer_width ≤ length out → n ≤ most_tags → 3 + value_width * n ≤ length mid
three_room out mid a b c n e h l = rw e (omega (arith, length-drop 3 out))

pub two_words : (n : ℕ) → n < 2 ^ 64 → ◌≡◌ {A = Set} (record { low = n % 2 ^ 32; high = n / 2 ^ 32 }) (set_words n)
unfolding set_words
two_words n h = let e : n / 2 ^ 32 ≡ n / 2 ^ 32 % 2 ^ 32 = sym (shr_mod 32 32 h) in λ i. record { low = n % 2 ^ 32; high = e i }

-- ---- the members of an update

unfoldable pub tags_in : List Member → List ℕ
tags_in ms = map (λ m. m.tag) ms

member_bits : (r : Row Update) (ms : List Member) → tag_bits 3 1 (map (member_slot r) ms) ≡ bits 0 (tags_in ms)
unfolding tag_bits bits tags_in member_slot part_slot padded
member_bits r [] = refl
member_bits r (m ∷ ms) = let e : suc m.tag - 1 ≡ m.tag - 0 = omega arith in rw (e, member_bits r ms)

member_from : (r : Row Update) (ms : List Member) → every (is_from 3 1) (map (member_slot r) ms) ≡ true
unfolding every is_from member_slot part_slot padded
member_from r [] = refl
member_from r (m ∷ ms) = rw (le-leb 1 (suc m.tag) (omega arith)) (member_from r ms)

-- tags that rise from n on
tags_least : (n k : ℕ) (ms : List Member) → k ≤ n → rising_from n ms ≡ true → AtLeast k (tags_in ms)
unfolding AtLeast tags_in
tags_least n k [] h r = tt
tags_least n k (m ∷ ms) h r = (omega (arith, rising_least m ms n r), tags_least (suc m.tag) k ms (omega (arith, rising_least m ms n r)) (rising_rest m ms n r))

tags_rise : (n : ℕ) (ms : List Member) → rising_from n ms ≡ true → Rising (tags_in ms)
unfolding Rising tags_in
tags_rise n [] r = tt
tags_rise n (m ∷ ms) r = (tags_least (suc m.tag) (suc m.tag) ms (omega arith) (rising_rest m ms n r), tags_rise (suc m.tag) ms (rising_rest m ms n r))

tags_below : (n : ℕ) (ms : List Member) → rising_from n ms ≡ true → Below most_tags (tags_in ms)
unfolding Below tags_in
tags_below n [] r = tt
tags_below n (m ∷ ms) r = (omega (arith, leb-true m.tag 63 (rising_tag m ms n r)), tags_below (suc m.tag) ms (rising_rest m ms n r))

pub members_few : (n : ℕ) (ms : List Member) → n ≤ most_tags → rising_from n ms ≡ true → length ms + n ≤ most_tags
members_few n [] h r = omega arith
members_few n (m ∷ ms) h r =
    let top : m.tag ≤ 63 = leb-true m.tag 63 (rising_tag m ms n r) in
    omega (arith, rising_least m ms n r, members_few (suc m.tag) ms (omega arith) (rising_rest m ms n r))

bits_fit : (n : ℕ) (ms : List Member) → n ≤ most_tags → rising_from n ms ≡ true → bits 0 (tags_in ms) + 2 ^ n ≤ 2 ^ 64
unfolding bits tags_in
bits_fit n [] h r = omega (arith, pow_mono h)
bits_fit n (m ∷ ms) h r =
    let top : m.tag ≤ 63 = leb-true m.tag 63 (rising_tag m ms n r) in
    let ih : bits 0 (tags_in ms) + 2 ^ suc m.tag ≤ 2 ^ 64 = bits_fit (suc m.tag) ms (omega arith) (rising_rest m ms n r) in
    rw (sub-zero m.tag) (omega (arith, pow_mono (rising_least m ms n r), rw (pow-suc 2 m.tag) at ih))

-- values read back as a request's
values_back : (p : ℕ) (r : Row Update) (ms : List Member) (ws : List ℕ) → every (fine_member p) ms ≡ true → members_of (tags_in ms) (slot_values (map (member_slot r) ms) ++ ws) ≡ ms
unfolding members_of tags_in slot_values member_slot every
values_back p r [] ws f = refl
values_back p r (m ∷ ms) ws f =
    let fine : fine_value m.value ≡ true = member_value_lem p m (and_left (fine_member p m) (every (fine_member p) ms) f) in
    rw (
      part_value r (suc m.tag) m.value fine,
      append_assoc m.value (slot_values (map (member_slot r) ms)) ws,
      take_at m.value (slot_values (map (member_slot r) ms) ++ ws) value_width (value_length m.value fine),
      drop_at m.value (slot_values (map (member_slot r) ms) ++ ws) value_width (value_length m.value fine),
      values_back p r ms ws (and_right (fine_member p m) (every (fine_member p) ms) f),
    )

weaker : (p : ℕ) (ms : List Member) → every (fine_member p) ms ≡ true → every (fine_member 0) ms ≡ true
unfolding every
weaker p [] f = refl
weaker p (m ∷ ms) f =
    and_both (fine_member 0 m) (every (fine_member 0) ms) one (weaker p ms (and_right (fine_member p m) (every (fine_member p) ms) f))
  where
    one : fine_member 0 m ≡ true
    one = unfold fine_member in and_both (fine_value m.value) true (member_value_lem p m (and_left (fine_member p m) (every (fine_member p) ms) f)) refl

module _ (s : List ℕ) (v : group_valid s ≡ true) (key p : ℕ) (u : Update) (e : find key p (groups_in s).updates ≡ some u) (first n : ℕ)
    (start : first ≡ start_of key p (groups_in s) + 1) (size : n ≡ length u.members) where
  own_tags : rising_from 0 u.members ≡ true
  own_tags = found_tags key p 0 (groups_in s) (fine_valid s v) u e

  own_values : every (fine_member p) u.members ≡ true
  unfolding row_at
  own_values = update_values (row_at key p u) (fine_found key p 0 (groups_in s) (fine_valid s v) u e)

  no_member : Member
  no_member = record { tag = 0; value = [] }

  members_run : slots n (drop (slot_width * first) s) ≡ map (member_slot (row_at key p u)) u.members
  members_run =
      ap (λ (m : ℕ). slots m (drop (slot_width * first) s)) size
      ∙ slots_run (member_slot (row_at key p u)) u.members no_member s first
      (λ j h.
      let g : first + j ≡ start_of key p (groups_in s) + suc j = omega arith in
      ap (λ (m : ℕ). slot_at m s) g ∙ run_member s v key p u e j no_member h)

  pub members_inside : first + n ≤ units_in (length s)
  unfolding slots_taken
  members_inside =
      let l : start_of key p (groups_in s) + suc (length u.members) ≤ length (held s) = rw e at (run_inside s v key p) in
      omega (arith, held_fits s)

  pub members_from : every (is_from 3 1) (slots n (drop (slot_width * first) s)) ≡ true
  members_from = ap (every (is_from 3 1)) members_run ∙ member_from (row_at key p u) u.members

  members_bits : tag_bits 3 1 (slots n (drop (slot_width * first) s)) ≡ bits 0 (tags_in u.members)
  members_bits = ap (tag_bits 3 1) members_run ∙ member_bits (row_at key p u) u.members

  pub members_bits_fit : tag_bits 3 1 (slots n (drop (slot_width * first) s)) < 2 ^ 64
  members_bits_fit = rw members_bits (omega (arith, bits_fit 0 u.members (omega arith) own_tags))

  pub members_count : n ≤ most_tags
  members_count = omega (arith, members_few 0 u.members (omega arith) own_tags)

  pub members_fine : fine_members 0 u.members ≡ true
  unfolding fine_members
  members_fine = and_both (rising_from 0 u.members) (every (fine_member 0) u.members) own_tags (weaker p u.members own_values)

  module _ (tags : ℕ) (t : tags ≡ tag_bits 3 1 (slots n (drop (slot_width * first) s))) (words : Set) (w : words ≡ set_words tags) where
    set_back : tags_of words.low words.high ≡ tags_in u.members
    unfolding set_words
    set_back =
        ap (λ (x : Set). tags_of x.low x.high) w
        ∙ ap (λ (m : ℕ). tags_of (m % 2 ^ 32) (m / 2 ^ 32 % 2 ^ 32)) (t ∙ members_bits)
        ∙ tags_of_bits (tags_in u.members) (tags_rise 0 u.members own_tags) (tags_below 0 u.members own_tags)

    pub set_length : length (tags_of words.low words.high) ≡ n
    unfolding tags_in
    set_length = ap length set_back ∙ length-map u.members (λ m. m.tag) ∙ sym size

    pub members_back : (handed : Members) → handed.set ≡ words → (rest : List ℕ) → handed.values.now ≡ slot_values (slots n (drop (slot_width * first) s)) ++ rest → members_in handed ≡ u.members
    unfolding members_in
    members_back handed e rest f =
        ap (λ (x : Set). members_of (tags_of x.low x.high) handed.values.now) e
        ∙ ap (λ (ts : List ℕ). members_of ts handed.values.now) set_back
        ∙ ap (λ (l : List ℕ). members_of (tags_in u.members) l) (f ∙ ap (λ (us : List Slot). slot_values us ++ rest) members_run)
        ∙ values_back p (row_at key p u) u.members rest own_values
