-- The walks of the two reads slot by slot: what the words of a slot say of what is met there.
-- Assumes nothing.
use mathlib.Core.Path.{◌≡◌, refl, sym, ◌∙◌, ap, ap₂}
use mathlib.Core.Bool.{Bool, true, false, cond, ◌||◌, or-false, or_assoc}
use mathlib.Core.List.{List, [], ◌∷◌, ◌++◌, map, reverse-append}
use mathlib.Core.Option.{Option, none, some}
use Prim.Native.Nat.{ℕ, zero, suc, ◌+◌, ◌-◌, ◌*◌, ◌≤◌, ◌<◌}
use native.Mathlib.Omega.{arith}
use native.Mathlib.Decide.{ℕ_discrete}
use lib.Dec.{eqb}
use lib.ListN.{length, get_or, take, set, replicate}
use lib.Seq.{take-suc, get_or-take, take-take, length-take-le}
use borrow.Author.Tests.{eq-eqb, ne_eqb, lt-ltb, le-ltb}
use Rattle.lists.specs.Lists.{every, front, keep}
use Rattle.lists.proofs.Bools.{and_both, and_left, and_right}
use Rattle.lists.proofs.Lists.{every_at, every_take}
use Rattle.types.specs.Response.{most_tags}
use Rattle.types.specs.Index.{shifted_of, word_of, index_of}
use Rattle.types.specs.Value.{value_width, value_at, is_deletion, byte_length, bytes_len}
use Rattle.types.specs.ValueWithLayout.{words_of, bytes_len_of, value_from}
use Rattle.types.specs.declared.index.ShiftedTxnIndex.{ShiftedTxnIndex}
use Rattle.types.specs.declared.value.ValueWithLayout.{ValueWithLayout}
use Rattle.std.proofs.Common.{Some, None}
use Rattle.std.proofs.Common.{Option as Maybe}
use Rattle.std.specs.Result.{result_unwrap_or}
use Rattle.types.specs.declared.output.MVGroupOutput.{MVGroupOutput}
use Rattle.types.specs.declared.output.MVGroupOutput.TheVariants.{Size, Uninitialized, TagNotFound, Dependency}
use Rattle.number.specs.Words.{AreWords}
use Rattle.types.proofs.ValueLaws.{read_words}
use Rattle.types.proofs.AnswersTold.{length_told, no_bytes_told}
use Rattle.slots.specs.Slots.{Slot, slot_width, slots, slot_at, held}
use Rattle.types.specs.Units.{units_in}
use Rattle.slots.proofs.StoreEncoding.{held_fits, held_slots}
use Rattle.slots.proofs.StoreWords.{slots_at, slots_many, slots_are, slot_at_word, slot_inside}
use Rattle.model.proofs.FineParts.{value_bytes}
use Rattle.versioned_group_data.specs.Output.{found_output, latest_output, size_output}
use Rattle.versioned_group_data.specs.Sizes.{Item, fine_item, first_of, latest_in, latest_of, Tally, start, waiting, counting, tallied, tally, size_of, Bounded}
use Rattle.versioned_group_data.specs.Down.{is_update_of, is_tagged, item_in, slots_down, items_at}
use Rattle.versioned_group_data.specs.Seen.{is_update, any_base, meets_base, Readable, tally_of, added, items_of, Counted}
use Rattle.versioned_group_data.specs.declared.read.Counts.{Counts}
use Rattle.versioned_group_data.proofs.ReadTallies.{item_tag, item_value, bounded_tallied, bounded_room, bounded_start}

-- ---- a transaction to wait for

pub waits_from : (w : ℕ) → result_unwrap_or (index_of w) 0 ≡ w - 1
unfolding index_of
waits_from zero = refl
waits_from (suc index) = omega arith

-- ---- one slot

module _ (u : Slot) where
  items_none : get_or u 3 0 ≡ 0 → items_of u ≡ []
  unfolding items_of is_tagged keep
  items_none e = rw (eq-eqb (get_or u 3 0) 0 e)

  items_one : (get_or u 3 0 ≡ 0 → ⊥) → items_of u ≡ item_in u ∷ []
  unfolding items_of is_tagged keep
  items_one e = rw (ne_eqb (get_or u 3 0) 0 e)

  module _ (tag : ℕ) (xs : List Item) where
    first_of_hit : get_or u 3 0 ≡ suc tag → first_of tag (items_of u ++ xs) ≡ some (item_in u)
    unfolding first_of item_in
    first_of_hit e =
        let t : eqb (get_or u 3 0 - 1) tag ≡ true = eq-eqb (get_or u 3 0 - 1) tag (omega arith) in
        rw (items_one (λ z. omega arith), t)

    first_of_miss : (get_or u 3 0 ≡ suc tag → ⊥) → first_of tag (items_of u ++ xs) ≡ first_of tag xs
    unfolding first_of item_in
    first_of_miss ne = go (ℕ_discrete (get_or u 3 0) 0)
      where
        go : Dec (get_or u 3 0 ≡ 0) → first_of tag (items_of u ++ xs) ≡ first_of tag xs
        go (yes z) = rw (items_none z)
        go (no z) =
            let t : eqb (get_or u 3 0 - 1) tag ≡ false = ne_eqb (get_or u 3 0 - 1) tag (λ e. ne (omega arith)) in
            rw (items_one z, t)

-- ---- one turn of a walk

every_parted : {A : Type 0} (p : A → Bool) (xs ys : List A) → every p (xs ++ ys) ≡ true → (every p xs ≡ true) × (every p ys ≡ true)
unfolding every
every_parted p [] ys e = (refl, e)
every_parted p (x ∷ xs) ys e =
    let r = every_parted p xs ys (and_right (p x) (every p (xs ++ ys)) e) in
    (and_both (p x) (every p xs) (and_left (p x) (every p (xs ++ ys)) e) r.0, r.1)

module _ (key : ℕ) (us : List Slot) where
  down_suc : (j : ℕ) → j < length us → slots_down key (suc j) us ≡ cond (is_update_of key (get_or us j [])) (get_or us j [] ∷ slots_down key j us) []
  unfolding slots_down front
  down_suc j h = rw (take-suc us j [] h, reverse-append (take j us) (get_or us j [] ∷ []))

  items_zero : (j : ℕ) → j ≤ 0 → items_at key j us ≡ []
  unfolding items_at slots_down front keep
  items_zero zero h = refl
  items_zero (suc j) h = absurd (omega arith)

  base_zero : (j : ℕ) → j ≤ 0 → meets_base key j us ≡ false
  unfolding meets_base slots_down front any_base
  base_zero zero h = refl
  base_zero (suc j) h = absurd (omega arith)

module _ (s : List ℕ) (key j : ℕ) (p : 0 < j) (r : Readable key j (held s)) where
  pub here_few : j - 1 < units_in (length s)
  here_few = omega (arith, r.inside, held_fits s)

  here_inside : j - 1 < length (held s)
  here_inside = omega (arith, r.inside)

  here : get_or (held s) (j - 1) [] ≡ slot_at (j - 1) s
  here = ap (λ (l : List Slot). get_or l (j - 1) []) (held_slots s) ∙ slots_at (length (held s)) (j - 1) s [] here_inside

  is_update_lem : eqb (get_or (slot_at (j - 1) s) 0 0) 1 ≡ true
  unfolding is_update
  is_update_lem =
      ap (λ (u : Slot). eqb (get_or u 0 0) 1) (sym here ∙ sym (get_or-take j (held s) (j - 1) [] (omega arith)))
      ∙ every_at is_update (take j (held s)) (j - 1) [] (omega (arith, length-take-le j (held s) r.inside)) r.updates

  down_here : slots_down key j (held s) ≡ cond (is_update_of key (slot_at (j - 1) s)) (slot_at (j - 1) s ∷ slots_down key (j - 1) (held s)) []
  down_here =
      let n : j ≡ suc (j - 1) = omega arith in
      ap (λ (k : ℕ). slots_down key k (held s)) n ∙ down_suc key (held s) (j - 1) here_inside
      ∙ ap (λ (u : Slot). cond (is_update_of key u) (u ∷ slots_down key (j - 1) (held s)) []) here

  pub here_word : (n : ℕ) → n < slot_width → get_or (slot_at (j - 1) s) n 0 ≡ get_or s (slot_width * (j - 1) + n) 0
  here_word n h = slot_at_word (j - 1) n s h

  module _ (w : ℕ) (e : w ≡ get_or s (slot_width * (j - 1) + 1) 0) where
    -- a slot of another key ends the walk
    module _ (ne : w ≡ key → ⊥) where
      down_ends : slots_down key j (held s) ≡ []
      unfolding is_update_of
      down_ends =
          let f : eqb (get_or (slot_at (j - 1) s) 1 0) key ≡ false = rw (here_word 1 (omega arith), ← e) (ne_eqb w key ne) in
          rw (down_here, is_update_lem, f)

      pub items_end : items_at key j (held s) ≡ []
      unfolding items_at keep
      items_end = rw down_ends

      pub base_end : meets_base key j (held s) ≡ false
      unfolding meets_base any_base
      base_end = rw down_ends

    -- one of the key is passed
    module _ (same : w ≡ key) where
      down_goes : slots_down key j (held s) ≡ slot_at (j - 1) s ∷ slots_down key (j - 1) (held s)
      unfolding is_update_of
      down_goes =
          let f : eqb (get_or (slot_at (j - 1) s) 1 0) key ≡ true = rw (here_word 1 (omega arith), ← e) (eq-eqb w key same) in
          rw (down_here, is_update_lem, f)

      pub items_on : items_at key j (held s) ≡ items_of (slot_at (j - 1) s) ++ items_at key (j - 1) (held s)
      unfolding items_at items_of keep
      items_on = rw down_goes (go (is_tagged (slot_at (j - 1) s)))
        where
          go : (b : Bool) → map item_in (cond b (slot_at (j - 1) s ∷ keep is_tagged (slots_down key (j - 1) (held s))) (keep is_tagged (slots_down key (j - 1) (held s))))
              ≡ map item_in (cond b (slot_at (j - 1) s ∷ []) []) ++ map item_in (keep is_tagged (slots_down key (j - 1) (held s)))
          go true = refl
          go false = refl

      base_on : meets_base key j (held s) ≡ (eqb (get_or s (slot_width * (j - 1) + 2) 0) 0 || meets_base key (j - 1) (held s))
      unfolding meets_base any_base
      base_on = rw (down_goes, here_word 2 (omega arith))

      pub fine_here : every fine_item (items_of (slot_at (j - 1) s)) ≡ true
      fine_here = (every_parted fine_item (items_of (slot_at (j - 1) s)) (items_at key (j - 1) (held s)) (ap (every fine_item) (sym items_on) ∙ r.fine)).0

      pub readable_on : Readable key (j - 1) (held s)
      readable_on =
          record {
            inside = omega (arith, r.inside);
            updates =
                ap (every is_update) (sym (take-take (j - 1) j (held s) (omega arith)))
                ∙ every_take is_update (j - 1) (take j (held s)) r.updates;
            fine = (every_parted fine_item (items_of (slot_at (j - 1) s)) (items_at key (j - 1) (held s)) (ap (every fine_item) (sym items_on) ∙ r.fine)).1;
          }

      -- the base, where it was met so far, with this slot
      pub based_on : (all based after : Bool) (place : ℕ) → all ≡ (based || meets_base key j (held s)) → place ≡ get_or s (slot_width * (j - 1) + 2) 0 →
          after ≡ (based || eqb place 0) → all ≡ (after || meets_base key (j - 1) (held s))
      based_on all based after place a q b =
          a
          ∙ ap (λ (c : Bool). based || c) (base_on ∙ ap (λ (n : ℕ). eqb n 0 || meets_base key (j - 1) (held s)) (sym q))
          ∙ sym (or_assoc based (eqb place 0) (meets_base key (j - 1) (held s)))
          ∙ ap (λ (c : Bool). c || meets_base key (j - 1) (held s)) (sym b)

-- ---- a fetch

pub output_found : (based : Bool) (x : Item) → found_output (latest_in x) ≡ latest_output based (latest_of (some x))
unfolding latest_output latest_of
output_found based x = refl

-- nothing is left to meet
nothing_left : (based all : Bool) (found : Option Item) (o : MVGroupOutput) → o ≡ cond based TagNotFound Uninitialized → all ≡ (based || false) → found ≡ none → o ≡ latest_output all (latest_of found)
unfolding latest_output latest_of
nothing_left based all found o e a f =
    e ∙ ap (λ (b : Bool). cond b TagNotFound Uninitialized) (sym (a ∙ or-false based)) ∙ ap (λ (y : Option Item). latest_output all (latest_of y)) (sym f)

module _ (s : List ℕ) (key tag i j : ℕ) (based : Bool) (b : meets_base key i (held s) ≡ (based || meets_base key j (held s)))
    (x : first_of tag (items_at key i (held s)) ≡ first_of tag (items_at key j (held s))) where
  pub fetch_over : j ≤ 0 → (o : MVGroupOutput) → o ≡ cond based TagNotFound Uninitialized →
      o ≡ latest_output (meets_base key i (held s)) (latest_of (first_of tag (items_at key i (held s))))
  unfolding first_of
  fetch_over h o e =
      nothing_left based (meets_base key i (held s)) (first_of tag (items_at key i (held s))) o e
      (b ∙ ap (λ (c : Bool). based || c) (base_zero key (held s) j h)) (x ∙ ap (first_of tag) (items_zero key (held s) j h))

  module _ (p : 0 < j) (r : Readable key j (held s)) (w : ℕ) (k : w ≡ get_or s (slot_width * (j - 1) + 1) 0) where
    pub fetch_end : (w ≡ key → ⊥) → (o : MVGroupOutput) → o ≡ cond based TagNotFound Uninitialized →
        o ≡ latest_output (meets_base key i (held s)) (latest_of (first_of tag (items_at key i (held s))))
    unfolding first_of
    fetch_end ne o e =
        nothing_left based (meets_base key i (held s)) (first_of tag (items_at key i (held s))) o e
        (b ∙ ap (λ (c : Bool). based || c) (base_end s key j p r w k ne)) (x ∙ ap (first_of tag) (items_end s key j p r w k ne))

    module _ (same : w ≡ key) (part : ℕ) (q : part ≡ get_or s (slot_width * (j - 1) + 3) 0) where
      part_is : get_or (slot_at (j - 1) s) 3 0 ≡ part
      part_is = here_word s key j p r 3 (omega arith) ∙ sym q

      pub fetch_found : part ≡ suc tag → (o : MVGroupOutput) → o ≡ found_output (latest_in (item_in (slot_at (j - 1) s))) →
          o ≡ latest_output (meets_base key i (held s)) (latest_of (first_of tag (items_at key i (held s))))
      fetch_found t o e =
          let n : get_or (slot_at (j - 1) s) 3 0 ≡ suc tag = omega (arith, part_is) in
          let f : first_of tag (items_at key i (held s)) ≡ some (item_in (slot_at (j - 1) s)) =
          x ∙ ap (first_of tag) (items_on s key j p r w k same) ∙ first_of_hit (slot_at (j - 1) s) tag (items_at key (j - 1) (held s)) n
          in
          e ∙ output_found (meets_base key i (held s)) (item_in (slot_at (j - 1) s)) ∙ ap (λ (y : Option Item). latest_output (meets_base key i (held s)) (latest_of y)) (sym f)

      pub fetch_on : (part ≡ suc tag → ⊥) → first_of tag (items_at key i (held s)) ≡ first_of tag (items_at key (j - 1) (held s))
      fetch_on ne =
          x ∙ ap (first_of tag) (items_on s key j p r w k same)
          ∙ first_of_miss (slot_at (j - 1) s) tag (items_at key (j - 1) (held s)) (λ e. ne (omega (arith, part_is)))

-- ---- a value that was read

pub slot_bytes : (u : Slot) (v : ValueWithLayout) → words_of v ≡ value_at 7 u → fine_item (item_in u) ≡ true → byte_length (words_of v) ≤ 1048576
unfolding item_in
slot_bytes u v e f = rw e (bytes (item_in u) f)
  where
    bytes : (x : Item) → fine_item x ≡ true → byte_length x.value ≤ 1048576
    bytes x h = value_bytes x.value (item_value x h)

-- a word of a slot, as the walks read it
module _ (s : List ℕ) (us : List Slot) (all : us ≡ slots (units_in (length s)) s) (j : ℕ) (h : j < units_in (length s)) where
  pub here_read : j < length us
  here_read = omega (arith, slots_many s us all)

  pub slot_read : get_or us j [] ≡ slot_at j s
  slot_read = slots_are s us all j [] here_read

  pub word_read : (n : ℕ) → n < slot_width → get_or (get_or us j []) n 0 ≡ get_or s (slot_width * j + n) 0
  word_read n l = ap (λ (u : Slot). get_or u n 0) slot_read ∙ slot_at_word j n s l

pub value_inside : (j w : ℕ) → j < units_in w → slot_width * j + 7 + value_width ≤ w
value_inside j w h = omega (arith, slot_inside j w h)

-- the words of a value that was read
module _ (s : List ℕ) (j : ℕ) (ws : AreWords s) (h : j < units_in (length s)) (v : ValueWithLayout) (e : v ≡ value_from (value_at (slot_width * j + 7) s)) where
  pub read_value : words_of v ≡ value_at (slot_width * j + 7) s
  read_value = read_words s (slot_width * j + 7) v ws (value_inside j (length s) h) e

-- ---- counting

bytes_bound : (v : List ℕ) (n : ℕ) → bytes_len v ≡ some n → byte_length v ≤ 1048576 → n ≤ 1048576
unfolding bytes_len
bytes_bound v n e h = go (is_deletion v) e
  where
    go : (b : Bool) → cond b none (some (byte_length v)) ≡ some n → n ≤ 1048576
    go true f = absurd (let z : ◌≡◌ {A = ℕ} 0 1 = cc in omega arith)
    go false f = let z : byte_length v ≡ n = cc in omega arith

pub length_bound : (v : List ℕ) (l : Maybe ℕ) → l ≡ bytes_len_of v → byte_length v ≤ 1048576 → (n : ℕ) → l ≡ Some n → n ≤ 1048576
length_bound v l e h n f = bytes_bound v n (length_told v n (sym e ∙ f)) h

pub added_is : (t : Counts) (members bytes : ℕ) →
    tally_of (record { members = t.members + members; sum = t.sum + bytes; lowest = t.lowest; place = t.place }) ≡ added members bytes (tally_of t)
unfolding tally_of added
added_is t members bytes = refl

added_none : (t : Tally) → added 0 0 t ≡ t
unfolding added
added_none t = λ i. record { members = members i; sum = sum i; lowest = t.lowest; waits_at = t.waits_at }
  where
    members : t.members + 0 ≡ t.members
    members = omega arith

    sum : t.sum + 0 ≡ t.sum
    sum = omega arith

added_one : (n : ℕ) (t : Tally) → added 1 (n + 1) t ≡ counting (some n) t
unfolding added counting
added_one n t = λ i. record { members = t.members + 1; sum = sum i; lowest = t.lowest; waits_at = t.waits_at }
  where
    sum : t.sum + (n + 1) ≡ t.sum + n + 1
    sum = omega arith

module _ (t : Counts) where
  pub waiting_lower : (tag place : ℕ) → tag < t.lowest → tally_of (record { members = t.members; sum = t.sum; lowest = tag; place = place }) ≡ waiting tag place (tally_of t)
  unfolding tally_of waiting
  waiting_lower tag place h = rw (lt-ltb tag t.lowest h)

  pub waiting_same : (tag place : ℕ) → t.lowest ≤ tag → tally_of t ≡ waiting tag place (tally_of t)
  unfolding tally_of waiting
  waiting_same tag place h = rw (le-ltb tag t.lowest h)

  module _ (v : List ℕ) (l : Maybe ℕ) (e : l ≡ bytes_len_of v) where
    pub counting_none : l ≡ None → (after : Counts) → tally_of after ≡ added 0 0 (tally_of t) → tally_of after ≡ counting (bytes_len v) (tally_of t)
    unfolding counting
    counting_none f after g = g ∙ rw (no_bytes_told v (sym e ∙ f)) (added_none (tally_of t))

    pub counting_some : (n : ℕ) → l ≡ Some n → (after : Counts) → tally_of after ≡ added 1 (n + 1) (tally_of t) → tally_of after ≡ counting (bytes_len v) (tally_of t)
    counting_some n f after g = g ∙ added_one n (tally_of t) ∙ ap (λ (o : Option ℕ). counting o (tally_of t)) (sym (length_told v n (sym e ∙ f)))

  pub size_unbased : (based : Bool) → based ≡ false → Uninitialized ≡ cond based (size_output (size_of (tally_of t))) Uninitialized
  size_unbased based e = rw e

  module _ (based : Bool) (e : based ≡ true) where
    pub size_waits : t.lowest < most_tags → (o : MVGroupOutput) (shifted : ShiftedTxnIndex) → shifted ≡ shifted_of t.place → o ≡ Dependency (word_of shifted - 1) →
        o ≡ cond based (size_output (size_of (tally_of t))) Uninitialized
    unfolding size_of size_output tally_of
    size_waits h o shifted w f = f ∙ rw (e, lt-ltb t.lowest most_tags h, w)

    pub size_counted : most_tags ≤ t.lowest → Size t.members t.sum ≡ cond based (size_output (size_of (tally_of t))) Uninitialized
    unfolding size_of size_output tally_of
    size_counted h = rw (e, le-ltb t.lowest most_tags h)

-- ---- one slot of a size read

module _ (seen : List ℕ) (t : Tally) (x : Item) (xs : List Item) where
  tally_again : (get_or seen x.tag 0 ≡ 0 → ⊥) → tally seen t (x ∷ xs) ≡ tally seen t xs
  unfolding tally
  tally_again old = rw (ne_eqb (get_or seen x.tag 0) 0 old)

  tally_new : get_or seen x.tag 0 ≡ 0 → tally seen t (x ∷ xs) ≡ tally (set seen x.tag 1) (tallied x t) xs
  unfolding tally
  tally_new new = rw (eq-eqb (get_or seen x.tag 0) 0 new)

module _ (u : Slot) (seen : List ℕ) (t : Tally) (b : Bounded seen t) where
  pub counted_head : (part : ℕ) → part ≡ get_or u 3 0 → part ≡ 0 → Counted u seen t seen t
  counted_head part q e = record { rest = λ xs. ap (λ (l : List Item). tally seen t (l ++ xs)) (items_none u (sym q ∙ e)); bounded = b }

  module _ (part : ℕ) (q : part ≡ get_or u 3 0) (ne : part ≡ 0 → ⊥) where
    one : items_of u ≡ item_in u ∷ []
    one = items_one u (λ z. ne (q ∙ z))

    pub tag_is : part - 1 ≡ (item_in u).tag
    unfolding item_in
    tag_is = ap (λ (n : ℕ). n - 1) q

    pub counted_again : (get_or seen (part - 1) 0 ≡ 0 → ⊥) → Counted u seen t seen t
    counted_again old =
        record {
          rest = λ xs. ap (λ (l : List Item). tally seen t (l ++ xs)) one ∙ again xs;
          bounded = b;
        }
      where
        again : (xs : List Item) → tally seen t (item_in u ∷ xs) ≡ tally seen t xs
        again xs = tally_again seen t (item_in u) xs (λ z. old (ap (λ (n : ℕ). get_or seen n 0) tag_is ∙ z))

    module _ (fine : every fine_item (items_of u) ≡ true) where
      pub fine_item_lem : fine_item (item_in u) ≡ true
      unfolding every
      fine_item_lem = and_left (fine_item (item_in u)) true (ap (every fine_item) (sym one) ∙ fine)

      pub tag_low : part - 1 < most_tags
      tag_low = omega (arith, tag_is, item_tag (item_in u) fine_item_lem)

      module _ (new : get_or seen (part - 1) 0 ≡ 0) where
        new_there : get_or seen (item_in u).tag 0 ≡ 0
        new_there = ap (λ (n : ℕ). get_or seen n 0) (sym tag_is) ∙ new

        pub room : (t.members < most_tags) × (t.sum + 1048577 ≤ most_tags * 1048577)
        room =
            let r = bounded_room seen t b (item_in u) fine_item_lem new_there in
            (omega (arith, r.0), omega (arith, r.1))

        pub counted_new : (after : Tally) → after ≡ tallied (item_in u) t → Counted u seen t (set seen (part - 1) 1) after
        counted_new after e =
            rw (e, tag_is)
            (record {
              rest = λ xs. ap (λ (l : List Item). tally seen t (l ++ xs)) one ∙ tally_new seen t (item_in u) xs new_there;
              bounded = bounded_tallied seen t b (item_in u) fine_item_lem new_there;
            })

-- ---- a size read

pub start_tally : (xs : List Item) → tally (replicate most_tags 0) start xs ≡ tally (replicate most_tags 0) (tally_of (record { members = 0; sum = 0; lowest = most_tags; place = 0 })) xs
unfolding tally_of start
start_tally xs = refl

pub start_bounded : Bounded (replicate most_tags 0) (tally_of (record { members = 0; sum = 0; lowest = most_tags; place = 0 }))
unfolding tally_of start
start_bounded = bounded_start

module _ (s : List ℕ) (key i j : ℕ) (based : Bool) (b : meets_base key i (held s) ≡ (based || meets_base key j (held s))) (seen : List ℕ) (t : Tally)
    (x : tally (replicate most_tags 0) start (items_at key i (held s)) ≡ tally seen t (items_at key j (held s))) where
  -- nothing is left to meet
  left : items_at key j (held s) ≡ [] → meets_base key j (held s) ≡ false → (o : MVGroupOutput) → o ≡ cond based (size_output (size_of t)) Uninitialized →
      o ≡ cond (meets_base key i (held s)) (size_output (size_of (tally (replicate most_tags 0) start (items_at key i (held s))))) Uninitialized
  unfolding tally
  left n z o e =
      e
      ∙ ap₂ (λ (c : Bool) (y : Tally). cond c (size_output (size_of y)) Uninitialized)
      (sym (b ∙ ap (λ (c : Bool). based || c) z ∙ or-false based)) (sym (x ∙ ap (tally seen t) n))

  pub size_over_lem : j ≤ 0 → (o : MVGroupOutput) → o ≡ cond based (size_output (size_of t)) Uninitialized →
      o ≡ cond (meets_base key i (held s)) (size_output (size_of (tally (replicate most_tags 0) start (items_at key i (held s))))) Uninitialized
  size_over_lem h o e = left (items_zero key (held s) j h) (base_zero key (held s) j h) o e

  module _ (p : 0 < j) (r : Readable key j (held s)) (w : ℕ) (k : w ≡ get_or s (slot_width * (j - 1) + 1) 0) where
    pub size_end : (w ≡ key → ⊥) → (o : MVGroupOutput) → o ≡ cond based (size_output (size_of t)) Uninitialized →
        o ≡ cond (meets_base key i (held s)) (size_output (size_of (tally (replicate most_tags 0) start (items_at key i (held s))))) Uninitialized
    size_end ne o e = left (items_end s key j p r w k ne) (base_end s key j p r w k ne) o e

    pub size_on : w ≡ key → (seenAfter : List ℕ) (after : Tally) → Counted (slot_at (j - 1) s) seen t seenAfter after →
        tally (replicate most_tags 0) start (items_at key i (held s)) ≡ tally seenAfter after (items_at key (j - 1) (held s))
    size_on same seenAfter after c = x ∙ ap (tally seen t) (items_on s key j p r w k same) ∙ c.rest (items_at key (j - 1) (held s))
