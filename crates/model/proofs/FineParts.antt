-- The parts of what is fine: words, values, deltas and what merging them gives, and the fields of an entry.
-- Assumes nothing.
use mathlib.Core.Path.{◌≡◌, refl, sym, ◌∙◌, ap}
use mathlib.Core.Bool.{Bool, true, cond, not, ◌&&◌, ◌||◌}
use mathlib.Core.List.{List, [], ◌∷◌}
use mathlib.Core.Option.{Option, none, some}
use Prim.Native.Nat.{ℕ, zero, suc, ◌+◌, ◌-◌, ◌^◌, ◌≤◌, ◌<◌}
use native.Mathlib.Decide.{dec_le}
use native.Mathlib.Omega.{arith}
use lib.Dec.{leb, eqb, lit<}
use lib.ListN.{length, take, drop, length-drop}
use lib.Seq.{length-take-le}
use borrow.Author.Tests.{ltb-true, lt-ltb, leb-true, eqb-true}
use Rattle.lists.specs.Lists.{every}
use Rattle.lists.proofs.Bools.{and_both, and_five, and_left, and_right, and_three}
use Rattle.number.specs.Number.{range}
use Rattle.number.specs.Words.{AreWords}
use Rattle.number.proofs.Digits.{four_below, words_take, words_drop}
use Rattle.delta.specs.Delta.{Delta, valid, apply_to, merge, Accumulated, nothing, merged, failed, gathered, accumulate}
use Rattle.delta.proofs.DeltaGains.{gain, loss}
use Rattle.delta.proofs.DeltaMerges.{Bounds, valid_bounds, apply_some, apply_deep, apply_high, after_is, merge_joins, merge_valid, joined_limit}
use Rattle.types.specs.Value.{value_width, write_op_kind, byte_length, value_ok, layout_of, is_deletion, is_exchanged, has_number, number_in, number_words}
use Rattle.model.specs.Rows.{Row}
use Rattle.model.specs.Data.{write, delta, Entry, resolved_or}
use Rattle.model.specs.Fine.{is_word, is_number, fine_value, fine_delta, fine_shortcut, fine_cell, fine_entry, fine_read}

-- ---- words and values

pub word_told : (n : ℕ) → is_word n ≡ true → n < 2 ^ 32
unfolding is_word
word_told n e = ltb-true n (2 ^ 32) e

pub word_tell : (n : ℕ) → n < 2 ^ 32 → is_word n ≡ true
unfolding is_word
word_tell n h = lt-ltb n (2 ^ 32) h

pub number_told : (n : ℕ) → is_number n ≡ true → n < range
unfolding is_number
number_told n e = ltb-true n range e

pub number_tell : (n : ℕ) → n < range → is_number n ≡ true
unfolding is_number
number_tell n h = lt-ltb n range h

pub every_words : (ws : List ℕ) → every is_word ws ≡ true → AreWords ws
unfolding every
every_words [] e i = lit< tt
every_words (w ∷ ws) e zero = word_told w (and_left (is_word w) (every is_word ws) e)
every_words (w ∷ ws) e (suc i) = every_words ws (and_right (is_word w) (every is_word ws) e) i

pub words_every : (ws : List ℕ) → AreWords ws → every is_word ws ≡ true
unfolding every
words_every [] g = refl
words_every (w ∷ ws) g = and_both (is_word w) (every is_word ws) (word_tell w (g 0)) (words_every ws (λ i. g (suc i)))

module _ (v : List ℕ) (f : fine_value v ≡ true) where
  value_parts : (eqb (length v) value_width ≡ true) × (every is_word v ≡ true) × (value_ok v ≡ true)
  unfolding fine_value
  value_parts = and_three (eqb (length v) value_width) (every is_word v) (value_ok v) f

  pub value_length : length v ≡ value_width
  value_length = eqb-true (length v) value_width value_parts.0

  pub value_every : every is_word v ≡ true
  value_every = value_parts.1

  pub value_words_lem : AreWords v
  value_words_lem = every_words v value_every

  pub value_ok_lem : value_ok v ≡ true
  value_ok_lem = value_parts.2

  -- "byte length, at most 1,048,576"
  pub value_bytes : byte_length v ≤ 1048576
  unfolding value_ok
  value_bytes =
      leb-true (byte_length v) 1048576
      (and_five (leb (write_op_kind v) 2) (leb (byte_length v) 1048576) (is_exchanged v || eqb (layout_of v) 0) (not (is_deletion v) || eqb (byte_length v) 0) (has_number v || eqb (number_in v) 0) value_ok_lem).1

  -- four words hold no more
  pub value_number : number_in v < range
  unfolding number_in number_words
  value_number =
      four_below (take 4 (drop 3 v)) (words_take 4 (drop 3 v) (words_drop 3 v value_words_lem))
      (length-take-le 4 (drop 3 v) (omega (arith, length-drop 3 v, value_length)))

-- ---- deltas

module _ (d : Delta) (f : fine_delta d ≡ true) where
  pub delta_limit : d.limit < range
  unfolding fine_delta
  delta_limit = number_told d.limit (and_left (is_number d.limit) (valid d) f)

  pub delta_valid : valid d ≡ true
  unfolding fine_delta
  delta_valid = and_right (is_number d.limit) (valid d) f

  -- what a fine delta gives is at most its limit
  pub apply_fine : (v : ℕ) → fine_read (resolved_or (apply_to d v)) ≡ true
  unfolding fine_read resolved_or
  apply_fine v = go (dec_le d.low v) (dec_le (v + d.high) d.limit)
    where
      w : Bounds d
      w = valid_bounds d delta_valid

      go : Dec (d.low ≤ v) → Dec (v + d.high ≤ d.limit) → fine_read (resolved_or (apply_to d v)) ≡ true
      go (yes p) (yes q) =
          rw (apply_some d v p q, after_is d v w p) (number_tell (v + gain d.update - loss d.update) (omega (arith, w.tall, delta_limit)))
      go (no p) q = rw (apply_deep d v (omega arith))
      go (yes p) (no q) = rw (apply_high d v (omega arith))

pub delta_tell : (d : Delta) → d.limit < range → valid d ≡ true → fine_delta d ≡ true
unfolding fine_delta
delta_tell d h e = and_both (is_number d.limit) (valid d) (number_tell d.limit h) e

-- what a walk has gathered is fine, where it is a delta
unfoldable pub fine_so_far : Accumulated → Bool
fine_so_far nothing = true
fine_so_far (merged d) = fine_delta d
fine_so_far failed = true

pub merge_fine : (n e d : Delta) → fine_delta n ≡ true → fine_delta e ≡ true → merge n e ≡ some d → fine_delta d ≡ true
merge_fine n e d f g m =
    let j = merge_joins n e d m in
    let same : d.limit ≡ n.limit = ap (λ (x : Delta). x.limit) (sym j.is) ∙ joined_limit n e in
    delta_tell d (rw same (delta_limit n f)) (merge_valid n e d (delta_valid n f) (delta_valid e g) m)

pub accumulate_fine : (a : Accumulated) (d : Delta) → fine_so_far a ≡ true → fine_delta d ≡ true → fine_so_far (accumulate a d) ≡ true
unfolding fine_so_far accumulate gathered
accumulate_fine nothing d f g = g
accumulate_fine (merged n) d f g = go (merge n d) refl
  where
    go : (o : Option Delta) → merge n d ≡ o → fine_so_far (gathered o) ≡ true
    go (some x) m = merge_fine n d x f g m
    go none m = refl
accumulate_fine failed d f g = refl

-- ---- the parts of a fine row

module _ (r : Row Entry) (f : fine_entry r ≡ true) where
  entry_parts : (is_word r.key ≡ true) × (is_word r.place ≡ true) × (fine_cell r.place r.held.estimate r.held.cell ≡ true)
  unfolding fine_entry
  entry_parts = and_three (is_word r.key) (is_word r.place) (fine_cell r.place r.held.estimate r.held.cell) f

  pub entry_place : is_word r.place ≡ true
  entry_place = entry_parts.1

  pub entry_cell : fine_cell r.place r.held.estimate r.held.cell ≡ true
  entry_cell = entry_parts.2

module _ (place : ℕ) (estimate : Bool) (incarnation : ℕ) (v : List ℕ) (f : fine_cell place estimate (write incarnation v) ≡ true) where
  write_parts : (is_word incarnation ≡ true) × (fine_value v ≡ true) × (cond (eqb place 0) (eqb incarnation 0 && not estimate) (is_exchanged v) ≡ true)
  unfolding fine_cell
  write_parts = and_three (is_word incarnation) (fine_value v) (cond (eqb place 0) (eqb incarnation 0 && not estimate) (is_exchanged v)) f

  pub write_incarnation : is_word incarnation ≡ true
  write_incarnation = write_parts.0

  pub write_value_lem : fine_value v ≡ true
  write_value_lem = write_parts.1

  pub write_side : cond (eqb place 0) (eqb incarnation 0 && not estimate) (is_exchanged v) ≡ true
  write_side = write_parts.2

module _ (place : ℕ) (estimate : Bool) (d : Delta) (shortcut : Option ℕ) (f : fine_cell place estimate (delta d shortcut) ≡ true) where
  delta_parts : (not (eqb place 0) ≡ true) × (fine_delta d ≡ true) × (fine_shortcut shortcut ≡ true)
  unfolding fine_cell
  delta_parts = and_three (not (eqb place 0)) (fine_delta d) (fine_shortcut shortcut) f

  pub delta_place : not (eqb place 0) ≡ true
  delta_place = delta_parts.0

  pub delta_delta : fine_delta d ≡ true
  delta_delta = delta_parts.1

  pub delta_shortcut : fine_shortcut shortcut ≡ true
  delta_shortcut = delta_parts.2
