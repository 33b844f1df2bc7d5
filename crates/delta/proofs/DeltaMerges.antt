-- What merging two deltas means for applying them: the merged delta does what the earlier and then the newer do, and where the two
-- do not merge, no number takes both.
-- Assumes nothing.
use mathlib.Core.Path.{◌≡◌, refl, sym, ap, ◌∙◌}
use mathlib.Core.Bool.{true}
use mathlib.Core.Option.{Option, none, some}
use Prim.Native.Nat.{ℕ, ◌+◌, ◌-◌, ◌≤◌, ◌<◌, max}
use native.Mathlib.Decide.{dec_le}
use native.Mathlib.Omega.{arith}
use lib.IntN.{ℤ, pos, neg_ℤ, nat_abs, ◌+ℤ◌, ◌-ℤ◌}
use Rattle.delta.specs.Delta.{Delta, valid, apply_to, apply_next, joined, mergeable, merge, Accumulated, nothing, merged, failed, gathered, accumulate, valid_so_far}
use Rattle.delta.proofs.DeltaGains.{gain, loss, size_sides, gain_sum, loss_sum, gain_neg, loss_neg, gain_pos, loss_pos, greater_is, sides}

-- ---- valid deltas

-- what a valid delta keeps to
pub record Bounds (d : Delta) : Type 0 where
  pub high_fits : d.high ≤ d.limit
  pub low_fits : d.low ≤ d.limit
  pub deep : loss d.update ≤ d.low
  pub tall : gain d.update ≤ d.high

pub valid_bounds : (d : Delta) → valid d ≡ true → Bounds d
unfolding valid
valid_bounds d e = grind (arith, sides)

pub bounds_valid : (d : Delta) → Bounds d → valid d ≡ true
unfolding valid
bounds_valid d w = grind (arith, sides)

-- ---- applying

pub apply_some : (d : Delta) (v : ℕ) → d.low ≤ v → v + d.high ≤ d.limit → apply_to d v ≡ some (nat_abs (pos v +ℤ d.update))
unfolding apply_to
apply_some d v p q = grind arith

pub apply_deep : (d : Delta) (v : ℕ) → v < d.low → apply_to d v ≡ none
unfolding apply_to
apply_deep d v p = grind arith

pub apply_high : (d : Delta) (v : ℕ) → d.limit < v + d.high → apply_to d v ≡ none
unfolding apply_to
apply_high d v q = grind arith

-- the number that v and an update come to
pub size_after : (v : ℕ) (u : ℤ) → nat_abs (pos v +ℤ u) ≡ (v + gain u - loss u) + (loss u - (v + gain u))
size_after v u = size_sides (pos v +ℤ u) ∙ rw (gain_sum (pos v) u, loss_sum (pos v) u, gain_pos v, loss_pos v) (omega arith)

-- where a valid delta applies, nothing goes below zero
pub after_is : (d : Delta) (v : ℕ) → Bounds d → d.low ≤ v → nat_abs (pos v +ℤ d.update) ≡ v + gain d.update - loss d.update
after_is d v w p = size_after v d.update ∙ omega (arith, w.deep)

-- ---- what merging gives, as naturals

module _ (n e : Delta) where
  pub joined_high : (joined n e).high ≡ max e.high (gain e.update + n.high - loss e.update)
  unfolding joined
  joined_high = grind (arith, sides)

  pub joined_low : (joined n e).low ≡ max e.low (n.low + loss e.update - gain e.update)
  unfolding joined
  joined_low =
      greater_is e.low (pos n.low -ℤ e.update)
      ∙ rw (gain_sum (pos n.low) (neg_ℤ e.update), gain_neg e.update, loss_neg e.update, gain_pos n.low, loss_pos n.low) (omega arith)

  pub joined_gain : gain (joined n e).update ≡ (gain e.update + gain n.update) - (loss e.update + loss n.update)
  unfolding joined
  joined_gain = gain_sum e.update n.update

  pub joined_loss : loss (joined n e).update ≡ (loss e.update + loss n.update) - (gain e.update + gain n.update)
  unfolding joined
  joined_loss = loss_sum e.update n.update

  pub joined_limit : (joined n e).limit ≡ n.limit
  unfolding joined
  joined_limit = refl

  -- ---- which deltas merge

  pub merge_some : n.limit ≡ e.limit → (joined n e).high ≤ n.limit → (joined n e).low ≤ n.limit → merge n e ≡ some (joined n e)
  unfolding merge mergeable
  merge_some p q r = grind arith

  pub merge_limits : (n.limit ≡ e.limit → ⊥) → merge n e ≡ none
  unfolding merge mergeable
  merge_limits p = grind arith

  pub merge_high : n.limit < (joined n e).high → merge n e ≡ none
  unfolding merge mergeable
  merge_high q = grind arith

  pub merge_low : n.limit < (joined n e).low → merge n e ≡ none
  unfolding merge mergeable
  merge_low r = grind arith

-- two deltas that merge, and what they merge to
pub record Joins (n e d : Delta) : Type 0 where
  pub same : n.limit ≡ e.limit
  pub high_fits : (joined n e).high ≤ n.limit
  pub low_fits : (joined n e).low ≤ n.limit
  pub is : joined n e ≡ d

pub merge_joins : (n e d : Delta) → merge n e ≡ some d → Joins n e d
unfolding merge mergeable
merge_joins n e d m = grind arith

-- ---- a merged delta is valid

pub joined_bounds : (n e : Delta) → Bounds n → (joined n e).high ≤ n.limit → (joined n e).low ≤ n.limit → Bounds (joined n e)
joined_bounds n e w p q =
    record {
      high_fits = rw (joined_limit n e) p;
      low_fits = rw (joined_limit n e) q;
      deep = omega (arith, joined_loss n e, joined_low n e, w.deep);
      tall = omega (arith, joined_gain n e, joined_high n e, w.tall);
    }

pub merge_valid : (n e d : Delta) → valid n ≡ true → valid e ≡ true → merge n e ≡ some d → valid d ≡ true
merge_valid n e d vn ve m =
    let j = merge_joins n e d m in
    rw j.is at (bounds_valid (joined n e) (joined_bounds n e (valid_bounds n vn) j.high_fits j.low_fits))

-- ---- a merged delta does what the two do, one after the other

module _ (n e : Delta) (wn : Bounds n) (we : Bounds e) (same : n.limit ≡ e.limit) (v : ℕ) where
  -- what the earlier delta leaves of v
  unfoldable between : ℕ
  between = v + gain e.update - loss e.update

  through : e.low ≤ v → v + e.high ≤ e.limit → apply_next n (apply_to e v) ≡ apply_to n between
  unfolding apply_next between
  through p q = rw (apply_some e v p q, after_is e v we p)

  stopped : apply_to e v ≡ none → apply_next n (apply_to e v) ≡ none
  unfolding apply_next
  stopped k = rw k

  ends : e.low ≤ v → n.low ≤ between → nat_abs (pos v +ℤ (joined n e).update) ≡ nat_abs (pos between +ℤ n.update)
  unfolding between
  ends p r =
      omega (arith, size_after v (joined n e).update, joined_gain n e, joined_loss n e, we.deep, wn.deep, after_is n (v + gain e.update - loss e.update) wn r)

  joined_apply : apply_to (joined n e) v ≡ apply_next n (apply_to e v)
  unfolding between
  joined_apply = go (dec_le e.low v) (dec_le (v + e.high) e.limit) (dec_le n.low between) (dec_le (between + n.high) n.limit)
    where
      deep : v < (joined n e).low → apply_to (joined n e) v ≡ none
      deep h = apply_deep (joined n e) v h

      high : n.limit < v + (joined n e).high → apply_to (joined n e) v ≡ none
      high h = apply_high (joined n e) v (rw (joined_limit n e) h)

      go : Dec (e.low ≤ v) → Dec (v + e.high ≤ e.limit) → Dec (n.low ≤ between) → Dec (between + n.high ≤ n.limit) → apply_to (joined n e) v ≡ apply_next n (apply_to e v)
      go (no p) q r s =
          deep (omega (arith, joined_low n e)) ∙ sym (stopped (apply_deep e v (omega arith)))
      go (yes p) (no q) r s =
          high (omega (arith, joined_high n e)) ∙ sym (stopped (apply_high e v (omega arith)))
      go (yes p) (yes q) (no r) s =
          deep (omega (arith, joined_low n e, we.deep)) ∙ sym (through p q ∙ apply_deep n between (omega arith))
      go (yes p) (yes q) (yes r) (no s) =
          high (omega (arith, joined_high n e, we.deep)) ∙ sym (through p q ∙ apply_high n between (omega arith))
      go (yes p) (yes q) (yes r) (yes s) =
          apply_some (joined n e) v (omega (arith, joined_low n e, we.deep)) (omega (arith, joined_high n e, joined_limit n e, we.deep))
          ∙ ap some (ends p r)
          ∙ sym (through p q ∙ apply_some n between r s)

-- where the merge succeeds, applying the merged delta is applying the earlier and then the newer
pub merge_apply : (n e d : Delta) → valid n ≡ true → valid e ≡ true → merge n e ≡ some d → (v : ℕ) → apply_to d v ≡ apply_next n (apply_to e v)
merge_apply n e d vn ve m v =
    let j = merge_joins n e d m in
    rw j.is at (joined_apply n e (valid_bounds n vn) (valid_bounds e ve) j.same v)

out_of_reach : (d : Delta) → (d.high ≤ d.limit → d.low ≤ d.limit → ⊥) → (v : ℕ) → apply_to d v ≡ none
unfolding apply_to
out_of_reach d out v = grind arith

-- where it fails though the limits are equal, no number takes the earlier and then the newer
pub merge_apart : (n e : Delta) → valid n ≡ true → valid e ≡ true → n.limit ≡ e.limit → merge n e ≡ none → (v : ℕ) → apply_next n (apply_to e v) ≡ none
merge_apart n e vn ve same m v =
    sym (joined_apply n e (valid_bounds n vn) (valid_bounds e ve) same v)
    ∙ out_of_reach (joined n e) (λ p q. apart (merge_some n e same (rw joined_limit at p) (rw joined_limit at q))) v
  where
    apart : merge n e ≡ some (joined n e) → ⊥
    apart k = let z : ◌≡◌ {A = ℕ} 0 1 = cc in omega arith

-- ---- what a walk gathers stays valid

pub accumulate_valid : (a : Accumulated) (d : Delta) → valid_so_far a ≡ true → valid d ≡ true → valid_so_far (accumulate a d) ≡ true
unfolding valid_so_far accumulate gathered
accumulate_valid nothing d p q = q
accumulate_valid (merged n) d p q = go (merge n d) refl
  where
    go : (o : Option Delta) → merge n d ≡ o → valid_so_far (gathered o) ≡ true
    go (some x) m = merge_valid n d x p q m
    go none m = refl
accumulate_valid failed d p q = refl
