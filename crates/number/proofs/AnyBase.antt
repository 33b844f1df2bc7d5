-- Sums, differences and comparisons by two digits, to any base B.
-- Assumes nothing.
use Rattle.std.proofs.Common.{◌≡◌, ℕ, ◌+◌, ◌-◌, ◌*◌, ◌/◌, ◌%◌, ◌<◌, ◌≤◌, cond, ltb, sym, ap, ◌∙◌, mul-le-mul_right, mod-eq_of_lt, mul_assoc, add-mul, arith, le-ltb, lt-ltb}
use native.Mathlib.Nat.{add-mul-mod_self_right, mod-eq-sub-mod, div-eq_of_lt, div-eq-sub-div}
use native.Mathlib.Decide.{dec_lt}
use mir.Val.{bool_byte}

module _ (B a b : ℕ) (ha : a < B) (hb : b < B) where
  -- a sum that wraps: its carry and what is left of it
  wraps_div : B ≤ a + b → (a + b) / B ≡ 1
  wraps_div k = div-eq-sub-div (omega arith) k ∙ ap (λ (n : ℕ). n + 1) (div-eq_of_lt (omega arith))

  wraps_mod : B ≤ a + b → (a + b) % B ≡ a + b - B
  wraps_mod k = mod-eq-sub-mod k ∙ mod-eq_of_lt (omega arith)

  -- the wrapped sum is less than an addend exactly if the sum wrapped
  pub carry_wrapped : (s : ℕ) → s ≡ (a + b) % B → bool_byte (ltb s a) ≡ (a + b) / B
  carry_wrapped s e = go (dec_lt (a + b) B)
    where
      go : Dec (a + b < B) → bool_byte (ltb s a) ≡ (a + b) / B
      go (yes h) = rw (le-ltb s a (omega (arith, mod-eq_of_lt h)), div-eq_of_lt h)
      go (no h) =
          let k : B ≤ a + b = omega arith in
          rw (lt-ltb s a (omega (arith, wraps_mod k)), wraps_div k)

  pub carry_small : (a + b) / B ≤ 1
  carry_small = go (dec_lt (a + b) B)
    where
      go : Dec (a + b < B) → (a + b) / B ≤ 1
      go (yes h) = omega (arith, div-eq_of_lt h)
      go (no h) = let k : B ≤ a + b = omega arith in omega (arith, wraps_div k)

  -- a difference that wraps is the one that the borrow makes up for
  pub borrow_wrapped : (d : ℕ) → d < B → (d + b) % B ≡ a → d + b ≡ a + cond (ltb a b) 1 0 * B
  borrow_wrapped d hd e = go (dec_lt (d + b) B)
    where
      go : Dec (d + b < B) → d + b ≡ a + cond (ltb a b) 1 0 * B
      go (yes h) = rw (le-ltb a b (omega (arith, mod-eq_of_lt h))) (omega (arith, mod-eq_of_lt h))
      go (no h) =
          let k : B ≤ d + b = omega arith in
          let m : d + b - B ≡ a = sym (mod-eq-sub-mod k ∙ mod-eq_of_lt (omega arith)) ∙ e in
          rw (lt-ltb a b (omega arith)) (omega arith)

pub borrow_small : (a b : ℕ) → cond (ltb a b) 1 0 ≤ 1
borrow_small a b = go (dec_lt a b)
  where
    go : Dec (a < b) → cond (ltb a b) 1 0 ≤ 1
    go (yes h) = rw (lt-ltb a b h) (omega arith)
    go (no h) = rw (le-ltb a b (omega arith)) (omega arith)

module _ (B al ah bl bh : ℕ) where
  -- two digits, added with carry: what leaves the top is worth B * B
  pub sum_splits : (lo c h t hi u : ℕ) → c * B + lo ≡ al + bl → t * B + h ≡ ah + bh → u * B + hi ≡ h + c → (al + ah * B) + (bl + bh * B) ≡ lo + hi * B + (t + u) * (B * B)
  sum_splits lo c h t hi u e₁ e₂ e₃ =
      omega (arith, simp (add-mul, mul_assoc) at (ap (λ (n : ℕ). n * B) e₂), simp (add-mul, mul_assoc) at (ap (λ (n : ℕ). n * B) e₃), add-mul t u (B * B))

  -- two digits, subtracted with borrow: what the top borrows is worth B * B
  pub difference_splits : (lo c h t hi u : ℕ) → lo + bl ≡ al + c * B → h + bh ≡ ah + t * B → hi + c ≡ h + u * B → (lo + hi * B) + (bl + bh * B) ≡ al + ah * B + (t + u) * (B * B)
  difference_splits lo c h t hi u e₁ e₂ e₃ =
      omega (arith, simp (add-mul, mul_assoc) at (ap (λ (n : ℕ). n * B) e₂), simp (add-mul, mul_assoc) at (ap (λ (n : ℕ). n * B) e₃), add-mul t u (B * B))

-- two digits are below B * B
pub two_below : (B : ℕ) {lo hi : ℕ} → lo < B → hi < B → lo + hi * B < B * B
two_below B {lo} {hi} h k = omega (arith, mul-le-mul_right B k, add-mul 1 hi B)

-- the greater high digit makes the greater number
pub high_decides : (B bl : ℕ) {al ah bh : ℕ} → al < B → ah < bh → al + ah * B < bl + bh * B
high_decides B bl {al} {ah} {bh} h k = omega (arith, mul-le-mul_right B k, add-mul 1 ah B)

-- nothing left the top: the number is what the digits say; something did: it is out of range
pub none_left : (v w t r : ℕ) → v ≡ w + t * r → t ≡ 0 → v ≡ w
none_left v w t r e z = omega (arith, ap (λ (n : ℕ). n * r) z)

pub some_left : (v w t r : ℕ) → v ≡ w + t * r → (t ≡ 0 → ⊥) → w + r ≤ v
some_left v w t r e z = let k : 1 * r ≤ t * r = mul-le-mul_right r (omega arith) in omega arith

-- two numbers that differ in a digit differ
pub low_differs : (B ah bh : ℕ) {al bl : ℕ} → al < B → bl < B → (al ≡ bl → ⊥) → al + ah * B ≡ bl + bh * B → ⊥
low_differs B ah bh {al} {bl} ha hb n e = n (sym (low al ah ha) ∙ ap (λ (v : ℕ). v % B) e ∙ low bl bh hb)
  where
    low : (l h : ℕ) → l < B → (l + h * B) % B ≡ l
    low l h k = add-mul-mod_self_right l h B ∙ mod-eq_of_lt k
