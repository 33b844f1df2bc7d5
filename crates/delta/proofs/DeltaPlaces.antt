-- What reading and writing a delta at a place of a slice finds.
-- Assumes nothing.
use mathlib.Core.Path.{◌≡◌, sym, ap, ◌∙◌}
use mathlib.Core.Bool.{Bool}
use mathlib.Core.List.{List, [], ◌∷◌, ◌++◌}
use Prim.Native.Nat.{ℕ, zero, suc, ◌+◌, ◌≤◌}
use native.Mathlib.Nat.{zero-add, suc-add}
use native.Mathlib.Omega.{arith}
use lib.ListN.{length, take, drop, get_or, set, length-append}
use lib.Seq.{sets, take-take, drop-drop, take-nil, get_or-take, get_or-drop}
use Rattle.number.specs.declared.Number.{Number}
use Rattle.number.specs.Number.{value_of, number_of}
use Rattle.number.specs.Words.{digits, value_of_words}
use Rattle.number.proofs.Digits.{length_digits}
use Rattle.number.proofs.SetRuns.{sets_then}
use Rattle.delta.specs.declared.DeltaOp.{DeltaOp}
use Rattle.delta.specs.Delta.{delta_width, is_negative, sign_word, number_at, delta_ok, delta_words}
use Rattle.delta.specs.Record.{exact, op_at, valid_op}
use Rattle.delta.proofs.DeltaFormat.{size_signed}
use Rattle.delta.proofs.RecordLaws.{valid_op_op_at}

-- ---- reading

drop_take : (k n : ℕ) (l : List ℕ) → drop k (take (k + n) l) ≡ take n (drop k l)
drop_take zero n l = rw zero-add
drop_take (suc k) n [] = rw (take-nil (suc k + n)) (sym (take-nil n))
drop_take (suc k) n (x ∷ l) = rw suc-add (drop_take k n l)

-- four words of a part are four words of the whole
part_of : (s : List ℕ) (at k n : ℕ) → 4 ≤ n → take 4 (drop k (take (k + n) (drop at s))) ≡ take 4 (drop (at + k) s)
part_of s at k n h = ap (take 4) (drop_take k n (drop at s)) ∙ take-take 4 n (drop k (drop at s)) h ∙ ap (take 4) (drop-drop k at s)

pub sign_of_part : (s : List ℕ) (at : ℕ) → get_or (take delta_width (drop at s)) 16 0 ≡ get_or s (at + 16) 0
sign_of_part s at = get_or-take delta_width (drop at s) 16 0 (omega arith) ∙ get_or-drop at s 16 0

pub op_is : (s : List ℕ) (at : ℕ) (limit high low update : Number) → limit ≡ number_of (value_of_words (take 4 (drop at s))) → high ≡ number_of (value_of_words (take 4 (drop (at + 4) s))) → low ≡ number_of (value_of_words (take 4 (drop (at + 8) s))) → update ≡ number_of (value_of_words (take 4 (drop (at + 12) s))) → ◌≡◌ {A = DeltaOp} (record { limit = limit; high = high; low = low; update = update; sign = get_or s (at + 16) 0 }) (op_at (take delta_width (drop at s)))
unfolding op_at number_at
op_is s at limit high low update e₀ e₁ e₂ e₃ =
    λ i. record { limit = limit_is i; high = high_is i; low = low_is i; update = update_is i; sign = sign_is i }
  where
    sign_is : get_or s (at + 16) 0 ≡ get_or (take delta_width (drop at s)) 16 0
    sign_is = sym (sign_of_part s at)

    limit_is : limit ≡ number_of (value_of_words (take 4 (drop 0 (take delta_width (drop at s)))))
    limit_is = e₀ ∙ ap (λ (l : List ℕ). number_of (value_of_words l)) (sym (take-take 4 delta_width (drop at s) (omega arith)))

    high_is : high ≡ number_of (value_of_words (take 4 (drop 4 (take delta_width (drop at s)))))
    high_is = e₁ ∙ ap (λ (l : List ℕ). number_of (value_of_words l)) (sym (part_of s at 4 13 (omega arith)))

    low_is : low ≡ number_of (value_of_words (take 4 (drop 8 (take delta_width (drop at s)))))
    low_is = e₂ ∙ ap (λ (l : List ℕ). number_of (value_of_words l)) (sym (part_of s at 8 9 (omega arith)))

    update_is : update ≡ number_of (value_of_words (take 4 (drop 12 (take delta_width (drop at s)))))
    update_is = e₃ ∙ ap (λ (l : List ℕ). number_of (value_of_words l)) (sym (part_of s at 12 5 (omega arith)))

-- ---- checking

module _ (s : List ℕ) (at : ℕ) where
  pub checked_op : (o : DeltaOp) (t : Bool) → o ≡ op_at (take delta_width (drop at s)) → t ≡ valid_op o → t ≡ delta_ok (take delta_width (drop at s))
  checked_op o t e f = f ∙ ap valid_op e ∙ valid_op_op_at (take delta_width (drop at s))

-- ---- writing

-- five runs of words, one after another
runs : (s s₁ s₂ s₃ s₄ a b c d : List ℕ) (at w : ℕ) → length a ≡ 4 → length b ≡ 4 → length c ≡ 4 → length d ≡ 4 → s₁ ≡ sets s at a → s₂ ≡ sets s₁ (at + 4) b → s₃ ≡ sets s₂ (at + 8) c → s₄ ≡ sets s₃ (at + 12) d → sets s₄ (at + 16) (w ∷ []) ≡ sets s at (a ++ b ++ c ++ d ++ (w ∷ []))
runs s s₁ s₂ s₃ s₄ a b c d at w la lb lc ld e₁ e₂ e₃ e₄ =
    sets_then s s₄ (a ++ b ++ c ++ d) (w ∷ []) at 16 (long (a ++ b ++ c) d 12 (long (a ++ b) c 8 (long a b 4 la lb) lc) ld) put₄
  where
    long : (x y : List ℕ) (n : ℕ) → length x ≡ n → length y ≡ 4 → length (x ++ y) ≡ n + 4
    long x y n p q = length-append x y ∙ rw (p, q)

    put₂ : s₂ ≡ sets s at (a ++ b)
    put₂ = e₂ ∙ sets_then s s₁ a b at 4 la e₁

    put₃ : s₃ ≡ sets s at (a ++ b ++ c)
    put₃ = e₃ ∙ sets_then s s₂ (a ++ b) c at 8 (long a b 4 la lb) put₂

    put₄ : s₄ ≡ sets s at (a ++ b ++ c ++ d)
    put₄ = e₄ ∙ sets_then s s₃ (a ++ b ++ c) d at 12 (long (a ++ b) c 8 (long a b 4 la lb) lc) put₃

module _ (s s₁ s₂ s₃ s₄ : List ℕ) (at sign : ℕ) (o : DeltaOp) where
  pub delta_put : s₁ ≡ sets s at (digits 4 (value_of o.limit)) → s₂ ≡ sets s₁ (at + 4) (digits 4 (value_of o.high)) → s₃ ≡ sets s₂ (at + 8) (digits 4 (value_of o.low)) → s₄ ≡ sets s₃ (at + 12) (digits 4 (value_of o.update)) → sign ≡ sign_word (exact o).update → set s₄ (at + 16) sign ≡ sets s at (delta_words (exact o))
  unfolding delta_words exact
  delta_put e₁ e₂ e₃ e₄ e₅ =
      runs s s₁ s₂ s₃ s₄ (digits 4 (value_of o.limit)) (digits 4 (value_of o.high)) (digits 4 (value_of o.low)) (digits 4 (value_of o.update)) at sign
      (length_digits 4 (value_of o.limit)) (length_digits 4 (value_of o.high)) (length_digits 4 (value_of o.low)) (length_digits 4 (value_of o.update))
      e₁ e₂ e₃ e₄
      ∙ rw (size_signed (is_negative o.sign) (value_of o.update), e₅)
