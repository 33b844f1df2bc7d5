-- A row's content, which is words of the store: what is read there is read of the row.
-- Assumes nothing.
use mathlib.Core.Path.{◌≡◌, refl, sym, ◌∙◌, ap}
use mathlib.Core.Bool.{false}
use mathlib.Core.List.{List, [], ◌∷◌, ◌++◌}
use Prim.Native.Nat.{ℕ, zero, suc, ◌+◌, ◌-◌, ◌≤◌, ◌<◌}
use native.Mathlib.Nat.{sub-zero, suc-sub-suc, not-suc-le-zero, le_of_suc-le-suc}
use native.Mathlib.Omega.{arith}
use lib.ListN.{length, get_or, take, drop, length-drop}
use lib.Seq.{length-take-le, take-nil, take-take, drop-drop, take-append-le, drop-append-le, get_or_at, get_or-take, get_or-drop, ext_get_or}
use Rattle.number.specs.Number.{number_of}
use Rattle.number.specs.Words.{value_of_words}
use Rattle.number.specs.declared.Number.{Number}
use Rattle.delta.specs.Delta.{number_at}
use Rattle.delta.specs.Record.{op_at}
use Rattle.delta.specs.declared.DeltaOp.{DeltaOp}
use Rattle.types.specs.Value.{value_width, value_at}
use Rattle.probe.specs.Cells.{readings}
use Rattle.store.specs.Held.{payload_at, held, content_of, no_row}
use Rattle.store.specs.Valid.{Valid}
use Rattle.store.proofs.Contents.{row_payload, content_in, content_word, base_in}
use Rattle.versioned_data.specs.Layout.{content_width, payload_width}

drop_take : (a b : ℕ) (l : List ℕ) → a ≤ b → drop a (take b l) ≡ take (b - a) (drop a l)
drop_take zero b l h = rw (sub-zero b)
drop_take (suc a) zero l h = absurd (not-suc-le-zero h)
drop_take (suc a) (suc b) [] h = sym (take-nil (suc b - suc a))
drop_take (suc a) (suc b) (x ∷ l) h = drop_take a b l (le_of_suc-le-suc h) ∙ ap (λ (n : ℕ). take n (drop a l)) (sym (suc-sub-suc b a))

-- w words of a store from b on, and words from k on of these
module _ (s : List ℕ) (b w : ℕ) where
  pub rest_of : (k : ℕ) → k ≤ w → drop k (take w (drop b s)) ≡ take (w - k) (drop (b + k) s)
  rest_of k h = rw (drop_take k w (drop b s) h, drop-drop k b s)

  pub part_of : (k m : ℕ) → k + m ≤ w → take m (drop k (take w (drop b s))) ≡ take m (drop (b + k) s)
  part_of k m h = ap (take m) (rest_of k (omega arith)) ∙ take-take m (w - k) (drop (b + k) s) (omega arith)

  pub word_of_lem : (k : ℕ) → k < w → get_or (take w (drop b s)) k 0 ≡ get_or s (b + k) 0
  word_of_lem k h = get_or-take w (drop b s) k 0 h ∙ get_or-drop b s k 0

  pub value_of_lem : (k : ℕ) → k + value_width ≤ w → value_at k (take w (drop b s)) ≡ value_at (b + k) s
  unfolding value_at
  value_of_lem k h = part_of k value_width h

-- a delta of sixteen words and a sign
module _ (s : List ℕ) (b sign : ℕ) (h : b + 20 ≤ length s) where
  abbrev ws : List ℕ
  ws = take 16 (drop b s) ++ (sign ∷ [])

  size : length (take 16 (drop b s)) ≡ 16
  size = length-take-le 16 (drop b s) (omega (arith, length-drop b s))

  number_of_lem : (k : ℕ) → k ≤ 12 → number_at ws k ≡ value_of_words (take 4 (drop (b + k) s))
  unfolding number_at
  number_of_lem k l =
      let d : drop k ws ≡ drop k (take 16 (drop b s)) ++ (sign ∷ []) = drop-append-le k (take 16 (drop b s)) (sign ∷ []) (omega (arith, size)) in
      let n : 4 ≤ length (drop k (take 16 (drop b s))) = omega (arith, length-drop k (take 16 (drop b s)), size) in
      ap (λ (l : List ℕ). value_of_words (take 4 l)) d
      ∙ ap value_of_words (take-append-le 4 (drop k (take 16 (drop b s))) (sign ∷ []) n ∙ part_of s b 16 k 4 (omega arith))

  pub op_read : (limit high low update : Number) → limit ≡ number_of (value_of_words (take 4 (drop b s))) → high ≡ number_of (value_of_words (take 4 (drop (b + 4) s))) →
      low ≡ number_of (value_of_words (take 4 (drop (b + 8) s))) → update ≡ number_of (value_of_words (take 4 (drop (b + 12) s))) →
      ◌≡◌ {A = DeltaOp} (record { limit = limit; high = high; low = low; update = update; sign = sign }) (op_at ws)
  unfolding op_at
  op_read limit high low update e₀ e₁ e₂ e₃ i =
      record { limit = limit_is i; high = high_is i; low = low_is i; update = update_is i; sign = sign_is i }
    where
      here : b + 0 ≡ b
      here = omega arith

      sign_is : sign ≡ get_or ws 16 0
      sign_is = sym (get_or_at (take 16 (drop b s)) sign [] 0 16 size)

      limit_is : limit ≡ number_of (number_at ws 0)
      limit_is = e₀ ∙ ap number_of (sym (number_of_lem 0 (omega arith) ∙ ap (λ (n : ℕ). value_of_words (take 4 (drop n s))) here))

      high_is : high ≡ number_of (number_at ws 4)
      high_is = e₁ ∙ ap number_of (sym (number_of_lem 4 (omega arith)))

      low_is : low ≡ number_of (number_at ws 8)
      low_is = e₂ ∙ ap number_of (sym (number_of_lem 8 (omega arith)))

      update_is : update ≡ number_of (number_at ws 12)
      update_is = e₃ ∙ ap number_of (sym (number_of_lem 12 (omega arith)))

-- the content of a row
length_readings : {A : Type 0} (f : ℕ → A) (n : ℕ) → length (readings f n) ≡ n
unfolding readings
length_readings f zero = refl
length_readings f (suc n) = ap suc (length_readings (λ i. f (suc i)) n)

module _ (n : ℕ) (s : List ℕ) (valid : Valid payload_width false n s) (i : ℕ) (inside : i < length (held payload_width n s)) where
  pub content_inside : content_of payload_width n s i + content_width ≤ length s
  content_inside = omega (arith, content_in payload_width n false s valid i inside, (base_in payload_width n false s valid).0, (base_in payload_width n false s valid).1)

  pub payload_size : length (get_or (held payload_width n s) i no_row).payload ≡ content_width
  unfolding payload_at
  payload_size = ap length (row_payload payload_width n s i inside) ∙ length_readings _ content_width

  pub payload_is : (get_or (held payload_width n s) i no_row).payload ≡ take content_width (drop (content_of payload_width n s i) s)
  payload_is =
      ext_get_or 0 (get_or (held payload_width n s) i no_row).payload (take content_width (drop (content_of payload_width n s i) s))
      (payload_size ∙ sym (length-take-le content_width (drop (content_of payload_width n s i) s) (omega (arith, content_inside, length-drop (content_of payload_width n s i) s))))
      (λ j h. at j (omega (arith, payload_size)))
    where
      at : (j : ℕ) → j < content_width → get_or (get_or (held payload_width n s) i no_row).payload j 0 ≡ get_or (take content_width (drop (content_of payload_width n s i) s)) j 0
      at j h = sym (content_word payload_width n false s valid i inside j h) ∙ sym (word_of_lem s (content_of payload_width n s i) content_width j h)
