-- Laws of the lines.
use Rattle.std.proofs.Common.{◌≡◌, ℕ, zero, suc, ◌+◌, ◌-◌, ◌*◌, ◌/◌, ◌%◌, ◌^◌, ◌<◌, ◌≤◌, Bool, true, false, cond, ltb, List, [], ◌∷◌, ◌++◌, length, get_or, take, drop, sym, refl, ap, ◌∙◌, arith, lit≤, length-append, length-take, take_all, take-add, le-ltb, lt-ltb, eq-eqb, ne_eqb, add-one, add-zero, append_assoc, append-nil, set, drop-cons}
use lib.Dec.{eqb-suc-zero}
use lib.Seq.{sets}
use Rattle.types.specs.Response.{count_in, answer_width}
use Rattle.model.specs.Model.{refused, answered}
use Rattle.mvhashmap.specs.Run.{answer_words, shown}
use Rattle.history.specs.Line.{digit_of, hex_at, hex_word, spaced, hex_words, decimal, line_of}
use Rattle.history.specs.State.{longest_line}
use Rattle.history.specs.Writing.{Puts}
use Rattle.history.specs.declared.output.Output.{Output}

pub sets_append : (l : List ℕ) (i : ℕ) (xs ys : List ℕ) → sets l i (xs ++ ys) ≡ sets (sets l i xs) (i + length xs) ys
sets_append l i [] ys = ap (λ (k : ℕ). sets l k ys) (sym (add-zero i))
sets_append l i (x ∷ xs) ys =
    let e : suc i + length xs ≡ i + suc (length xs) = omega arith in
    sets_append (set l i x) (suc i) xs ys ∙ ap (λ (k : ℕ). sets (sets (set l i x) (suc i) xs) k ys) e

-- What is put after xs, where its place is given as it comes.
sets_then : (l m : List ℕ) (i k : ℕ) (xs ys : List ℕ) → m ≡ sets l i xs → k ≡ i + length xs → sets m k ys ≡ sets l i (xs ++ ys)
sets_then l m i k xs ys e f = rw (e, f) (sym (sets_append l i xs ys))

-- Nothing is put, and what is put after what was put.
pub puts_none : {m : ℕ} (o : Output m) → Puts o o []
puts_none o = record { bytes = refl; put = omega arith; sent = refl }

pub puts_then : {m : ℕ} (o p q : Output m) (xs ys : List ℕ) → Puts o p xs → Puts p q ys → Puts o q (xs ++ ys)
puts_then o p q xs ys x y =
    record {
      bytes = y.bytes ∙ sets_then o.bytes p.bytes o.put p.put xs ys x.bytes x.put;
      put = omega (arith, x.put, y.put, length-append xs ys);
      sent = y.sent ∙ x.sent;
    }

take_next : (xs : List ℕ) (k : ℕ) → k < length xs → take (k + 1) xs ≡ take k xs ++ (get_or xs k 0 ∷ [])
take_next xs k h = take-add k 1 xs ∙ ap (λ (l : List ℕ). take k xs ++ take 1 l) (drop-cons xs k 0 h)

-- One more byte of xs is put.
pub sets_next : (l m : List ℕ) (i : ℕ) (xs : List ℕ) (k d : ℕ) → k < length xs → get_or xs k 0 ≡ d → m ≡ sets l i (take k xs) → set m (i + k) d ≡ sets l i (take (k + 1) xs)
sets_next l m i xs k d h e x =
    let short : length (take k xs) ≡ k = simp length-take (omega arith) in
    rw (take_next xs k h, e) (sets_then l m i (i + k) (take k xs) (d ∷ []) x (omega (arith, short)))

-- ---- digits

-- A digit, by the table of the sixteen.
pub digit_told : (d : ℕ) → d < 16 → get_or (48 ∷ 49 ∷ 50 ∷ 51 ∷ 52 ∷ 53 ∷ 54 ∷ 55 ∷ 56 ∷ 57 ∷ 65 ∷ 66 ∷ 67 ∷ 68 ∷ 69 ∷ 70 ∷ []) d 0 ≡ digit_of d
unfolding digit_of
digit_told zero h = refl
digit_told (suc zero) h = refl
digit_told (suc (suc zero)) h = refl
digit_told (suc (suc (suc zero))) h = refl
digit_told (suc (suc (suc (suc zero)))) h = refl
digit_told (suc (suc (suc (suc (suc zero))))) h = refl
digit_told (suc (suc (suc (suc (suc (suc zero)))))) h = refl
digit_told (suc (suc (suc (suc (suc (suc (suc zero))))))) h = refl
digit_told (suc (suc (suc (suc (suc (suc (suc (suc zero)))))))) h = refl
digit_told (suc (suc (suc (suc (suc (suc (suc (suc (suc zero))))))))) h = refl
digit_told (suc (suc (suc (suc (suc (suc (suc (suc (suc (suc zero)))))))))) h = refl
digit_told (suc (suc (suc (suc (suc (suc (suc (suc (suc (suc (suc zero))))))))))) h = refl
digit_told (suc (suc (suc (suc (suc (suc (suc (suc (suc (suc (suc (suc zero)))))))))))) h = refl
digit_told (suc (suc (suc (suc (suc (suc (suc (suc (suc (suc (suc (suc (suc zero))))))))))))) h = refl
digit_told (suc (suc (suc (suc (suc (suc (suc (suc (suc (suc (suc (suc (suc (suc zero)))))))))))))) h = refl
digit_told (suc (suc (suc (suc (suc (suc (suc (suc (suc (suc (suc (suc (suc (suc (suc zero))))))))))))))) h = refl
digit_told (suc (suc (suc (suc (suc (suc (suc (suc (suc (suc (suc (suc (suc (suc (suc (suc d)))))))))))))))) h = absurd (omega arith)

pub hex_digit : (w k : ℕ) → k < 8 → get_or (hex_word w) k 0 ≡ digit_of (w / 2 ^ (28 - 4 * k) % 16)
unfolding hex_word hex_at
hex_digit w zero h = refl
hex_digit w (suc zero) h = refl
hex_digit w (suc (suc zero)) h = refl
hex_digit w (suc (suc (suc zero))) h = refl
hex_digit w (suc (suc (suc (suc zero)))) h = refl
hex_digit w (suc (suc (suc (suc (suc zero))))) h = refl
hex_digit w (suc (suc (suc (suc (suc (suc zero)))))) h = refl
hex_digit w (suc (suc (suc (suc (suc (suc (suc zero))))))) h = ap (λ (k : ℕ). digit_of (k % 16)) (let whole : w / 16 ^ 0 ≡ w / 2 ^ 0 = refl in whole)
hex_digit w (suc (suc (suc (suc (suc (suc (suc (suc k)))))))) h = absurd (omega arith)

-- All 8 digits are put.
pub hex_done : {m : ℕ} (o p : Output m) (w k : ℕ) → k ≡ 8 → p.bytes ≡ sets o.bytes o.put (take k (hex_word w)) → p.put ≡ o.put + 8 → p.sent ≡ o.sent → Puts o p (hex_word w)
unfolding hex_word
hex_done o p w k e x put sent = record { bytes = rw e at x; put = put; sent = sent }

-- ---- words with single spaces

pub length_hex_word : (w : ℕ) → length (hex_word w) ≡ 8
unfolding hex_word
length_hex_word w = refl

pub length_spaced : (ws : List ℕ) → length (spaced ws) ≡ 9 * length ws
unfolding spaced
length_spaced [] = refl
length_spaced (w ∷ ws) =
    let ih = length_spaced ws in
    let l = length-append (hex_word w) (spaced ws) in
    omega (arith, length_hex_word w)

spaced_last : (ws : List ℕ) (w : ℕ) → spaced (ws ++ (w ∷ [])) ≡ spaced ws ++ (32 ∷ hex_word w)
unfolding spaced
spaced_last [] w = ap (λ (l : List ℕ). 32 ∷ l) (append-nil (hex_word w))
spaced_last (v ∷ ws) w =
    ap (λ (l : List ℕ). 32 ∷ (hex_word v ++ l)) (spaced_last ws w)
    ∙ ap (λ (l : List ℕ). 32 ∷ l) (sym (append_assoc (hex_word v) (spaced ws) (32 ∷ hex_word w)))

-- One more word is put.
pub spaced_next : {m : ℕ} (o p q r : Output m) (ws : List ℕ) (k : ℕ) → k < length ws → Puts o p (spaced (take k ws)) → Puts p q (32 ∷ [])
    → Puts q r (hex_word (get_or ws k 0)) → Puts o r (spaced (take (k + 1) ws))
spaced_next o p q r ws k h x y z =
    rw (take_next ws k h, spaced_last (take k ws) (get_or ws k 0))
    (puts_then o p r (spaced (take k ws)) (32 ∷ hex_word (get_or ws k 0)) x (puts_then p q r (32 ∷ []) (hex_word (get_or ws k 0)) y z))

-- ---- the line of an answer

pub length_answered : (w : ℕ) (ws : List ℕ) → length (line_of (answered (w ∷ ws))) ≡ 9 + 9 * length ws
unfolding line_of hex_words
length_answered w ws =
    let a = length-append (hex_word w ++ spaced ws) (10 ∷ []) in
    let b = length-append (hex_word w) (spaced ws) in
    omega (arith, length_hex_word w, length_spaced ws)

pub answer_line : {m : ℕ} (o p q r : Output m) (ws : List ℕ) → 1 ≤ length ws → Puts o p (hex_word (get_or ws 0 0))
    → Puts p q (spaced (take (length ws - 1) (drop 1 ws))) → Puts q r (10 ∷ []) → Puts o r (line_of (answered ws))
unfolding line_of hex_words
answer_line o p q r [] some x y z = absurd (omega arith)
answer_line o p q r (w ∷ ws) some x y z =
    let all : Puts p q (spaced ws) = rw (take_all (length (w ∷ ws) - 1) ws (omega arith)) at y in
    puts_then o q r (hex_word w ++ spaced ws) (10 ∷ []) (puts_then o p q (hex_word w) (spaced ws) x all) z

-- ---- the line of a refusal

pub length_decimal : (n : ℕ) → length (decimal n) ≤ 2
unfolding decimal
length_decimal n = go (ltb n 10)
  where
    go : (b : Bool) → length (cond {A = List ℕ} b (digit_of n ∷ []) (digit_of (n / 10) ∷ digit_of (n % 10) ∷ [])) ≤ 2
    go true = lit≤ tt
    go false = lit≤ tt

pub length_refused : (n : ℕ) → length (line_of (refused n)) ≡ 4 + length (decimal n)
unfolding line_of
length_refused n = omega (arith, length-append (decimal n) (10 ∷ []))

pub decimal_low : {m : ℕ} (o p : Output m) (n d : ℕ) → n < 10 → d ≡ digit_of (n % 10) → Puts o p (d ∷ []) → Puts o p (decimal n)
unfolding decimal
decimal_low o p n d h e x =
    let same : n % 10 ≡ n = omega arith in
    rw (lt-ltb n 10 h, sym (ap digit_of same), sym e) x

pub decimal_high : {m : ℕ} (o p q : Output m) (n d u : ℕ) → 10 ≤ n → d ≡ digit_of (n / 10) → u ≡ digit_of (n % 10) → Puts o p (d ∷ []) → Puts p q (u ∷ [])
    → Puts o q (decimal n)
unfolding decimal
decimal_high o p q n d u h e f x y = rw (le-ltb n 10 h, sym e, sym f) (puts_then o p q (d ∷ []) (u ∷ []) x y)

pub refusal_line : {m : ℕ} (o p q r s t : Output m) (n : ℕ) → Puts o p (110 ∷ []) → Puts p q (111 ∷ []) → Puts q r (32 ∷ []) → Puts r s (decimal n)
    → Puts s t (10 ∷ []) → Puts o t (line_of (refused n))
unfolding line_of
refusal_line o p q r s t n x y z d e =
    puts_then o p t (110 ∷ []) (111 ∷ 32 ∷ (decimal n ++ (10 ∷ []))) x
    (puts_then p q t (111 ∷ []) (32 ∷ (decimal n ++ (10 ∷ []))) y
    (puts_then q r t (32 ∷ []) (decimal n ++ (10 ∷ [])) z (puts_then r s t (decimal n) (10 ∷ []) d e)))

-- ---- the line of what a call shows

pub shown_short : (result : ℕ) (a : List ℕ) → answer_width ≤ length a → (result ≡ 0 → count_in (get_or a 0 0) < answer_width) → length (line_of (shown result a)) ≤ longest_line
unfolding shown answer_words
shown_short zero (w ∷ a) l h =
    omega (arith, h refl, length_answered w (take (count_in w) a), length-take (count_in w) a)
shown_short zero [] l h = absurd (omega arith)
shown_short (suc n) a l h = rw (eqb-suc-zero n) (omega (arith, length_refused (suc n), length_decimal (suc n)))

module _ {m : ℕ} (a : List ℕ) (o p : Output m) (result : ℕ) where
  pub refused_put : (result ≡ 0 → ⊥) → Puts o p (line_of (refused result)) → Puts o p (line_of (shown result a))
  unfolding shown
  refused_put h x = rw (ne_eqb result 0 h) x

  pub answered_put : (n : ℕ) → result ≡ 0 → n ≡ count_in (get_or a 0 0) + 1 → Puts o p (line_of (answered (take n a))) → Puts o p (line_of (shown result a))
  unfolding shown answer_words
  answered_put n h k x = rw (eq-eqb result 0 h, sym (ap (λ (m : ℕ). take m a) (k ∙ add-one _))) x
