-- Laws of words in bytes.
use Rattle.std.proofs.Common.{◌≡◌, ℕ, zero, suc, ◌+◌, ◌*◌, ◌<◌, List, [], ◌∷◌, ◌++◌, length, get_or, drop, set, sym, refl, ap, ◌∙◌, append_assoc, add-one, arith, get_or-drop, drop-cons, drop-drop}
use lib.Seq.{set_at}
use Rattle.history.specs.Input.{word_from, words_from}

pub word_is : (b : List ℕ) (at b0 b1 b2 b3 : ℕ) → b0 ≡ get_or b at 0 → b1 ≡ get_or b (at + 1) 0 → b2 ≡ get_or b (at + 2) 0 → b3 ≡ get_or b (at + 3) 0
    → b0 + 256 * b1 + 65536 * b2 + 16777216 * b3 ≡ word_from (drop at b)
unfolding word_from
word_is b at b0 b1 b2 b3 e0 e1 e2 e3 =
    let z : get_or b (at + 0) 0 ≡ b0 = ap (λ (k : ℕ). get_or b k 0) (let q : at + 0 ≡ at = omega arith in q) ∙ sym e0 in
    omega (arith, get_or-drop at b 0 0, get_or-drop at b 1 0, get_or-drop at b 2 0, get_or-drop at b 3 0)

pub words_length : (n : ℕ) (b : List ℕ) → length (words_from n b) ≡ n
unfolding words_from
words_length zero b = refl
words_length (suc n) b = ap suc (words_length n (drop 4 b))

pub words_more : (n : ℕ) (b : List ℕ) → words_from (suc n) b ≡ words_from n b ++ (word_from (drop (4 * n) b) ∷ [])
unfolding words_from
words_more zero b = refl
words_more (suc n) b =
    let e : 4 + 4 * n ≡ 4 * suc n = omega arith in
    ap (λ (l : List ℕ). word_from b ∷ l) (words_more n (drop 4 b))
    ∙ ap (λ (l : List ℕ). word_from b ∷ (words_from n (drop 4 b) ++ (word_from l ∷ []))) (drop-drop (4 * n) 4 b ∙ ap (λ (k : ℕ). drop k b) e)

-- One more word is loaded.
pub load_again : (b s₀ s : List ℕ) (i w : ℕ) → s ≡ words_from i b ++ drop i s₀ → i < length s₀ → w ≡ word_from (drop (4 * i) b)
    → set s i w ≡ words_from (i + 1) b ++ drop (i + 1) s₀
load_again b s₀ s i w e h f =
    ap (λ (l : List ℕ). set l i w) (e ∙ ap (λ (l : List ℕ). words_from i b ++ l) (drop-cons s₀ i 0 h))
    ∙ set_at (words_from i b) (get_or s₀ i 0) (drop (suc i) s₀) w i (words_length i b)
    ∙ sym
    (ap (λ (k : ℕ). words_from k b ++ drop k s₀) (add-one i)
    ∙ ap (λ (l : List ℕ). l ++ drop (suc i) s₀) (words_more i b)
    ∙ append_assoc (words_from i b) _ _
    ∙ ap (λ (x : ℕ). words_from i b ++ (x ∷ drop (suc i) s₀)) (sym f))

pub load_start : (b s : List ℕ) → s ≡ words_from 0 b ++ drop 0 s
unfolding words_from
load_start b s = refl

pub load_done : (b s₀ s : List ℕ) (i n : ℕ) → s ≡ words_from i b ++ drop i s₀ → i ≡ n → s ≡ words_from n b ++ drop n s₀
load_done b s₀ s i n e f = e ∙ ap (λ (k : ℕ). words_from k b ++ drop k s₀) f
