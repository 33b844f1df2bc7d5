-- Laws of the next request.
use Rattle.std.proofs.Common.{◌≡◌, ℕ, suc, ◌*◌, ◌<◌, ◌≤◌, Bool, true, false, cond, ltb, List, [], ◌++◌, length, take, drop, sym, refl, ap, ◌∙◌, arith, take_at, ltb-false, le-ltb, lt-ltb}
use Rattle.request.specs.Table.{longest_count}
use Rattle.history.specs.Input.{words_from, words_in, request_in}
use Rattle.history.proofs.InputWords.{words_length}

-- What `next` promises of the words s after it, and of its count.
abbrev pub Loads : (b s₀ s : List ℕ) (n : ℕ) → Type 0
Loads b s₀ s n = (s ≡ request_in b ++ drop (length (request_in b)) s₀) × (n ≡ length (request_in b))

pub request_none : (b : List ℕ) → length b < 4 → request_in b ≡ []
unfolding request_in
request_none b h = rw (lt-ltb (length b) 4 h) refl

module _ (b s₀ : List ℕ) where
  none : request_in b ≡ [] → Loads b s₀ s₀ 0
  none e = rw e (refl, refl)

  pub found_short : length b < 4 → Loads b s₀ s₀ 0
  found_short h = none (request_none b h)

  module _ (n : ℕ) (some : 4 ≤ length b) (head : n ≡ words_in b) where
    pub found_many : suc longest_count < n → Loads b s₀ s₀ 0
    unfolding request_in
    found_many h = none (rw (le-ltb _ _ some, sym head, lt-ltb (suc longest_count) n h) refl)

    module _ (few : n ≤ suc longest_count) where
      pub found_cut : length b < 4 * n → Loads b s₀ s₀ 0
      unfolding request_in
      found_cut h = none (rw (le-ltb _ _ some, sym head, le-ltb (suc longest_count) n few, lt-ltb _ _ h) refl)

      found : 4 * n ≤ length b → request_in b ≡ words_from n b
      unfolding request_in
      found h = rw (le-ltb _ _ some, sym head, le-ltb (suc longest_count) n few, le-ltb _ _ h) refl

      pub found_request : 4 * n ≤ length b → (s : List ℕ) → s ≡ words_from n b ++ drop n s₀ → Loads b s₀ s n
      found_request h s e = rw (found h, words_length n b) (e, refl)

-- The words that are loaded are the request.
pub request_taken : (b s₀ s : List ℕ) (n : ℕ) → Loads b s₀ s n → take n s ≡ request_in b
request_taken b s₀ s n h = ap (λ (l : List ℕ). take n l) h.0 ∙ take_at (request_in b) _ n (sym h.1)

-- It has no more words than the longest, and they lie within the bytes.
fits_cond : (b : List ℕ) (t u v : Bool) (n : ℕ) → ltb (suc longest_count) n ≡ u → ltb (length b) (4 * n) ≡ v
    → (length (cond {A = List ℕ} t [] (cond u [] (cond v [] (words_from n b)))) ≤ suc longest_count)
    × (4 * length (cond {A = List ℕ} t [] (cond u [] (cond v [] (words_from n b)))) ≤ length b)
fits_cond b true u v n e f = (omega arith, omega arith)
fits_cond b false true v n e f = (omega arith, omega arith)
fits_cond b false false true n e f = (omega arith, omega arith)
fits_cond b false false false n e f =
    let few = ltb-false _ _ e in
    let whole = ltb-false _ _ f in
    rw (words_length n b) (few, whole)

pub request_fits : (b : List ℕ) → (length (request_in b) ≤ suc longest_count) × (4 * length (request_in b) ≤ length b)
unfolding request_in
request_fits b = fits_cond b (ltb (length b) 4) _ _ (words_in b) refl refl
