-- How much of the input is read does not show: where bytes decide their first request, it is that of all the input that starts with them.
use Rattle.std.proofs.Common.{◌≡◌, ℕ, zero, suc, ◌*◌, ◌<◌, ◌≤◌, Bool, true, false, cond, ltb, leb, List, [], ◌∷◌, ◌++◌, length, drop, sym, refl, ap, arith, length-append, length-drop, ltb-false, ltb-true, le-ltb, lt-ltb, leb-false, leb-true}
use lib.ListN.{get_or-append}
use lib.Seq.{drop-append-le}
use Rattle.lists.proofs.Bools.{never}
use Rattle.request.specs.Table.{longest_count}
use Rattle.history.specs.Input.{word_from, words_from, words_in, request_in, decided}
use Rattle.history.specs.State.{longest_request}

-- ---- what the code decides by

pub decided_few : (b : List ℕ) → length b < 4 → false ≡ decided b
unfolding decided
decided_few b h = rw (lt-ltb (length b) 4 h) refl

module _ (b : List ℕ) (n : ℕ) (some : 4 ≤ length b) (head : n ≡ words_in b) where
  pub decided_many : suc longest_count < n → ltb (suc longest_count) n ≡ decided b
  unfolding decided
  decided_many h = rw (le-ltb (length b) 4 some, sym head, lt-ltb (suc longest_count) n h) refl

  pub decided_few_words : n ≤ suc longest_count → leb (4 * n) (length b) ≡ decided b
  unfolding decided
  decided_few_words h = rw (le-ltb (length b) 4 some, sym head, le-ltb (suc longest_count) n h) refl

-- ---- what it means

-- Bytes that do not decide it are fewer than the longest request has.
pub undecided_short : (b : List ℕ) → decided b ≡ false → length b < longest_request
unfolding decided
undecided_short b e = go (ltb (length b) 4) refl (ltb (suc longest_count) (words_in b)) refl e
  where
    go : (t : Bool) → ltb (length b) 4 ≡ t → (v : Bool) → ltb (suc longest_count) (words_in b) ≡ v
        → cond t false (cond v true (leb (4 * words_in b) (length b))) ≡ false → length b < longest_request
    go true f v g e = omega (arith, ltb-true (length b) 4 f)
    go false f true g e = never e
    go false f false g e = omega (arith, leb-false (4 * words_in b) (length b) e, ltb-false (suc longest_count) (words_in b) g)

-- What follows bytes is not in their first words.
module _ (b rest : List ℕ) where
  word_from_append : 4 ≤ length b → word_from (b ++ rest) ≡ word_from b
  unfolding word_from
  word_from_append h =
      rw (
        get_or-append b rest 0 0 (omega arith),
        get_or-append b rest 0 1 (omega arith),
        get_or-append b rest 0 2 (omega arith),
        get_or-append b rest 0 3 (omega arith),
      ) refl

  words_in_append : 4 ≤ length b → words_in (b ++ rest) ≡ words_in b
  unfolding words_in
  words_in_append h = rw (word_from_append h) refl

words_from_append : (n : ℕ) (b rest : List ℕ) → 4 * n ≤ length b → words_from n (b ++ rest) ≡ words_from n b
unfolding words_from
words_from_append zero b rest h = refl
words_from_append (suc n) b rest h =
    rw (word_from_append b rest (omega arith), drop-append-le 4 b rest (omega arith))
    (ap (λ (ws : List ℕ). word_from b ∷ ws) (words_from_append n (drop 4 b) rest (omega (arith, length-drop 4 b))))

pub request_in_decided : (b rest : List ℕ) → decided b ≡ true → request_in (b ++ rest) ≡ request_in b
unfolding request_in decided
request_in_decided b rest e = go (ltb (length b) 4) refl (ltb (suc longest_count) (words_in b)) refl e
  where
    longer : length b ≤ length (b ++ rest)
    longer = omega (arith, length-append b rest)

    go : (t : Bool) → ltb (length b) 4 ≡ t → (v : Bool) → ltb (suc longest_count) (words_in b) ≡ v
        → cond t false (cond v true (leb (4 * words_in b) (length b))) ≡ true
        → cond {A = List ℕ} (ltb (length (b ++ rest)) 4) []
        (cond (ltb (suc longest_count) (words_in (b ++ rest))) []
        (cond (ltb (length (b ++ rest)) (4 * words_in (b ++ rest))) [] (words_from (words_in (b ++ rest)) (b ++ rest))))
        ≡ cond (ltb (length b) 4) [] (cond (ltb (suc longest_count) (words_in b)) [] (cond (ltb (length b) (4 * words_in b)) [] (words_from (words_in b) b)))
    go true f v g e = never (sym e)
    go false f true g e =
        let some : 4 ≤ length b = ltb-false (length b) 4 f in
        rw (f, le-ltb (length (b ++ rest)) 4 (omega (arith, longer)), words_in_append b rest some, g) refl
    go false f false g e =
        let some : 4 ≤ length b = ltb-false (length b) 4 f in
        let whole : 4 * words_in b ≤ length b = leb-true (4 * words_in b) (length b) e in
        rw (
          f,
          le-ltb (length (b ++ rest)) 4 (omega (arith, longer)),
          words_in_append b rest some,
          g,
          le-ltb (length (b ++ rest)) (4 * words_in b) (omega (arith, longer)),
          le-ltb (length b) (4 * words_in b) whole,
        )
        (words_from_append (words_in b) b rest whole)
