-- The demands on the call, each about every list of calls that keep to `Calls`, on words; what "accepted before" means in the second; and that nobody
-- can see where in a store's words anything lies.
use Rattle.std.specs.Prelude.{◌≡◌, true, List, map, ℕ}
use Rattle.types.specs.Refusal.{is_result}
use Rattle.model.specs.Model.{empty, after}
use Rattle.model.specs.Noninterference.{kept, kept_turns, quiet}
use Rattle.mvhashmap.specs.Call.{Stores, Lent, Called, model_in, fixed_of, known_of, Calls}
use Rattle.mvhashmap.specs.Run.{Call, cleared, Chain, stores_after, views, accepted_in, calls_by, are_words, long_enough, turns_in}

-- Demand 1: a request of any words and length, over any lent parts, is answered, or refused by a number of 01's table, and a refusal changes no
-- word of what was lent.
pub record TotalAt (before : Lent) (r : ℕ) (after : Lent) : Type 0 where
  pub number : is_result r ≡ true
  pub unchanged : (r ≡ 0 → ⊥) → after ≡ before

abbrev pub Total : Type 0
Total = (t : List ℕ) (before : Lent) (r : ℕ) (after : Lent) → Calls t before r after → TotalAt before r after

-- Demand 2: for every list of requests from cleared stores of any lengths, each result and answer slice is the definition's over the requests accepted
-- before, and after each the stores are sound and hold what the definition's model says.
abbrev pub Right : Type 0
Right =
    (n k : ℕ) (cs : List Call) (ds : List Called) →
    Chain (cleared n k) cs ds →
    views ds ≡ calls_by (fixed_of (cleared n k)) empty cs

-- "Over the requests accepted before": what the stores hold after a list of requests is what the definition reaches by the accepted ones alone.
abbrev pub Accepted : Type 0
Accepted =
    (n k : ℕ) (cs : List Call) (ds : List Called) →
    Chain (cleared n k) cs ds →
    model_in (stores_after (cleared n k) ds) ≡ after (fixed_of (cleared n k)) empty (accepted_in cs (views ds))

-- Demand 3: for every t and every two lists of requests of any words and length, from cleared stores of equal lengths, with answer slices long
-- enough, which are the same but for requests that t does not keep, and of which neither lacks slots or finalises at t or above, the kept
-- requests, paired in order, have the same result and, where that is 0, the same answer words.
abbrev pub Blind : Type 0
Blind =
    (n k t : ℕ) (xs ys : List Call) (ds es : List Called) →
    Chain (cleared n k) xs ds →
    Chain (cleared n k) ys es →
    are_words xs ≡ true →
    are_words ys ≡ true →
    long_enough xs ≡ true →
    long_enough ys ≡ true →
    kept t (map (λ c. c.request) xs) ≡ kept t (map (λ c. c.request) ys) →
    quiet t (turns_in xs (views ds)) ≡ true →
    quiet t (turns_in ys (views es)) ≡ true →
    kept_turns t (turns_in xs (views ds)) ≡ kept_turns t (turns_in ys (views es))

-- Nobody can see what is free: over two pairs of stores of the same units, both sound or both not, that hold the same, every list of calls has the same
-- results and answer slices, and after each call the stores hold the same.
abbrev pub Unseen : Type 0
Unseen =
    (s z : Stores) (cs : List Call) (ds es : List Called) →
    known_of s ≡ known_of z →
    Chain s cs ds →
    Chain z cs es →
    views ds ≡ views es
