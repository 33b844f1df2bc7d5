-- Blindness, over what is hidden and which requests are kept: what must hold of them so that nothing of the requests that are not kept can be told from
-- the outcomes of those that are. Demand 3 is the case of a reader at t (Noninterference); here is the case of some keys.
use Rattle.std.specs.Prelude.{◌≡◌, Bool, true, false, not, ◌||◌, ◌⊎◌, List, ℕ}
use Rattle.lists.specs.Lists.{every, keep}
use Rattle.request.specs.Request.{refusal_of, request_of}
use Rattle.model.specs.Model.{Fixed, Turn, turns, empty, work_of}
use Rattle.model.specs.Sight.{Sight, Within, Beyond, keys_of}
use Rattle.model.specs.Noninterference.{lacks, is_answered}

-- What a sight, a test of kept requests and a test of quiet turns must be to each other.
pub record Blinding (s : Sight) (is_kept : List ℕ → Bool) (is_quiet : Turn → Bool) : Type 0 where
  -- a kept request that 2, 3 and 4 let through sees and edits only what is in sight
  pub within : (request : List ℕ) → is_kept request ≡ true → refusal_of request ≡ 0 → Within s (work_of (request_of request))
  -- and does not lack slots
  pub served : (turn : Turn) → is_kept turn.request ≡ true → is_quiet turn ≡ true → lacks turn.outcome ≡ false
  -- one that is not kept changes nothing in sight, or is refused. It may lack slots
  pub dropped : (turn : Turn) → is_kept turn.request ≡ false → is_quiet turn ≡ true → refusal_of turn.request ≡ 0 →
      Beyond s (work_of (request_of turn.request)) ⊎ (is_answered turn.outcome ≡ false)

unfoldable pub turns_kept : (List ℕ → Bool) → List Turn → List Turn
turns_kept is_kept ts = keep (λ turn. is_kept turn.request) ts

-- A request of some keys has no other.
unfoldable pub is_of : (ℕ → Bool) → List ℕ → Bool
is_of p request = every p (keys_of (request_of request))

-- None of them is refused for lack of units.
unfoldable pub is_served : (ℕ → Bool) → Turn → Bool
is_served p turn = not (is_of p turn.request) || not (lacks turn.outcome)

-- Keys are blind to other keys: for every test of keys and every two lists of requests of any words and length, run from empty stores of any slots,
-- which are the same but for requests of other keys, and in which no request of those keys lacks slots, their requests, paired in order, have the
-- same outcome. What other keys' requests do, lack or finalise is free.
abbrev pub KeyBlindness : Type 0
KeyBlindness =
    (p : ℕ → Bool) (slots others : Fixed) (xs ys : List (List ℕ)) →
    keep (is_of p) xs ≡ keep (is_of p) ys →
    every (is_served p) (turns slots empty xs) ≡ true →
    every (is_served p) (turns others empty ys) ≡ true →
    turns_kept (is_of p) (turns slots empty xs) ≡ turns_kept (is_of p) (turns others empty ys)
