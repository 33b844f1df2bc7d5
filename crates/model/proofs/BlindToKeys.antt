-- Keys are blind to other keys.
-- Assumes nothing.
use mathlib.Core.Path.{◌≡◌, refl, sym}
use mathlib.Core.Bool.{Bool, true, false}
use mathlib.Core.Logic.{inl}
use Prim.Native.Nat.{ℕ}
use Rattle.lists.proofs.Bools.{never}
use Rattle.request.specs.Request.{request_of}
use Rattle.model.specs.Model.{empty, Turn}
use Rattle.model.specs.Noninterference.{lacks}
use Rattle.model.specs.Sight.{key_sight}
use Rattle.model.specs.Blind.{Blinding, is_of, is_served, KeyBlindness}
use Rattle.model.proofs.Sight.{empty_rising}
use Rattle.model.proofs.SightKeys.{request_within, request_beyond}
use Rattle.model.proofs.BlindList.{blind}

module _ (p : ℕ → Bool) where
  served_turn : (turn : Turn) → is_of p turn.request ≡ true → is_served p turn ≡ true → lacks turn.outcome ≡ false
  unfolding is_served
  served_turn turn k q = go (lacks turn.outcome) refl
    where
      go : (b : Bool) → lacks turn.outcome ≡ b → lacks turn.outcome ≡ false
      go true e = never (sym (rw (k, e) at q))
      go false e = e

  blinding : Blinding (key_sight p) (is_of p) (is_served p)
  unfolding is_of
  blinding =
      record {
        within = λ x k e. request_within p (request_of x) k;
        served = served_turn;
        dropped = λ turn k q e. inl (request_beyond p (request_of turn.request) k);
      }

pub key_blindness : KeyBlindness
key_blindness p slots others xs ys e qx qy =
    blind (key_sight p) (is_of p) (is_served p) (blinding p) slots others empty empty empty_rising empty_rising refl xs ys e qx qy
