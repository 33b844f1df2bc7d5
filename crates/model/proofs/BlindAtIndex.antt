-- Demand 3: blindness in the sight of a reader at t.
-- Assumes nothing.
use mathlib.Core.Path.{◌≡◌, refl, sym, ◌∙◌}
use mathlib.Core.Bool.{Bool, true, false, not}
use mathlib.Core.Logic.{◌⊎◌, inl, inr}
use mathlib.Core.List.{List}
use Prim.Native.Nat.{ℕ, ◌/◌, ◌^◌}
use native.Mathlib.Omega.{arith}
use lib.ListN.{get_or}
use Rattle.lists.proofs.Bools.{and_left, and_right}
use Rattle.request.specs.Request.{row_at, request_of, refusal_of, shape_ok, fields_ok}
use Rattle.model.specs.Model.{empty, work_of, Outcome, Turn}
use Rattle.model.specs.Noninterference.{names, named_in, is_kept, kept, kept_turns, lacks, is_answered, finalizes_from, is_quiet, quiet, Noninterference}
use Rattle.model.specs.Sight.{Beyond, reader_sight}
use Rattle.model.specs.Blind.{Blinding, turns_kept}
use Rattle.model.proofs.Sight.{empty_rising}
use Rattle.model.proofs.BlindKinds.{Sound, sound}
use Rattle.model.proofs.BlindList.{blind}

-- A request that 2, 3 and 4 let through names what its row says.
names_row : (x : List ℕ) → refusal_of x ≡ 0 → names x ≡ named_in (row_at x).index x
unfolding refusal_of names
names_row x h = go (shape_ok x) refl (fields_ok (row_at x).kind x) refl
  where
    go : (a : Bool) → shape_ok x ≡ a → (b : Bool) → fields_ok (row_at x).kind x ≡ b → names x ≡ named_in (row_at x).index x
    go true p true q = rw (p, q)
    go true p false q = absurd (let z : ◌≡◌ {A = ℕ} 3 0 = rw (p, q) at h in omega arith)
    go false p b q = absurd (let z : ◌≡◌ {A = ℕ} 2 0 = rw p at h in omega arith)

sound_at : (x : List ℕ) → Sound (row_at x).kind (row_at x).index
unfolding row_at
sound_at x = sound (get_or x 0 0 / 2 ^ 28)

not-false : (b : Bool) → not b ≡ true → b ≡ false
not-false true e = sym e
not-false false e = refl

module _ (t : ℕ) where
  -- a quiet turn neither lacks slots nor finalises at t or above
  module _ (turn : Turn) (q : is_quiet t turn ≡ true) where
    not_lacking : lacks turn.outcome ≡ false
    unfolding is_quiet
    not_lacking = not-false (lacks turn.outcome) (and_left (not (lacks turn.outcome)) (not (finalizes_from t (names turn.request) turn.outcome)) q)

    not_final : finalizes_from t (names turn.request) turn.outcome ≡ false
    unfolding is_quiet
    not_final = not-false (finalizes_from t (names turn.request) turn.outcome) (and_right (not (lacks turn.outcome)) (not (finalizes_from t (names turn.request) turn.outcome)) q)

    dropped_above : is_kept t turn.request ≡ false → refusal_of turn.request ≡ 0 → Beyond (reader_sight t) (work_of (request_of turn.request)) ⊎ (is_answered turn.outcome ≡ false)
    unfolding is_kept request_of
    dropped_above k e = by ((sound_at turn.request).high t turn.request (rw (names_row turn.request e) at k))
      where
        by : Beyond (reader_sight t) (work_of (request_of turn.request)) ⊎ ((o : Outcome) → finalizes_from t (named_in (row_at turn.request).index turn.request) o ≡ is_answered o) →
            Beyond (reader_sight t) (work_of (request_of turn.request)) ⊎ (is_answered turn.outcome ≡ false)
        by (inl h) = inl h
        by (inr h) = inr (sym (h turn.outcome) ∙ (rw (names_row turn.request e) at not_final))

  blinding : Blinding (reader_sight t) (is_kept t) (is_quiet t)
  unfolding is_kept request_of
  blinding =
      record {
        within = λ x k e. (sound_at x).low t x (rw (names_row x e) at k);
        served = λ turn k q. not_lacking turn q;
        dropped = λ turn k q e. dropped_above turn q k e;
      }

pub noninterference : Noninterference
unfolding kept quiet kept_turns turns_kept
noninterference slots t xs ys e qx qy =
    blind (reader_sight t) (is_kept t) (is_quiet t) (blinding t) slots slots empty empty empty_rising empty_rising refl xs ys e qx qy
