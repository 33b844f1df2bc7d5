-- The rule of the values of a set, one after another.
use mathlib.Core.Path.{◌≡◌, refl, sym, ap, ◌∙◌}
use mathlib.Core.Bool.{Bool, true, false, ◌&&◌}
use mathlib.Core.List.{List, [], ◌∷◌}
use Prim.Native.Nat.{ℕ, zero, suc, ◌+◌, ◌-◌, ◌*◌, ◌≤◌, ◌<◌}
use native.Mathlib.Omega.{arith}
use lib.ListN.{length, take, drop, length-drop}
use Rattle.types.specs.Value.{value_width}
use Rattle.request.specs.Set.{tags_of, members_of}
use Rattle.request.specs.Members.{members_in}
use Rattle.request.specs.Request.{all}
use Rattle.request.specs.Fields.{side_ok}
use Rattle.request.specs.declared.members.Members.{Members}
use Rattle.request.proofs.MemberViews.{members_length, rest_all}

-- The rule of n values in a row.
unfoldable pub values_ok_lem : Bool → ℕ → List ℕ → Bool
values_ok_lem e zero ws = true
values_ok_lem e (suc n) ws = side_ok e (take value_width ws) && values_ok_lem e n (drop value_width ws)

values_of : (e : Bool) (ts ws : List ℕ) → all (side_ok e) (members_of ts ws) ≡ values_ok_lem e (length ts) ws
unfolding values_ok_lem all members_of
values_of e [] ws = refl
values_of e (t ∷ ts) ws = ap (λ (b : Bool). side_ok e (take value_width ws) && b) (values_of e ts (drop value_width ws))

-- What is left decides.
module _ (e : Bool) (m : Members) where
  pub values_all : all (side_ok e) (members_in m) ≡ values_ok_lem e (length (members_in m) - 0) m.values.now
  unfolding members_in
  values_all =
      let n : length (tags_of m.set.low m.set.high) ≡ length (members_in m) - 0 = omega (arith, members_length m) in
      values_of e (tags_of m.set.low m.set.high) m.values.now ∙ ap (λ (n : ℕ). values_ok_lem e n m.values.now) n

  pub values_room : value_width * (length (members_in m) - 0) ≤ length m.values.now
  values_room = omega (arith, members_length m, m.inside)

module _ (e : Bool) (all_of : Bool) (n i : ℕ) (ws : List ℕ) (inv : all_of ≡ values_ok_lem e (n - i) ws) where
  pub values_done : n ≤ i → true ≡ all_of
  unfolding values_ok_lem
  values_done h = let z : n - i ≡ 0 = omega arith in sym (inv ∙ ap (λ (k : ℕ). values_ok_lem e k ws) z)

  module _ (more : i < n) (b : Bool) (o : b ≡ side_ok e (take value_width ws)) where
    next : all_of ≡ (side_ok e (take value_width ws) && values_ok_lem e (n - (i + 1)) (drop value_width ws))
    unfolding values_ok_lem
    next = let left : n - i ≡ suc (n - (i + 1)) = omega arith in inv ∙ rw left refl

    pub values_stop : b ≡ false → false ≡ all_of
    values_stop h = sym (next ∙ rw (sym o ∙ h) refl)

    pub values_again : b ≡ true → all_of ≡ values_ok_lem e (n - (i + 1)) (take (length ws - value_width) (drop value_width ws))
    values_again h = next ∙ rw (sym o ∙ h, rest_all value_width ws) refl

pub values_less : (n i : ℕ) (ws : List ℕ) → value_width * (n - i) ≤ length ws → value_width * (n - (i + 1)) ≤ length (take (length ws - value_width) (drop value_width ws))
values_less n i ws room = rw (rest_all value_width ws) (omega (arith, length-drop value_width ws))
