-- The members that the code hands over, one taken off at a time.
use mathlib.Core.Path.{◌≡◌, refl, sym, ap}
use mathlib.Core.List.{List, [], ◌∷◌}
use Prim.Native.Nat.{ℕ, suc, ◌-◌}
use native.Mathlib.Omega.{arith}
use lib.ListN.{length, take, drop, length-drop}
use lib.Seq.{take_all}
use Rattle.types.specs.Value.{value_width, value_at}
use Rattle.types.specs.ValueWithLayout.{words_of}
use Rattle.types.specs.declared.value.ValueWithLayout.{ValueWithLayout}
use Rattle.request.specs.Set.{tags_of, members_of}
use Rattle.request.specs.Members.{members_in}
use Rattle.request.specs.Fields.{members_from}
use Rattle.request.specs.declared.members.Members.{Members}

length_members : (ts ws : List ℕ) → length (members_of ts ws) ≡ length ts
unfolding members_of
length_members [] ws = refl
length_members (t ∷ ts) ws = ap (λ (n : ℕ). suc n) (length_members ts (drop value_width ws))

pub members_length : (m : Members) → length (tags_of m.set.low m.set.high) ≡ length (members_in m)
unfolding members_in
members_length m = sym (length_members (tags_of m.set.low m.set.high) m.values.now)

pub members_none : (m : Members) → tags_of m.set.low m.set.high ≡ [] → members_in m ≡ []
unfolding members_in members_of
members_none m e = rw e refl

-- A slice of words from a place on.
pub rest_all : (at : ℕ) (ws : List ℕ) → take (length ws - at) (drop at ws) ≡ drop at ws
rest_all at ws = take_all (length ws - at) (drop at ws) (omega (arith, length-drop at ws))

pub members_some : (m n : Members) (tag : ℕ) (v : ValueWithLayout) → tags_of m.set.low m.set.high ≡ tag ∷ tags_of n.set.low n.set.high
    → words_of v ≡ take value_width m.values.now
    → n.values.now ≡ take (length m.values.now - value_width) (drop value_width m.values.now)
    → members_in m ≡ record { tag = tag; value = words_of v } ∷ members_in n
unfolding members_in members_of
members_some m n tag v e f g = rw (e, f, g, rest_all value_width m.values.now) refl

pub value_sliced : (at : ℕ) (ws : List ℕ) → take value_width (take (length ws - at) (drop at ws)) ≡ value_at at ws
unfolding value_at
value_sliced at ws = ap (take value_width) (rest_all at ws)

pub members_sliced : (m : Members) (at : ℕ) (t : List ℕ) → m.values.now ≡ take (length t - at) (drop at t) → members_in m ≡ members_from m.set at t
unfolding members_in members_from
members_sliced m at t e = rw (e, rest_all at t) refl
