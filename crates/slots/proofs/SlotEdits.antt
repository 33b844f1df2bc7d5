-- An edit of a store's words is the edit of the list of its slots.
-- Assumes nothing.
use mathlib.Core.Path.{◌≡◌, sym, ◌∙◌}
use mathlib.Core.Bool.{true}
use mathlib.Core.List.{List, [], ◌∷◌, ◌++◌, append_assoc}
use Prim.Native.Nat.{ℕ, suc, ◌+◌, ◌*◌, ◌≤◌, ◌<◌}
use native.Mathlib.Omega.{arith}
use native.Mathlib.Numerals.{add-one}
use lib.ListN.{length, get_or, take, drop, set, length-set}
use lib.Seq.{set-append_left, set_split}
use Rattle.lists.specs.Lists.{every}
use Rattle.lists.proofs.Lists.{every_at, set_append_add}
use Rattle.slots.specs.Slots.{Slot, slot_width, flat, encode, is_whole, written}
use Rattle.types.specs.Units.{units_in}
use Rattle.slots.proofs.StoreWords.{whole_length, flat_append, flat_at, length_flat_take}
use Rattle.slots.proofs.StoreEncoding.{free, encode_free, take_encode, drop_encode}

flat_set : (i : ℕ) (u : Slot) (us : List Slot) → i < length us → flat (set us i u) ≡ flat (take i us) ++ (u ++ flat (drop (i + 1) us))
unfolding flat
flat_set i u us h = rw (set_split us i u h, add-one i) (flat_append (take i us) (u ∷ drop (suc i) us))

module _ (s : List ℕ) (us : List Slot) (whole : every is_whole us ≡ true) (fits : length us ≤ units_in (length s)) (i : ℕ) (h : i < length us) where
  -- a slot is replaced
  pub written_encode : (u : Slot) → written i u (encode s us) ≡ encode s (set us i u)
  unfolding written
  written_encode u =
      rw (take_encode s us whole fits i (omega arith), drop_encode s us whole fits (i + 1) (omega arith))
      (sym (encode_free s (set us i u) ∙ rw (flat_set i u us h, length-set us i u, append_assoc, append_assoc)))

  -- a word of a slot is replaced
  pub set_encode : (j w : ℕ) → j < slot_width → set (encode s us) (slot_width * i + j) w ≡ encode s (set us i (set (get_or us i []) j w))
  set_encode j w g =
      let u : Slot = get_or us i [] in
      let a : List ℕ = flat (take i us) in
      let z : List ℕ = flat (drop (suc i) us) ++ free s (length us) in
      let e : encode s us ≡ a ++ (u ++ z) = encode_free s us ∙ rw (flat_at us i h, append_assoc, append_assoc) in
      let size : length a ≡ slot_width * i = length_flat_take us i whole (omega arith) in
      let room : length u ≡ slot_width = whole_length u (every_at is_whole us i [] h whole) in
      rw (e, ← size, set_append_add a (u ++ z) j w, set-append_left u z j w (omega arith))
      (sym (encode_free s (set us i (set u j w)) ∙ rw (flat_set i (set u j w) us h, add-one i, length-set us i (set u j w), append_assoc, append_assoc)))
