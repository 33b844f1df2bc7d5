-- A packed store under edits: the words after an edit are the encoding of the edited slots, and the store stays packed.
-- Assumes nothing.
use mathlib.Core.Path.{◌≡◌, sym, ◌∙◌, ap}
use mathlib.Core.Bool.{true}
use mathlib.Core.List.{List, []}
use Prim.Native.Nat.{ℕ, ◌+◌, ◌*◌, ◌<◌}
use lib.ListN.{length, get_or, set}
use Rattle.slots.specs.Slots.{slot_width, encode, held, packed}
use Rattle.slots.proofs.StoreEncoding.{held_whole, held_fits, encode_held}
use Rattle.slots.proofs.SlotEdits.{set_encode}

module _ (s : List ℕ) (rising : packed s ≡ true) where
  pub set_held : (i j w : ℕ) → i < length (held s) → j < slot_width → set s (slot_width * i + j) w ≡ encode s (set (held s) i (set (get_or (held s) i []) j w))
  set_held i j w h g =
      ap (λ (l : List ℕ). set l (slot_width * i + j) w) (sym (encode_held s rising))
      ∙ set_encode s (held s) (held_whole s) (held_fits s) i h j w g
