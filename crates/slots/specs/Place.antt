-- A place in the order of slots, as the four words that give it.
use Rattle.std.specs.Prelude.{List, [], ◌∷◌, ℕ}
use Rattle.slots.specs.declared.slot.Place.{Place}

abbrev pub words_of : Place → List ℕ
words_of p = p.kind ∷ p.key ∷ p.index ∷ p.part ∷ []
