-- What a caller can know of a list of calls on words is what the calls come to on what is known of the stores. All demands on lists go through this.
-- Assumes nothing.
use mathlib.Core.Path.{◌≡◌, refl, ◌∙◌, ap}
use mathlib.Core.Bool.{true}
use mathlib.Core.List.{List, [], ◌∷◌}
use Prim.Native.Nat.{ℕ}
use lib.ListN.{replicate}
use Rattle.model.specs.Model.{Model, Fixed, empty}
use Rattle.versioned_data.proofs.EntriesCleared as Entries
use Rattle.group_slots.proofs.GroupCleared as Groups
use Rattle.group_slots.proofs.GroupCleared.{no_groups}
use Rattle.mvhashmap.specs.Call.{Stores, sound, model_in, fixed_of, Called, Known, known, known_of, CalledView}
use Rattle.mvhashmap.specs.Run.{Call, cleared, lent_to, Chain, stores_after, viewed, views, view_to, call_on, calls, call_by, model_left, calls_by}
use Rattle.mvhashmap.proofs.StoresSound.{sound_both, call_on_known, left_call_by}

pub views_chain : (s : Stores) (cs : List Call) (ds : List Called) → Chain s cs ds → views ds ≡ calls (known_of s) cs
unfolding Chain views viewed calls call_on lent_to view_to
views_chain s [] [] x = refl
views_chain s [] (d ∷ ds) x = absurd x
views_chain s (c ∷ cs) [] x = absurd x
views_chain s (c ∷ cs) (d ∷ ds) x =
    ap (λ (xs : List CalledView). viewed d ∷ xs) (views_chain d.lent.stores cs ds x.1)
    ∙ ap (λ (y : CalledView). y ∷ calls y.view.stores cs) x.0.called

-- What is known of the stores after the last call.
unfoldable pub known_after : Known → List CalledView → Known
known_after s [] = s
known_after s (x ∷ xs) = known_after x.view.stores xs

pub known_stores_after : (s : Stores) (ds : List Called) → known_of (stores_after s ds) ≡ known_after (known_of s) (views ds)
unfolding stores_after known_after views viewed
known_stores_after s [] = refl
known_stores_after s (d ∷ ds) = known_stores_after d.lent.stores ds

-- ---- from cleared stores

module _ (n k : ℕ) where
  sound_cleared : sound (cleared n k) ≡ true
  unfolding cleared
  sound_cleared = sound_both (replicate n 0) (replicate k 0) (Entries.valid_cleared n) (Groups.valid_cleared k)

  model_in_cleared : model_in (cleared n k) ≡ empty
  unfolding model_in cleared empty no_groups
  model_in_cleared =
      let e = Entries.entries_cleared n in
      let g = Groups.groups_cleared k in
      λ i. record { entries = e i; updates = (g i).updates; committed = (g i).committed }

  pub known_cleared : known_of (cleared n k) ≡ known (fixed_of (cleared n k)) true empty
  known_cleared = λ i. known (fixed_of (cleared n k)) (sound_cleared i) (model_in_cleared i)

pub calls_known : (f : Fixed) (m : Model) (cs : List Call) → calls (known f true m) cs ≡ calls_by f m cs
unfolding calls calls_by
calls_known f m [] = refl
calls_known f m (c ∷ cs) =
    let ih = calls_known f (model_left f m c) cs in
    ap (λ (x : CalledView). x ∷ calls x.view.stores cs) (call_on_known f m c)
    ∙ ap (λ (x : Known). call_by f m c ∷ calls x cs) (left_call_by f m c)
    ∙ ap (λ (xs : List CalledView). call_by f m c ∷ xs) ih
