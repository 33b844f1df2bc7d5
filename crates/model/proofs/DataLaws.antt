-- What a user of the data store relies on, for requests on any model whose rows are rising.
-- Assumes nothing.
use mathlib.Core.Path.{◌≡◌, refl, ◌∙◌, ap}
use mathlib.Core.Bool.{Bool, true, false}
use mathlib.Core.List.{List, [], ◌∷◌}
use mathlib.Core.Option.{Option, none, some}
use Prim.Native.Nat.{ℕ, suc, ◌≤◌, ◌<◌, ◌-◌}
use native.Mathlib.Omega.{arith}
use Rattle.delta.specs.Delta.{Delta}
use Rattle.types.specs.Refusal.{nothing_there, incarnation_not_higher}
use Rattle.types.specs.Response.{response, done_kind, dependency_kind}
use Rattle.request.specs.Request.{write, add_delta, estimate, remove, fetch}
use Rattle.model.specs.Rows.{Row, rising, find, put, down_from, edited}
use Rattle.model.specs.Data
use Rattle.model.specs.Data.{Entry, done_answer, walk, at_row, at_cell, at_write, read_of, read_ruling, versioned_answer, may_write, write_value, mark_estimate, fetch_data}
use Rattle.model.specs.Model.{Model, work_of, ruled, with_entries, perform, left_by, outcome_of, refused, answered}
use Rattle.model.specs.Tickets.{outcome, left, done, versioned, dependency}
use Rattle.model.proofs.Rows.{rising_put}
use Rattle.model.proofs.RowLookups.{find_put_same, find_put_other, down_from_find, down_nearest, erase_put}

-- No entry of a key at the indexes from the one after `index` up to the one before t.
abbrev pub NoneBetween : Model → ℕ → ℕ → ℕ → Type 0
NoneBetween m key index t = (p : ℕ) → suc index < p → p ≤ t → find key p m.entries ≡ none

-- a reader meets what stands nearest below it
nearest : (m : Model) (key index t : ℕ) (e : Entry) → rising m.entries ≡ true → find key (suc index) m.entries ≡ some e → index < t → NoneBetween m key index t →
    (rest : List (Row Entry)) × (down_from key t m.entries ≡ record { key = key; place = suc index; held = e } ∷ rest)
nearest m key index t e g f h free =
    let w = down_nearest key (suc index) t (λ p. find key p m.entries) e h f free in
    (w.0, down_from_find key t m.entries g ∙ w.1)

-- what a walk that starts at a row finds
read_write : (key place incarnation : ℕ) (value : List ℕ) (rest : List (Row Entry)) → read_of (record { key = key; place = place; held = Data.done (Data.write incarnation value) } ∷ rest) ≡ Data.versioned place incarnation value
unfolding read_of walk at_row at_cell at_write Data.done
read_write key place incarnation value rest = refl

read_estimate : (r : Row Entry) (rest : List (Row Entry)) → r.held.estimate ≡ true → read_of (r ∷ rest) ≡ Data.dependency (r.place - 1)
unfolding read_of walk at_row
read_estimate r rest e = rw e

module _ (m : Model) (key t : ℕ) where
  fetched : (r : Data.Read) → read_of (down_from key t m.entries) ≡ r → outcome (fetch key t) m ≡ outcome_of (ruled (λ same. m) (read_ruling (tt {0}) r))
  unfolding outcome work_of perform fetch_data
  fetched r e = rw e

  -- A done write is what every reader above it sees, up to the next nearer entry.
  pub fetch_write_lem : (index incarnation : ℕ) (value : List ℕ) →
      rising m.entries ≡ true →
      find key (suc index) m.entries ≡ some (Data.done (Data.write incarnation value)) →
      index < t →
      NoneBetween m key index t →
      outcome (fetch key t) m ≡ versioned index incarnation value
  unfolding versioned read_ruling versioned_answer ruled outcome_of
  fetch_write_lem index incarnation value g f h free =
      let w = nearest m key index t (Data.done (Data.write incarnation value)) g f h free in
      fetched (Data.versioned (suc index) incarnation value) (ap read_of w.1 ∙ read_write key (suc index) incarnation value w.0)

  -- An estimate is reported to every reader above it, up to the next nearer entry.
  pub fetch_estimate : (index : ℕ) (e : Entry) →
      rising m.entries ≡ true →
      find key (suc index) m.entries ≡ some e →
      e.estimate ≡ true →
      index < t →
      NoneBetween m key index t →
      outcome (fetch key t) m ≡ dependency index
  unfolding dependency read_ruling ruled outcome_of
  fetch_estimate index e g f b h free =
      let w = nearest m key index t e g f h free in
      fetched (Data.dependency (suc index - 1))
      (ap read_of w.1 ∙ read_estimate (record { key = key; place = suc index; held = e }) w.0 b)
      ∙ ap (λ (i : ℕ). answered (response dependency_kind (i ∷ []))) (omega arith)

-- ---- a request, and the reads after it

-- a model with an entry put in
unfoldable with : Model → ℕ → ℕ → Entry → Model
with m key index e = with_entries m (put key (suc index) e m.entries)

module _ (m : Model) (key index : ℕ) (e : Entry) where
  with_rising : rising m.entries ≡ true → rising (with m key index e).entries ≡ true
  unfolding with with_entries
  with_rising g = rising_put key (suc index) e m.entries g

  with_here : find key (suc index) (with m key index e).entries ≡ some e
  unfolding with with_entries
  with_here = find_put_same key (suc index) e m.entries

  with_between : (t : ℕ) → NoneBetween m key index t → NoneBetween (with m key index e) key index t
  unfolding with with_entries
  with_between t free p h l = find_put_other key (suc index) key p (λ a b. omega arith) e m.entries ∙ free p h l

module _ (m : Model) (key index : ℕ) where
  left_write : (incarnation : ℕ) (value : List ℕ) → outcome (write key index incarnation value) m ≡ done →
      left (write key index incarnation value) m ≡ with m key index (Data.done (Data.write incarnation value))
  unfolding outcome left done with work_of perform ruled write_value outcome_of left_by edited
  left_write incarnation value d = go (may_write incarnation (find key (suc index) m.entries)) refl
    where
      go : (b : Bool) → may_write incarnation (find key (suc index) m.entries) ≡ b →
          left (write key index incarnation value) m ≡ with m key index (Data.done (Data.write incarnation value))
      go true f = rw f
      go false f = absurd (let z : refused incarnation_not_higher ≡ answered (response done_kind []) = rw f at d in let y : ◌≡◌ {A = ℕ} 0 1 = cc in omega arith)

  left_estimate : outcome (estimate key index) m ≡ done →
      (e : Entry) × (e.estimate ≡ true) × (left (estimate key index) m ≡ with m key index e)
  unfolding outcome left done with work_of perform ruled mark_estimate outcome_of left_by edited
  left_estimate d = go (find key (suc index) m.entries) refl
    where
      go : (o : Option Entry) → find key (suc index) m.entries ≡ o → (e : Entry) × (e.estimate ≡ true) × (left (estimate key index) m ≡ with m key index e)
      go none f = absurd (let z : refused nothing_there ≡ answered (response done_kind []) = rw f at d in let y : ◌≡◌ {A = ℕ} 0 1 = cc in omega arith)
      go (some e) f = (record { cell = e.cell; estimate = true }, refl, rw f)

  module _ (t : ℕ) (g : rising m.entries ≡ true) (h : index < t) (free : NoneBetween m key index t) where
    -- What is written is what a reader above sees until something nearer is written.
    pub write_fetch : (incarnation : ℕ) (value : List ℕ) → outcome (write key index incarnation value) m ≡ done →
        outcome (fetch key t) (left (write key index incarnation value) m) ≡ versioned index incarnation value
    write_fetch incarnation value d =
        let e = Data.done (Data.write incarnation value) in
        ap (outcome (fetch key t)) (left_write incarnation value d)
        ∙ fetch_write_lem (with m key index e) key t index incarnation value (with_rising m key index e g) (with_here m key index e) h
        (with_between m key index e t free)

    -- An estimate is a dependency to every reader above it until something nearer is written.
    pub estimate_fetch : outcome (estimate key index) m ≡ done → outcome (fetch key t) (left (estimate key index) m) ≡ dependency index
    estimate_fetch d =
        let w = left_estimate d in
        ap (outcome (fetch key t)) w.2
        ∙ fetch_estimate (with m key index w.0) key t index w.0 (with_rising m key index w.0 g) (with_here m key index w.0) w.1 h
        (with_between m key index w.0 t free)

-- Removing what was written where nothing stood brings back the model, and so every outcome, of before the write.
module _ (m : Model) (key index : ℕ) (g : rising m.entries ≡ true) (free : find key (suc index) m.entries ≡ none) where
  back : (e : Entry) → left (remove key index) (with m key index e) ≡ m
  unfolding left with work_of perform ruled Data.remove left_by edited with_entries
  back e =
      rw (find_put_same key (suc index) e m.entries)
      (λ i. record { entries = erase_put key (suc index) e m.entries g free i; updates = m.updates; committed = m.committed })

  pub write_remove : (incarnation : ℕ) (value : List ℕ) → left (remove key index) (left (write key index incarnation value) m) ≡ m
  unfolding outcome done work_of perform ruled write_value may_write outcome_of done_answer
  write_remove incarnation value =
      ap (left (remove key index)) (left_write m key index incarnation value (rw free)) ∙ back (Data.done (Data.write incarnation value))

  pub add_delta_remove : (d : Delta) → left (remove key index) (left (add_delta key index d) m) ≡ m
  add_delta_remove d = ap (left (remove key index)) added ∙ back (Data.done (Data.delta d none))
    where
      added : left (add_delta key index d) m ≡ with m key index (Data.done (Data.delta d none))
      added = unfold left with work_of perform ruled Data.add_delta left_by edited in refl
