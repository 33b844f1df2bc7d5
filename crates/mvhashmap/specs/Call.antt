-- The call over both stores: its result, and what a caller can know of every lent part after it, refusals included. Nothing is said about where in a
-- store's words anything lies: the papers leave that free.
-- 01: "The lowest number that applies is given; the call's result is then that number, with no answer words. An accepted call's result is 0."
use Rattle.std.specs.Prelude.{◌≡◌, Bool, true, cond, ◌&&◌, List, ℕ, ◌*◌, ltb, length, drop}
use Rattle.types.specs.Refusal.{answer_too_short, damaged_store}
use Rattle.types.specs.Response.{answer_width}
use Rattle.types.specs.Units.{units_in}
use Rattle.request.specs.Request.{refusal_of}
use Rattle.model.specs.Data.{Ruling, refuse, accept}
use Rattle.model.specs.Model.{Model, Fixed, first_of, unless_refused, step}
use Rattle.versioned_data.specs.Layout.{entries_in, data_valid}
use Rattle.group_slots.specs.Layout.{groups_in, group_valid}
use Rattle.versioned_group_data.specs.Ruled.{answer_in}

-- What is lent to every call of a history.
pub record Stores : Type 0 where
  pub data_words : List ℕ
  pub group_words : List ℕ

-- What is lent to one call: the stores, and the slice for its answer.
pub record Lent : Type 0 where
  pub stores : Stores
  pub out : List ℕ

abbrev pub stores : List ℕ → List ℕ → Stores
stores d g = record { data_words = d; group_words = g }

abbrev pub lent : List ℕ → List ℕ → List ℕ → Lent
lent d g out = record { stores = stores d g; out = out }

-- What a call leaves: its result, and what was lent to it.
pub record Called : Type 0 where
  pub result : ℕ
  pub lent : Lent

-- "5: range, pair or partner rule broken": in no store. This is what the inner call asks of its callers.
unfoldable pub sound : Stores → Bool
sound s = data_valid s.data_words && group_valid s.group_words

-- What the stores hold, and what of them is fixed for a history: the units that they have.
unfoldable pub model_in : Stores → Model
model_in s =
    record {
      entries = entries_in s.data_words;
      updates = (groups_in s.group_words).updates;
      committed = (groups_in s.group_words).committed;
    }

unfoldable pub fixed_of : Stores → Fixed
fixed_of s = record { data_slots = units_in (length s.data_words); group_slots = units_in (length s.group_words) }

-- ---- what a caller can know of it

-- Of stores: their units, whether they are sound, and what they hold.
pub record Known : Type 0 where
  pub fixed : Fixed
  pub sound : Bool
  pub model : Model

-- Of what is lent to one call: that of the stores, and every word of the slice.
pub record View : Type 0 where
  pub stores : Known
  pub out : List ℕ

abbrev pub known : Fixed → Bool → Model → Known
known fixed valid m = record { fixed = fixed; sound = valid; model = m }

abbrev pub known_of : Stores → Known
known_of s = known (fixed_of s) (sound s) (model_in s)

abbrev pub view_of : Lent → View
view_of l = record { stores = known_of l.stores; out = l.out }

-- Of a call: its result, and that of what was lent to it.
pub record CalledView : Type 0 where
  pub result : ℕ
  pub view : View

abbrev pub called_view : ℕ → View → CalledView
called_view r v = record { result = r; view = v }

-- ---- the call

-- "1: answer under 451 words"
unfoldable pub slice_refusal : List ℕ → ℕ
slice_refusal out = cond (ltb (length out) answer_width) answer_too_short 0

unfoldable pub store_refusal : Known → ℕ
store_refusal s = cond s.sound 0 damaged_store

-- The refusals before the stores are asked anything: 1 by the slice; 2, 3 and 4 by the request; 5 by the stores.
unfoldable pub early_refusal : List ℕ → View → ℕ
early_refusal t v = first_of (slice_refusal v.out) (first_of (refusal_of t) (store_refusal v.stores))

unfoldable pub refused_by : ℕ → View → CalledView
refused_by n v = called_view n v

-- An accepted call leaves sound stores that hold the model after it, and its answer at the front of the slice.
unfoldable pub called_by : View → Ruling Model → CalledView
called_by v (refuse n) = refused_by n v
called_by v (accept answer m) = called_view 0 (record { stores = known v.stores.fixed true m; out = answer_in answer v.out })

unfoldable pub call_of : List ℕ → View → CalledView
call_of t v = called_by v (unless_refused (early_refusal t v) (step v.stores.fixed v.stores.model t))

-- ---- what a call promises of the words

-- Each store has as many words as before, and the words past its last unit are as they were.
pub record Like (before after : Stores) : Type 0 where
  pub data_size : length after.data_words ≡ length before.data_words
  pub data_past :
      drop (32 * units_in (length before.data_words)) after.data_words ≡ drop (32 * units_in (length before.data_words)) before.data_words
  pub group_size : length after.group_words ≡ length before.group_words
  pub group_past :
      drop (32 * units_in (length before.group_words)) after.group_words ≡ drop (32 * units_in (length before.group_words)) before.group_words

-- A call keeps to the definition.
pub record Calls (t : List ℕ) (before : Lent) (r : ℕ) (after : Lent) : Type 0 where
  pub called : called_view r (view_of after) ≡ call_of t (view_of before)
  -- "A refusal changes no word of either store or of the answer slice."
  pub refused : (r ≡ 0 → ⊥) → after ≡ before
  pub like : Like before.stores after.stores
