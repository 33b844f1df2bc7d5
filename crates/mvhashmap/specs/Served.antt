-- What the part of a call that does the work promises: the whole of `Calls` for a request that 1 to 4 do not refuse, over sound stores.
use Rattle.std.specs.Prelude.{◌≡◌, Bool, true, ◌&&◌, List, ℕ, leb, Ok}
use Rattle.lists.specs.Lists.{every}
use Rattle.request.specs.Request.{refusal_of, request_of}
use Rattle.request.specs.Fields.{kind_at}
use Rattle.request.specs.Checked.{check_of}
use Rattle.request.specs.declared.asked.Request.{Request}
use Rattle.model.specs.Model.{work_of, perform, unless_full}
use Rattle.model.specs.Fine.{is_word}
use Rattle.versioned_data.specs.Layout.{data_valid}
use Rattle.group_slots.specs.Layout.{group_valid}
use Rattle.mvhashmap.specs.Call.{Lent, lent, View, view_of, CalledView, called_view, called_by, Like, Calls}

-- Kinds 1 to 7 go to the data store.
unfoldable pub is_data : ℕ → Bool
is_data kind = leb 1 kind && leb kind 7

-- A request of words that 1 to 4 do not refuse: one for the data store by its words, one for the group store by what it asks.
pub record DataAsked (t : List ℕ) (number : ℕ) : Type 0 where
  pub words : every is_word t ≡ true
  pub passed : refusal_of t ≡ 0
  pub kind : kind_at t ≡ number

pub record Asked (t : List ℕ) (f : Request) : Type 0 where
  pub words : every is_word t ≡ true
  pub checked : check_of t ≡ Ok f

-- What it comes to over sound stores: refusals 6 to 14, or the answer and what the stores hold after.
unfoldable pub served_by : List ℕ → View → CalledView
served_by t v = called_by v (unless_full v.stores.fixed (perform (work_of (request_of t)) v.stores.model))

-- A part that is lent both stores.
pub record Serves (t : List ℕ) (before : Lent) (r : ℕ) (after : Lent) : Type 0 where
  pub served : called_view r (view_of after) ≡ served_by t (view_of before)
  pub refused : (r ≡ 0 → ⊥) → after ≡ before
  pub like : Like before.stores after.stores

-- A part that is lent one store: the same, whatever valid store stands beside it.
pub record ServesData (t d out : List ℕ) (r : ℕ) (after outAfter : List ℕ) : Type 0 where
  pub served : (g : List ℕ) → group_valid g ≡ true → Serves t (lent d g out) r (lent after g outAfter)

pub record ServesGroup (t g out : List ℕ) (r : ℕ) (after outAfter : List ℕ) : Type 0 where
  pub served : (d : List ℕ) → data_valid d ≡ true → Serves t (lent d g out) r (lent d after outAfter)

-- The whole of a call, by a part that is lent the group store.
pub record CallsGroup (t g out : List ℕ) (r : ℕ) (after outAfter : List ℕ) : Type 0 where
  pub called : (d : List ℕ) → data_valid d ≡ true → Calls t (lent d g out) r (lent d after outAfter)
