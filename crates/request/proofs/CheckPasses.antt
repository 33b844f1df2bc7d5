-- What is known of a request that passed the check: what it asks, that its fields are within its words, its index and its tag.
use mathlib.Core.Path.{◌≡◌, sym, ap, subst, ◌∙◌}
use mathlib.Core.List.{List}
use Prim.Native.Nat.{ℕ}
use Rattle.request.specs.Table.{number_of}
use Rattle.request.specs.Request.{request_of}
use Rattle.request.specs.Fields.{kind_at, kind_asked, asked_at, meaning_in, RoomIn}
use Rattle.request.specs.declared.asked.Request.{Request}
use Rattle.request.proofs.CheckAnswers.{Passed}
use Rattle.request.proofs.AskedRules.{Served, kind_of_asked, room_at, meaning_at, served_at}

-- What words ask, passed or not.
pub asks_at : (t : List ℕ) (f : Request) → f ≡ asked_at t → request_of t ≡ meaning_in t f
asks_at t f e = sym (meaning_at t) ∙ sym (ap (meaning_in t) e)

module _ (t : List ℕ) (f : Request) (p : Passed t f) where
  pub asks : request_of t ≡ meaning_in t f
  asks = asks_at t f p.asked

  pub passed_kind : number_of (kind_asked f) ≡ kind_at t
  passed_kind = ap (λ (g : Request). number_of (kind_asked g)) p.asked ∙ kind_of_asked t p.shape

  pub passed_room : RoomIn t f
  passed_room = subst (RoomIn t) (sym p.asked) (room_at t p.shape)

  pub passed_served : Served f
  passed_served = subst Served (sym p.asked) (served_at t p.shape p.rules p.served)
