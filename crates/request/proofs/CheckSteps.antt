-- The whole check, from its tests one after another.
use mathlib.Core.Path.{◌≡◌, refl, sym, ap, subst, ◌∙◌}
use mathlib.Core.Bool.{Bool, true, false}
use mathlib.Core.List.{List}
use Prim.Native.Nat.{ℕ, ◌≤◌, ◌<◌}
use lib.ListN.{length}
use Rattle.std.specs.Prelude.{Ok, Err}
use Rattle.types.specs.declared.refusal.Refusal.TheVariants.{WrongCount, BadField, IndexTooHigh}
use Rattle.request.specs.Table.{number_of, row_of}
use Rattle.request.specs.Request.{row_at, shape_ok, fields_ok, index_ok, refusal_of}
use Rattle.request.specs.Rows.{layout}
use Rattle.request.specs.Fields.{kind_at, head_at, asked_by, RoomIn, rule_in}
use Rattle.request.specs.Checked.{check_of}
use Rattle.request.specs.declared.head.Head.{Head}
use Rattle.request.specs.declared.asked.Request.{Request}
use Rattle.request.proofs.Shapes.{kind_of_lem, row_of_lem, shape_empty}
use Rattle.request.proofs.CheckAnswers.{shape_small, shape_whole}
use Rattle.request.proofs.AskedRules.{asked_told, kind_whole, kind_room, kind_rule}

pub check_empty : (t : List ℕ) → length t ≤ 0 → Err WrongCount ≡ check_of t
unfolding check_of refusal_of
check_empty t h = rw (sym (shape_empty t h)) refl

module _ (t : List ℕ) (head : Head) (e : head ≡ head_at t) (a : Bool) (s : a ≡ shape_ok t) where
  pub check_shape : a ≡ false → Err WrongCount ≡ check_of t
  unfolding check_of refusal_of
  check_shape h = rw (sym s ∙ h) refl

  module _ (y : a ≡ true) where
    shape_true : shape_ok t ≡ true
    shape_true = sym s ∙ y

    named : number_of head.kind ≡ kind_at t
    named = kind_of_lem t head e (shape_small t shape_true)

    pub check_row : head.row ≡ layout (row_at t)
    check_row = row_of_lem t head e

    pub check_whole : (row_at t).fixed < length t
    check_whole = shape_whole t shape_true

    pub check_words : (row_of (number_of head.kind)).fixed < length t
    check_words = kind_whole t shape_true head.kind named

    module _ (r : Request) (q : r ≡ asked_by head.kind t) where
      pub check_room : RoomIn t r
      check_room = subst (RoomIn t) (sym q) (kind_room t shape_true head.kind named)

      module _ (b : Bool) (o : b ≡ rule_in t r) where
        rule : b ≡ fields_ok (row_at t).kind t
        rule = kind_rule t shape_true head.kind named b (o ∙ ap (rule_in t) q)

        pub check_fields : b ≡ false → Err BadField ≡ check_of t
        unfolding check_of refusal_of
        check_fields h = rw (shape_true, sym rule ∙ h) refl

        module _ (ruled : b ≡ true) (c : Bool) (i : c ≡ index_ok t) where
          pub check_index : c ≡ false → Err IndexTooHigh ≡ check_of t
          unfolding check_of refusal_of
          check_index h = rw (shape_true, sym rule ∙ ruled, sym i ∙ h) refl

          pub check_accepted : c ≡ true → Ok r ≡ check_of t
          unfolding check_of refusal_of
          check_accepted h = rw (shape_true, sym rule ∙ ruled, sym i ∙ h, q ∙ asked_told t shape_true head.kind named) refl
