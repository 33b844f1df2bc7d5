-- `versioned_data::put::put_in` meets its contract.
-- Assumes nothing.
use mathlib.Core.Path.{refl, sym, ap, ◌∙◌}
use borrow.Author.Rules.{rules}
use Rattle.std.specs.Prelude.{Result}
use Rattle.types.specs.Refusal.{result_number}
use Rattle.types.specs.declared.refusal.Refusal.{Refusal}
use Rattle.versioned_data.proofs.RowInserts.{in_lacks, in_valid, in_stands, in_free, in_order, in_room, in_put}
use Rattle.versioned_data.proofs.EntryWrites.{body_few}
use Rattle.versioned_data.proofs.Passed.{passed, done_zero, refused_some}
use Rattle.versioned_data.proofs.put.put_in.Goals as goal

pub returns-in_err-enough_for_more : goal.returns-in_err-enough_for_more
returns-in_err-enough_for_more g c =
    let e = passed _ _ c.from_residual.ensures.1 in
    let told = ap (λ (r : Result Unit Refusal). result_number r) (e ∙ sym c.in_err-enough_for_more.was) ∙ c.enough_for_more.ensures.lack in
    record { put = in_lacks _ c.requires.valid _ c.units-n.ensures.units _ told _ _ _ _ (search rules) (search rules) c.requires.gone (refused_some _ _ e) _ }

pub insert-b-requires : goal.insert-b-requires
insert-b-requires g c =
    record {
      valid = in_valid _ c.requires.valid _ c.units-n.ensures.units _ c.enough_for_more.ensures.lack _ _ _ _ (search rules) (search rules) c.requires.gone (done_zero _ _ c.in_ok-enough_for_more.was);
      stands = in_stands _ c.requires.valid _ c.units-n.ensures.units _ c.enough_for_more.ensures.lack _ _ _ _ (search rules) (search rules) c.requires.gone (done_zero _ _ c.in_ok-enough_for_more.was);
      free = in_free _ c.requires.valid _ c.units-n.ensures.units _ c.enough_for_more.ensures.lack _ _ _ _ (search rules) (search rules) c.requires.gone (done_zero _ _ c.in_ok-enough_for_more.was);
      whole = λ z. c.marks-marks.ensures.small;
      order = in_order _ c.requires.valid _ c.units-n.ensures.units _ c.enough_for_more.ensures.lack _ _ _ _ (search rules) (search rules) c.requires.gone (done_zero _ _ c.in_ok-enough_for_more.was) _ c.marks-marks.ensures.small;
    }

pub write-requires : goal.write-requires
write-requires g c =
    record { room = in_room _ c.requires.valid _ c.units-n.ensures.units _ c.enough_for_more.ensures.lack _ _ _ _ (search rules) (search rules) c.requires.gone (done_zero _ _ c.in_ok-enough_for_more.was) _ c.marks-marks.ensures.small _ c.insert-b.ensures.left _ c.insert-b.ensures.content }

pub returns : goal.returns
returns g c =
    record { put = in_put _ c.requires.valid _ c.units-n.ensures.units _ c.enough_for_more.ensures.lack _ _ _ _ (search rules) (search rules) c.requires.gone (done_zero _ _ c.in_ok-enough_for_more.was) _ c.marks-marks.ensures.small _ c.insert-b.ensures.left _ c.insert-b.ensures.content _ _ c.write.ensures.put (body_few (g.C.Content.entry c.args.content) c.write.ensures.long) (g.C.Content.entry c.args.content) c.marks-marks.ensures.marks refl }
