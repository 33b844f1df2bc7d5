-- `versioned_group_data::update::Update::put` meets its contract.
-- Assumes nothing.
use Rattle.std.proofs.lemmas.Result.{err_from_is_err_and}
use mathlib.Core.Path.{refl, ◌∙◌}
use Rattle.request.specs.Members.{members_in}
use native.Mathlib.Omega.{arith}
use Rattle.types.specs.Units.{units_in}
use Rattle.versioned_group_data.proofs.Results.{refusal_some, none_refused, number_refused}
use Rattle.versioned_group_data.proofs.MembersHanded.{handed_few}
use Rattle.versioned_group_data.proofs.UpdateEdits.{run_room, put_refused, put_done}
use Rattle.versioned_group_data.proofs.update.Update.put.Goals as goal

pub overflow_sub-n : goal.overflow_sub-n
overflow_sub-n c =
    let room = run_room _ c.requires.valid _ _ _ refl _ c.find_update-run.ensures.run _ c.used-n.ensures.used in
    omega (arith, room.0)

pub overflow_add-n : goal.overflow_add-n
unfolding units_in
overflow_add-n c =
    let room = run_room _ c.requires.valid _ _ _ refl _ c.find_update-run.ensures.run _ c.used-n.ensures.used in
    record { fits = omega (arith, room.0, room.1, c.len-m.ensures.counted, handed_few c.args.self.members) }

pub returns-in_err-enough : goal.returns-in_err-enough
returns-in_err-enough c =
    let p = err_from_is_err_and c.from_residual.result c.from_residual.ensures.1 in
    rw (p.1, p.2) (record { recorded = put_refused _ c.requires.valid _ _ _ refl _ c.find_update-run.ensures.run _ c.used-n.ensures.used c.args.self.incarnation (members_in c.args.self.members) _ c.len-m.ensures.counted _ _ c.units.ensures.units (number_refused _ _ c.in_err-enough.was ∙ c.enough.ensures.lack) (refusal_some _) })

pub returns : goal.returns
returns c =
    record { recorded = put_done _ c.requires.valid _ _ _ refl _ c.find_update-run.ensures.run _ c.used-n.ensures.used c.args.self.incarnation (members_in c.args.self.members) _ c.len-m.ensures.counted _ _ c.units.ensures.units c.enough.ensures.lack (none_refused _ _ c.in_ok-enough.was) _ _ c.resize.ensures.resized c.write.ensures.written }
