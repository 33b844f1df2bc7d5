use mathlib.Core.Path.{sym, ap, ◌∙◌}
use Rattle.request.specs.Fields.{side_ok}
use Rattle.request.proofs.FieldRules.{values_all, values_room, values_done, values_stop, values_again, values_less}
use Rattle.request.proofs.fields.values_ok.Goals as goal

pub loop-i-init : goal.loop-i-init
loop-i-init c = (values_all _ c.args.members, values_room c.args.exchanged c.args.members)

pub returns-then-not-side_ok : goal.returns-then-not-side_ok
returns-then-not-side_ok c =
    record {
      rule = values_stop _ _ _ _ _ c.loop-i.invariant.0 (rw (sym c.len-i-end.ensures.counted) c.loop-i-test.true) _
          (c.side_ok.ensures.rule ∙ ap (side_ok c.args.exchanged) c.first_value.ensures.value) c.if-not-side_ok.true;
    }

pub loop-i-preserved : goal.loop-i-preserved
loop-i-preserved c = (
  values_again _ _ _ _ c.loop-i.words.now c.loop-i.invariant.0 (rw (sym c.len-i-end.ensures.counted) c.loop-i-test.true) _
      (c.side_ok.ensures.rule ∙ ap (side_ok c.args.exchanged) c.first_value.ensures.value) c.if-not-side_ok.false,
  values_less _ _ c.loop-i.words.now c.loop-i.invariant.1,
)

pub returns : goal.returns
returns c =
    record { rule = values_done _ _ _ _ _ c.loop-i.invariant.0 (rw (sym c.len-i-end.ensures.counted) c.loop-i-test.false) }
