use mathlib.Core.Path.{refl, ap, ◌∙◌}
use mathlib.Core.Bool.{not, ◌&&◌}
use Rattle.types.specs.Value.{is_deletion}
use Rattle.request.specs.Request.{raw_ok, exchanged_ok, tag_ok, all}
use Rattle.request.specs.Fields.{side_ok, rule_in}
use Rattle.request.proofs.MemberViews.{value_sliced, members_sliced}
use Rattle.request.proofs.fields.fields_ok.Goals as goal

pub returns-in-Write : goal.returns-in-Write
unfolding side_ok rule_in
returns-in-Write c =
    record { rule = rw c.in-Write.is (c.side_ok.ensures.rule ∙ ap exchanged_ok c.first_value.ensures.value ∙ ap exchanged_ok (value_sliced c.in-Write.value c.args.t.now)) }

pub returns-in-GroupBase : goal.returns-in-GroupBase
unfolding side_ok rule_in
returns-in-GroupBase c =
    record { rule = rw c.in-GroupBase.is (c.values_ok.ensures.rule ∙ ap (all raw_ok) (members_sliced _ c.in-GroupBase.values c.args.t.now refl)) }

pub returns-in-Exchange : goal.returns-in-Exchange
unfolding rule_in
returns-in-Exchange c =
    record {
      rule = rw c.in-Exchange.is
          (c.exchange_ok.ensures.rule ∙ ap (λ v. tag_ok c.in-Exchange.tag && exchanged_ok v && not (is_deletion v)) (c.first_value-in-Exchange.ensures.value ∙ value_sliced c.in-Exchange.value c.args.t.now));
    }

pub returns-in-GroupWrite : goal.returns-in-GroupWrite
unfolding side_ok rule_in
returns-in-GroupWrite c =
    record { rule = rw c.in-GroupWrite.is (c.values_ok-in-GroupWrite.ensures.rule ∙ ap (all exchanged_ok) (members_sliced _ c.in-GroupWrite.values c.args.t.now refl)) }
