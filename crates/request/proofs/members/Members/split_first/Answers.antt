use mathlib.Core.Path.{refl}
use Rattle.request.proofs.MemberViews.{members_none, members_some}
use Rattle.request.proofs.members.Members.split_first.Goals as goal

pub returns-in_err-tag-clause-none : goal.returns-in_err-tag-clause-none
returns-in_err-tag-clause-none c = rw c.from_residual.ensures (members_none c.args.self c.in_err-tag.ensures.none)

pub returns-clause-some : goal.returns-clause-some
returns-clause-some c = members_some c.args.self _ _ _ c.in_ok-tag.ensures.some c.first_value-value.ensures.value refl
