use mathlib.Core.Path.{◌∙◌}
use Rattle.request.proofs.MemberViews.{members_length}
use Rattle.request.proofs.members.Members.len.Goals as goal

pub returns : goal.returns
returns c = record { counted = c.len.ensures.counted ∙ members_length c.args.self }
