use Rattle.std.proofs.Common.{not, ap, ◌∙◌}
use Rattle.history.specs.Input.{decided}
use Rattle.history.specs.Reading.{input_state}
use Rattle.history.proofs.StateLaws.{wants_over, wants_decided}
use Rattle.history.proofs.input.Input.wants_more.Goals as goal

pub returns-then-not-self : goal.returns-then-not-self
returns-then-not-self g c =
    let i = c.args.self.now in
    record { wants = wants_decided (input_state i) i.bytes _ c.if-not-self.true (c.decided.ensures.decided ∙ ap decided c.unread.ensures.unread) }

pub returns-else-not-self : goal.returns-else-not-self
returns-else-not-self g c =
    let i = c.args.self.now in
    record { wants = ap not c.if-not-self.false ∙ wants_over (input_state i) i.bytes c.if-not-self.false }
