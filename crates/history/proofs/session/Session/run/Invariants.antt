-- The turns so far.
use Rattle.std.proofs.Common.{false}
use Rattle.history.specs.Moved.{TurnedBy}
use Rattle.history.specs.State.{budget}
use Rattle.history.specs.Session.{state_of, view_in}
use Rattle.history.proofs.session.Session.run.Given as goal

abbrev pub invariant-loop-self : goal.invariant-loop-self
invariant-loop-self g l = TurnedBy (g.R.Read.remaining l.initial.reader) (g.R.Read.remaining l.reader) (g.W.Write.contents l.initial.writer) (g.W.Write.contents l.writer)
    (state_of l.initial.self false) l.initial.self.input.bytes (view_in l.initial.self) l.initial.self.output.bytes
    (state_of l.self false) l.self.input.bytes (view_in l.self) l.self.output.bytes

abbrev pub decreases-loop-self : goal.decreases-loop-self
decreases-loop-self g l = budget (state_of l.self false)
