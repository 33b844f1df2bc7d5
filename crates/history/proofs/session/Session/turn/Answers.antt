use Rattle.std.proofs.Common.{◌<◌, false, length, sym, refl, ◌∙◌, arith, rules}
use Rattle.history.specs.State.{Within, gave_up}
use Rattle.history.specs.Session.{state_of, view_in}
use Rattle.history.proofs.StateLaws.{room_to_read}
use Rattle.history.proofs.SessionLaws.{wants_in, emptied_in}
use Rattle.history.proofs.TurnPromises.{goes_written, goes_gave_up, goes_read, goes_answered}
use Rattle.history.proofs.session.Session.turn.Goals as goal
use Rattle.history.proofs.session.Session.turn.Goals.{then-self-via-then-self, then-self-via-else-self+then-room-lt-LINE}

pub returns-then-self : goal.returns-then-self
returns-then-self g c =
    let x = c.args.self.now in
    let o = c.write_waiting.new.self in
    let some : 0 < x.output.put =
    elim c.then-self.branch [
      | then-self-via-then-self w ↦ c.requires.goes_on w.if-self.true
      | then-self-via-else-self+then-room-lt-LINE w ↦ omega (arith, x.output.room, w.room.ensures.room, w.if-room-lt-LINE.true)
    ]
    in
    let goes =
    goes_written (state_of x false) x.input.bytes (view_in x) x.output.bytes x.output.within refl (g.R.Read.remaining c.args.reader.now) _ _ some _ o.bytes
    (emptied_in x.input x.output x.stopped _ o c.write_waiting.ensures.written) c.write_waiting.ensures.kept c.write_waiting.ensures.handed in
    record { less = goes.0; turned = goes.1.turned; moved = goes.1 }

pub returns-then-not-wants_more : goal.returns-then-not-wants_more
returns-then-not-wants_more g c =
    let x = c.args.self.now in
    let y = c.answer_next.new.self in
    let settles = sym (wants_in x.input x.output x.stopped false x.input.bytes) ∙ sym c.wants_more.ensures.wants ∙ c.if-not-wants_more.true in
    let within : Within (length x.input.bytes) (state_of x false) = record { from = x.input.from; to = x.input.to } in
    let goes =
    goes_answered (state_of x false) x.input.bytes (view_in x) x.output.bytes within (omega (arith, x.answer_fits)) settles c.if-self.false
    (state_of y false) (view_in y) y.output.bytes y.output.within c.answer_next.ensures.answered
    (g.R.Read.remaining c.args.reader.now) (g.W.Write.contents c.args.writer.now) y.input.bytes c.answer_next.ensures.bytes in
    record { less = goes.0; turned = goes.1.turned; moved = goes.1 }

pub returns-then-waiting-gt0 : goal.returns-then-waiting-gt0
returns-then-waiting-gt0 g c =
    let x = c.args.self.now in
    let w = c.write_waiting-then-waiting-gt0 in
    let goes =
    goes_written (state_of x false) x.input.bytes (view_in x) x.output.bytes x.output.within refl (g.R.Read.remaining c.args.reader.now) _ _
    (omega (arith, c.waiting.ensures.waiting, c.if-waiting-gt0.true)) _ w.new.self.bytes (emptied_in x.input x.output x.stopped _ w.new.self w.ensures.written)
    w.ensures.kept w.ensures.handed in
    record { less = goes.0; turned = goes.1.turned; moved = goes.1 }

pub returns-then-not-can_count : goal.returns-then-not-can_count
unfolding gave_up
returns-then-not-can_count g c =
    let x = c.args.self.now in
    let goes =
    goes_gave_up (state_of x false) x.input.bytes (view_in x) x.output.bytes (g.R.Read.remaining c.args.reader.now) (g.W.Write.contents c.args.writer.now) refl in
    record { less = goes.0; turned = goes.1.turned; moved = goes.1 }

pub read_on-requires : goal.read_on-requires
read_on-requires g c =
    let x = c.args.self.now in
    let wants = sym (wants_in x.input x.output x.stopped false x.input.bytes) ∙ sym c.wants_more.ensures.wants ∙ c.if-not-wants_more.false in
    let within : Within (length x.input.bytes) (state_of x false) = record { from = x.input.from; to = x.input.to } in
    let room = room_to_read (state_of x false) x.input.bytes within (omega (arith, x.input.room)) wants in
    (search rules, (omega (arith, c.waiting.ensures.waiting, c.if-waiting-gt0.false), (omega (arith, room), c.can_count.ensures.can.0 c.if-not-can_count.false)))

pub returns : goal.returns
returns g c =
    let x = c.args.self.now in
    let y = c.read_on.new.self in
    let wants = sym (wants_in x.input x.output x.stopped false x.input.bytes) ∙ sym c.wants_more.ensures.wants ∙ c.if-not-wants_more.false in
    let within : Within (length x.input.bytes) (state_of x false) = record { from = x.input.from; to = x.input.to } in
    let counts = c.can_count.ensures.can.0 c.if-not-can_count.false in
    let goes =
    goes_read (state_of x false) x.input.bytes (view_in x) x.output.bytes within wants (state_of y false) y.input.bytes
    y.input.to c.read_on.ensures.reads (omega (arith, counts, c.read_on.ensures.size)) _ _
    (g.W.Write.contents c.args.writer.now) c.read_on.ensures.gave (view_in y) y.output.bytes c.read_on.ensures.view c.read_on.ensures.kept in
    record { less = goes.0; turned = goes.1.turned; moved = goes.1 }
