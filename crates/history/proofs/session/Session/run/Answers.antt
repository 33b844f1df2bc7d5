use Rattle.std.proofs.Common.{arith, ◌≡◌, true, false, sym, refl, subst}
use Rattle.history.specs.Moved.{RanBy}
use Rattle.history.specs.Session.{state_of, view_in}
use Rattle.history.proofs.MovedLaws.{by_none, by_then}
use Rattle.history.proofs.RanLaws.{ran_failed, ran_stopped}
use Rattle.history.proofs.session.Session.run.Goals as goal

pub loop-self-init : goal.loop-self-init
loop-self-init g c =
    let x = c.args.self.now in
    by_none (g.R.Read.remaining c.args.reader.now) (g.W.Write.contents c.args.writer.now) (state_of x false) x.input.bytes (view_in x) x.output.bytes

pub loop-self-preserved : goal.loop-self-preserved
loop-self-preserved g c =
    let x = c.args.self.now in
    let y = c.loop-self.self in
    let z = c.turn.new.self in
    by_then _ _ _ _ _ _ (state_of x false) x.input.bytes (view_in x) x.output.bytes (state_of y false) y.input.bytes (view_in y) y.output.bytes
    (state_of z false) z.input.bytes (view_in z) z.output.bytes c.loop-self.invariant refl c.in_ok-turn.ensures.moved

pub returns-in_err-turn : goal.returns-in_err-turn
returns-in_err-turn g c =
    let x = c.args.self.now in
    let y = c.loop-self.self in
    let z = c.turn.new.self in
    let had = g.R.Read.remaining c.args.reader.now in
    let has = g.R.Read.remaining c.turn.new.reader in
    let held = g.W.Write.contents c.args.writer.now in
    let holds = g.W.Write.contents c.turn.new.writer in
    let turns =
    by_then had _ has held _ holds (state_of x false) x.input.bytes (view_in x) x.output.bytes (state_of y false) y.input.bytes (view_in y) y.output.bytes
    (state_of z true) z.input.bytes (view_in z) z.output.bytes c.loop-self.invariant refl c.in_err-turn.ensures.moved
    in
    let all =
    subst (λ failed. RanBy had has held holds (view_in x) (state_of z failed) (view_in z)) (sym c.from_residual.ensures.0)
    (ran_failed had has held holds x.input.bytes (view_in x) x.output.bytes (state_of x false) c.requires.start (state_of z true) z.input.bytes (view_in z) z.output.bytes
    turns refl)
    in
    record { ran = all.ran; moved = all }

pub returns : goal.returns
returns g c =
    let x = c.args.self.now in
    let y = c.loop-self.self in
    let all =
    ran_stopped _ _ _ _ x.input.bytes (view_in x) x.output.bytes (state_of x false) c.requires.start (state_of y false) y.input.bytes (view_in y) y.output.bytes
    c.loop-self.invariant c.if-not-self.false (omega (arith, c.waiting.ensures.waiting, c.if-waiting-gt0.false))
    in
    record { ran = all.ran; moved = all }
