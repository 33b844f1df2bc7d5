use Rattle.std.proofs.Common.{sym, subst, ◌+◌, true, arith}
use Rattle.history.specs.Moved.{Handed}
use Rattle.history.proofs.MovedLaws.{appends_more, appends_kept, handed_front}
use Rattle.history.proofs.output.write_all.Goals as goal

pub returns-in_err-n : goal.returns-in_err-n
returns-in_err-n g c =
    let kept = appends_kept _ _ _ _ c.loop-done.invariant.1 c.in_err-n.ensures.bytes in
    record { handed = subst (Handed _ _ c.args.bytes.now) (sym c.from_residual.ensures.0) (handed_front _ _ c.args.bytes.now c.loop-done.done true kept (λ e. absurd cc)) }

pub returns-then-n-eq0 : goal.returns-then-n-eq0
returns-then-n-eq0 g c =
    let more = appends_more _ _ _ c.args.bytes.now c.loop-done.done _ c.loop-done.invariant.1 c.in_ok-n.ensures.bytes in
    record { handed = handed_front _ _ c.args.bytes.now (c.loop-done.done + c.in_ok-n.n) true more (λ e. absurd cc) }

pub loop-done-preserved : goal.loop-done-preserved
loop-done-preserved g c = (
  omega (arith, c.in_ok-n.ensures.bound),
  appends_more _ _ _ c.args.bytes.now c.loop-done.done _ c.loop-done.invariant.1 c.in_ok-n.ensures.bytes,
)
