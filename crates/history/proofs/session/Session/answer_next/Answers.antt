use Rattle.std.proofs.Common.{◌≡◌, ◌*◌, false, length, ap, sym, subst, ◌∙◌, arith, rules, eqb-true}
use borrow.Author.Tests.{eqb-false}
use Rattle.types.specs.Refusal.{result_number}
use Rattle.mvhashmap.specs.Call.{lent, view_of}
use Rattle.history.specs.State.{unread}
use Rattle.history.specs.Turn.{Answered}
use Rattle.history.specs.Session.{state_of}
use Rattle.history.proofs.SessionLaws.{unread_in, used_in}
use Rattle.history.proofs.TurnCalls.{answered_nothing, served, answered_request}
use Rattle.history.proofs.session.Session.answer_next.Goals as goal

pub returns-then-is_empty-clause-answered : goal.returns-then-is_empty-clause-answered
returns-then-is_empty-clause-answered g c =
    let x = c.args.self.now in
    let same = c.unread-unread.ensures.unread ∙ unread_in x.input x.output x.stopped false x.input.bytes in
    let empty = ap length (sym same) ∙ eqb-true (length c.unread-unread.result.now) 0 (sym c.is_empty.ensures ∙ c.if-is_empty.true) in
    answered_nothing (state_of x false) x.input.bytes (view_of (lent x.stores.«data» x.stores.group x.answer)) x.output.bytes (omega (arith, x.answer_fits)) empty

pub skip-requires : goal.skip-requires
skip-requires g c =
    let x = c.args.self.now in
    let y = c.call-called.new in
    let same = c.unread-unread.ensures.unread ∙ unread_in x.input x.output x.stopped false x.input.bytes in
    let m =
    served (state_of x false) x.input.bytes _ x.words c.next-n.new.words (lent x.stores.«data» x.stores.group x.answer)
    (lent y.self.«data» y.self.group y.answer) c.next-n.result (result_number c.call-called.result) x.input.from x.input.to same
    (c.next-n.ensures.request, c.next-n.ensures.count) c.call-called.ensures.called in
    (search rules, omega (arith, m.used))

pub returns-clause-answered : goal.returns-clause-answered
returns-clause-answered g c =
    let x = c.args.self.now in
    let y = c.call-called.new in
    let o = c.put_line.new.self in
    let before = lent x.stores.«data» x.stores.group x.answer in
    let after = lent y.self.«data» y.self.group y.answer in
    let same = c.unread-unread.ensures.unread ∙ unread_in x.input x.output x.stopped false x.input.bytes in
    let m =
    served (state_of x false) x.input.bytes _ x.words c.next-n.new.words before after c.next-n.result (result_number c.call-called.result) x.input.from x.input.to same
    (c.next-n.ensures.request, c.next-n.ensures.count) c.call-called.ensures.called in
    let some = λ (z : length (unread (state_of x false) x.input.bytes) ≡ 0).
    eqb-false (length c.unread-unread.result.now) 0 (sym c.is_empty.ensures ∙ c.if-is_empty.false) (ap length same ∙ z) in
    subst (λ r. Answered (state_of x false) (unread (state_of x false) x.input.bytes) (view_of before) x.output.bytes r (view_of after) o.bytes)
    (sym (used_in x.input x.output _ false c.skip.new.self o _ (4 * c.next-n.result) c.skip.ensures.uses c.put_line.ensures.puts))
    (answered_request (state_of x false) x.input.bytes before after c.next-n.result (result_number c.call-called.result) _ m c.put_line.ensures.puts.put
    x.output.bytes o.bytes some c.put_line.ensures.puts.bytes)
