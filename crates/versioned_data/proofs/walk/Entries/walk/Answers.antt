-- `versioned_data::walk::Entries::walk` meets its contract.
-- Assumes nothing.
use mathlib.Core.Path.{sym, ◌∙◌}
use native.Mathlib.Omega.{arith}
use Rattle.versioned_data.proofs.WalkSteps.{starts_none, starts_some, on_some, on_own, on_marks, on_next, end_none, end_marks, end_found}
use Rattle.versioned_data.proofs.walk.Entries.walk.Goals as goal
use Rattle.versioned_data.proofs.walk.Entries.walk.Goals.{in-None, in-Some}

pub loop-i-init : goal.loop-i-init
loop-i-init c =
    elim c.match-start.branch [
      | in-None w ↦ rw w.start-is (starts_none _ _ (record { valid = c.args.self.rows.valid; fine = c.args.self.fine }) _ _ _ c.requires.met w.in-None.is w.rest-is)
      | in-Some w ↦ rw (w.start-is ∙ sym w.in-Some.is) (starts_some _ _ (record { valid = c.args.self.rows.valid; fine = c.args.self.fine }) _ _ _ c.requires.met _ w.in-Some.is (w.rest-is ∙ w.deltas-rest.ensures.deltas))
    ]

pub unreachable-requires : goal.unreachable-requires
unreachable-requires c = on_some _ _ (record { valid = c.args.self.rows.valid; fine = c.args.self.fine }) _ _ _ _ _ c.loop-i.invariant (omega arith) c.in_default.is

pub past-acc-requires : goal.past-acc-requires
past-acc-requires c =
    record {
      there = (on_own _ _ (record { valid = c.args.self.rows.valid; fine = c.args.self.fine }) _ _ _ _ _ c.loop-i.invariant (omega arith) _ c.in-Some-at.is).there;
      delta = on_marks _ _ (record { valid = c.args.self.rows.valid; fine = c.args.self.fine }) _ _ _ _ _ c.loop-i.invariant (omega arith) _ c.in-Some-at.is;
    }

pub next-at-requires : goal.next-at-requires
next-at-requires c = (omega arith, (on_own _ _ (record { valid = c.args.self.rows.valid; fine = c.args.self.fine }) _ _ _ _ _ c.loop-i.invariant (omega arith) _ c.in-Some-at.is).there)

pub loop-i-preserved : goal.loop-i-preserved
loop-i-preserved c =
    on_next _ _ (record { valid = c.args.self.rows.valid; fine = c.args.self.fine }) _ _ _ _ _ c.loop-i.invariant (omega arith) _ c.in-Some-at.is _ c.past-acc.ensures.gathered _ c.next-at.ensures.there
    c.next-at.ensures.place _ (omega arith)

pub of_key-requires : goal.of_key-requires
of_key-requires c =
    record { met = c.loop-i.invariant.met }

pub stop-requires : goal.stop-requires
stop-requires c =
    record {
      there = c.in-Some-of_key.ensures.met.there;
      stops = end_marks _ _ (record { valid = c.args.self.rows.valid; fine = c.args.self.fine }) _ _ _ _ _ c.loop-i.invariant (λ h. omega (arith, h)) _ c.in-Some-of_key.ensures.met;
    }

pub returns-in-None-of_key : goal.returns-in-None-of_key
returns-in-None-of_key c =
    record { found = end_none _ _ (record { valid = c.args.self.rows.valid; fine = c.args.self.fine }) _ _ _ _ _ c.loop-i.invariant (λ h. omega (arith, h)) c.in-None-of_key.ensures.other _ c.at_end.ensures.end }

pub returns-in-Some-of_key : goal.returns-in-Some-of_key
returns-in-Some-of_key c =
    record { found = end_found _ _ (record { valid = c.args.self.rows.valid; fine = c.args.self.fine }) _ _ _ _ _ c.loop-i.invariant (λ h. omega (arith, h)) _ c.in-Some-of_key.ensures.met _ c.stop.ensures.found }
