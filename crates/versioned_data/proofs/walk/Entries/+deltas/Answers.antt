-- `versioned_data::walk::Entries::deltas` meets its contract.
-- Assumes nothing.
use mathlib.Core.Path.{◌≡◌, sym, ap, ◌∙◌}
use Prim.Native.Nat.{ℕ, suc, ◌%◌}
use native.Mathlib.Omega.{arith}
use Rattle.store.specs.Held.{position_or_end}
use Rattle.versioned_data.specs.Rows.{position_in}
use Rattle.versioned_data.proofs.MarksTold.{told, told_not}
use Rattle.versioned_data.proofs.WalkSteps.{deltas_end, from_none, own_inside, own_few, own_none, own_more}
use Rattle.versioned_data.proofs.walk.Entries.+deltas.Goals as goal

pub returns-in_default : goal.returns-in_default
unfolding position_or_end
returns-in_default t c =
    record { deltas = omega (arith, deltas_end _ _ _ (rw c.in_default.is at c.of_key.ensures.other)) }

pub returns-then-not-goes_on : goal.returns-then-not-goes_on
unfolding position_or_end
returns-then-not-goes_on t c =
    record { deltas = omega (arith, own_none _ _ (record { valid = c.args.self.now.rows.valid; fine = c.args.self.now.fine }) _ _ _ c.in-Some.ensures.met _ c.marks_at.ensures.marks (told_not _ _ _ c.goes_on.ensures.goes_on c.if-not-goes_on.true)) }

pub overflow_add-met : goal.overflow_add-met
unfolding position_or_end
overflow_add-met t c = omega (arith, c.requires.few, own_few _ _ (record { valid = c.args.self.now.rows.valid; fine = c.args.self.now.fine }) _ _ _ c.in-Some.ensures.met)

pub returns-in_default-next : goal.returns-in_default-next
unfolding position_or_end
returns-in_default-next t c =
    let more = own_more _ _ (record { valid = c.args.self.now.rows.valid; fine = c.args.self.now.fine }) _ _ _ c.in-Some.ensures.met (ap (λ (k : ℕ). k % 8) (sym c.marks_at.ensures.marks) ∙ told _ _ _ c.goes_on.ensures.goes_on c.if-not-goes_on.false) _ c.next.ensures.place in
    record { deltas = omega (arith, more, deltas_end _ _ _ (from_none _ _ (record { valid = c.args.self.now.rows.valid; fine = c.args.self.now.fine }) c.args.key _ c.next.ensures.there c.in_default-next.is)) }

pub deltas-requires : goal.deltas-requires
unfolding position_or_end
deltas-requires t c =
    let own = c.in-Some.ensures.met in
    let place : position_in c.args.self.now.rows.units c.args.self.now.rows.words.now c.in-Some-next.after.page c.in-Some-next.after.cell ≡ suc (position_in c.args.self.now.rows.units c.args.self.now.rows.words.now c.in-Some.p.page c.in-Some.p.cell) = c.in-Some-next.ensures.place in (
      omega (arith, place, own_inside _ _ (record { valid = c.args.self.now.rows.valid; fine = c.args.self.now.fine }) _ _ _ own, own.place),
      (c.in-Some-next.ensures.there, omega (arith, place, c.requires.few, own.place)),
    )

pub returns : goal.returns
unfolding position_or_end
returns t c =
    let more = own_more _ _ (record { valid = c.args.self.now.rows.valid; fine = c.args.self.now.fine }) _ _ _ c.in-Some.ensures.met (ap (λ (k : ℕ). k % 8) (sym c.marks_at.ensures.marks) ∙ told _ _ _ c.goes_on.ensures.goes_on c.if-not-goes_on.false) _ c.in-Some-next.ensures.place in
    record { deltas = omega (arith, more, c.deltas.ensures.deltas) }
