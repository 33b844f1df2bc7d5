-- `versioned_data::walk::Entries::stop` meets its contract.
-- Assumes nothing.
use mathlib.Core.Path.{sym, ap, ◌∙◌}
use Prim.Native.Nat.{ℕ, ◌%◌}
use native.Mathlib.Omega.{arith}
use Rattle.versioned_data.proofs.MarksTold.{told, told_not}
use Rattle.versioned_data.proofs.WalkSteps.{content_fits, stopped_estimate, stopped_write, stopped_shortcut}
use Rattle.versioned_data.proofs.walk.Entries.stop.Goals as goal

pub returns-then-is_estimate : goal.returns-then-is_estimate
returns-then-is_estimate c =
    record { found = stopped_estimate _ _ (record { valid = c.args.self.rows.valid; fine = c.args.self.fine }) _ _ c.requires.there _ _ c.marks_at.ensures.marks _ c.place_at.ensures.place _ c.from_word-place.ensures.stored (told _ _ _ c.is_estimate.ensures.estimate c.if-is_estimate.true) _ c.dependency.ensures.waits }

pub at_write-requires : goal.at_write-requires
at_write-requires c =
    record { inside = content_fits _ _ (record { valid = c.args.self.rows.valid; fine = c.args.self.fine }) _ _ c.requires.there _ c.content_at-b.ensures.content }

pub returns-then-eq : goal.returns-then-eq
returns-then-eq c =
    record { found = stopped_write _ _ (record { valid = c.args.self.rows.valid; fine = c.args.self.fine }) _ _ c.requires.there _ _ c.marks_at.ensures.marks _ c.place_at.ensures.place _ c.from_word-place.ensures.stored (told _ _ _ c.eq.ensures c.if-eq.true) _ c.content_at-b.ensures.content _ c.at_write.ensures.write }

pub overflow_add-b : goal.overflow_add-b
overflow_add-b c =
    omega (arith, content_fits _ _ (record { valid = c.args.self.rows.valid; fine = c.args.self.fine }) _ _ c.requires.there _ c.content_at-b.ensures.content)

pub read-requires : goal.read-requires
read-requires c =
    record { fits = omega (arith, content_fits _ _ (record { valid = c.args.self.rows.valid; fine = c.args.self.fine }) _ _ c.requires.there _ c.content_at-b.ensures.content) }

pub returns : goal.returns
returns c =
    record { found = stopped_shortcut _ _ (record { valid = c.args.self.rows.valid; fine = c.args.self.fine }) _ _ c.requires.there _ _ c.marks_at.ensures.marks (told_not _ _ _ c.is_estimate.ensures.estimate c.if-is_estimate.false) (told_not _ _ _ c.eq.ensures c.if-eq.false) (λ e. c.requires.stops (ap (λ (k : ℕ). k % 8) (sym c.marks_at.ensures.marks) ∙ e)) _ c.content_at-b.ensures.content _ c.read.ensures.value _ c.onto.ensures.resolved }
