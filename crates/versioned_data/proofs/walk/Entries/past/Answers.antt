-- `versioned_data::walk::Entries::past` meets its contract.
-- Assumes nothing.
use mathlib.Core.Path.{ap, ◌∙◌}
use Prim.Native.Nat.{ℕ, ◌%◌}
use Rattle.delta.specs.Delta.{Delta, accumulate}
use Rattle.delta.specs.Op.{exactly, accumulator_of}
use Rattle.versioned_data.proofs.WalkSteps.{content_fits, op_exact, op_valid}
use Rattle.versioned_data.proofs.walk.Entries.past.Goals as goal

pub read_op-earlier-requires : goal.read_op-earlier-requires
read_op-earlier-requires c =
    record { inside = content_fits _ _ (record { valid = c.args.self.rows.valid; fine = c.args.self.fine }) _ _ c.requires.there _ c.content_at-b.ensures.content }

pub new-requires : goal.new-requires
new-requires c =
    record { is_delta = op_valid _ _ (record { valid = c.args.self.rows.valid; fine = c.args.self.fine }) _ _ c.requires.there _ c.content_at-b.ensures.content _ c.marks_at.ensures.marks (ap (λ (k : ℕ). k % 8) c.marks_at.ensures.marks ∙ c.requires.delta) _ c.sign.ensures.sign _ c.read_op-earlier.ensures.op }

pub returns : goal.returns
returns c =
    let is = op_exact _ _ (record { valid = c.args.self.rows.valid; fine = c.args.self.fine }) _ _ c.requires.there _ c.content_at-b.ensures.content _ c.marks_at.ensures.marks (ap (λ (k : ℕ). k % 8) c.marks_at.ensures.marks ∙ c.requires.delta) _ c.sign.ensures.sign _ c.read_op-earlier.ensures.op in
    record { gathered = c.accumulate_valid.ensures.accumulates ∙ ap (λ (d : Delta). accumulator_of (accumulate (exactly c.args.acc) d)) (c.new.ensures.same ∙ is) }
