-- `versioned_data::materialize::materialize_delta` meets its contract.
-- Assumes nothing.
use mathlib.Core.Path.{refl, sym, ap, ◌∙◌}
use Rattle.std.specs.Prelude.{Ok}
use Rattle.types.specs.declared.output.MVDataOutput.{MVDataOutput}
use Rattle.types.proofs.IndexLaws.{shifted_word}
use Rattle.versioned_data.proofs.WalkBounds.{bound_above}
use Rattle.versioned_data.proofs.MaterializeRulings.{other_is, materialize_other, materialize_resolved}
use Rattle.versioned_data.proofs.Passed.{passed}
use Rattle.versioned_data.proofs.materialize.materialize_delta.Goals as goal

pub read_at-requires : goal.read_at-requires
read_at-requires c =
    record { store = c.requires.valid; above_base = bound_above _ _ c.new.ensures.shifted }

pub resolve_at-requires : goal.resolve_at-requires
resolve_at-requires c =
    record { valid = c.requires.valid; above_base = bound_above _ _ c.new-in-Resolved.ensures.shifted }

pub returns-in_err-n : goal.returns-in_err-n
returns-in_err-n c =
    let e = passed _ _ c.from_residual.ensures.1 in
    record { materialized = rw e (materialize_other _ c.requires.valid _ _ _ c.new.ensures.shifted _ c.read_at.ensures.read _ c.in_err-n.was refl _ refl) }

pub returns-in-Resolved : goal.returns-in-Resolved
returns-in-Resolved c =
    record { materialized = materialize_resolved _ c.requires.valid _ _ _ c.new.ensures.shifted _ c.read_at.ensures.read _ (c.in_ok-n.was ∙ ap (λ (x : MVDataOutput). Ok x) c.in-Resolved.is) _ (shifted_word _ _ c.new-in-Resolved.ensures.shifted) _ _ c.resolve_at.ensures.recorded }

pub returns-in-Unresolved : goal.returns-in-Unresolved
returns-in-Unresolved c =
    record { materialized = materialize_other _ c.requires.valid _ _ _ c.new.ensures.shifted _ c.read_at.ensures.read _ (c.in_ok-n.was ∙ ap (λ (x : MVDataOutput). Ok x) c.in-Unresolved.is) refl _ refl }

pub returns-in_default : goal.returns-in_default
returns-in_default c =
    let other = other_is _ (λ n e. c.in_default.not-Resolved n e) (λ d e. c.in_default.not-Unresolved d e) in
    record { materialized = materialize_other _ c.requires.valid _ _ _ c.new.ensures.shifted _ c.read_at.ensures.read _ c.in_ok-n.was other.0 _ (sym other.1) }
