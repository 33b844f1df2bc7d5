-- `versioned_data::fetch::first_write` meets its contract.
-- Assumes nothing.
use mathlib.Core.Path.{sym, ◌∙◌, ap}
use native.Mathlib.Omega.{arith}
use Rattle.model.specs.Data.{read_of}
use Rattle.versioned_data.proofs.MarksTold.{told_ne}
use Rattle.versioned_data.proofs.WalkBounds.{data_store, read_seen}
use Rattle.versioned_data.proofs.WalkSteps.{content_fits, own_read}
use Rattle.versioned_data.proofs.fetch.first_write.Goals as goal

pub invariant_of-rows : goal.invariant_of-rows
invariant_of-rows c = record { valid = (data_store _ c.requires.store _ c.units-n.ensures.units c.if-n-eq0.false).valid }

pub invariant_of-entries : goal.invariant_of-entries
invariant_of-entries c = record { fine = (data_store _ c.requires.store _ c.units-n.ensures.units c.if-n-eq0.false).fine }

pub returns : goal.returns
returns c =
    let store = data_store _ c.requires.store _ c.units-n.ensures.units c.if-n-eq0.false in
    let own = c.in_ok-met.ensures.met in
    let seen = read_seen _ c.requires.store _ c.units-n.ensures.units c.if-n-eq0.false _ _ (omega (arith, c.requires.served)) _ c.spot-y.ensures.spot _ c.find_place-p.ensures.place _ c.cell_after.ensures.place in
    record {
      wrote = record {
        inside = content_fits _ _ store _ _ own.there _ c.content_at.ensures.content;
        read = ap read_of (sym seen)
            ∙ own_read _ _ store _ _ _ own _ c.marks_at.ensures.marks (told_ne _ _ _ c.ne.ensures c.if-ne.false) _ c.place_at.ensures.place _ c.content_at.ensures.content;
      };
    }
