-- `versioned_data::walk::Entries::read_from` meets its contract.
-- Assumes nothing.
use Rattle.versioned_data.proofs.MarksTold.{told_ne}
use Rattle.versioned_data.proofs.WalkSteps.{content_fits, own_write, read_nothing}
use Rattle.versioned_data.proofs.walk.Entries.read_from.Goals as goal

pub returns-in_default : goal.returns-in_default
returns-in_default c =
    record { found = read_nothing _ _ _ (rw c.in_default.is at c.of_key.ensures.other) }

pub versioned-requires : goal.versioned-requires
versioned-requires c =
    record { inside = content_fits _ _ (record { valid = c.args.self.rows.valid; fine = c.args.self.fine }) _ _ c.in-Some.ensures.met.there _ c.content_at-b.ensures.content }

pub returns : goal.returns
returns c =
    record { found = own_write _ _ (record { valid = c.args.self.rows.valid; fine = c.args.self.fine }) _ _ _ c.in-Some.ensures.met _ c.marks_at.ensures.marks (told_ne _ _ _ c.ne.ensures c.if-ne.false) _ c.place_at.ensures.place _ c.from_word-place.ensures.stored _ c.content_at-b.ensures.content _ c.versioned.ensures.write }
