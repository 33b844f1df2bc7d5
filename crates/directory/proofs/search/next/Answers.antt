-- `directory::search::next` meets its contract.
-- Assumes nothing.
use Rattle.directory.proofs.Positions.{position_after, stands_after, after_next}
use Rattle.directory.proofs.search.next.Goals as goal

pub returns : goal.returns
returns c =
    let r = after_next c.args.base c.args.s.now c.args.at.page c.args.at.cell _ (c.cell_after.ensures.there, (c.cell_after.ensures.place, c.cell_after.ensures.some)) in
    record { there = r.0; place = r.1.0; some = r.1.1; stands = stands_after _ _ _ _ c.requires.there; after = position_after _ _ _ _ }
