-- `directory::search::cell_after` meets its contract: a cell of this page, the end, or the next page's first cell.
-- Assumes nothing.
use mathlib.Core.Path.{refl, sym, ◌∙◌}
use borrow.Author.Tests.{ltb-true, ltb-false}
use Rattle.directory.proofs.Positions.{after_here, after_none, after_page}
use Rattle.directory.proofs.search.cell_after.Goals as goal

pub returns-then-is_cell : goal.returns-then-is_cell
returns-then-is_cell c =
    let r = after_here _ _ _ c.requires.directory _ c.requires.stands _ refl (ltb-true _ _ (sym c.is_cell.ensures.there ∙ c.if-is_cell.true)) in
    record { there = r.0; place = r.1.0; some = r.1.1 }

pub returns-then-word-at : goal.returns-then-word-at
returns-then-word-at c =
    let r = after_none _ _ _ c.requires.directory _ c.requires.stands _ _
    refl (ltb-false _ _ (sym c.is_cell.ensures.there ∙ c.if-is_cell.false)) c.word.ensures.same c.if-word-at.true in
    record { there = r.0; place = r.1.0; some = r.1.1 }

pub returns : goal.returns
returns c =
    let r = after_page _ _ _ c.requires.directory _ c.requires.stands _ _
    refl (ltb-false _ _ (sym c.is_cell.ensures.there ∙ c.if-is_cell.false)) c.word.ensures.same c.if-word-at.false in
    record { there = r.0; place = r.1.0; some = r.1.1 }
