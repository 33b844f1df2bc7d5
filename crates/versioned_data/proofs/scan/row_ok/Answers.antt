-- `versioned_data::scan::row_ok` meets its contract.
-- Assumes nothing.
use Rattle.versioned_data.proofs.ScanSteps.{row_content, row_is}
use Rattle.versioned_data.proofs.scan.row_ok.Goals as goal

pub content_ok-requires : goal.content_ok-requires
content_ok-requires c =
    record { inside = row_content _ _ c.requires.valid (λ i. (c.type_inv.s i).fits) _ _ c.requires.there _ c.content_at-b.ensures.content }

pub returns : goal.returns
returns c =
    record { row = row_is _ _ c.requires.valid (λ i. (c.type_inv.s i).fits) _ _ c.requires.there _ _ _ c.content_at-b.ensures.content c.place_at-place.ensures.place c.marks_at.ensures.marks _ c.content_ok.ensures.content }
