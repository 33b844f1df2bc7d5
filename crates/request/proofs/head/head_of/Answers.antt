-- `request::head::head_of` meets its contract.
-- Assumes nothing.
use mathlib.Core.Path.{ap, ◌∙◌}
use Rattle.request.specs.Table.{kind_of}
use Rattle.request.proofs.Shapes.{kind_few, head_is}
use Rattle.request.proofs.head.head_of.Goals as goal

pub returns : goal.returns
returns c =
    record {
      head = head_is _ (kind_few _ (c.type_inv.t 0).fits) _ _ _ (c.of-kind.ensures.kind ∙ ap kind_of c.kind_in.ensures.kind)
          c.count_in-count.ensures.count c.row_of-row.ensures.row;
    }
