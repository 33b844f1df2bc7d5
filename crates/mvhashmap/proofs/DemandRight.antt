-- Demand 2: every list of calls from cleared stores is the definition's.
-- Assumes nothing.
use mathlib.Core.Path.{◌∙◌, ap}
use Rattle.model.specs.Model.{empty}
use Rattle.mvhashmap.specs.Call.{fixed_of, Known}
use Rattle.mvhashmap.specs.Run.{cleared, calls}
use Rattle.mvhashmap.specs.Demands.{Right}
use Rattle.mvhashmap.proofs.ChainViews.{views_chain, known_cleared, calls_known}

pub right : Right
right n k cs ds x =
    views_chain (cleared n k) cs ds x
    ∙ ap (λ (s : Known). calls s cs) (known_cleared n k)
    ∙ calls_known (fixed_of (cleared n k)) empty cs
