-- Nobody can see what is free: what a call shows and leaves is decided by what is known of the stores.
-- Assumes nothing.
use mathlib.Core.Path.{sym, ◌∙◌, ap}
use Rattle.mvhashmap.specs.Call.{Known}
use Rattle.mvhashmap.specs.Run.{calls}
use Rattle.mvhashmap.specs.Demands.{Unseen}
use Rattle.mvhashmap.proofs.ChainViews.{views_chain}

pub unseen : Unseen
unseen s z cs ds es e x y = views_chain s cs ds x ∙ ap (λ (k : Known). calls k cs) e ∙ sym (views_chain z cs es y)
