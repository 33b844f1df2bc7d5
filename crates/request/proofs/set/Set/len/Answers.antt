use borrow.Author.Rules.{rules}
use Rattle.request.proofs.SetTags.{tags_count}
use Rattle.request.proofs.set.Set.len.Goals as goal

pub returns : goal.returns
returns c =
    record { counted = tags_count _ _ (search rules) (search rules) }
