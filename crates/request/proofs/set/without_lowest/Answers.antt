use borrow.Author.Rules.{rules}
use Rattle.request.proofs.SetTags.{lowest_le, lowest_one}
use Rattle.request.proofs.set.without_lowest.Goals as goal

pub overflow_sub-result : goal.overflow_sub-result
overflow_sub-result c = rw (lowest_one 32 _ c.requires.some (search rules)) (lowest_le 32 _ c.requires.some (search rules))
