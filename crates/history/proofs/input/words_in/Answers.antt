use Rattle.std.proofs.Common.{ℕ, ◌+◌, ap, ◌∙◌}
use Rattle.types.specs.Response.{count_in}
use Rattle.history.specs.Input.{words_in}
use Rattle.history.proofs.input.words_in.Goals as goal

pub returns : goal.returns
unfolding words_in
returns c =
    record { words = (c.if-b-lt4.false, ap (λ (k : ℕ). k + 1) (c.count_in.ensures.count ∙ ap (λ (w : ℕ). count_in w) c.word_at.ensures.word)); cut = tt }
