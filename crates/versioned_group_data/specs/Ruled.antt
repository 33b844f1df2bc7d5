-- What an operation on the group store promises: the number that it answers, the words that it leaves and the answer's words are those of its
-- rule (specs of `model`).
use Rattle.std.specs.Prelude.{◌≡◌, cond, List, ◌++◌, ℕ, length, drop}
use Rattle.std.proofs.Math.Option.{Option}
use Rattle.model.specs.Rows.{find, Edit, edited}
use Rattle.model.specs.Data.{Ruling, refuse, accept}
use Rattle.model.specs.Group.{Update, Committed, Commits}
use Rattle.model.specs.Model.{ruled}
use Rattle.group_slots.specs.Layout.{Groups, with_group_updates, holding, lack_in, fits_in}

-- A rule over the update at its own key and shifted index.
unfoldable pub editing : Groups → ℕ → ℕ → (Option Update → Ruling (Edit Update)) → Ruling Groups
editing g key place rule = ruled (λ e. with_group_updates g (edited key place e g.updates)) (rule (find key place g.updates))

unfoldable pub with_group_commits : Groups → ℕ → ℕ → Commits → Groups
with_group_commits g key place c = record { updates = edited key place c.edit g.updates; committed = c.group }

-- A rule over that update and the committed values.
unfoldable pub committing : Groups → ℕ → ℕ → (Option Update → Committed → Ruling Commits) → Ruling Groups
committing g key place rule = ruled (with_group_commits g key place) (rule (find key place g.updates) g.committed)

-- The number that is answered: the rule's refusal, else what lacks, 0 where the store has the slots.
unfoldable pub result_of : List ℕ → Ruling Groups → ℕ
result_of s (refuse n) = n
result_of s (accept answer g) = lack_in s g

unfoldable pub words_after : List ℕ → Ruling Groups → List ℕ
words_after s (refuse n) = s
words_after s (accept answer g) = cond (fits_in s g) (holding s g) s

-- "Words past the answer are untouched."
unfoldable pub answer_in : List ℕ → List ℕ → List ℕ
answer_in answer out = answer ++ drop (length answer) out

unfoldable pub answer_after : List ℕ → Ruling Groups → List ℕ → List ℕ
answer_after s (refuse n) out = out
answer_after s (accept answer g) out = cond (fits_in s g) (answer_in answer out) out

pub record Ruled (s : List ℕ) (ruling : Ruling Groups) (r : ℕ) (after : List ℕ) : Type 0 where
  pub result : r ≡ result_of s ruling
  pub words : after ≡ words_after s ruling

pub record Answered (s out : List ℕ) (ruling : Ruling Groups) (r : ℕ) (after outAfter : List ℕ) : Type 0 where
  pub result : r ≡ result_of s ruling
  pub words : after ≡ words_after s ruling
  pub answer : outAfter ≡ answer_after s ruling out
