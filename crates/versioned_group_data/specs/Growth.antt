-- What committing an update's members comes to, before any is committed: refused where one does not pass the commit rule, else how many committed
-- values are added and taken away.
use Rattle.std.specs.Prelude.{cond, List, ℕ, suc, Result, Ok, Err}
use Rattle.lists.specs.Lists.{every}
use Rattle.types.specs.Value.{is_creation, is_deletion}
use Rattle.types.specs.declared.refusal.Refusal.{Refusal}
use Rattle.types.specs.declared.refusal.Refusal.TheVariants.{CommitRule}
use Rattle.request.specs.Set.{Member}
use Rattle.model.specs.Group.{Committed}
use Rattle.versioned_group_data.specs.Commit.{passes, creations, deletions}
use Rattle.versioned_group_data.specs.declared.commit.Growth.{Growth}

unfoldable pub growth_of : ℕ → Committed → List Member → Result Growth Refusal
growth_of key g ms = cond (every (passes key g) ms) (Ok (record { creations = creations ms; deletions = deletions ms })) (Err CommitRule)

-- The same with one member more.
unfoldable pub grown : List ℕ → Growth → Growth
grown v g =
    record {
      creations = cond (is_creation v) (suc g.creations) g.creations;
      deletions = cond (is_deletion v) (suc g.deletions) g.deletions;
    }
