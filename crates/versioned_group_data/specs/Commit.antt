-- The commit rule as the store carries it out: every tag is tested first, and then deletions are made before values are put, so that freed
-- slots serve before new ones are taken.
use Rattle.std.specs.Prelude.{Bool, cond, not, List, [], ◌∷◌, ℕ, suc}
use Rattle.types.specs.Value.{is_creation, is_deletion}
use Rattle.request.specs.Set.{Member}
use Rattle.model.specs.Rows.{find, put, erase}
use Rattle.model.specs.Group.{Committed, is_some}

-- Whether a member passes the commit rule against what is committed before any of the update is.
unfoldable pub passes : ℕ → Committed → Member → Bool
passes key g m = cond (is_creation m.value) (not (is_some (find key m.tag g))) (is_some (find key m.tag g))

-- What is committed after members that pass, deletions first.
unfoldable pub commit_to : ℕ → List Member → Committed → Committed
commit_to key [] g = g
commit_to key (m ∷ ms) g =
    cond (is_deletion m.value) (commit_to key ms (erase key m.tag g)) (put key m.tag m.value (commit_to key ms g))

-- How many members add a committed value, and how many take one away.
unfoldable pub creations : List Member → ℕ
creations [] = 0
creations (m ∷ ms) = cond (is_creation m.value) (suc (creations ms)) (creations ms)

unfoldable pub deletions : List Member → ℕ
deletions [] = 0
deletions (m ∷ ms) = cond (is_deletion m.value) (suc (deletions ms)) (deletions ms)
