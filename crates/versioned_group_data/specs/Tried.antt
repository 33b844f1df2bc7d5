-- Members committed where every tag passes the rule and the slots suffice, with room kept for what is recorded after.
use Rattle.std.specs.Prelude.{◌≡◌, cond, List, ℕ, ◌+◌, eqb, length}
use Rattle.std.proofs.Math.Option.{Option, none, some}
use Rattle.types.specs.Refusal.{commit_rule}
use Rattle.types.specs.Units.{lack_of, units_in}
use Rattle.model.specs.Group.{Committed}
use Rattle.group_slots.specs.Layout.{groups_in, holding, held_by, with_group}

-- What lacks for these committed values and for `more` slots beside them.
unfoldable pub lack_beside : ℕ → List ℕ → Committed → ℕ
lack_beside more s c = lack_of (held_by (with_group (groups_in s) c) + more) (units_in (length s))

-- "commit rule", then "more units after the ticket than the store has"
unfoldable pub tried_result : ℕ → List ℕ → Option Committed → ℕ
tried_result more s none = commit_rule
tried_result more s (some c) = lack_beside more s c

unfoldable pub tried_words : ℕ → List ℕ → Option Committed → List ℕ
tried_words more s none = s
tried_words more s (some c) = cond (eqb (lack_beside more s c) 0) (holding s (with_group (groups_in s) c)) s

pub record Tried (more : ℕ) (s : List ℕ) (o : Option Committed) (r : ℕ) (after : List ℕ) : Type 0 where
  pub result : r ≡ tried_result more s o
  pub words : after ≡ tried_words more s o
