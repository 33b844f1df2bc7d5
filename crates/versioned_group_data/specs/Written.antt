-- What a group write answers.
use Rattle.std.specs.Prelude.{◌≡◌, Bool, cond, List, ℕ, Result, IfOk}
use Rattle.types.specs.declared.refusal.Refusal.{Refusal}
use Rattle.types.specs.Refusal.{result_number}
use Rattle.request.specs.Set.{Member}
use Rattle.model.specs.Rows.{find}
use Rattle.model.specs.Group.{members_in, outside, write_group}
use Rattle.group_slots.specs.Layout.{groups_in}
use Rattle.versioned_group_data.specs.Ruled.{editing, result_of, words_after}
use Rattle.versioned_group_data.specs.declared.update.Written.{Written}
use Rattle.versioned_group_data.specs.declared.update.Written.TheVariants.{Done, Outside}

-- "0 done; 10 done, wrote outside"
unfoldable pub written_of : Bool → Written
written_of out = cond out Outside Done

pub record Writes (s : List ℕ) (key place incarnation : ℕ) (ms : List Member) (r : Result Written Refusal) (after : List ℕ) : Type 0 where
  pub result : result_number r ≡ result_of s (editing (groups_in s) key place (write_group incarnation ms))
  pub answer : IfOk r (λ w. w ≡ written_of (outside ms (members_in (find key place (groups_in s).updates))))
  pub words : after ≡ words_after s (editing (groups_in s) key place (write_group incarnation ms))
