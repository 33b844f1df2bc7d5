-- What a group write's answer stands for.
use Rattle.std.specs.Prelude.{List, [], ℕ, Result, Ok, Err}
use Rattle.types.specs.Refusal.{refusal_number}
use Rattle.types.specs.declared.refusal.Refusal.{Refusal}
use Rattle.types.specs.Response.{response, wrote_outside_kind}
use Rattle.model.specs.Data.{Ruling, refuse, accept, done_answer}
use Rattle.versioned_group_data.specs.declared.update.Written.{Written}
use Rattle.versioned_group_data.specs.declared.update.Written.TheVariants.{Done, Outside}

-- "0 done; 10 done, wrote outside"
unfoldable pub written_answer : Written → List ℕ
written_answer Done = done_answer
written_answer Outside = response wrote_outside_kind []

unfoldable pub written_ruling : Result Written Refusal → Ruling Unit
written_ruling (Ok w) = accept (written_answer w) tt
written_ruling (Err refusal) = refuse (refusal_number refusal)
