-- What the check of a request answers: the lowest of the refusals 2, 3 and 4 that applies, or what the request asks.
use Rattle.std.specs.Prelude.{cond, List, ℕ, eqb, Result, Ok, Err}
use Rattle.types.specs.Refusal.{wrong_count, bad_field}
use Rattle.types.specs.declared.refusal.Refusal.{Refusal}
use Rattle.types.specs.declared.refusal.Refusal.TheVariants.{WrongCount, BadField, IndexTooHigh}
use Rattle.request.specs.Request.{refusal_of}
use Rattle.request.specs.Fields.{asked_at}
use Rattle.request.specs.declared.asked.Request.{Request}

-- The refusals of a request, by their numbers.
abbrev pub refusal_named : ℕ → Refusal
refusal_named n = cond (eqb n wrong_count) WrongCount (cond (eqb n bad_field) BadField IndexTooHigh)

unfoldable pub check_of : List ℕ → Result Request Refusal
check_of t = cond (eqb (refusal_of t) 0) (Ok (asked_at t)) (Err (refusal_named (refusal_of t)))
