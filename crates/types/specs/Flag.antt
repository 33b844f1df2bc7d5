-- 01, "Data entry": an entry is "done or estimated". The word that an entry's flag is stored as.
use Rattle.std.specs.Prelude.{Bool, cond, ℕ}
use Rattle.types.specs.declared.flag.Flag.{Flag}
use Rattle.types.specs.declared.flag.Flag.TheVariants.{Done, Estimate}

abbrev pub flag_word : Flag → ℕ
flag_word Done = 0
flag_word Estimate = 1

-- The same for an entry of the definition, which is an estimate or not.
unfoldable pub flag_of : Bool → ℕ
flag_of estimate = cond estimate 1 0
