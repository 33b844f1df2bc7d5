-- What the code answers for what a group's reader finds.
use Rattle.std.specs.Prelude.{Bool, cond, ◌-◌}
use Rattle.std.proofs.Math.Option.{Option, none, some}
use Rattle.types.specs.Index.{shifted_of}
use Rattle.types.specs.ValueWithLayout.{value_from}
use Rattle.types.specs.declared.output.MVGroupOutput.{MVGroupOutput}
use Rattle.types.specs.declared.output.MVGroupOutput.TheVariants.{Versioned, Size, Uninitialized, TagNotFound, Dependency}
use Rattle.model.specs.Group as Rule
use Rattle.model.specs.Group.{Latest}

-- "estimate gives Dependency, none gives TagNotFound with a base and Uninitialized without"
abbrev pub found_output : Latest → MVGroupOutput
found_output l =
    cond l.estimate (Dependency (l.place - 1)) (Versioned (shifted_of l.place) l.incarnation (value_from l.value))

unfoldable pub latest_output : Bool → Option Latest → MVGroupOutput
latest_output based none = cond based TagNotFound Uninitialized
latest_output based (some l) = found_output l

unfoldable pub size_output : Rule.Size → MVGroupOutput
size_output (Rule.counted members sum) = Size members sum
size_output (Rule.waits place) = Dependency (place - 1)
