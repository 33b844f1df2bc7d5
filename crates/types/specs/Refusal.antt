-- 01's table of refusals: a name for each number, and the table in order of precedence. "The lowest number that applies is given": where a later
-- number joins the table, its place here says before which others it is given.
use Rattle.std.specs.Prelude.{Bool, false, ◌||◌, List, [], ◌∷◌, ◌++◌, ℕ, eqb, Result, Ok, Err}
use Rattle.types.specs.declared.refusal.Refusal.{Refusal}
use Rattle.types.specs.declared.refusal.Refusal.TheVariants.{AnswerTooShort, WrongCount, BadField, IndexTooHigh, DamagedStore, NothingThere, IncarnationNotHigher, BaseDiffers, LayoutUnderDelta, NoNumberUnderDelta, CommitRule, NothingToExchange, NotMaterializable, UnitsExhausted}

-- "slice": "answer under 451 words"
abbrev pub answer_too_short : ℕ
answer_too_short = 1

-- "ticket": "empty, or count wrong for the kind or the words handed in"
abbrev pub wrong_count : ℕ
wrong_count = 2

-- "a field breaks its rule"
abbrev pub bad_field : ℕ
bad_field = 3

-- "index too high"
abbrev pub index_too_high : ℕ
index_too_high = 4

-- "store": "range, pair or partner rule broken"
abbrev pub damaged_store : ℕ
damaged_store = 5

-- "entry": "nothing there for kinds 4, 5, 9, 11, 15, or 7 when Resolved"
abbrev pub nothing_there : ℕ
nothing_there = 6

-- "incarnation not higher"
abbrev pub incarnation_not_higher : ℕ
incarnation_not_higher = 7

-- "base differs"
abbrev pub base_differs : ℕ
base_differs = 8

-- "layout under delta"
abbrev pub layout_under_delta : ℕ
layout_under_delta = 9

-- "no number under delta, deletions excepted"
abbrev pub no_number_under_delta : ℕ
no_number_under_delta = 10

-- "commit": "commit rule"
abbrev pub commit_rule : ℕ
commit_rule = 11

-- "kind 9 over a raw base, committed value absent or already exchanged"
abbrev pub nothing_to_exchange : ℕ
nothing_to_exchange = 12

-- "materialise": "neither Resolved nor Unresolved, and not 9 or 10"
abbrev pub not_materializable : ℕ
not_materializable = 13

-- "units": "more units after the ticket than the store has"
abbrev pub units_exhausted : ℕ
units_exhausted = 14

-- The number of each refusal of the code.
abbrev pub refusal_number : Refusal → ℕ
refusal_number AnswerTooShort = answer_too_short
refusal_number WrongCount = wrong_count
refusal_number BadField = bad_field
refusal_number IndexTooHigh = index_too_high
refusal_number DamagedStore = damaged_store
refusal_number NothingThere = nothing_there
refusal_number IncarnationNotHigher = incarnation_not_higher
refusal_number BaseDiffers = base_differs
refusal_number LayoutUnderDelta = layout_under_delta
refusal_number NoNumberUnderDelta = no_number_under_delta
refusal_number CommitRule = commit_rule
refusal_number NothingToExchange = nothing_to_exchange
refusal_number NotMaterializable = not_materializable
refusal_number UnitsExhausted = units_exhausted

-- The number of a result: 0, or that of its refusal.
abbrev pub result_number : {A : Type 0} → Result A Refusal → ℕ
result_number (Ok value) = 0
result_number (Err refusal) = refusal_number refusal

-- The table by 01's places.
unfoldable pub of_slice : List ℕ
of_slice = answer_too_short ∷ []

unfoldable pub of_request : List ℕ
of_request = wrong_count ∷ bad_field ∷ index_too_high ∷ []

unfoldable pub of_store : List ℕ
of_store = damaged_store ∷ []

unfoldable pub of_entry : List ℕ
of_entry = nothing_there ∷ incarnation_not_higher ∷ base_differs ∷ layout_under_delta ∷ no_number_under_delta ∷ []

unfoldable pub of_commit : List ℕ
of_commit = commit_rule ∷ nothing_to_exchange ∷ []

unfoldable pub of_materialize : List ℕ
of_materialize = not_materializable ∷ []

unfoldable pub of_units : List ℕ
of_units = units_exhausted ∷ []

-- What a rule of a store may give.
unfoldable pub of_rules : List ℕ
of_rules = of_entry ++ (of_commit ++ of_materialize)

-- What the definition gives, once the slice is long enough and the stores are sound.
unfoldable pub of_step : List ℕ
of_step = of_request ++ (of_rules ++ of_units)

-- The whole table, in order of precedence.
unfoldable pub refusals : List ℕ
refusals = of_slice ++ (of_request ++ (of_store ++ (of_rules ++ of_units)))

unfoldable pub is_in : ℕ → List ℕ → Bool
is_in n [] = false
is_in n (m ∷ ms) = eqb n m || is_in n ms

-- A number of the table.
unfoldable pub is_refusal : ℕ → Bool
is_refusal n = is_in n refusals

-- What a call's result may be: 0, or a number of the table.
unfoldable pub is_result : ℕ → Bool
is_result n = eqb n 0 || is_refusal n
