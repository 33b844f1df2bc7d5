-- 01, "Data entry (versioned_data.rs; read by `fetch_data`)": what each request on a single value does.
-- Each rule sees what stands at its own key and shifted index, or the rows that a reader sees, and nothing else.
use Rattle.std.specs.Prelude.{Bool, true, false, cond, not, ◌&&◌, List, [], ◌∷◌, ℕ, zero, suc, ◌-◌, ltb, eqb}
use Rattle.std.proofs.Math.Option.{Option, none, some}
use Rattle.number.specs.Words.{digits}
use Rattle.delta.specs.Delta.{Delta, apply_to, Accumulated, nothing, merged, failed, accumulate, delta_words}
use Rattle.types.specs.Refusal.{nothing_there, incarnation_not_higher, base_differs, layout_under_delta, no_number_under_delta, not_materializable}
use Rattle.types.specs.Value.{layout_of, is_deletion, is_exchanged, has_number, number_in, same_bytes}
use Rattle.types.specs.Response.{response, done_kind, versioned_kind, resolved_kind, unresolved_kind, uninitialized_kind, dependency_kind, application_failure_kind, versioned_at_base_kind}
use Rattle.model.specs.Rows.{Row, Edit, leave, set, clear}

-- "a write with incarnation (u32), or a delta with or without a shortcut; done or estimated"
pub data Cell : Type 0 where
  write : (incarnation : ℕ) (value : List ℕ) → Cell
  delta : Delta → (shortcut : Option ℕ) → Cell

pub record Entry : Type 0 where
  pub cell : Cell
  pub estimate : Bool

unfoldable pub done : Cell → Entry
done c = record { cell = c; estimate = false }

-- What a rule gives: a refusal's number, or the answer's words and an edit at the rule's own place.
pub data Ruling (A : Type 0) : Type 0 where
  refuse : ℕ → Ruling A
  accept : (answer : List ℕ) → A → Ruling A

-- "0 done"
unfoldable pub done_answer : List ℕ
done_answer = response done_kind []

-- What a read finds.
pub data Read : Type 0 where
  versioned : (place incarnation : ℕ) (value : List ℕ) → Read
  resolved : ℕ → Read
  unresolved : Delta → Read
  uninitialized : Read
  dependency : (index : ℕ) → Read
  application_failure : Read
  refusal : ℕ → Read

-- "the merged delta is applied, or DeltaApplicationFailure"
unfoldable pub resolved_or : Option ℕ → Read
resolved_or none = application_failure
resolved_or (some n) = resolved n

-- A number below the deltas of the walk. With no delta above it, it is the answer.
unfoldable pub onto : Accumulated → ℕ → Read
onto nothing n = resolved n
onto (merged d) n = resolved_or (apply_to d n)
onto failed n = application_failure

-- "at a write below deltas: a layout is refused; then a deletion is Versioned even after a failed merge; then a missing number is refused;
-- else the merged delta is applied, or DeltaApplicationFailure"
unfoldable pub below_deltas : Accumulated → ℕ → ℕ → List ℕ → Read
below_deltas a place incarnation v =
    cond (not (eqb (layout_of v) 0)) (refusal layout_under_delta)
    (cond (is_deletion v) (versioned place incarnation v) (cond (not (has_number v)) (refusal no_number_under_delta) (onto a (number_in v))))

-- "at a write with no delta above: Versioned"
unfoldable pub at_write : Accumulated → ℕ → ℕ → List ℕ → Read
at_write nothing place incarnation v = versioned place incarnation v
at_write (merged d) place incarnation v = below_deltas (merged d) place incarnation v
at_write failed place incarnation v = below_deltas failed place incarnation v

-- "at a shortcut: Resolved, with any deltas above applied, or DeltaApplicationFailure". A delta without one is passed: `lower` is what the walk
-- finds below it.
unfoldable pub at_cell : Accumulated → ℕ → Cell → Read → Read
at_cell a place (write incarnation v) lower = at_write a place incarnation v
at_cell a place (delta d (some n)) lower = onto a n
at_cell a place (delta d none) lower = lower

-- "at an estimate: Dependency on its index"
unfoldable pub at_row : Accumulated → Row Entry → Read → Read
at_row a r lower = cond r.held.estimate (dependency (r.place - 1)) (at_cell a r.place r.held.cell lower)

-- "at the end: Unresolved with the merged delta, DeltaApplicationFailure after a failed merge, or Uninitialized"
unfoldable pub at_end : Accumulated → Read
at_end nothing = uninitialized
at_end (merged d) = unresolved d
at_end failed = application_failure

-- What the walk carries past a cell.
unfoldable pub past : Accumulated → Cell → Accumulated
past a (write incarnation v) = a
past a (delta d shortcut) = accumulate a d

-- "The walk of `VersionedValue::read` goes from the greatest shifted index not above t to the next lower, and stops"
unfoldable pub walk : Accumulated → List (Row Entry) → Read
walk a [] = at_end a
walk a (r ∷ rs) = let lower = walk (past a r.held.cell) rs in at_row a r lower

unfoldable pub read_of : List (Row Entry) → Read
read_of seen = walk nothing seen

-- "1 Versioned (index, incarnation, value); 11 Versioned at the base (value)"
unfoldable pub versioned_answer : ℕ → ℕ → List ℕ → List ℕ
versioned_answer zero incarnation v = response versioned_at_base_kind v
versioned_answer (suc index) incarnation v = response versioned_kind (index ∷ incarnation ∷ v)

-- "2 Resolved (number); 3 Unresolved (delta); 4 Uninitialized; 6 Dependency (index); 7 DeltaApplicationFailure"
unfoldable pub read_ruling : {A : Type 0} → A → Read → Ruling A
read_ruling same (versioned place incarnation v) = accept (versioned_answer place incarnation v) same
read_ruling same (resolved n) = accept (response resolved_kind (digits 4 n)) same
read_ruling same (unresolved d) = accept (response unresolved_kind (delta_words d)) same
read_ruling same uninitialized = accept (response uninitialized_kind []) same
read_ruling same (dependency index) = accept (response dependency_kind (index ∷ [])) same
read_ruling same application_failure = accept (response application_failure_kind []) same
read_ruling same (refusal n) = refuse n

-- "layouts both present or both 0, lengths equal in the same way if both 0"
unfoldable pub same_exchanged : List ℕ → List ℕ → Bool
same_exchanged v w = cond (eqb (layout_of v) 0) (eqb (layout_of w) 0 && same_bytes v w) (not (eqb (layout_of w) 0))

-- 8: "base differs"
unfoldable pub unless_differs : Bool → Ruling (Edit Entry)
unless_differs true = accept done_answer leave
unless_differs false = refuse base_differs

-- "raw on raw needs equal lengths, deletion matching only deletion; raw on exchanged does nothing; exchanged on raw replaces; exchanged on
-- exchanged needs layouts both present or both 0, lengths equal in the same way if both 0, and does nothing"
unfoldable pub base_over : List ℕ → List ℕ → Ruling (Edit Entry)
base_over new old =
    cond (is_exchanged new)
    (cond (is_exchanged old) (unless_differs (same_exchanged new old)) (accept done_answer (set (done (write 0 new)))))
    (cond (is_exchanged old) (accept done_answer leave) (unless_differs (same_bytes new old)))

unfoldable pub base_onto : List ℕ → Cell → Ruling (Edit Entry)
base_onto new (write incarnation old) = base_over new old
base_onto new (delta d shortcut) = accept done_answer leave

-- `set_base_value`: "a first base is kept"; base entries are done writes of incarnation 0
unfoldable pub set_base_value : List ℕ → Option Entry → Ruling (Edit Entry)
set_base_value new none = accept done_answer (set (done (write 0 new)))
set_base_value new (some e) = base_onto new e.cell

-- "`write` over a write needs a higher incarnation; over a delta, any."
unfoldable pub yields : Cell → ℕ → Bool
yields (write earlier v) incarnation = ltb earlier incarnation
yields (delta d shortcut) incarnation = true

unfoldable pub may_write : ℕ → Option Entry → Bool
may_write incarnation none = true
may_write incarnation (some e) = yields e.cell incarnation

-- 7: "incarnation not higher"
unfoldable pub write_value : ℕ → List ℕ → Option Entry → Ruling (Edit Entry)
write_value incarnation v own = cond (may_write incarnation own) (accept done_answer (set (done (write incarnation v)))) (refuse incarnation_not_higher)

-- "`add_delta` always replaces."
unfoldable pub add_delta : Delta → Option Entry → Ruling (Edit Entry)
add_delta d own = accept done_answer (set (done (delta d none)))

-- 6: "nothing there for kinds 4, 5"
unfoldable pub mark_estimate : Option Entry → Ruling (Edit Entry)
mark_estimate none = refuse nothing_there
mark_estimate (some e) = accept done_answer (set (record { cell = e.cell; estimate = true }))

unfoldable pub remove : Option Entry → Ruling (Edit Entry)
remove none = refuse nothing_there
remove (some e) = accept done_answer clear

-- the shortcut of a delta; a write has none
unfoldable pub with_shortcut : ℕ → Cell → Cell
with_shortcut n (write incarnation v) = write incarnation v
with_shortcut n (delta d shortcut) = delta d (some n)

-- "Resolved is recorded as shortcut and answered"; 6 "for kinds .. 7 when Resolved"
unfoldable pub record_shortcut : ℕ → Option Entry → Ruling (Edit Entry)
record_shortcut n none = refuse nothing_there
record_shortcut n (some e) = accept (response resolved_kind (digits 4 n)) (set (record { cell = with_shortcut n e.cell; estimate = e.estimate }))

-- `materialize_delta`: "Unresolved is answered even if the index has no entry". 13: "neither Resolved nor Unresolved, and not 9 or 10"
unfoldable pub materialized : Option Entry → Read → Ruling (Edit Entry)
materialized own (versioned place incarnation v) = refuse not_materializable
materialized own (resolved n) = record_shortcut n own
materialized own (unresolved d) = accept (response unresolved_kind (delta_words d)) leave
materialized own uninitialized = refuse not_materializable
materialized own (dependency index) = refuse not_materializable
materialized own application_failure = refuse not_materializable
materialized own (refusal n) = refuse n

-- "`materialize_delta` reads at index plus 1": `seen` are the rows that a reader there sees
unfoldable pub materialize_delta : Option Entry → List (Row Entry) → Ruling (Edit Entry)
materialize_delta own seen = materialized own (read_of seen)

unfoldable pub fetch_data : List (Row Entry) → Ruling Unit
fetch_data seen = read_ruling tt (read_of seen)
