-- What `materialize_delta` promises: its answer and what it leaves are those of its rule (specs of `model`) for the entry at its key and shifted index.
use Rattle.std.specs.Prelude.{◌≡◌, List, ℕ, Result, Ok, Err}
use Rattle.std.proofs.Math.Option.{Option}
use Rattle.number.specs.declared.Number.{Number}
use Rattle.number.specs.Number.{number_of}
use Rattle.delta.specs.declared.DeltaOp.{DeltaOp}
use Rattle.types.specs.declared.refusal.Refusal.{Refusal}
use Rattle.delta.specs.Op.{op_of}
use Rattle.types.specs.Refusal.{not_materializable, refusal_number}
use Rattle.model.specs.Rows.{find, Edit}
use Rattle.model.specs.Data.{Entry, Ruling, refuse, accept, Read, versioned, resolved, unresolved, uninitialized, dependency, application_failure, refusal, with_shortcut}
use Rattle.versioned_data.specs.Layout.{StoreRow, entry_of, entries_in}
use Rattle.versioned_data.specs.Left.{LeftBy}

-- What is answered: a refusal by its number, a number, or a delta.
pub data Materialized : Type 0 where
  Refused : ℕ → Materialized
  Resolved : Number → Materialized
  Unresolved : DeltaOp → Materialized

-- What the code's result answers.
abbrev pub told_by : Result (Result Number DeltaOp) Refusal → Materialized
told_by (Ok (Ok n)) = Resolved n
told_by (Ok (Err op)) = Unresolved op
told_by (Err r) = Refused (refusal_number r)

-- What is answered for what the read found, where the rule accepts; it accepts the first two only.
unfoldable pub materialized_read : Read → Materialized
materialized_read (resolved n) = Resolved (number_of n)
materialized_read (unresolved d) = Unresolved (op_of d)
materialized_read (versioned place incarnation v) = Refused not_materializable
materialized_read uninitialized = Refused not_materializable
materialized_read (dependency index) = Refused not_materializable
materialized_read application_failure = Refused not_materializable
materialized_read (refusal n) = Refused n

unfoldable pub materialized_of : Ruling (Edit Entry) → Read → Materialized
materialized_of (refuse n) read = Refused n
materialized_of (accept answer e) read = materialized_read read

pub record Materializes (s : List ℕ) (key place : ℕ) (rule : Option Entry → Ruling (Edit Entry)) (read : Read) (r : Result (Result Number DeltaOp) Refusal) (after : List ℕ) : Type 0 where
  pub answer : told_by r ≡ materialized_of (rule (find key place (entries_in s))) read
  pub left : LeftBy s key place (rule (find key place (entries_in s))) after

-- The entry of a row with a shortcut: a write has none and stays as it is.
unfoldable pub shortcut_entry : ℕ → StoreRow → Entry
shortcut_entry n u = record { cell = with_shortcut n (entry_of u).held.cell; estimate = (entry_of u).held.estimate }
