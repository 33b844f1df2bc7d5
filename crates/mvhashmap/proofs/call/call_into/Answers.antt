-- `mvhashmap::call::call_into` meets its contract.
-- Assumes nothing.
use mathlib.Core.Path.{sym, ◌∙◌}
use native.Mathlib.Omega.{arith}
use borrow.Author.Tests.{eqb-true}
use Rattle.mvhashmap.proofs.StoresSound.{data_valid_lem}
use Rattle.mvhashmap.proofs.CallParts.{calls_empty, group_ready, group_done, data_kind, data_refused, asked_data, calls_data}
use Rattle.mvhashmap.proofs.call.call_into.Goals as goal

pub returns-then-is_empty-clause-called : goal.returns-then-is_empty-clause-called
returns-then-is_empty-clause-called c =
    calls_empty _ _ (omega arith) (eqb-true _ 0 (sym c.is_empty.ensures ∙ c.if-is_empty.true))

pub group_request-requires : goal.group_request-requires
group_request-requires c =
    let r = group_ready _ _ _ c.requires.sound _ c.kind_of-kind.ensures.kind _ c.is_data.ensures.«data» c.if-not-is_data.true in
    record { valid = r.0; kind = r.1 }

pub returns-then-not-is_data-clause-called : goal.returns-then-not-is_data-clause-called
returns-then-not-is_data-clause-called c =
    group_done _ _ _ c.requires.sound _ _ _ _ c.group_request.ensures.called

pub data_refusal-requires-clause-first : goal.data_refusal-requires-clause-first
data_refusal-requires-clause-first c = (data_kind _ _ c.is_data.ensures.«data» c.if-not-is_data.false).0

pub data_refusal-requires-clause-last : goal.data_refusal-requires-clause-last
data_refusal-requires-clause-last c = (data_kind _ _ c.is_data.ensures.«data» c.if-not-is_data.false).1

pub returns-in-Err-clause-called : goal.returns-in-Err-clause-called
returns-in-Err-clause-called c =
    data_refused _ _ (omega arith) _ c.data_refusal.ensures.refused _ c.in-Err.is

pub data_call-requires : goal.data_call-requires
data_call-requires c =
    let is = data_kind _ _ c.is_data.ensures.«data» c.if-not-is_data.false in
    record {
      valid = data_valid_lem _ c.requires.sound;
      asked = asked_data _ (λ i. (c.type_inv.t i).fits) _ c.kind_of-kind.ensures.kind _ c.data_refusal.ensures.refused _ c.in-Ok.is;
      some = is.0;
      «data» = is.1;
    }

pub returns-in-Ok-clause-called : goal.returns-in-Ok-clause-called
returns-in-Ok-clause-called c =
    calls_data _ _ _ _ _
    (asked_data _ (λ i. (c.type_inv.t i).fits) _ c.kind_of-kind.ensures.kind _ c.data_refusal.ensures.refused _ c.in-Ok.is)
    (omega arith) c.requires.sound _ _ _ c.data_call.ensures.served
