-- `mvhashmap::front::data::rare_call` meets its contract.
-- Assumes nothing.
use native.Mathlib.Omega.{arith}
use Rattle.versioned_data.proofs.Passed.{passed}
use Rattle.mvhashmap.proofs.AnswerPuts.{materialized_put, materialized_refused}
use Rattle.mvhashmap.proofs.ServedData.{serves_edit, serves_materialize}
use Rattle.request.proofs.MemberViews.{rest_all}
use Rattle.mvhashmap.proofs.PartLaws.{value_part, part_inside}
use Rattle.mvhashmap.proofs.ServedKinds.{asked_as, rare_last}
use Rattle.mvhashmap.proofs.AnswerDones.{set_base_value_done, add_delta_done, mark_estimate_done}
use Rattle.mvhashmap.proofs.AskedData.{words_inside, base_inside, base_ok, delta_inside, delta_ok_lem, data_served, materialize_served, asks_base, asks_add_delta, asks_estimate, asks_materialize}
use Rattle.mvhashmap.proofs.front.data.rare_call.Goals as goal

pub bounds-t-1 : goal.bounds-t-1
bounds-t-1 c = omega (arith, words_inside _ _ c.requires.asked c.requires.some c.requires.«data»)

pub slice_bounds-set_base_value-count : goal.slice_bounds-set_base_value-count
slice_bounds-set_base_value-count c = omega (arith, words_inside _ _ c.requires.asked c.requires.some c.requires.«data»)

pub slice_bounds-set_base_value-start : goal.slice_bounds-set_base_value-start
slice_bounds-set_base_value-start c = omega (arith, words_inside _ _ c.requires.asked c.requires.some c.requires.«data»)

pub set_base_value-requires : goal.set_base_value-requires
set_base_value-requires c =
    let a = asked_as _ _ _ c.in-Base.is c.requires.asked in
    record { valid = c.requires.valid; inside = part_inside 2 _ _ (base_inside _ a); value = rw (value_part 2 c.args.t.now) (base_ok _ a) }

pub returns-in-Base : goal.returns-in-Base
returns-in-Base c =
    record {
      served = serves_edit _ _ _ _ _ c.requires.valid _ 0 0 _ (asks_base _ (asked_as _ _ _ c.in-Base.is c.requires.asked)) (set_base_value_done _) _ _
          (rw (value_part 2 c.args.t.now) at c.set_base_value.ensures.edited) c.done.ensures.put;
    }

pub bounds-t-1-in-AddDelta : goal.bounds-t-1-in-AddDelta
bounds-t-1-in-AddDelta c = omega (arith, words_inside _ _ c.requires.asked c.requires.some c.requires.«data»)

pub bounds-t-2 : goal.bounds-t-2
bounds-t-2 c = omega (arith, words_inside _ _ c.requires.asked c.requires.some c.requires.«data»)

pub slice_bounds-add_delta-count : goal.slice_bounds-add_delta-count
slice_bounds-add_delta-count c = omega (arith, words_inside _ _ c.requires.asked c.requires.some c.requires.«data»)

pub slice_bounds-add_delta-start : goal.slice_bounds-add_delta-start
slice_bounds-add_delta-start c = omega (arith, words_inside _ _ c.requires.asked c.requires.some c.requires.«data»)

pub add_delta-requires : goal.add_delta-requires
add_delta-requires c =
    let a = asked_as _ _ _ c.in-AddDelta.is c.requires.asked in
    record { valid = c.requires.valid; served = data_served _ 3 a (omega arith) (omega arith); inside = part_inside 3 _ _ (delta_inside _ a); delta = rw (rest_all 3 c.args.t.now) (delta_ok_lem _ a) }

pub returns-in-AddDelta : goal.returns-in-AddDelta
returns-in-AddDelta c =
    record {
      served = serves_edit _ _ _ _ _ c.requires.valid _ _ 0 _ (asks_add_delta _ (asked_as _ _ _ c.in-AddDelta.is c.requires.asked)) (add_delta_done _) _ _
          (rw (rest_all 3 c.args.t.now) at c.add_delta.ensures.edited) c.done-in-AddDelta.ensures.put;
    }

pub bounds-t-1-in-Estimate : goal.bounds-t-1-in-Estimate
bounds-t-1-in-Estimate c = omega (arith, words_inside _ _ c.requires.asked c.requires.some c.requires.«data»)

pub bounds-t-2-in-Estimate : goal.bounds-t-2-in-Estimate
bounds-t-2-in-Estimate c = omega (arith, words_inside _ _ c.requires.asked c.requires.some c.requires.«data»)

pub mark_estimate-requires : goal.mark_estimate-requires
mark_estimate-requires c =
    record { valid = c.requires.valid; served = data_served _ 4 (asked_as _ _ _ c.in-Estimate.is c.requires.asked) (omega arith) (omega arith) }

pub returns-in-Estimate : goal.returns-in-Estimate
returns-in-Estimate c =
    record {
      served = serves_edit _ _ _ _ _ c.requires.valid _ _ 0 _ (asks_estimate _ (asked_as _ _ _ c.in-Estimate.is c.requires.asked)) mark_estimate_done _ _
          c.mark_estimate.ensures.edited c.done-in-Estimate.ensures.put;
    }

pub bounds-t-1-in_default : goal.bounds-t-1-in_default
bounds-t-1-in_default c = omega (arith, words_inside _ _ c.requires.asked c.requires.some c.requires.«data»)

pub bounds-t-2-in_default : goal.bounds-t-2-in_default
bounds-t-2-in_default c = omega (arith, words_inside _ _ c.requires.asked c.requires.some c.requires.«data»)

pub materialize_delta-requires : goal.materialize_delta-requires
materialize_delta-requires c =
    let last = rare_last _ c.requires.some c.requires.«data» c.requires.no_fetch c.requires.no_write c.requires.no_removal c.in_default.not-Base c.in_default.not-AddDelta c.in_default.not-Estimate in
    record { valid = c.requires.valid; served = materialize_served _ (asked_as _ _ _ last c.requires.asked) }

pub returns-in_err-m-in_default : goal.returns-in_err-m-in_default
returns-in_err-m-in_default c =
    let last = rare_last _ c.requires.some c.requires.«data» c.requires.no_fetch c.requires.no_write c.requires.no_removal c.in_default.not-Base c.in_default.not-AddDelta c.in_default.not-Estimate in
    record {
      served = serves_materialize _ _ _ _ _ c.requires.valid _ _ (asks_materialize _ (asked_as _ _ _ last c.requires.asked)) _ _
          c.materialize_delta.ensures.materialized (rw (passed _ _ c.from_residual.ensures.1) (materialized_refused _ _ _ c.in_err-m-in_default.was));
    }

pub returns-in_ok-m-in_default : goal.returns-in_ok-m-in_default
returns-in_ok-m-in_default c =
    let last = rare_last _ c.requires.some c.requires.«data» c.requires.no_fetch c.requires.no_write c.requires.no_removal c.in_default.not-Base c.in_default.not-AddDelta c.in_default.not-Estimate in
    record {
      served = serves_materialize _ _ _ _ _ c.requires.valid _ _ (asks_materialize _ (asked_as _ _ _ last c.requires.asked)) _ _
          c.materialize_delta.ensures.materialized (materialized_put _ _ _ c.in_ok-m-in_default.was _ c.put_materialized.ensures.put);
    }
