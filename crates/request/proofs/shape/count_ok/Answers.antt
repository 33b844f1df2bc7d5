use mathlib.Core.Path.{refl, ◌∙◌}
use native.Mathlib.Omega.{arith}
use borrow.Author.Tests.{lt-leb}
use Rattle.request.proofs.Shapes.{row_of_lem, counter_inside, counts_alone, fixed_few, fixed_inside, set_inside, set_fits, counts_set, counts_over, counted_fits, counts_counted, counts_absent}
use Rattle.request.proofs.shape.count_ok.Goals as goal

pub returns-in-Alone : goal.returns-in-Alone
returns-in-Alone c =
    record { rule = counts_alone _ _ c.requires.head c.in-Alone.is }

pub overflow_sub-set : goal.overflow_sub-set
overflow_sub-set c = omega (arith, set_inside _ _ (row_of_lem _ _ c.requires.head) _ c.in-BySet.is)

pub offset_bounds-t-fixed : goal.offset_bounds-t-fixed
offset_bounds-t-fixed c = record { fits = omega (arith, fixed_few _ _ (row_of_lem _ _ c.requires.head)) }

pub bounds-t-fixed : goal.bounds-t-fixed
bounds-t-fixed c = omega (arith, fixed_inside _ _ (row_of_lem _ _ c.requires.head) c.requires.whole)

pub offset_bounds-t-fixed-in-BySet : goal.offset_bounds-t-fixed-in-BySet
offset_bounds-t-fixed-in-BySet c = record { fits = omega (arith, fixed_few _ _ (row_of_lem _ _ c.requires.head)) }

pub bounds-t-fixed-in-BySet : goal.bounds-t-fixed-in-BySet
bounds-t-fixed-in-BySet c = fixed_inside _ _ (row_of_lem _ _ c.requires.head) c.requires.whole

pub overflow_mul-result : goal.overflow_mul-result
overflow_mul-result c =
    record { fits = omega (arith, set_fits _ _ c.requires.head _ c.in-BySet.is _ _ c.len.ensures.counted) }

pub overflow_add-result : goal.overflow_add-result
overflow_add-result c =
    record { fits = omega (arith, set_fits _ _ c.requires.head _ c.in-BySet.is _ _ c.len.ensures.counted) }

pub returns-in-BySet : goal.returns-in-BySet
returns-in-BySet c =
    record { rule = counts_set _ _ c.requires.head _ c.in-BySet.is _ _ c.len.ensures.counted refl }

pub bounds-t-place : goal.bounds-t-place
bounds-t-place c =
    counter_inside _ _ (row_of_lem _ _ c.requires.head) c.requires.whole _ _ _ c.in-ByCount.is

pub overflow_add-result-then-times-most : goal.overflow_add-result-then-times-most
overflow_add-result-then-times-most c =
    record { fits = omega (arith, counted_fits _ _ c.requires.head _ _ _ c.in-ByCount.is c.if-times-most.true) }

pub returns-then-times-most : goal.returns-then-times-most
returns-then-times-most c =
    record { rule = counts_counted _ _ c.requires.head _ _ _ c.in-ByCount.is c.if-times-most.true }

pub returns-else-times-most : goal.returns-else-times-most
returns-else-times-most c =
    record { rule = lt-leb _ _ c.if-times-most.false ∙ counts_over _ _ c.requires.head _ _ _ c.in-ByCount.is c.if-times-most.false }

pub returns-in-Absent : goal.returns-in-Absent
returns-in-Absent c =
    record { rule = counts_absent _ _ c.requires.head c.in-Absent.is }
