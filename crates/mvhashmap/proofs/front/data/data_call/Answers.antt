-- `mvhashmap::front::data::data_call` meets its contract.
-- Assumes nothing.
use native.Mathlib.Omega.{arith}
use Rattle.mvhashmap.proofs.ServedData.{serves_edit}
use Rattle.mvhashmap.proofs.PartLaws.{value_part, part_inside}
use Rattle.mvhashmap.proofs.ServedKinds.{asked_as}
use Rattle.mvhashmap.proofs.AnswerDones.{write_value_done, remove_done}
use Rattle.mvhashmap.proofs.AskedData.{words_inside, write_inside, write_ok_lem, data_served, asks_write, asks_remove}
use Rattle.mvhashmap.proofs.front.data.data_call.Goals as goal

pub bounds-t-1 : goal.bounds-t-1
bounds-t-1 c = omega (arith, words_inside _ _ c.requires.asked c.requires.some c.requires.«data»)

pub bounds-t-2 : goal.bounds-t-2
bounds-t-2 c = omega (arith, words_inside _ _ c.requires.asked c.requires.some c.requires.«data»)

pub bounds-t-3 : goal.bounds-t-3
bounds-t-3 c = omega (arith, write_inside _ (asked_as _ _ _ c.in-Write.is c.requires.asked))

pub slice_bounds-write-count : goal.slice_bounds-write-count
slice_bounds-write-count c = omega (arith, write_inside _ (asked_as _ _ _ c.in-Write.is c.requires.asked))

pub slice_bounds-write-start : goal.slice_bounds-write-start
slice_bounds-write-start c = omega (arith, write_inside _ (asked_as _ _ _ c.in-Write.is c.requires.asked))

pub write-requires : goal.write-requires
write-requires c =
    let a = asked_as _ _ _ c.in-Write.is c.requires.asked in
    let ok = write_ok_lem _ a in
    record {
      valid = c.requires.valid;
      served = data_served _ 2 a (omega arith) (omega arith);
      inside = part_inside 4 _ _ (write_inside _ a);
      value = rw (value_part 4 c.args.t.now) ok.0;
      exchanged = rw (value_part 4 c.args.t.now) ok.1;
    }

pub returns-in-Write : goal.returns-in-Write
returns-in-Write c =
    record {
      served = serves_edit _ _ _ _ _ c.requires.valid _ _ 0 _ (asks_write _ (asked_as _ _ _ c.in-Write.is c.requires.asked)) (write_value_done _ _) _ _
          (rw (value_part 4 c.args.t.now) at c.write.ensures.edited) c.done.ensures.put;
    }

pub bounds-t-1-in-Remove : goal.bounds-t-1-in-Remove
bounds-t-1-in-Remove c = omega (arith, words_inside _ _ c.requires.asked c.requires.some c.requires.«data»)

pub bounds-t-2-in-Remove : goal.bounds-t-2-in-Remove
bounds-t-2-in-Remove c = omega (arith, words_inside _ _ c.requires.asked c.requires.some c.requires.«data»)

pub remove-requires : goal.remove-requires
remove-requires c =
    record { valid = c.requires.valid; served = data_served _ 5 (asked_as _ _ _ c.in-Remove.is c.requires.asked) (omega arith) (omega arith) }

pub returns-in-Remove : goal.returns-in-Remove
returns-in-Remove c =
    record {
      served = serves_edit _ _ _ _ _ c.requires.valid _ _ 0 _ (asks_remove _ (asked_as _ _ _ c.in-Remove.is c.requires.asked)) remove_done _ _
          c.remove.ensures.edited c.done-in-Remove.ensures.put;
    }
