-- `store::edit::set_marks` meets its contract.
-- Assumes nothing.
use Rattle.store.specs.Held.{base_of}
use Rattle.store.specs.Valid.{There}
use Rattle.store.proofs.Marking.{set_part, set_left}
use native.Mathlib.Omega.{arith}
use borrow.Author.Rules.{rules}
use Rattle.store.proofs.edit.set_marks.Goals as goal

pub overflow_mul-n : goal.overflow_mul-n
unfolding base_of
overflow_mul-n g c = search rules

pub overflow_add-n : goal.overflow_add-n
unfolding base_of
overflow_add-n g c = search rules

pub set_word-requires : goal.set_word-requires
unfolding base_of There
set_word-requires g c =
    record { directory = c.requires.valid.directory; there = c.requires.there; part = set_part _ _ _ _ _ _ _ c.requires.valid c.requires.there c.requires.part _ (omega arith) }

pub returns : goal.returns
unfolding base_of
returns g c =
    let l = set_left _ _ _ _ _ _ _ c.requires.valid c.requires.there _ c.cell_at-a.ensures.word (omega arith) c.requires.part _
    c.set_word.ensures.left in
    record { left = l.0; contents = l.1; rest = c.set_word.ensures.rest }
