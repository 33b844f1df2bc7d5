-- `store::edit::erase_moved` meets its contract.
-- Assumes nothing.
use mathlib.Core.Path.{refl, sym, ap, ◌∙◌}
use Prim.Native.Nat.{suc}
use mathlib.Core.List.{[]}
use Rattle.store.specs.Held.{base_of}
use Rattle.store.specs.Valid.{There}
use Rattle.store.proofs.Taking.{less_by, last_end, hole_before, rename_fits, rename_part, copy_requires, drop_requires, take_moved_requires, take_moved}
use native.Mathlib.Omega.{arith}
use borrow.Author.Rules.{rules}
use Rattle.store.proofs.edit.erase_moved.Goals as goal

pub overflow_sub-w-2 : goal.overflow_sub-w-2
overflow_sub-w-2 g c =
    rename_fits _ _ _ _ _ _ c.requires.valid c.requires.there _ (ap suc c.number_at-l.ensures.word ∙ c.requires.last) _ _ _ _ c.requires.among (sym c.number_at-l.ensures.word) c.number_at-q.ensures.word (less_by _ _ _ _ c.number_at-q.ensures.word c.number_at-l.ensures.word c.requires.less)
    c.cell_at-a.ensures.word _ (omega arith)

pub overflow_mul-n : goal.overflow_mul-n
unfolding base_of
overflow_mul-n g c = search rules

pub overflow_add-n : goal.overflow_add-n
unfolding base_of
overflow_add-n g c = search rules

pub set_word-requires : goal.set_word-requires
unfolding base_of There
set_word-requires g c =
    record {
      directory = c.requires.valid.directory;
      there = c.requires.among;
      part = rename_part _ _ _ _ _ _ c.requires.valid c.requires.there _ (ap suc c.number_at-l.ensures.word ∙ c.requires.last) _ _ _ _ c.requires.among (sym c.number_at-l.ensures.word) c.number_at-q.ensures.word (less_by _ _ _ _ c.number_at-q.ensures.word c.number_at-l.ensures.word c.requires.less) c.cell_at-a.ensures.word _ (omega arith);
    }

pub overflow_mul-to : goal.overflow_mul-to
overflow_mul-to g c =
    omega (
      arith,
      last_end _ _ _ _ _ _ c.requires.valid c.requires.there _ (ap suc c.number_at-l.ensures.word ∙ c.requires.last),
      hole_before _ _ _ _ _ _ c.requires.valid c.requires.there _ (ap suc c.number_at-l.ensures.word ∙ c.requires.last) _ _ _ _ c.requires.among (sym c.number_at-l.ensures.word) c.number_at-q.ensures.word (less_by _ _ _ _ c.number_at-q.ensures.word c.number_at-l.ensures.word c.requires.less) c.cell_at-a.ensures.word,
    )

pub overflow_add-to : goal.overflow_add-to
overflow_add-to g c =
    omega (
      arith,
      last_end _ _ _ _ _ _ c.requires.valid c.requires.there _ (ap suc c.number_at-l.ensures.word ∙ c.requires.last),
      hole_before _ _ _ _ _ _ c.requires.valid c.requires.there _ (ap suc c.number_at-l.ensures.word ∙ c.requires.last) _ _ _ _ c.requires.among (sym c.number_at-l.ensures.word) c.number_at-q.ensures.word (less_by _ _ _ _ c.number_at-q.ensures.word c.number_at-l.ensures.word c.requires.less) c.cell_at-a.ensures.word,
    )

pub overflow_mul-from : goal.overflow_mul-from
overflow_mul-from g c =
    omega (arith, last_end _ _ _ _ _ _ c.requires.valid c.requires.there _ (ap suc c.number_at-l.ensures.word ∙ c.requires.last))

pub overflow_add-from : goal.overflow_add-from
overflow_add-from g c =
    omega (arith, last_end _ _ _ _ _ _ c.requires.valid c.requires.there _ (ap suc c.number_at-l.ensures.word ∙ c.requires.last))

pub copy_within-requires : goal.copy_within-requires
unfolding base_of
copy_within-requires g c =
    let r = copy_requires _ _ _ _ _ _ c.requires.valid c.requires.there _ (ap suc c.number_at-l.ensures.word ∙ c.requires.last) _ _ _ _ c.requires.among (sym c.number_at-l.ensures.word) c.number_at-q.ensures.word (less_by _ _ _ _ c.number_at-q.ensures.word c.number_at-l.ensures.word c.requires.less)
    c.cell_at-a.ensures.word _ _ [] [] c.set_word.ensures.left
    c.set_word.ensures.rest in
    record { into = r.0; inside = r.1.0; clear = r.1.1 }

pub drop_payload-requires : goal.drop_payload-requires
unfolding base_of
drop_payload-requires g c =
    record {
      inside = drop_requires _ _ _ _ _ _ c.requires.valid c.requires.there _ (ap suc c.number_at-l.ensures.word ∙ c.requires.last) _ _ _ _ c.requires.among (sym c.number_at-l.ensures.word) c.number_at-q.ensures.word (less_by _ _ _ _ c.number_at-q.ensures.word c.number_at-l.ensures.word c.requires.less)
          c.cell_at-a.ensures.word _ _ _ []
          c.set_word.ensures.left
          c.set_word.ensures.rest c.copy_within.ensures.copied;
      low = omega arith;
      some = omega (arith, c.requires.valid.wide);
    }

pub overflow_mul-n-2 : goal.overflow_mul-n-2
unfolding base_of
overflow_mul-n-2 g c = search rules

pub overflow_add-n-2 : goal.overflow_add-n-2
unfolding base_of
overflow_add-n-2 g c = search rules

pub take_cell-requires : goal.take_cell-requires
unfolding base_of
take_cell-requires g c =
    let r = take_moved_requires _ _ _ _ _ _ c.requires.valid c.requires.there _ (ap suc c.number_at-l.ensures.word ∙ c.requires.last) _ _ _ _ c.requires.among (sym c.number_at-l.ensures.word) c.number_at-q.ensures.word (less_by _ _ _ _ c.number_at-q.ensures.word c.number_at-l.ensures.word c.requires.less)
    c.cell_at-a.ensures.word _ _ _ _
    c.set_word.ensures.left
    c.set_word.ensures.rest
    c.copy_within.ensures.copied c.drop_payload.ensures.dropped in
    record { directory = r.0; there = r.1 }

pub returns : goal.returns
unfolding base_of
returns g c =
    record {
      left = take_moved _ _ _ _ _ _ c.requires.valid c.requires.there _ (ap suc c.number_at-l.ensures.word ∙ c.requires.last) _ _ _ _ c.requires.among (sym c.number_at-l.ensures.word) c.number_at-q.ensures.word (less_by _ _ _ _ c.number_at-q.ensures.word c.number_at-l.ensures.word c.requires.less)
          c.cell_at-a.ensures.word
          _ _ _ _ c.set_word.ensures.left
          c.set_word.ensures.rest
          c.copy_within.ensures.copied
          c.drop_payload.ensures.dropped refl _ c.take_cell.ensures.taken;
    }
