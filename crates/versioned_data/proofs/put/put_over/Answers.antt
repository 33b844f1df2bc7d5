-- `versioned_data::put::put_over` meets its contract.
-- Assumes nothing.
use mathlib.Core.Path.{◌∙◌}
use native.Mathlib.Omega.{arith}
use Rattle.versioned_data.proofs.RowEdits.{row_valid, row_there, then_valid, then_there, then_part}
use Rattle.versioned_data.proofs.MarksTold.{told}
use Rattle.versioned_data.proofs.EntryWrites.{content_room, over_same, over_rewritten, over_anew}
use Rattle.versioned_data.proofs.put.put_over.Goals as goal

pub invariant_of-rows : goal.invariant_of-rows
invariant_of-rows g c = record { valid = row_valid _ c.requires.valid _ c.units-n.ensures.units _ _ c.requires.row }

pub marks_at-requires : goal.marks_at-requires
marks_at-requires g c = (omega arith, row_there _ c.requires.valid _ c.units-n.ensures.units _ _ c.requires.row)

pub content_at-b-requires : goal.content_at-b-requires
content_at-b-requires g c = (omega arith, row_there _ c.requires.valid _ c.units-n.ensures.units _ _ c.requires.row)

pub write-requires : goal.write-requires
write-requires g c =
    record { room = content_room _ c.requires.valid _ c.units-n.ensures.units _ _ c.requires.row _ c.content_at-b.ensures.content }

pub returns-then-eq : goal.returns-then-eq
returns-then-eq g c =
    let same = told _ _ _ c.eq.ensures c.if-eq.true ∙ c.marks-new.ensures.marks in
    record { put = over_same _ c.requires.valid _ c.units-n.ensures.units _ _ c.requires.row _ c.content_at-b.ensures.content _ c.write.ensures.long _ c.marks_at.ensures.marks same _ c.write.ensures.put }

pub clear-requires : goal.clear-requires
clear-requires g c =
    record { inside = content_room _ c.requires.valid _ c.units-n.ensures.units _ _ c.requires.row _ c.content_at-b.ensures.content }

pub write-requires-2 : goal.write-requires-2
write-requires-2 g c =
    record { room = omega (arith, content_room _ c.requires.valid _ c.units-n.ensures.units _ _ c.requires.row _ c.content_at-b.ensures.content, c.clear.ensures.cleared.size) }

pub set_marks-requires : goal.set_marks-requires
set_marks-requires g c =
    let w = over_rewritten _ c.requires.valid _ c.units-n.ensures.units _ _ c.requires.row _ c.content_at-b.ensures.content (g.C.Content.entry c.args.content) c.write-2.ensures.long _ _ c.clear.ensures.cleared c.write-2.ensures.put in
    record { valid = then_valid _ c.requires.valid _ c.units-n.ensures.units _ _ c.requires.row _ w; there = then_there _ c.requires.valid _ c.units-n.ensures.units _ _ c.requires.row _ w; part = then_part _ c.requires.valid _ c.units-n.ensures.units _ _ c.requires.row _ w _ c.marks-new.ensures.small }

pub returns : goal.returns
returns g c =
    record { put = over_anew _ c.requires.valid _ c.units-n.ensures.units _ _ c.requires.row _ c.content_at-b.ensures.content (g.C.Content.entry c.args.content) c.write-2.ensures.long _ _ c.clear.ensures.cleared c.write-2.ensures.put _ c.marks-new.ensures.marks _ c.set_marks.ensures.left }
