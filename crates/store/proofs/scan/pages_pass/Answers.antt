-- `store::scan::pages_pass` meets its contract.
-- Assumes nothing.
use borrow.Author.Rules.{rules}
use native.Mathlib.Omega.{arith}
use Rattle.store.proofs.ScanTurns.{none_inside, some_inside, pages_begin, pages_stop, pages_cut, pages_next, pages_end}
use Rattle.store.proofs.ScanCells.{base_low, PageInside, page_inside}
use Rattle.store.proofs.scan.pages_pass.Given.{Over}
use Rattle.store.proofs.scan.pages_pass.Goals.{Else-not-page_passes}
use Rattle.store.proofs.scan.pages_pass.Goals as goal

-- a page that passes lies within the words
inside : (g : Over) (c : Else-not-page_passes g) → PageInside c.args.base c.args.s.now c.loop-k.k
inside g c =
    page_inside _ _ _ _ _ c.requires.space c.requires.size c.requires.pages c.word-m.ensures.same
    (omega arith) _ c.page_passes.ensures.page (c.if-not-page_passes.false)

pub loop-k-init : goal.loop-k-init
loop-k-init g c = (none_inside _, omega arith, pages_begin _ _ _ _)

pub returns-then-not-page_passes : goal.returns-then-not-page_passes
returns-then-not-page_passes g c =
    record {
      cells = pages_stop _ _ _ _ _ _ _ _ c.requires.base c.loop-k.invariant.2 _ c.word-m.ensures.same (omega arith) _ c.page_passes.ensures.page
          (c.if-not-page_passes.true);
    }

pub cells_pass-requires : goal.cells_pass-requires
cells_pass-requires g c =
    record { before = c.loop-k.invariant.0; inside = (inside g (goal.at.cells_pass-requires g c).Else-not-page_passes).within; wide = search rules; payloads = search rules }

pub returns-then-not-cells_pass : goal.returns-then-not-cells_pass
returns-then-not-cells_pass g c =
    record {
      cells = pages_cut _ _ _ _ _ _ _ _ c.requires.base c.loop-k.invariant.2 _ c.word-m.ensures.same (omega arith) _ c.page_passes.ensures.page
          (c.if-not-page_passes.false) _ c.cells_pass.ensures.cells (c.if-not-cells_pass.true);
    }

pub overflow_add-last : goal.overflow_add-last
overflow_add-last g c = omega (arith, inside g (goal.at.overflow_add-last g c).Else-not-page_passes)

pub overflow_mul-last : goal.overflow_mul-last
overflow_mul-last g c = omega (arith, inside g (goal.at.overflow_mul-last g c).Else-not-page_passes)

pub overflow_add-last-in-loop-k : goal.overflow_add-last-in-loop-k
overflow_add-last-in-loop-k g c = omega (arith, inside g (goal.at.overflow_add-last-in-loop-k g c).Else-not-page_passes)

pub overflow_sub-last : goal.overflow_sub-last
overflow_sub-last g c = omega (arith, base_low _ _ _ c.requires.base)

pub overflow_add-sum : goal.overflow_add-sum
overflow_add-sum g c = omega (arith, inside g (goal.at.overflow_add-sum g c).Else-not-page_passes)

pub loop-k-preserved : goal.loop-k-preserved
loop-k-preserved g c =
    let within = inside g (goal.at.loop-k-preserved g c).Else-not-page_passes in
    let low = base_low _ _ _ c.requires.base in (
      some_inside _ _ (omega arith),
      omega arith,
      pages_next _ _ _ _ _ _ _ _ c.requires.base c.loop-k.invariant.2 _ c.word-m.ensures.same (omega arith) _ c.page_passes.ensures.page
          (c.if-not-page_passes.false) _ c.cells_pass.ensures.cells (c.if-not-cells_pass.false) _ c.word-c.ensures.same,
    )

pub returns : goal.returns
returns g c =
    record { cells = pages_end _ _ _ _ _ _ _ _ c.requires.base c.loop-k.invariant.2 _ _ c.word-m.ensures.same c.word.ensures.same (omega arith) }
