-- `store::scan::is_valid` meets its contract.
-- Assumes nothing.
use native.Mathlib.Omega.{arith}
use borrow.Author.Rules.{rules}
use Prim.Native.Nat.{◌+◌, ◌*◌, ◌≤◌}
use lib.ListN.{length}
use Rattle.store.proofs.ScanCells.{valid_over, valid_most, valid_heads, valid_spare, valid_cells, base_is, space_is, payloads_fit, payloads_inside}
use Rattle.store.proofs.scan.is_valid.Given.{Over}
use Rattle.store.proofs.scan.is_valid.Goals.{Else-not-all_zero}
use Rattle.store.proofs.scan.is_valid.Goals as goal

-- the payloads lie within the words
fit : (g : Over) (c : Else-not-all_zero g) →
    (6 + g.row.WIDTH * c.args.n ≤ length c.args.s.now)
    × (g.row.WIDTH * c.word-h.result ≤ g.row.WIDTH * c.args.n)
fit g c =
    payloads_fit _ _ _ _ c.requires.narrow c.requires.some c.if-n-h.false c.requires.size

pub returns-then-n-h : goal.returns-then-n-h
returns-then-n-h g c =
    record { valid = valid_over _ _ _ _ _ c.word-h.ensures.same c.if-n-h.true }

pub returns-then-most_pages-word : goal.returns-then-most_pages-word
returns-then-most_pages-word g c =
    record { valid = valid_most _ _ _ _ _ c.word-h.ensures.same c.if-n-h.false _ _ c.most_pages.ensures.most c.word.ensures.same c.if-most_pages-word.true }

pub returns-then-not-all_zero : goal.returns-then-not-all_zero
returns-then-not-all_zero g c =
    record {
      valid = valid_heads _ _ _ _ _ c.word-h.ensures.same c.if-n-h.false _ _ c.most_pages.ensures.most c.word.ensures.same c.if-most_pages-word.false _ c.all_zero.ensures.zero
          (c.if-not-all_zero.true);
    }

pub overflow_mul-base : goal.overflow_mul-base
overflow_mul-base g c = omega (arith, fit g c)

pub overflow_add-base : goal.overflow_add-base
overflow_add-base g c = omega (arith, fit g c)

pub overflow_mul-h : goal.overflow_mul-h
overflow_mul-h g c = omega (arith, fit g c)

pub overflow_add-h : goal.overflow_add-h
overflow_add-h g c = omega (arith, fit g c)

pub returns-then-not-all_zero-2 : goal.returns-then-not-all_zero-2
returns-then-not-all_zero-2 g c =
    record {
      valid = valid_spare _ _ _ _ _ c.word-h.ensures.same c.if-n-h.false _ _ c.most_pages.ensures.most c.word.ensures.same c.if-most_pages-word.false _ c.all_zero.ensures.zero
          (c.if-not-all_zero.false) _ c.all_zero-2.ensures.zero (c.if-not-all_zero-2.true);
    }

pub pages_pass-requires : goal.pages_pass-requires
pages_pass-requires g c =
    record { wide = search rules; base = base_is _ _; space = space_is _ _ c.requires.narrow c.requires.some; size = search rules; pages = omega arith; payloads = payloads_inside _ _ _ _ _ c.requires.narrow c.requires.some c.if-n-h.false c.word-h.ensures.same c.requires.size }

pub returns : goal.returns
returns g c =
    record {
      valid = valid_cells _ _ _ _ _ c.word-h.ensures.same c.if-n-h.false _ _ c.most_pages.ensures.most c.word.ensures.same c.if-most_pages-word.false _ c.all_zero.ensures.zero
          (c.if-not-all_zero.false) _ c.all_zero-2.ensures.zero (c.if-not-all_zero-2.false) _ c.pages_pass.ensures.cells;
    }
