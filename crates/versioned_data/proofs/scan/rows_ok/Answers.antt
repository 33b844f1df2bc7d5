-- `versioned_data::scan::rows_ok` meets its contract.
-- Assumes nothing.
use native.Mathlib.Omega.{arith}
use Rattle.versioned_data.proofs.ScanSteps.{first_stands, rows_start, rows_bad, rows_less, rows_on, rows_end}
use Rattle.versioned_data.proofs.scan.rows_ok.Goals as goal

pub cell_after-at-requires : goal.cell_after-at-requires
cell_after-at-requires c = (omega arith, first_stands _ _)

pub loop-at-init : goal.loop-at-init
loop-at-init c = (c.cell_after-at.ensures.there, rows_start _ _ _ c.cell_after-at.ensures.place)

pub row_ok-requires : goal.row_ok-requires
row_ok-requires c =
    record { valid = c.requires.valid; there = rw c.in-Some.is at c.loop-at.invariant.0 }

pub returns-then-not-row_ok : goal.returns-then-not-row_ok
returns-then-not-row_ok c =
    record { rows = rows_bad _ _ _ c.loop-at.invariant.1 _ c.in-Some.is (rw c.in-Some.is at c.loop-at.invariant.0) _ c.row_ok.ensures.row (c.if-not-row_ok.true) }

pub loop-at-smaller : goal.loop-at-smaller
loop-at-smaller c = rows_less _ _ _ c.loop-at.invariant.1 _ c.in-Some.is (rw c.in-Some.is at c.loop-at.invariant.0) _ c.next-at.ensures.place

pub loop-at-preserved : goal.loop-at-preserved
loop-at-preserved c = (
  c.next-at.ensures.there,
  rows_on _ _ _ c.loop-at.invariant.1 _ c.in-Some.is (rw c.in-Some.is at c.loop-at.invariant.0) _ c.row_ok.ensures.row (c.if-not-row_ok.false) _
      c.next-at.ensures.place,
)

pub returns : goal.returns
returns c =
    record { rows = rows_end _ _ _ c.loop-at.invariant.1 c.in_default.is }
