-- `store::scan::page_passes` meets its contract.
-- Assumes nothing.
use native.Mathlib.Omega.{arith}
use Rattle.store.proofs.ScanCells.{page_over, page_void, page_inner, page_last, inner_few}
use Rattle.store.proofs.scan.page_passes.Goals as goal

pub returns-then-room-c : goal.returns-then-room-c
returns-then-room-c c =
    record { page = page_over _ _ _ _ _ _ c.word-c.ensures.same c.word-m.ensures.same _ c.room.ensures.room c.if-room-c.true }

pub returns-then-is_void : goal.returns-then-is_void
returns-then-is_void c =
    record {
      page = page_void _ _ _ _ _ _ c.word-c.ensures.same c.word-m.ensures.same _
          c.room.ensures.room c.if-room-c.false _ c.is_void.ensures.void c.if-is_void.true;
    }

pub slice_bounds-all_zero-count : goal.slice_bounds-all_zero-count
slice_bounds-all_zero-count c = omega (arith, inner_few _ _ _ _ _ _ c.word-m.ensures.same c.requires.pages c.if-k-m.true c.room.ensures.room c.if-room-c.false)

pub slice_bounds-all_zero-start : goal.slice_bounds-all_zero-start
slice_bounds-all_zero-start c = omega (arith, inner_few _ _ _ _ _ _ c.word-m.ensures.same c.requires.pages c.if-k-m.true c.room.ensures.room c.if-room-c.false)

pub returns-then-k-m : goal.returns-then-k-m
returns-then-k-m c =
    record {
      page = page_inner _ _ _ _ _ _ c.word-c.ensures.same
          c.word-m.ensures.same _ c.room.ensures.room
          c.if-room-c.false _ c.is_void.ensures.void c.if-is_void.false _ c.if-k-m.true
          c.all_zero.ensures.zero;
    }

pub returns : goal.returns
returns c =
    record {
      page = page_last _ _ _ _ _ _ c.word-c.ensures.same
          c.word-m.ensures.same _ c.room.ensures.room
          c.if-room-c.false _ c.is_void.ensures.void c.if-is_void.false _ c.if-k-m.false
          c.all_zero-2.ensures.zero;
    }
