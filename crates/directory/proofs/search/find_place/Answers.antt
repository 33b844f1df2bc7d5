-- `directory::search::find_place` meets its contract: first cells, then the page.
-- Assumes nothing.
use Prim.Native.Nat.{◌+◌, ◌*◌, ◌≤◌}
use lib.ListN.{length}
use Rattle.directory.proofs.Finding.{firsts_order, page_order, page_inside, found}
use Rattle.directory.specs.Directory.{room_of}
use Rattle.directory.proofs.Directories.{sound_of}
use native.Mathlib.Omega.{arith}
use Rattle.directory.proofs.search.find_place.Goals.{After-count-page}
use Rattle.directory.proofs.search.find_place.Goals as goal

-- the page that the first cells give lies within the words
inside : (c : After-count-page) →
    c.args.base + 97 * c.count-page.result + 1 + 3 * room_of c.args.n
    ≤ length c.args.s.now
inside c = page_inside _ _ _ (sound_of _ _ _ c.requires.directory) _ _ _ c.word.ensures.same c.count-page.ensures.count

pub count-page-requires : goal.count-page-requires
count-page-requires c =
    let r = firsts_order _ _ _ (sound_of _ _ _ c.requires.directory) _ c.word.ensures.same in
    record { inside = λ h. omega (arith, r.0); order = r.1 }

pub overflow_mul-page : goal.overflow_mul-page
overflow_mul-page c = omega (arith, inside c)

pub overflow_add-base-2 : goal.overflow_add-base-2
overflow_add-base-2 c = omega (arith, inside c)

pub overflow_add-base-3 : goal.overflow_add-base-3
overflow_add-base-3 c = omega (arith, inside c)

pub count_page-cell-requires : goal.count_page-cell-requires
count_page-cell-requires c =
    record { inside = inside c; order = page_order _ _ _ (sound_of _ _ _ c.requires.directory) _ _ _ c.word.ensures.same c.count-page.ensures.count }

pub returns : goal.returns
returns c =
    let r = found _ _ _ (sound_of _ _ _ c.requires.directory) _ _ _ c.word.ensures.same c.count-page.ensures.count _ c.count_page-cell.ensures.count in
    record { stands = r.0; place = r.1 }
