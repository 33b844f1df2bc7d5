-- A page free for a split, room for a cell, and what the cell then leaves.
-- Assumes nothing.
use mathlib.Core.Path.{◌≡◌, refl, sym, ◌∙◌, ap}
use mathlib.Core.List.{List, ◌++◌}
use Prim.Native.Nat.{ℕ, suc, ◌+◌, ◌-◌, ◌*◌, ◌/◌, ◌≤◌, ◌<◌}
use native.Mathlib.Omega.{arith}
use native.Mathlib.Decide.{dec_lt, ℕ_discrete}
use lib.ListN.{length, get_or, take, drop, length-append, take-append-drop}
use lib.Seq.{length-take-le}
use Rattle.probe.specs.Cells.{insert_at, erase_at}
use Rattle.pages.specs.Dir.{page, offset, Crowded}
use Rattle.pages.proofs.Counting.{page_free, pairs_more}
use Rattle.numbers.specs.Numbers.{Cell, ranks, Drops}
use Rattle.directory.specs.Cells.{page_at, dir_at, cells_in, position_in}
use Rattle.directory.specs.Directory.{room_of, Directory, Laid, There}
use Rattle.directory.specs.Edits.{Kept, Left, Edited, CellOpened, CellClosed}
use Rattle.directory.specs.Pages.{Fine, Wide, PageClosed, PageSplit, PagesJoined, Freed, Roomy}
use Rattle.directory.proofs.Frames.{dir_length, page_length}
use Rattle.directory.proofs.Positions.{page_size}
use Rattle.directory.proofs.Directories.{room_large, most_small}
use Rattle.directory.proofs.CellsLeft.{drops_erase}
use Rattle.directory.proofs.Shifting.{kept_through}
use Rattle.directory.proofs.Wides.{wide_of, directory_of, laid_wide, edited_one, edited_count, wide_edited, kept_wide}
use Rattle.directory.proofs.Prefixes.{count_of_lem, closed_cells, split_cells, split_offset, split_offset_next, joined_cells, joined_offset_low, joined_offset_up}

-- pages j and j + 1, which fit into one, made one: where the full page p is then
module _ (base n p j : ℕ) (s t : List ℕ) (ok : Directory base n s) (many : 64 < n) (inside : p ≤ get_or s 1 0) (full : get_or s (base + 97 * p) 0 ≡ 32)
    (low : j < get_or s 1 0) (fits : get_or s (base + 97 * j) 0 + get_or s (base + 97 * j + 97) 0 ≤ 32) (jo : PagesJoined base n j s t) where
  joined_counts : (i : ℕ) → i ≤ get_or t 1 0 → 0 < get_or t (base + 97 * i) 0
  joined_counts i h = go (dec_lt i j) (ℕ_discrete i j)
    where
      go : Dec (i < j) → Dec (i ≡ j) → 0 < get_or t (base + 97 * i) 0
      go (yes l) d = omega (arith, count_of_lem s t (base + 97 * i) (base + 97 * i) (jo.before i l), ok.filled i (omega arith) (omega arith))
      go (no l) (yes d) =
          let c : get_or t (base + 97 * j) 0 ≡ get_or s (base + 97 * j) 0 + get_or s (base + 97 * suc j) 0 =
          sym (page_length t (base + 97 * j)) ∙ ap (λ (c : List Cell). length c) jo.here
          ∙ length-append (page_at s (base + 97 * j)) (page_at s (base + 97 * suc j))
          ∙ omega (arith, page_length s (base + 97 * j), page_length s (base + 97 * suc j)) in
          rw d (omega (arith, ok.filled j (omega arith) (omega arith)))
      go (no l) (no d) =
          omega (arith, count_of_lem s t (base + 97 * suc i) (base + 97 * i) (jo.after i (omega arith) (omega (arith, jo.less))), ok.filled (suc i) (omega arith) (omega (arith, jo.less)))

  joined_left : Left base n (cells_in base s) s t
  joined_left =
      let e : cells_in base t ≡ cells_in base s = joined_cells base n j s t low jo in
      record {
        kept = jo.kept;
        directory = directory_of base n t jo.wide (λ k h l. joined_counts k l) (rw e ok.order);
        cells = e;
      }

  next_some : 0 < get_or s (base + 97 * j + 97) 0
  next_some =
      let e : base + 97 * j + 97 ≡ base + 97 * suc j = omega arith in
      rw e (ok.filled (suc j) (omega arith) (omega arith))

  not_first : p ≡ j → ⊥
  not_first e = let f : get_or s (base + 97 * j) 0 ≡ 32 = rw (← e) full in omega (arith, next_some)

  not_second : p ≡ suc j → ⊥
  not_second e =
      let g : base + 97 * suc j ≡ base + 97 * j + 97 = omega arith in
      let f : get_or s (base + 97 * j + 97) 0 ≡ 32 = rw (← g, ← e) full in
      omega (arith, ok.filled j (omega arith) (omega arith))

  pub freed_up : j < p → Freed base n p s t (p - 1)
  freed_up h =
      let e : suc (p - 1) ≡ p = omega arith in
      let a : j < p - 1 = go (ℕ_discrete p (suc j)) in
      record {
        left = joined_left;
        free = omega (arith, jo.less, (wide_of base n s ok many).pages);
        inside = omega (arith, jo.less);
        full = count_of_lem s t (base + 97 * suc (p - 1)) (base + 97 * (p - 1)) (jo.after (p - 1) a (omega arith)) ∙ ap (λ (z : ℕ). get_or s (base + 97 * z) 0) e ∙ full;
        position = joined_offset_up base n j s t low jo (p - 1) a (omega arith) ∙ ap (λ (z : ℕ). offset z (dir_at base s)) e;
      }
    where
      go : Dec (p ≡ suc j) → j < p - 1
      go (yes d) = absurd (not_second d)
      go (no d) = omega arith

  pub freed_low : p ≤ j → Freed base n p s t p
  freed_low h =
      let a : p < j = go (ℕ_discrete p j) in
      record {
        left = joined_left;
        free = omega (arith, jo.less, (wide_of base n s ok many).pages);
        inside = omega (arith, jo.less);
        full = count_of_lem s t (base + 97 * p) (base + 97 * p) (jo.before p a) ∙ full;
        position = joined_offset_low base n j s t low jo p h;
      }
    where
      go : Dec (p ≡ j) → p < j
      go (yes d) = absurd (not_first d)
      go (no d) = omega arith

-- where a page is free already
pub freed_none : (base n p : ℕ) (s : List ℕ) → Directory base n s → p ≤ get_or s 1 0 → get_or s (base + 97 * p) 0 ≡ 32 → get_or s 1 0 + 1 < n / 11 → Freed base n p s s p
freed_none base n p s ok inside full free =
    record {
      left = record { kept = record { size = refl; under = λ k h d. refl; past = λ k h. refl }; directory = ok; cells = refl };
      free = free;
      inside = inside;
      full = full;
      position = refl;
    }

-- the search for two pages that fit into one finds them where no page is free
abbrev pub Pairs : ℕ → List ℕ → ℕ → Type 0
Pairs base s k = (i : ℕ) → i < k → 32 < get_or s (base + 97 * i) 0 + get_or s (base + 97 * suc i) 0

pub pair_more : (base k : ℕ) (s : List ℕ) → Pairs base s k → 32 < get_or s (base + 97 * k) 0 + get_or s (base + 97 * k + 97) 0 → Pairs base s (k + 1)
pair_more base k s all h =
    let e : base + 97 * k + 97 ≡ base + 97 * (k + 1) = omega arith in
    pairs_more (λ i. get_or s (base + 97 * i) 0) k all (rw (← e) h)

pub pair_found : (base n k : ℕ) (s : List ℕ) → Directory base n s → 64 < n → length (cells_in base s) < n → n / 11 ≤ get_or s 1 0 + 1 → Pairs base s k → get_or s 1 0 ≤ k → ⊥
unfolding cells_in Crowded
pair_found base n k s ok many free few all h =
    let l = dir_length base s in
    let z : length (dir_at base s) < n / 11 =
    page_free n (dir_at base s) many free
    (λ i m. omega (arith, page_size base s i (omega arith), ok.filled i (omega arith) (omega arith)))
    (crowd l) in
    omega arith
  where
    crowd : length (dir_at base s) ≡ suc (get_or s 1 0) → Crowded (length (dir_at base s)) (λ i. length (page i (dir_at base s)))
    crowd l i m = omega (arith, page_size base s i (omega arith), page_size base s (suc i) (omega arith), all i (omega arith))

-- room where the full page k was split at h: in its first half, and in its second
module _ (base n p i k h : ℕ) (s u t : List ℕ) (fr : Freed base n p s u k) (sp : PageSplit base n k h u t) (fits : h ≤ 32) where
  here_count : get_or t (base + 97 * k) 0 ≡ h
  here_count =
      sym (page_length t (base + 97 * k)) ∙ ap (λ (c : List Cell). length c) sp.here
      ∙ length-take-le h (page_at u (base + 97 * k)) (omega (arith, page_length u (base + 97 * k), fr.full))

  next_count : get_or t (base + 97 * suc k) 0 ≡ 32 - h
  next_count =
      let e : length (take h (page_at u (base + 97 * k))) ≡ h = length-take-le h (page_at u (base + 97 * k)) (omega (arith, page_length u (base + 97 * k), fr.full)) in
      let f : length (take h (page_at u (base + 97 * k)) ++ drop h (page_at u (base + 97 * k))) ≡ length (page_at u (base + 97 * k)) =
      ap (λ (c : List Cell). length c) (take-append-drop h (page_at u (base + 97 * k))) in
      sym (page_length t (base + 97 * suc k)) ∙ ap (λ (c : List Cell). length c) sp.next
      ∙ omega (arith, e, f, length-append (take h (page_at u (base + 97 * k))) (drop h (page_at u (base + 97 * k))), page_length u (base + 97 * k), fr.full)

  else_some : (j : ℕ) → (j ≡ k → ⊥) → (j ≡ suc k → ⊥) → j ≤ get_or t 1 0 → 0 < get_or t (base + 97 * j) 0
  else_some j d e l = go (dec_lt j k)
    where
      some : (q : ℕ) → q ≤ get_or u 1 0 → (q ≡ k → ⊥) → 0 < get_or u (base + 97 * q) 0
      some q m o = fr.left.directory.filled q (omega (arith, fr.inside)) m

      go : Dec (j < k) → 0 < get_or t (base + 97 * j) 0
      go (yes m) = omega (arith, count_of_lem u t (base + 97 * j) (base + 97 * j) (sp.before j m), some j (omega (arith, fr.inside)) d)
      go (no m) =
          let f : j ≡ suc (j - 1) = omega arith in
          let g : get_or t (base + 97 * suc (j - 1)) 0 ≡ get_or u (base + 97 * (j - 1)) 0 =
          count_of_lem u t (base + 97 * (j - 1)) (base + 97 * suc (j - 1)) (sp.after (j - 1) (omega arith) (omega (arith, sp.more))) in
          rw f (omega (arith, g, some (j - 1) (omega (arith, sp.more)) (λ o. omega arith)))

  room_kept : Kept base (32 * n) s t
  room_kept = kept_through base (32 * n) s u t fr.left.kept sp.kept

  room_cells : cells_in base t ≡ cells_in base s
  room_cells = split_cells base n k h u t fr.inside sp ∙ fr.left.cells

  pub room_first : i ≤ h → h < 32 → Roomy base n p i s t k i
  unfolding position_in
  room_first l m =
      record {
        kept = room_kept;
        wide = sp.wide;
        filled = λ j d o. some j d o (ℕ_discrete j (suc k));
        cells = room_cells;
        stands = record { inside = omega (arith, sp.more, fr.inside); fits = omega (arith, here_count) };
        position = ap (λ (z : ℕ). z + i) (split_offset base n k h u t fr.inside sp ∙ fr.position);
        room = omega (arith, here_count);
      }
    where
      some : (j : ℕ) → (j ≡ k → ⊥) → j ≤ get_or t 1 0 → Dec (j ≡ suc k) → 0 < get_or t (base + 97 * j) 0
      some j d o (yes e) = rw e (omega (arith, next_count))
      some j d o (no e) = else_some j d e o

  pub room_second : h ≤ i → i ≤ 32 → 0 < h → Roomy base n p i s t (k + 1) (i - h)
  unfolding position_in
  room_second l m o =
      let z : k + 1 ≡ suc k = omega arith in
      rw z
      (record {
        kept = room_kept;
        wide = sp.wide;
        filled = λ j d q. some j d q (ℕ_discrete j k);
        cells = room_cells;
        stands = record { inside = omega (arith, sp.more, fr.inside); fits = omega (arith, next_count) };
        position = ap (λ (w : ℕ). w + (i - h)) (split_offset_next base n k h u t fr.inside sp (omega (arith, fr.full))) ∙ omega (arith, fr.position);
        room = omega (arith, next_count);
      })
    where
      some : (j : ℕ) → (j ≡ suc k → ⊥) → j ≤ get_or t 1 0 → Dec (j ≡ k) → 0 < get_or t (base + 97 * j) 0
      some j d q (yes e) = rw e (omega (arith, here_count))
      some j d q (no e) = else_some j e d q

-- a cell put where room was made
module _ (base n p i k j : ℕ) (x : Cell) (s u t : List ℕ) (ro : Roomy base n p i s u k j) (op : CellOpened base 32 k j x u t)
    (order : Drops (ranks (insert_at (position_in base s p i) x (cells_in base s)))) where
  put_cells : cells_in base t ≡ insert_at (position_in base s p i) x (cells_in base s)
  unfolding position_in
  put_cells =
      let e : offset k (dir_at base u) + j ≡ offset p (dir_at base s) + i = ro.position in
      op.cells ∙ ap (λ (z : ℕ). insert_at z x (cells_in base u)) e ∙ ap (insert_at (offset p (dir_at base s) + i) x) ro.cells

  put_fine : Fine t (base + 97 * k)
  put_fine =
      record {
        few = omega (arith, op.count, ro.room);
        zeros = λ y l m. op.unused (base + 97 * k + 1 + y) (omega arith) ∙ (ro.wide.fine k ro.stands.inside).zeros y (omega (arith, op.count)) m;
      }

  put_filled : (q : ℕ) → q ≤ get_or u 1 0 → Dec (q ≡ k) → 0 < get_or t (base + 97 * q) 0
  put_filled q l (yes e) = rw e (omega (arith, op.count))
  put_filled q l (no e) = omega (arith, edited_count base n u ro.wide k t ro.stands.inside op.edited q e, ro.filled q e l)

  pub room_put : Left base n (insert_at (position_in base s p i) x (cells_in base s)) s t
  room_put =
      let e = put_cells in
      let one : get_or t 1 0 ≡ get_or u 1 0 = edited_one base n u ro.wide k t ro.stands.inside op.edited in
      record {
        kept = kept_through base (32 * n) s u t ro.kept (kept_wide base n u ro.wide k t ro.stands.inside op.edited);
        directory = directory_of base n t (wide_edited base n u ro.wide k t ro.stands.inside op.edited put_fine)
            (λ q l m. put_filled q (omega arith) (ℕ_discrete q k)) (rw e order);
        cells = e;
      }

-- a cell taken out, the last of its page, which is not the only one
module _ (base n p i : ℕ) (s t : List ℕ) (ok : Directory base n s) (there : There base s p i) (cl : CellClosed base (room_of n) p i s t)
    (none : get_or t (base + 97 * p) 0 ≡ 0) (more : 0 < get_or t 1 0) where
  same_one : get_or t 1 0 ≡ get_or s 1 0
  same_one = cl.edited.under 1 (omega (arith, ok.low))

  taken_many : 64 < n
  taken_many = go (dec_lt 64 n)
    where
      go : Dec (64 < n) → 64 < n
      go (yes h) = h
      go (no h) = absurd (omega (arith, most_small n (omega arith), ok.pages, same_one))

  taken_edited : Edited base 32 p s t
  taken_edited = rw (← room_large n taken_many) cl.edited

  taken_fine : Fine t (base + 97 * p)
  taken_fine = record { few = omega arith; zeros = λ j l m. go j m (dec_lt j 3) }
    where
      go : (j : ℕ) → j < 96 → Dec (j < 3) → get_or t (base + 97 * p + 1 + j) 0 ≡ 0
      go j m (yes h) =
          let e : base + 97 * p + 1 + j ≡ base + 97 * p + 1 + 3 * get_or t (base + 97 * p) 0 + j = omega arith in
          ap (λ (z : ℕ). get_or t z 0) e ∙ cl.cleared j h
      go j m (no h) =
          cl.unused (base + 97 * p + 1 + j) (omega (arith, cl.count))
          ∙ ((wide_of base n s ok taken_many).fine p there.inside).zeros j (omega (arith, cl.count)) m

  pub taken_wide : Wide base n t
  taken_wide = wide_edited base n s (wide_of base n s ok taken_many) p t there.inside taken_edited taken_fine

  pub taken_inside : p ≤ get_or t 1 0
  taken_inside = omega (arith, same_one, there.inside)

  -- and the page taken out
  module _ (u : List ℕ) (out : PageClosed base n p t u) where
    taken_cells : cells_in base u ≡ erase_at (position_in base s p i) (cells_in base s)
    unfolding position_in
    taken_cells = closed_cells base n p t u taken_inside none out ∙ cl.cells

    else_some' : (k : ℕ) → (k ≡ p → ⊥) → k ≤ get_or s 1 0 → 0 < get_or t (base + 97 * k) 0
    else_some' k d h =
        omega (
          arith,
          edited_count base n s (wide_of base n s ok taken_many) p t there.inside taken_edited k d,
          ok.filled k (omega (arith, same_one)) h,
        )

    taken_filled : (k : ℕ) → k ≤ get_or u 1 0 → Dec (k < p) → 0 < get_or u (base + 97 * k) 0
    taken_filled k h (yes l) =
        omega (arith, count_of_lem t u (base + 97 * k) (base + 97 * k) (out.before k l), else_some' k (λ d. omega arith) (omega (arith, out.less, same_one)))
    taken_filled k h (no l) =
        omega (
          arith,
          count_of_lem t u (base + 97 * suc k) (base + 97 * k) (out.after k (omega arith) (omega (arith, out.less))),
          else_some' (suc k) (λ d. omega arith) (omega (arith, out.less, same_one)),
        )

    pub page_taken : Left base n (erase_at (position_in base s p i) (cells_in base s)) s u
    page_taken =
        let e = taken_cells in
        record {
          kept = kept_through base (32 * n) s t u (kept_wide base n s (wide_of base n s ok taken_many) p t there.inside taken_edited) out.kept;
          directory = directory_of base n u out.wide (λ k h l. taken_filled k l (dec_lt k p)) (rw e (drops_erase (cells_in base s) (position_in base s p i) ok.order));
          cells = e;
        }

-- what a split and a cell's opening ask
pub split_ready : (base n p k h : ℕ) (s u : List ℕ) → Freed base n p s u k → 64 < n → n ≤ 4096 → h ≤ 32 →
    Wide base n u × ((k ≤ get_or u 1 0) × ((get_or u 1 0 + 1 < n / 11) × ((n ≤ 4096) × ((get_or u (base + 97 * k) 0 ≡ 32) × (h ≤ 32)))))
split_ready base n p k h s u fr many few fits = (wide_of base n u fr.left.directory many, (fr.inside, (fr.free, (few, (fr.full, fits)))))

pub open_ready : (base n p i k j : ℕ) (s u : List ℕ) → Roomy base n p i s u k j →
    Laid base 32 u × ((k ≤ get_or u 1 0) × ((j ≤ get_or u (base + 97 * k) 0) × (get_or u (base + 97 * k) 0 < 32)))
open_ready base n p i k j s u ro = (laid_wide base n u ro.wide, (ro.stands.inside, (ro.stands.fits, ro.room)))
