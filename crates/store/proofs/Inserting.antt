-- A payload opened and a cell put in that names it: one more row.
-- Assumes nothing.
use mathlib.Core.Path.{◌≡◌, refl, sym, ◌∙◌, ap}
use mathlib.Core.Bool.{Bool, true, false, cond}
use mathlib.Core.List.{List, ◌∷◌, map}
use Prim.Native.Nat.{ℕ, zero, suc, ◌+◌, ◌-◌, ◌*◌, ◌/◌, ◌%◌, ◌≤◌, ◌<◌}
use native.Mathlib.Omega.{arith}
use native.Mathlib.Nat.{mul-suc}
use lib.ListN.{length, get_or, set, length-set, replicate}
use Rattle.probe.specs.Cells.{readings, spot_at, insert_at}
use Rattle.moves.proofs.Turns.{set_here, set_else}
use Rattle.numbers.specs.Numbers.{Cell, Row, number_of, numbers, rank_of, part_of, ranks, row_of, rows, row_rank, Drops}
use Rattle.numbers.proofs.Rows.{rows_added, below_absent}
use Rattle.directory.specs.Cells.{cells_in, position_in}
use Rattle.directory.specs.Directory.{Directory}
use Rattle.directory.specs.Directory as Dir
use Rattle.directory.specs.Edits as DirEdits
use Rattle.directory.proofs.Frames.{dir_frame}
use Rattle.store.specs.Held.{base_of, payload_at, carried_at, held, position_of, content_of, no_cell}
use Rattle.store.specs.Valid.{Valid, Stands}
use Rattle.store.specs.Edits.{Left, fresh_row}
use Rattle.store.specs.Payloads.{PayloadOpened}
use Rattle.store.proofs.Listed.{up_to, map_insert, insert_length, insert_here, below_more, below_insert, tied_added}
use Rattle.store.proofs.Reading.{place_held}
use Rattle.store.proofs.Contents.{base_is, held_length, held_ranks, base_in, cells_frame, directory_frame, carried_words, payload_same}

-- the writes
pub opened_words : (at place key part : ℕ) (s : List ℕ) → 6 ≤ at → at + 3 ≤ length s →
    PayloadOpened at place key part s (set (set (set (set s at place) (at + 1) key) (at + 2) part) 0 (get_or s 0 0 + 1))
opened_words at place key part s low room =
    let u : List ℕ = set s at place in
    let v : List ℕ = set u (at + 1) key in
    let x : List ℕ = set v (at + 2) part in
    record {
      size = simp length-set refl;
      head = set_here x 0 0 (get_or s 0 0 + 1) refl (simp length-set (omega arith)) ∙ omega arith;
      place = set_else x 0 at (get_or s 0 0 + 1) (λ d. omega arith) ∙ set_else v (at + 2) at part (λ d. omega arith)
          ∙ set_else u (at + 1) at key (λ d. omega arith) ∙ set_here s at at place refl (omega arith);
      key = set_else x 0 (at + 1) (get_or s 0 0 + 1) (λ d. omega arith) ∙ set_else v (at + 2) (at + 1) part (λ d. omega arith)
          ∙ set_here u (at + 1) (at + 1) key refl (simp length-set (omega arith));
      part = set_else x 0 (at + 2) (get_or s 0 0 + 1) (λ d. omega arith) ∙ set_here v (at + 2) (at + 2) part refl (simp length-set (omega arith));
      under = λ k h l. set_else x 0 k (get_or s 0 0 + 1) (λ d. omega arith) ∙ set_else v (at + 2) k part (λ d. omega arith)
          ∙ set_else u (at + 1) k key (λ d. omega arith) ∙ set_else s at k place (λ d. omega arith);
      past = λ k h. set_else x 0 k (get_or s 0 0 + 1) (λ d. omega arith) ∙ set_else v (at + 2) k part (λ d. omega arith)
          ∙ set_else u (at + 1) k key (λ d. omega arith) ∙ set_else s at k place (λ d. omega arith);
    }

readings_zero : (n : ℕ) (f : ℕ → ℕ) → ((i : ℕ) → i < n → f i ≡ 0) → readings f n ≡ replicate n 0
unfolding readings
readings_zero zero f h = refl
readings_zero (suc n) f h = rw (h 0 (omega arith), readings_zero n (λ i. f (suc i)) (λ i l. h (suc i) (omega arith)))

module _ (place key marks m : ℕ) (small : marks < 65536) (few : m < 65536) where
  -- the cell that names payload m
  abbrev pub new_cell : Cell
  new_cell = record { spot = place + 4294967296 * key; word = m + 65536 * marks }

  new_number : number_of new_cell ≡ m
  unfolding number_of
  new_number = omega arith

  new_part_lem : part_of new_cell ≡ marks / 256
  unfolding part_of
  new_part_lem = omega arith

  new_row : (w : ℕ) (p : List ℕ) → p ≡ marks / 256 ∷ replicate (w - 3) 0 → row_of new_cell p ≡ fresh_row w place key marks
  unfolding row_of fresh_row
  new_row w p e =
      let f : (m + 65536 * marks) / 65536 ≡ marks = omega arith in
      rw (f, e)

-- room for one more payload
module _ (w n : ℕ) (parted : Bool) (s : List ℕ) (valid : Valid w parted n s) (free : length (held w n s) < n) where
  pub open_few : get_or s 0 0 < 4096
  open_few = omega (arith, held_length w n s, valid.all, valid.few)

  pub open_room : 6 + w * get_or s 0 0 + w ≤ length s
  open_room =
      omega (
        arith,
        up_to w (get_or s 0 0) n (omega (arith, held_length w n s, valid.all)),
        base_is w n,
        (base_in w n parted s valid).0,
        (base_in w n parted s valid).1,
      )

-- a payload opened with some place, key and part, a cell put in with some place and key
module _ (w n : ℕ) (parted : Bool) (place key marks : ℕ) (a b c : ℕ) (s t : List ℕ) (valid : Valid w parted n s) (free : length (held w n s) < n) (small : marks < 65536)
    (whole : parted ≡ false → marks < 256) (opened : PayloadOpened (6 + w * get_or s 0 0) a b c s t) where
  abbrev base : ℕ
  base = base_of w n

  abbrev m : ℕ
  m = get_or s 0 0

  abbrev x : Cell
  x = record { spot = place + 4294967296 * key; word = m + 65536 * marks }

  less : m < n
  less = omega (arith, free, held_length w n s, valid.all)

  few : m < 65536
  few = omega (arith, less, valid.few)

  room : 6 + w * m + w ≤ base
  room = rw (base_is w n) (omega (arith, up_to w m n less))

  pages : get_or t 1 0 ≡ get_or s 1 0
  pages = opened.under 1 (omega arith) (omega arith)

  words : (k : ℕ) → base ≤ k → get_or t k 0 ≡ get_or s k 0
  words k h = opened.past k (omega (arith, room, valid.wide))

  pub open_directory : Directory base n t
  open_directory = directory_frame base n s t valid.directory opened.size pages words

  pub open_cells : cells_in base t ≡ cells_in base s
  open_cells = cells_frame base s t pages words

  pub open_free : length (cells_in base t) < n
  open_free = rw open_cells (omega (arith, free, held_length w n s))

  pub open_position : (p j : ℕ) → position_in base t p j ≡ position_of w n s p j
  unfolding position_of position_in
  open_position p j = rw (dir_frame base s t pages words)

  pub open_stands : (p j : ℕ) → Stands w n s p j → Dir.Stands base t p j
  unfolding Stands
  open_stands p j h = record { inside = omega (arith, pages, h.inside); fits = omega (arith, words (base + 97 * p) (omega arith), h.fits) }

  rank_new : rank_of x ≡ row_rank (fresh_row w place key marks)
  unfolding rank_of part_of row_rank fresh_row
  rank_new = let e : (m + 65536 * marks) / 16777216 % 256 ≡ marks / 256 % 256 = omega (arith, few) in rw e

  pub open_order : (pos : ℕ) → Drops (map row_rank (insert_at pos (fresh_row w place key marks) (held w n s))) → Drops (ranks (insert_at pos x (cells_in base t)))
  open_order pos h =
      let e : map row_rank (insert_at pos (fresh_row w place key marks) (held w n s)) ≡ ranks (insert_at pos x (cells_in base t)) =
      map_insert row_rank (held w n s) pos (fresh_row w place key marks)
      ∙ ap (λ (l : List ℕ). insert_at pos (row_rank (fresh_row w place key marks)) l) (held_ranks w n s)
      ∙ ap (λ (y : ℕ). insert_at pos y (ranks (cells_in base s))) (sym rank_new)
      ∙ sym (map_insert rank_of (cells_in base s) pos x)
      ∙ ap (λ (l : List Cell). ranks (insert_at pos x l)) (sym open_cells) in
      rw (← e) h

  -- where they are the same
  module _ (is : (a ≡ place) × ((b ≡ key) × (c ≡ marks / 256))) (pos : ℕ) (u : List ℕ) (put : DirEdits.Left base n (insert_at pos x (cells_in base t)) t u) where
    now_cells : cells_in base u ≡ insert_at pos x (cells_in base s)
    now_cells = put.cells ∙ ap (insert_at pos x) open_cells

    low : (k : ℕ) → k < base → (k ≡ 1 → ⊥) → get_or u k 0 ≡ get_or t k 0
    low k h d = put.kept.under k h d

    units : get_or u 0 0 ≡ suc m
    units = low 0 (omega (arith, base_is w n)) (λ d. omega arith) ∙ opened.head

    at_new : w * suc m ≡ w * m + w
    at_new = omega (arith, mul-suc w m)

    old : (p : ℕ) → p < m → (j : ℕ) → j < w → get_or u (6 + w * p + j) 0 ≡ get_or s (6 + w * p + j) 0
    old p h j l =
        low (6 + w * p + j) (omega (arith, room, up_to w p m h)) (λ d. omega arith)
        ∙ opened.under (6 + w * p + j) (omega arith) (omega (arith, up_to w p m h))

    new_place : get_or u (6 + w * m) 0 ≡ place
    new_place = low (6 + w * m) (omega (arith, room, valid.wide)) (λ d. omega arith) ∙ opened.place ∙ is.0

    new_key : get_or u (6 + w * m + 1) 0 ≡ key
    new_key = low (6 + w * m + 1) (omega (arith, room, valid.wide)) (λ d. omega arith) ∙ opened.key ∙ is.1.0

    new_first : get_or u (6 + w * m + 2) 0 ≡ marks / 256
    new_first = low (6 + w * m + 2) (omega (arith, room, valid.wide)) (λ d. omega arith) ∙ opened.part ∙ is.1.1

    zero_rest : (j : ℕ) → 3 ≤ j → j < w → get_or u (6 + w * m + j) 0 ≡ 0
    zero_rest j h l =
        low (6 + w * m + j) (omega (arith, room)) (λ d. omega arith) ∙ opened.past (6 + w * m + j) (omega arith)
        ∙ valid.spare (6 + w * m + j) (omega arith) (omega (arith, room))

    new_payload : payload_at w u m ≡ marks / 256 ∷ replicate (w - 3) 0
    unfolding payload_at readings
    new_payload =
        let e : w - 2 ≡ suc (w - 3) = omega (arith, valid.wide) in
        let f : 6 + w * m + 2 + 0 ≡ 6 + w * m + 2 = omega arith in
        rw (
          e,
          f,
          new_first,
          readings_zero (w - 3) (λ i. get_or u (6 + w * m + 2 + suc i) 0) (λ i h.
              let g : 6 + w * m + 2 + suc i ≡ 6 + w * m + (3 + i) = omega arith in
              rw g (zero_rest (3 + i) (omega arith) (omega arith))),
        )

    carries : carried_at w parted u m ≡ rank_of x
    unfolding carried_at spot_at rank_of
    carries =
        rw (new_place, new_key, new_first, new_part_lem place key marks m small few) (go parted refl)
      where
        go : (b : Bool) → parted ≡ b → 4294967296 * (place + 4294967296 * key) + cond parted (marks / 256) 0 ≡ 4294967296 * (place + 4294967296 * key) + marks / 256
        go true e = rw e
        go false e = let f : marks / 256 ≡ 0 = omega (arith, whole e) in rw (e, f)

    valid_inserted : Valid w parted n u
    valid_inserted =
        record {
          wide = valid.wide;
          narrow = valid.narrow;
          few = valid.few;
          directory = put.directory;
          units = rw units less;
          all = rw (now_cells, units) (insert_length (cells_in base s) pos x ∙ ap suc valid.all);
          below = rw (now_cells, units, map_insert number_of (cells_in base s) pos x, new_number place key marks m small few)
              (below_insert (suc m) (numbers (cells_in base s)) pos m (below_more m (numbers (cells_in base s)) valid.below) (omega arith));
          tied = rw now_cells
              (tied_added (carried_at w parted s) (carried_at w parted u) m (cells_in base s) pos x
              (λ p h. carried_words w parted s u p p valid.wide (old p h)) valid.below valid.tied
              (rw (new_number place key marks m small few) carries));
          heads = λ k h l. low k (omega (arith, base_is w n)) (λ d. omega arith) ∙ opened.under k (omega arith) (omega arith) ∙ valid.heads k h l;
          spare = λ k h l.
              low k l (λ d. omega arith) ∙ opened.past k (after k h) ∙ valid.spare k (omega (arith, after k h)) l;
        }
      where
        after : (k : ℕ) → 6 + w * get_or u 0 0 ≤ k → 6 + w * m + 3 ≤ k
        after k h = omega (arith, at_new, ap (λ (y : ℕ). w * y) units, valid.wide)

    holds_inserted : held w n u ≡ insert_at pos (fresh_row w place key marks) (held w n s)
    unfolding held
    holds_inserted =
        ap (rows (payload_at w u)) now_cells
        ∙ rows_added (payload_at w s) (payload_at w u) m m (λ p h d. payload_same w s u p p (old p h))
        (cells_in base s) pos x valid.below (below_absent m (numbers (cells_in base s)) valid.below) (new_number place key marks m small few)
        ∙ ap (λ (r : Row (List ℕ)). insert_at pos r (rows (payload_at w s) (cells_in base s))) (new_row place key marks m small few w (payload_at w u m) new_payload)

    pub inserted : Left w parted n (insert_at pos (fresh_row w place key marks) (held w n s)) s u
    inserted =
        record {
          valid = valid_inserted;
          holds = holds_inserted;
          size = put.kept.size ∙ opened.size;
          past = λ k h. put.kept.past k h ∙ words k (omega (arith, (base_in w n parted s valid).0));
        }

    pub inserted_content : pos ≤ length (held w n s) → 6 + w * m + 2 ≡ content_of w n u pos
    unfolding content_of
    inserted_content h =
        rw (now_cells, insert_here (cells_in base s) pos x no_cell (omega (arith, held_length w n s)), new_number place key marks m small few)

  -- as the code has it: at a place among the pages
  module _ (p i : ℕ) (stands : Stands w n s p i) where
    pub put_requires : Drops (map row_rank (insert_at (position_of w n s p i) (fresh_row w place key marks) (held w n s))) →
        Directory base n t
        × (Dir.Stands base t p i × ((length (cells_in base t) < n) × (Drops (ranks (insert_at (position_in base t p i) x (cells_in base t))) × (n ≤ 4096))))
    put_requires order =
        (open_directory, (open_stands p i stands, (open_free, (rw (open_position p i) (open_order (position_of w n s p i) order), valid.few))))

    pub put_left : (a ≡ place) × ((b ≡ key) × (c ≡ marks / 256)) → (u : List ℕ) → DirEdits.Left base n (insert_at (position_in base t p i) x (cells_in base t)) t u →
        Left w parted n (insert_at (position_of w n s p i) (fresh_row w place key marks) (held w n s)) s u
        × (6 + w * m + 2 ≡ content_of w n u (position_of w n s p i))
    put_left is u put = (inserted is (position_of w n s p i) u now, inserted_content is (position_of w n s p i) u now (place_held w n s p i stands))
      where
        now : DirEdits.Left base n (insert_at (position_of w n s p i) x (cells_in base t)) t u
        now = rw (open_position p i) at put
