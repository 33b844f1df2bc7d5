-- A row's marks written: its cell's third word, and no other word.
-- Assumes nothing.
use mathlib.Core.Path.{◌≡◌, refl, sym, ◌∙◌, ap}
use mathlib.Core.Bool.{Bool}
use mathlib.Core.List.{List, [], ◌∷◌, map}
use Prim.Native.Nat.{ℕ, zero, suc, ◌+◌, ◌*◌, ◌/◌, ◌%◌, ◌≤◌, ◌<◌}
use native.Mathlib.Omega.{arith}
use native.Mathlib.Decide.{dec_lt}
use lib.ListN.{length, get_or, set, length-set, length-append, take}
use Rattle.probe.specs.Cells.{readings, spot_at}
use Rattle.pages.specs.Dir.{flat, offset}
use Rattle.numbers.specs.Numbers.{Cell, number_of, numbers, rank_of, part_of, Tied, row_of, rows}
use Rattle.numbers.proofs.Rows.{rows_same, below_absent}
use Rattle.directory.specs.Cells.{cell_at, page_at, dir_at, cells_in, position_in}
use Rattle.directory.specs.Directory.{Directory}
use Rattle.directory.specs.Directory as Dir
use Rattle.directory.specs.Edits as DirEdits
use Rattle.directory.proofs.Frames.{page_length}
use Rattle.directory.proofs.Directories.{laid_of}
use Rattle.store.specs.Held.{base_of, payload_at, carried_at, held, position_of, content_of, no_row, no_cell}
use Rattle.store.specs.Valid.{Valid, There}
use Rattle.store.specs.Edits.{Left, marked}
use Rattle.store.proofs.Listed.{map_set, set_same, get_d_map, tied_same}
use Rattle.store.proofs.Contents.{base_is, number_at, held_length, row_at, payload_in, units_in_lem, carried_words, payload_same}
use Rattle.store.proofs.Reading.{position_held, cell_is, row_marks}

-- the cells before a page are told by the pages' counts
offset_lengths : {A : Type 0} (n : ℕ) (f g : ℕ → List A) (p : ℕ) → ((k : ℕ) → k < n → length (f k) ≡ length (g k)) → offset p (readings f n) ≡ offset p (readings g n)
unfolding offset flat readings
offset_lengths zero f g p h = refl
offset_lengths (suc n) f g zero h = refl
offset_lengths (suc n) f g (suc p) h =
    omega (
      arith,
      length-append (f 0) (flat (take p (readings (λ i. f (suc i)) n))),
      length-append (g 0) (flat (take p (readings (λ i. g (suc i)) n))),
      h 0 (omega arith),
      offset_lengths n (λ i. f (suc i)) (λ i. g (suc i)) p (λ k l. h (suc k) (omega arith)),
    )

position_counts : (base : ℕ) (s t : List ℕ) (p i : ℕ) → get_or t 1 0 ≡ get_or s 1 0 → ((k : ℕ) → k ≤ get_or s 1 0 → get_or t (base + 97 * k) 0 ≡ get_or s (base + 97 * k) 0) →
    position_in base t p i ≡ position_in base s p i
unfolding position_in dir_at
position_counts base s t p i e h =
    rw e
    (ap (λ (m : ℕ). m + i)
    (offset_lengths (suc (get_or s 1 0)) (λ k. page_at t (base + 97 * k)) (λ k. page_at s (base + 97 * k)) p (λ k l.
    page_length t (base + 97 * k) ∙ h k (omega arith) ∙ sym (page_length s (base + 97 * k)))))

-- a cell's third word written: every place stays
module _ (base n p i : ℕ) (s t : List ℕ) (ok : Directory base n s) (there : Dir.There base s p i)
    (rest : (k : ℕ) → (k ≡ base + 97 * p + 1 + 3 * i + 2 → ⊥) → get_or t k 0 ≡ get_or s k 0) where
  word_pages : get_or t 1 0 ≡ get_or s 1 0
  word_pages = rest 1 (λ e. omega (arith, ok.low))

  word_count : (k : ℕ) → k ≤ get_or s 1 0 → get_or t (base + 97 * k) 0 ≡ get_or s (base + 97 * k) 0
  word_count k h =
      rest (base + 97 * k) (λ e. apart k h e)
    where
      apart : (k : ℕ) → k ≤ get_or s 1 0 → base + 97 * k ≡ base + 97 * p + 1 + 3 * i + 2 → ⊥
      apart k h e = go (dec_lt p k)
        where
          go : Dec (p < k) → ⊥
          go (yes l) = omega (arith, (laid_of base n s ok).apart (omega arith), (laid_of base n s ok).counts p there.inside, there.fits)
          go (no l) = omega arith

  pub word_position : (q j : ℕ) → position_in base t q j ≡ position_in base s q j
  word_position q j = position_counts base s t q j word_pages word_count

  pub word_there : (q j : ℕ) → Dir.There base s q j → Dir.There base t q j
  word_there q j h = record { inside = omega (arith, word_pages, h.inside); fits = omega (arith, word_count q h.inside, h.fits) }

  pub word_stands : (q j : ℕ) → Dir.Stands base s q j → Dir.Stands base t q j
  word_stands q j h = record { inside = omega (arith, word_pages, h.inside); fits = omega (arith, word_count q h.inside, h.fits) }

get_d_any : {A B : Type 0} (f : A → B) (xs : List A) (i : ℕ) (a : A) → get_or (map f xs) i (f a) ≡ f (get_or xs i a)
get_d_any f [] i a = refl
get_d_any f (x ∷ xs) zero a = refl
get_d_any f (x ∷ xs) (suc i) a = get_d_any f xs i a

tied_set : (carried : ℕ → ℕ) (cs : List Cell) (i : ℕ) (x : Cell) → Tied carried cs → carried (number_of x) ≡ rank_of x → Tied carried (set cs i x)
unfolding Tied
tied_set carried [] i x t e = t
tied_set carried (c ∷ cs) zero x t e = (e, t.1)
tied_set carried (c ∷ cs) (suc i) x t e = (t.0, tied_set carried cs i x t.1 e)

pub tied_at : (carried : ℕ → ℕ) (cs : List Cell) (i : ℕ) (nil : Cell) → Tied carried cs → i < length cs → carried (number_of (get_or cs i nil)) ≡ rank_of (get_or cs i nil)
unfolding Tied
tied_at carried [] i nil t h = absurd (omega arith)
tied_at carried (c ∷ cs) zero nil t h = t.0
tied_at carried (c ∷ cs) (suc i) nil t h = tied_at carried cs i nil t.1 (omega arith)

module _ (w n p i marks : ℕ) (parted : Bool) (s : List ℕ) (valid : Valid w parted n s) (there : There w n s p i) where
  abbrev base : ℕ
  base = base_of w n

  abbrev at : ℕ
  at = base + 97 * p + 1 + 3 * i

  abbrev cs : List Cell
  cs = cells_in base s

  abbrev pos : ℕ
  pos = position_of w n s p i

  abbrev word : ℕ
  word = get_or s (at + 2) 0 % 65536 + 65536 * marks

  abbrev x : Cell
  x = record { spot = spot_at s at; word = word }

  inside : pos < length cs
  inside = omega (arith, position_held w n s p i there, held_length w n s)

  -- whatever the number is
  pub set_part : marks / 256 ≡ (get_or (held w n s) (position_of w n s p i) no_row).marks / 256 → (x : ℕ) → x < 65536 →
      (x + 65536 * marks) / 16777216 % 256 ≡ get_or s (at + 2) 0 / 16777216 % 256
  set_part h x l = omega (arith, row_marks w n p i s there)

  module _ (t : List ℕ) (small : marks < 65536) (part : marks / 256 ≡ (get_or (held w n s) (position_of w n s p i) no_row).marks / 256)
      (left : DirEdits.Left base n (set cs (position_in base s p i) x) s t) where
    cells_now : cells_in base t ≡ set cs pos x
    unfolding position_of
    cells_now = left.cells

    number_same : number_of x ≡ number_of (get_or cs pos no_cell)
    unfolding number_of cell_at
    number_same =
        let e : word % 65536 ≡ get_or s (at + 2) 0 % 65536 = omega arith in
        e ∙ sym (ap number_of (cell_is w n p i s there))

    rank_same : rank_of x ≡ rank_of (get_or cs pos no_cell)
    unfolding rank_of part_of cell_at
    rank_same =
        let e : word / 16777216 % 256 ≡ get_or s (at + 2) 0 / 16777216 % 256 = set_part part (get_or s (at + 2) 0 % 65536) (omega arith) in
        ap (λ (m : ℕ). 4294967296 * spot_at s at + m) e ∙ sym (ap rank_of (cell_is w n p i s there))

    numbers_same : numbers (set cs pos x) ≡ numbers cs
    numbers_same =
        map_set number_of cs pos x
        ∙ set_same (numbers cs) pos (number_of x) 0 (number_same ∙ sym (get_d_map number_of cs pos no_cell 0 inside))

    below_base : (k : ℕ) → k < base → (k ≡ 1 → ⊥) → get_or t k 0 ≡ get_or s k 0
    below_base k h d = left.kept.under k h d

    units : get_or t 0 0 ≡ get_or s 0 0
    units = below_base 0 (omega (arith, base_is w n)) (λ d. omega arith)

    payload : (q : ℕ) → q < get_or s 0 0 → (j : ℕ) → j < w → get_or t (6 + w * q + j) 0 ≡ get_or s (6 + w * q + j) 0
    payload q h j l =
        below_base (6 + w * q + j) (omega (arith, payload_in w n parted s valid q h, units_in_lem w n parted s valid)) (λ d. omega arith)

    valid_marked : Valid w parted n t
    valid_marked =
        record {
          wide = valid.wide;
          narrow = valid.narrow;
          few = valid.few;
          directory = left.directory;
          units = rw units valid.units;
          all = rw (cells_now, units) (length-set cs pos x ∙ valid.all);
          below = rw (cells_now, units, numbers_same) valid.below;
          tied = rw cells_now
              (tied_set (carried_at w parted t) cs pos x kept
              (ap (carried_at w parted t) number_same ∙ tied_at (carried_at w parted t) cs pos no_cell kept inside ∙ sym rank_same));
          heads = λ k h l. below_base k (omega (arith, base_is w n)) (λ d. omega arith) ∙ valid.heads k h l;
          spare = λ k h l. below_base k l (λ d. omega arith) ∙ valid.spare k (omega (arith, ap (λ (m : ℕ). w * m) units)) l;
        }
      where
        kept : Tied (carried_at w parted t) cs
        kept =
            tied_same (carried_at w parted s) (carried_at w parted t) (get_or s 0 0) cs
            (λ q h. carried_words w parted s t q q valid.wide (payload q h)) valid.below valid.tied

    row_now : row_of x (payload_at w s (number_of x)) ≡ marked marks (get_or (held w n s) pos no_row)
    unfolding row_of marked number_at cell_at
    row_now =
        let e : word / 65536 ≡ marks = omega arith in
        ap (λ (m : ℕ). record { spot = spot_at s at; marks = m; payload = payload_at w s (number_of x) }) e
        ∙ ap (λ (q : ℕ). record { spot = spot_at s at; marks = marks; payload = payload_at w s q }) number_same
        ∙ ap (λ (c : Cell). record { spot = c.spot; marks = marks; payload = payload_at w s (number_of (get_or cs pos no_cell)) }) (sym (cell_is w n p i s there))
        ∙ sym (ap (marked marks) (row_at w n s pos (position_held w n s p i there)))

    holds_marked : held w n t ≡ set (held w n s) pos (marked marks (get_or (held w n s) pos no_row))
    unfolding held rows
    holds_marked =
        ap (rows (payload_at w t)) cells_now
        ∙ rows_same (payload_at w s) (payload_at w t) (get_or s 0 0) (get_or s 0 0) (λ q h d. payload_same w s t q q (payload q h)) (set cs pos x)
        (rw numbers_same valid.below) (rw numbers_same (below_absent (get_or s 0 0) (numbers cs) valid.below))
        ∙ map_set (λ (c : Cell). row_of c (payload_at w s (number_of c))) cs pos x
        ∙ ap (set (rows (payload_at w s) cs) pos) row_now

    pub marked_left : Left w parted n (set (held w n s) (position_of w n s p i) (marked marks (get_or (held w n s) (position_of w n s p i) no_row))) s t
    marked_left = record { valid = valid_marked; holds = holds_marked; size = left.kept.size; past = left.kept.past }

    pub content_marked : (k : ℕ) → content_of w n t k ≡ content_of w n s k
    unfolding content_of
    content_marked k = rw cells_now (ap (λ (q : ℕ). 6 + w * q + 2) same)
      where
        same : number_of (get_or (set cs pos x) k no_cell) ≡ number_of (get_or cs k no_cell)
        same =
            sym (get_d_any number_of (set cs pos x) k no_cell) ∙ ap (λ (l : List ℕ). get_or l k (number_of no_cell)) numbers_same
            ∙ get_d_any number_of cs k no_cell

  -- as the code has it: the cell is read from a on
  module _ (a : ℕ) (here : a ≡ at) (small : marks < 65536) (part : marks / 256 ≡ (get_or (held w n s) (position_of w n s p i) no_row).marks / 256) where
    pub set_left : (t : List ℕ) →
        DirEdits.Left base n (set cs (position_in base s p i) (record { spot = spot_at s at; word = get_or s (a + 2) 0 % 65536 + 65536 * marks })) s t →
        Left w parted n (set (held w n s) (position_of w n s p i) (marked marks (get_or (held w n s) (position_of w n s p i) no_row))) s t
        × ((k : ℕ) → content_of w n t k ≡ content_of w n s k)
    set_left t left = (marked_left t small part now, content_marked t small part now)
      where
        now : DirEdits.Left base n (set cs (position_in base s p i) x) s t
        now = rw here at left
