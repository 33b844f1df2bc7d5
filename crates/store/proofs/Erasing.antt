-- A row taken out: the last payload goes to the hole, its cell is renamed, its words are cleared, and the row's cell is taken out.
-- Assumes nothing.
use mathlib.Core.Path.{◌≡◌, refl, sym, ◌∙◌, ap}
use mathlib.Core.Bool.{Bool, false}
use mathlib.Core.List.{List, map}
use Prim.Native.Nat.{ℕ, suc, ◌+◌, ◌-◌, ◌*◌, ◌≤◌, ◌<◌}
use native.Mathlib.Omega.{arith}
use native.Mathlib.Nat.{mul-suc}
use native.Mathlib.Decide.{ℕ_discrete, dec_lt}
use lib.ListN.{length, get_or, set, length-set, length-map}
use Rattle.probe.specs.Cells.{erase_at}
use Rattle.moves.specs.Moves.{Copied, Cleared}
use Rattle.moves.proofs.Turns.{set_here, set_else}
use Rattle.numbers.specs.Numbers.{Cell, number_of, numbers, has, Below, Tied, rows, give_number, renamed}
use Rattle.numbers.proofs.Rows.{map_erase, erased_absent, one_renamed, rows_last, rows_erased}
use Rattle.directory.specs.Cells.{cells_in, position_in}
use Rattle.directory.specs.Directory.{Directory}
use Rattle.directory.specs.Directory as Dir
use Rattle.directory.specs.Edits as DirEdits
use Rattle.directory.proofs.Frames.{dir_frame}
use Rattle.store.specs.Held.{base_of, payload_at, carried_at, held, no_cell}
use Rattle.store.specs.Valid.{Valid}
use Rattle.store.specs.Edits.{Left}
use Rattle.store.specs.Payloads.{Dropped}
use Rattle.store.proofs.Listed.{up_to, get_d_map, erase_length, below_erase, below_less, tied_same, tied_erase, moved_tied, moved_below}
use Rattle.store.proofs.Contents.{base_is, number_at, held_length, number_below, payload_in, units_in_lem, base_in, apart, cells_frame, directory_frame, carried_words, payload_same}

-- the words that are cleared
pub dropped_words : (from w l : ℕ) (s u : List ℕ) → 0 < from → from + w ≤ length s → Cleared from w s u → Dropped from w l s (set u 0 l)
dropped_words from w l s u h r c =
    record {
      size = length-set u 0 l ∙ c.size;
      head = set_here u 0 0 l refl (omega (arith, c.size));
      under = λ k m n. set_else u 0 k l (λ e. omega arith) ∙ c.under k n;
      zeros = λ k m. set_else u 0 (from + k) l (λ e. omega arith) ∙ c.within k m;
      past = λ k m. set_else u 0 k l (λ e. omega arith) ∙ c.past k m;
    }

under_last : (m h l : ℕ) → suc l ≡ h → m < h → (l ≡ m → ⊥) → m < l
under_last m h l e k n = go (ℕ_discrete l m)
  where
    go : Dec (l ≡ m) → m < l
    go (yes f) = absurd (n f)
    go (no f) = omega arith

module _ (w n : ℕ) (parted : Bool) (s : List ℕ) (valid : Valid w parted n s) (i : ℕ) (inside : i < length (held w n s)) where
  abbrev base : ℕ
  base = base_of w n

  abbrev cs : List Cell
  cs = cells_in base s

  abbrev q : ℕ
  q = number_at w n s i

  pub last_is : suc (get_or s 0 0 - 1) ≡ get_or s 0 0
  last_is = omega (arith, number_below w n parted s valid i inside)

  pub not_last : (q ≡ get_or s 0 0 - 1 → ⊥) → q < get_or s 0 0 - 1
  not_last d = under_last q (get_or s 0 0) (get_or s 0 0 - 1) last_is (number_below w n parted s valid i inside) (λ e. d (sym e))

  module _ (l : ℕ) (last : suc l ≡ get_or s 0 0) where
    pub payload_end : 6 + w * l + w ≤ base
    payload_end = omega (arith, payload_in w n parted s valid l (omega arith), units_in_lem w n parted s valid)

    pub payload_order : q < l → 6 + w * q + w ≤ 6 + w * l
    payload_order h = omega (arith, up_to w q l h)

    in_numbers : i < length (numbers cs)
    in_numbers = omega (arith, inside, held_length w n s, length-map cs number_of)

    named : q ≡ get_or (numbers cs) i 0
    unfolding number_at
    named = sym (get_d_map number_of cs i no_cell 0 (omega (arith, held_length w n s)))

    gone : has q (numbers (erase_at i cs)) ≡ false
    gone = rw (map_erase number_of cs i, named) (erased_absent (numbers cs) i in_numbers (apart w n parted s valid))

    rest : Below (suc l) (numbers (erase_at i cs))
    rest = rw (map_erase number_of cs i, last) (below_erase (get_or s 0 0) (numbers cs) i valid.below)

    tied_rest : Tied (carried_at w parted s) (erase_at i cs)
    tied_rest = tied_erase (carried_at w parted s) cs i valid.tied

    one_less : length (erase_at i cs) ≡ l
    one_less = omega (arith, erase_length cs i (omega (arith, inside, held_length w n s)), valid.all)

    -- the last payload dropped from words v in which it is free, and then cell i taken out
    module _ (v t u : List ℕ) (size : length v ≡ length s) (heads : (k : ℕ) → 2 ≤ k → k < 6 → get_or v k 0 ≡ get_or s k 0)
        (spare : (k : ℕ) → 6 + w * l + w ≤ k → k < base → get_or v k 0 ≡ get_or s k 0) (past : (k : ℕ) → 32 * n ≤ k → get_or v k 0 ≡ get_or s k 0)
        (dropped : Dropped (6 + w * l) w l v t) where
      drop_pages : get_or t 1 0 ≡ get_or v 1 0
      drop_pages = dropped.under 1 (omega arith) (omega arith)

      drop_words : (k : ℕ) → base ≤ k → get_or t k 0 ≡ get_or v k 0
      drop_words k h = dropped.past k (omega (arith, payload_end))

      pub drop_directory : Directory base n v → Directory base n t
      drop_directory ok = directory_frame base n v t ok dropped.size drop_pages drop_words

      pub drop_cells : cells_in base t ≡ cells_in base v
      drop_cells = cells_frame base v t drop_pages drop_words

      pub drop_position : (p j : ℕ) → position_in base t p j ≡ position_in base v p j
      unfolding position_in
      drop_position p j = rw (dir_frame base v t drop_pages drop_words)

      pub drop_there : (p j : ℕ) → Dir.There base v p j → Dir.There base t p j
      drop_there p j h =
          record { inside = omega (arith, drop_pages, h.inside); fits = omega (arith, drop_words (base + 97 * p) (omega arith), h.fits) }

      module _ (taken : DirEdits.Left base n (erase_at i (cells_in base t)) t u) where
        low : (k : ℕ) → k < base → (k ≡ 1 → ⊥) → get_or u k 0 ≡ get_or t k 0
        low k h d = taken.kept.under k h d

        units : get_or u 0 0 ≡ l
        units = low 0 (omega (arith, base_is w n)) (λ d. omega arith) ∙ dropped.head

        -- words of lower payloads
        lower : (p : ℕ) → p < l → (j : ℕ) → j < w → get_or u (6 + w * p + j) 0 ≡ get_or v (6 + w * p + j) 0
        lower p h j m =
            low (6 + w * p + j) (omega (arith, payload_end, up_to w p l h)) (λ d. omega arith)
            ∙ dropped.under (6 + w * p + j) (omega arith) (omega (arith, up_to w p l h))

        heads_left : (k : ℕ) → 2 ≤ k → k < 6 → get_or u k 0 ≡ 0
        heads_left k h m =
            low k (omega (arith, base_is w n)) (λ d. omega arith) ∙ dropped.under k (omega arith) (omega arith) ∙ heads k h m
            ∙ valid.heads k h m

        spare_left : (k : ℕ) → 6 + w * get_or u 0 0 ≤ k → k < base → get_or u k 0 ≡ 0
        spare_left k h m = low k m (λ d. omega arith) ∙ go (dec_lt k (6 + w * l + w))
          where
            start : 6 + w * l ≤ k
            start = omega (arith, ap (λ (y : ℕ). w * y) units)

            go : Dec (k < 6 + w * l + w) → get_or t k 0 ≡ 0
            go (yes o) =
                let e : k ≡ 6 + w * l + (k - (6 + w * l)) = omega (arith, start) in
                ap (λ (y : ℕ). get_or t y 0) e ∙ dropped.zeros (k - (6 + w * l)) (omega (arith, start))
            go (no o) =
                dropped.past k (omega arith) ∙ spare k (omega arith) m
                ∙ valid.spare k (omega (arith, ap (λ (y : ℕ). w * y) last, next)) m
              where
                next : w * suc l ≡ w * l + w
                next = omega (arith, mul-suc w l)

        past_left : (k : ℕ) → 32 * n ≤ k → get_or u k 0 ≡ get_or s k 0
        past_left k h = taken.kept.past k h ∙ drop_words k (omega (arith, (base_in w n parted s valid).0)) ∙ past k h

        -- what is left to show of the cells
        store_left : (ds : List Cell) → cells_in base u ≡ ds → length ds ≡ l → Below l (numbers ds) → Tied (carried_at w parted u) ds →
            rows (payload_at w u) ds ≡ erase_at i (held w n s) → Left w parted n (erase_at i (held w n s)) s u
        unfolding held
        store_left ds e all below tied holds =
            record {
              valid = record {
                wide = valid.wide;
                narrow = valid.narrow;
                few = valid.few;
                directory = taken.directory;
                units = rw units (omega (arith, valid.units));
                all = rw (e, units) all;
                below = rw (e, units) below;
                tied = rw e tied;
                heads = heads_left;
                spare = spare_left;
              };
              holds = ap (rows (payload_at w u)) e ∙ holds;
              size = taken.kept.size ∙ dropped.size ∙ size;
              past = past_left;
            }

    -- the row's payload is the last one
    module _ (own : q ≡ l) (t u : List ℕ) (dropped : Dropped (6 + w * l) w l s t) where
      pub last_directory : Directory base n t
      last_directory = drop_directory s t u refl (λ k h m. refl) (λ k h m. refl) (λ k h. refl) dropped valid.directory

      pub last_position : (p j : ℕ) → position_in base t p j ≡ position_in base s p j
      last_position = drop_position s t u refl (λ k h m. refl) (λ k h m. refl) (λ k h. refl) dropped

      pub last_there : (p j : ℕ) → Dir.There base s p j → Dir.There base t p j
      last_there = drop_there s t u refl (λ k h m. refl) (λ k h m. refl) (λ k h. refl) dropped

      pub erased_last : DirEdits.Left base n (erase_at i (cells_in base t)) t u → Left w parted n (erase_at i (held w n s)) s u
      unfolding held
      erased_last taken =
          store_left s t u refl (λ k h m. refl) (λ k h m. refl) (λ k h. refl) dropped taken (erase_at i cs)
          (taken.cells ∙ ap (erase_at i) (drop_cells s t u refl (λ k h m. refl) (λ k h m. refl) (λ k h. refl) dropped)) one_less below
          (tied_same (carried_at w parted s) (carried_at w parted u) l (erase_at i cs) (λ p h. carried_words w parted s u p p valid.wide (words p h)) below tied_rest)
          (rows_last (payload_at w s) (payload_at w u) cs (get_or s 0 0) i q valid.below in_numbers named (apart w n parted s valid) (λ p h d.
          payload_same w s u p p (words p (under_last p (get_or s 0 0) l last h (λ e. d (own ∙ e))))))
        where
          words : (p : ℕ) → p < l → (j : ℕ) → j < w → get_or u (6 + w * p + j) 0 ≡ get_or s (6 + w * p + j) 0
          words = lower s t u refl (λ k h m. refl) (λ k h m. refl) (λ k h. refl) dropped taken

          below : Below l (numbers (erase_at i cs))
          below = below_less l (numbers (erase_at i cs)) (rw own at gone) rest

    -- another's: cell k names the last payload, and is renamed
    module _ (k : ℕ) (there : k < length (held w n s)) (owns : number_at w n s k ≡ l) (less : q < l) (ds : List Cell) (s₁ s₂ t u : List ℕ)
        (rename : DirEdits.Left base n ds s s₁) (copied : Copied (6 + w * q) (6 + w * l) w s₁ s₂)
        (dropped : Dropped (6 + w * l) w l s₂ t) where
      move_pages : get_or s₂ 1 0 ≡ get_or s₁ 1 0
      move_pages = copied.under 1 (omega arith)

      move_words : (j : ℕ) → base ≤ j → get_or s₂ j 0 ≡ get_or s₁ j 0
      move_words j h = copied.past j (omega (arith, payload_end, payload_order less))

      move_size : length s₂ ≡ length s
      move_size = copied.size ∙ rename.kept.size

      move_heads : (j : ℕ) → 2 ≤ j → j < 6 → get_or s₂ j 0 ≡ get_or s j 0
      move_heads j h m = copied.under j (omega arith) ∙ rename.kept.under j (omega (arith, base_is w n)) (λ d. omega arith)

      move_spare : (j : ℕ) → 6 + w * l + w ≤ j → j < base → get_or s₂ j 0 ≡ get_or s j 0
      move_spare j h m = copied.past j (omega (arith, payload_order less)) ∙ rename.kept.under j m (λ d. omega arith)

      move_past : (j : ℕ) → 32 * n ≤ j → get_or s₂ j 0 ≡ get_or s j 0
      move_past j h = move_words j (omega (arith, (base_in w n parted s valid).0)) ∙ rename.kept.past j h

      pub moved_directory : Directory base n t
      moved_directory =
          drop_directory s₂ t u move_size move_heads move_spare move_past dropped
          (directory_frame base n s₁ s₂ rename.directory copied.size move_pages move_words)

      pub moved_position : (p j : ℕ) → position_in base t p j ≡ position_in base s₁ p j
      unfolding position_in
      moved_position p j =
          drop_position s₂ t u move_size move_heads move_spare move_past dropped p j ∙ rw (dir_frame base s₁ s₂ move_pages move_words)

      pub moved_there : (p j : ℕ) → Dir.There base s₁ p j → Dir.There base t p j
      moved_there p j h =
          drop_there s₂ t u move_size move_heads move_spare move_past dropped p j
          (record { inside = omega (arith, move_pages, h.inside); fits = omega (arith, move_words (base + 97 * p) (omega arith), h.fits) })

      pub erased_moved : ds ≡ set cs k (give_number l q (get_or cs k no_cell)) → DirEdits.Left base n (erase_at i (cells_in base t)) t u →
          Left w parted n (erase_at i (held w n s)) s u
      unfolding held number_at
      erased_moved is taken =
          store_left s₂ t u move_size move_heads move_spare move_past dropped taken (map (renamed l q) (erase_at i cs))
          (taken.cells ∙ ap (erase_at i) cells_now ∙ sym (map_erase (renamed l q) cs i)) (length-map (erase_at i cs) (renamed l q) ∙ one_less)
          (moved_below (carried_at w parted s) (carried_at w parted u) l q less carried_other carried_put (erase_at i cs) rest gone tied_rest)
          (moved_tied (carried_at w parted s) (carried_at w parted u) l q less carried_other carried_put (erase_at i cs) rest gone tied_rest)
          (rw (map_erase (renamed l q) cs i, renamed_is)
          (rows_erased (payload_at w s) (payload_at w u) cs (get_or s 0 0) i q valid.below in_numbers named (apart w n parted s valid) l k no_cell (omega arith)
          (λ p h d e. payload_same w s u p p (other p (under_last p (get_or s 0 0) l last h e) d)) (payload_same w s u l q put)
          (omega (arith, there, held_length w n s)) owns))
        where
          renamed_is : map (renamed l q) cs ≡ set cs k (give_number l q (get_or cs k no_cell))
          renamed_is = one_renamed l q k cs no_cell (apart w n parted s valid) (omega (arith, there, held_length w n s)) owns

          cells_now : cells_in base t ≡ map (renamed l q) cs
          cells_now =
              drop_cells s₂ t u move_size move_heads move_spare move_past dropped ∙ cells_frame base s₁ s₂ move_pages move_words
              ∙ rename.cells ∙ is ∙ sym renamed_is

          other : (p : ℕ) → p < l → (q ≡ p → ⊥) → (j : ℕ) → j < w → get_or u (6 + w * p + j) 0 ≡ get_or s (6 + w * p + j) 0
          other p h d j m =
              lower s₂ t u move_size move_heads move_spare move_past dropped taken p h j m ∙ go (dec_lt p q) (ℕ_discrete q p)
              ∙ rename.kept.under (6 + w * p + j) (omega (arith, payload_end, up_to w p l h)) (λ e. omega arith)
            where
              go : Dec (p < q) → Dec (q ≡ p) → get_or s₂ (6 + w * p + j) 0 ≡ get_or s₁ (6 + w * p + j) 0
              go (yes f) e = copied.under (6 + w * p + j) (omega (arith, up_to w p q f))
              go (no f) (yes e) = absurd (d e)
              go (no f) (no e) = copied.past (6 + w * p + j) (omega (arith, up_to w q p (omega arith)))

          put : (j : ℕ) → j < w → get_or u (6 + w * q + j) 0 ≡ get_or s (6 + w * l + j) 0
          put j m =
              lower s₂ t u move_size move_heads move_spare move_past dropped taken q less j m ∙ copied.within j m
              ∙ rename.kept.under (6 + w * l + j) (omega (arith, payload_end)) (λ e. omega arith)

          carried_other : (p : ℕ) → p < l → (q ≡ p → ⊥) → carried_at w parted u p ≡ carried_at w parted s p
          carried_other p h d = carried_words w parted s u p p valid.wide (other p h d)

          carried_put : carried_at w parted u q ≡ carried_at w parted s l
          carried_put = carried_words w parted s u l q valid.wide put
