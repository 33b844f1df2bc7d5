-- A row taken out, as the code does it: by the words of its cell and of the cell that names the last payload.
-- Assumes nothing.
use mathlib.Core.Path.{◌≡◌, sym, ◌∙◌, ap}
use mathlib.Core.Bool.{Bool}
use mathlib.Core.List.{List}
use Prim.Native.Nat.{ℕ, suc, ◌+◌, ◌-◌, ◌*◌, ◌/◌, ◌%◌, ◌≤◌, ◌<◌}
use native.Mathlib.Omega.{arith}
use lib.ListN.{length, get_or, set}
use Rattle.probe.specs.Cells.{spot_at, erase_at}
use Rattle.moves.specs.Moves.{Copied, Clear}
use Rattle.moves.proofs.Turns.{clear_down}
use Rattle.numbers.specs.Numbers.{Cell, give_number}
use Rattle.directory.specs.Cells.{cell_at, cells_in, position_in}
use Rattle.directory.specs.Directory.{Directory}
use Rattle.directory.specs.Directory as Dir
use Rattle.directory.specs.Edits as DirEdits
use Rattle.store.specs.Held.{base_of, held, position_of, no_cell}
use Rattle.store.specs.Valid.{Valid, There}
use Rattle.store.specs.Edits.{Left}
use Rattle.store.specs.Payloads.{Dropped}
use Rattle.store.proofs.Listed.{up_to}
use Rattle.store.proofs.Contents.{number_at, base_in}
use Rattle.store.proofs.Reading.{position_held, cell_is, row_number}
use Rattle.store.proofs.Marking.{word_position, word_there}
use Rattle.store.proofs.Erasing.{last_is, not_last, payload_end, last_directory, last_position, last_there, erased_last, moved_directory, moved_position, moved_there, erased_moved}

pub less_by : (q l x y : ℕ) → q ≡ x → l ≡ y → x < y → q < l
less_by q l x y e f h = omega (arith, e, f)

module _ (w n : ℕ) (parted : Bool) (s : List ℕ) (p i : ℕ) (valid : Valid w parted n s) (there : There w n s p i) where
  abbrev base : ℕ
  base = base_of w n

  abbrev pos : ℕ
  pos = position_of w n s p i

  abbrev number : ℕ
  number = get_or s (base + 97 * p + 1 + 3 * i + 2) 0 % 65536

  inside : pos < length (held w n s)
  inside = position_held w n s p i there

  pub one_held : suc (get_or s 0 0 - 1) ≡ get_or s 0 0
  one_held = last_is w n parted s valid pos inside

  pub other_less : (q : ℕ) → q ≡ number → (q ≡ get_or s 0 0 - 1 → ⊥) → q < get_or s 0 0 - 1
  other_less q e d =
      omega (arith, e, row_number w n p i s there, not_last w n parted s valid pos inside (λ f. d (e ∙ sym (row_number w n p i s there) ∙ f)))

  module _ (l : ℕ) (last : suc l ≡ get_or s 0 0) where
    pub last_end : 6 + w * l + w ≤ length s
    last_end = omega (arith, payload_end w n parted s valid pos inside l last, (base_in w n parted s valid).0, (base_in w n parted s valid).1)

    -- the last payload is the row's
    module _ (own : number ≡ l) (t : List ℕ) (dropped : Dropped (6 + w * l) w l s t) where
      mine : number_at w n s pos ≡ l
      mine = row_number w n p i s there ∙ own

      pub take_last_requires : Directory base n t × Dir.There base t p i
      unfolding There
      take_last_requires = (last_directory w n parted s valid pos inside l last mine t t dropped, last_there w n parted s valid pos inside l last mine t t dropped p i there)

      pub take_last : (u : List ℕ) → DirEdits.Left base n (erase_at (position_in base t p i) (cells_in base t)) t u → Left w parted n (erase_at (position_of w n s p i) (held w n s)) s u
      unfolding position_of
      take_last u taken = erased_last w n parted s valid pos inside l last mine t u dropped now
        where
          same : position_in base t p i ≡ pos
          same = last_position w n parted s valid pos inside l last mine t u dropped p i

          now : DirEdits.Left base n (erase_at pos (cells_in base t)) t u
          now = rw same at taken

    -- it is another's
    module _ (pp j q a : ℕ) (among : There w n s pp j) (owns : get_or s (base + 97 * pp + 1 + 3 * j + 2) 0 % 65536 ≡ l)
        (named : q ≡ number) (less : q < l) (here : a ≡ base + 97 * pp + 1 + 3 * j) where
      pub hole_before : 6 + w * q + w ≤ 6 + w * l
      hole_before = omega (arith, up_to w q l less)

      abbrev old : ℕ
      old = base + 97 * pp + 1 + 3 * j

      -- a number up to l taken from the cell's word leaves its part
      pub rename_fits : (x : ℕ) → x ≤ l → x ≤ get_or s (a + 2) 0
      rename_fits x h = rw here (omega (arith, owns))

      pub rename_part : (x : ℕ) → x ≤ l → (get_or s (a + 2) 0 - x) / 16777216 % 256 ≡ get_or s (base + 97 * pp + 1 + 3 * j + 2) 0 / 16777216 % 256
      rename_part x h = rw here (omega (arith, owns))

      hole : q ≡ number_at w n s pos
      hole = named ∙ sym (row_number w n p i s there)

      cell_renamed : record { spot = spot_at s old; word = get_or s (a + 2) 0 - (l - q) }
          ≡ give_number l (number_at w n s pos) (get_or (cells_in base s) (position_of w n s pp j) no_cell)
      unfolding give_number cell_at
      cell_renamed =
          ap (λ (b : ℕ). record { spot = spot_at s old; word = get_or s (b + 2) 0 - (l - q) }) here
          ∙ ap (λ (m : ℕ). give_number l m (cell_at s old)) hole ∙ ap (give_number l (number_at w n s pos)) (sym (cell_is w n pp j s among))

      cells_renamed : set (cells_in base s) (position_in base s pp j) (record { spot = spot_at s old; word = get_or s (a + 2) 0 - (l - q) })
          ≡ set (cells_in base s) (position_of w n s pp j) (give_number l (number_at w n s pos) (get_or (cells_in base s) (position_of w n s pp j) no_cell))
      unfolding position_of
      cells_renamed = ap (set (cells_in base s) (position_in base s pp j)) cell_renamed

      module _ (ds : List Cell) (s₁ s₂ t : List ℕ) (renamed : DirEdits.Left base n ds s s₁) (rest : (k : ℕ) → (k ≡ old + 2 → ⊥) → get_or s₁ k 0 ≡ get_or s k 0) where
        pub copy_requires : (6 + w * q + w ≤ length s₁) × ((6 + w * l + w ≤ length s₁) × Clear (6 + w * q) (6 + w * l) w)
        copy_requires = (
          omega (arith, last_end, hole_before, renamed.kept.size),
          (omega (arith, last_end, renamed.kept.size), clear_down (6 + w * q) (6 + w * l) w (omega (arith, hole_before))),
        )

        module _ (copied : Copied (6 + w * q) (6 + w * l) w s₁ s₂) where
          pub drop_requires : 6 + w * l + w ≤ length s₂
          drop_requires = omega (arith, last_end, renamed.kept.size, copied.size)

          module _ (dropped : Dropped (6 + w * l) w l s₂ t) where
            owner : number_at w n s (position_of w n s pp j) ≡ l
            owner = row_number w n pp j s among ∙ owns

            less' : number_at w n s pos < l
            less' = rw (← hole) less

            copied' : Copied (6 + w * number_at w n s pos) (6 + w * l) w s₁ s₂
            copied' = rw (← hole) copied

            abbrev k : ℕ
            k = position_of w n s pp j

            at_k : k < length (held w n s)
            at_k = position_held w n s pp j among

            pub take_moved_requires : Directory base n t × Dir.There base t p i
            unfolding There
            take_moved_requires = (
              moved_directory w n parted s valid pos inside l last k at_k owner less' ds s₁ s₂ t t renamed copied' dropped,
              moved_there w n parted s valid pos inside l last k at_k owner less' ds s₁ s₂ t t renamed copied' dropped p i
                  (word_there base n pp j s s₁ valid.directory among rest p i there),
            )

            -- the cell was given the number of the hole
            pub take_moved : ds ≡ set (cells_in base s) (position_in base s pp j) (record { spot = spot_at s old; word = get_or s (a + 2) 0 - (l - q) }) →
                (u : List ℕ) → DirEdits.Left base n (erase_at (position_in base t p i) (cells_in base t)) t u →
                Left w parted n (erase_at (position_of w n s p i) (held w n s)) s u
            unfolding position_of There
            take_moved is u taken =
                erased_moved w n parted s valid pos inside l last k at_k owner less' ds s₁ s₂ t u renamed copied' dropped (is ∙ cells_renamed) now
              where
                same : position_in base t p i ≡ pos
                same =
                    moved_position w n parted s valid pos inside l last k at_k owner less' ds s₁ s₂ t u renamed copied' dropped p i
                    ∙ word_position base n pp j s s₁ valid.directory among rest p i

                now : DirEdits.Left base n (erase_at pos (cells_in base t)) t u
                now = rw same at taken
